-- break_duration(): what a reader answers, its walk by bytes, and its laws as a structure. s are the bytes, i the place of the first.
use Prim.Native.Nat.{ℕ, ◌+◌, ◌*◌, ◌-◌, ◌/◌, ◌%◌, ◌<◌, ◌≤◌}
use mathlib.Core.Bool.{Bool, true, false}
use mathlib.Core.List.{List}
use mathlib.Core.Path.{◌≡◌, refl, ap, sym, ◌∙◌}
use native.Mathlib.Omega.{arith}
use lib.Dec.{eqb}
use lib.ListN.{length, get_or}
use Rattle.names.specs.declared.flags.ReturnMode.{ReturnMode}
use Rattle.table.specs.Bits.{pick, bits_of, field}
use Rattle.table.specs.Table.{Answer, got, short, parse}
use Rattle.table.specs.declared.cursor.Field.{Field}
use Rattle.table.specs.declared.cursor.Short.{Short}
use Rattle.table.proofs.Bits.{length_bits}
use Rattle.table.proofs.Laws.{Tells}
use Rattle.table.proofs.Leading.{Leads, leads_done, leads_number, leads_flag, leads_ones}
use Rattle.table.proofs.Lists.{zero_one}
use Rattle.table.proofs.Reading.{first_bit}
use Rattle.table.proofs.Steps.{takes_number, lacks_number, takes_flag, lacks_flag, takes_ones, parse_bound}
use Rattle.table.proofs.Telling.{tells_number, tells_either, tells_ones}
use Rattle.splice_time.specs.Break.{lasting, auto_return, break_duration, break_read}
use Rattle.splice_time.proofs.Alignments.{Aligned, aligned_break}
use Rattle.std.proofs.Common.{Ok, Err, Some, None, Option}
use Rattle.splice_time.specs.declared.break_duration.SpliceDuration.{SpliceDuration}

-- ---- the byte that starts with a bit, and its first bit
pub byte_of : (n : ℕ) → n * 8 / 8 ≡ n
byte_of n = omega arith

pub bit_of : (m : ℕ) → m % 8 ≡ 0 → m / 8 * 8 ≡ m
bit_of m z = omega arith

-- ---- a reader's answer, made and undone
pub break_got : (r : Answer (Option SpliceDuration)) (y : Option SpliceDuration) (n : ℕ) → r ≡ got y (n * 8) → Ok (record { value = y; next = n }) ≡ break_read r
unfolding break_read
break_got r y n e = rw (e, byte_of n)

pub break_lacks : (r : Answer (Option SpliceDuration)) (x : Short) → r ≡ short x.expected x.actual → Err x ≡ break_read r
unfolding break_read
break_lacks r x e = rw e

pub got_break : (r : Answer (Option SpliceDuration)) (y : Field (Option SpliceDuration) ℕ) → Aligned r → Ok y ≡ break_read r → r ≡ got y.value (y.next * 8)
unfolding break_read
got_break (got x m) y w f =
    let e : y.value ≡ x = cc in
    let c : y.next ≡ m / 8 = cc in
    rw (e, c, bit_of m (w x m refl))
got_break (short e a) y w f = zero_one cc

pub lacks_break : (r : Answer (Option SpliceDuration)) (x : Short) → Err x ≡ break_read r → r ≡ short x.expected x.actual
unfolding break_read
lacks_break (got y m) x f = zero_one cc
lacks_break (short e a) x f = cc

-- ---- the walk of the reader
pub no_break : (s : List ℕ) (i : ℕ) → Ok (record { value = None; next = i }) ≡ break_read (parse (break_duration false) (bits_of s) (i * 8))
unfolding break_duration
no_break s i = break_got _ None i refl

module _ (s : List ℕ) (i : ℕ) where
  pub no_auto_return : length s ≤ i → Err (record { expected = 0; actual = 0 }) ≡ break_read (parse (break_duration true) (bits_of s) (i * 8))
  unfolding break_duration
  no_auto_return h =
      let z : (length s * 8 - i * 8) / 8 ≡ 0 = omega arith in
      break_lacks _ _ (lacks_flag s (i * 8) _ _ (omega arith) ∙ ap (short 0) z)

  pub no_duration : (n : ℕ) → i < length s → n ≡ length s - i → n < 5 → Err (record { expected = 4; actual = n - 1 }) ≡ break_read (parse (break_duration true) (bits_of s) (i * 8))
  unfolding break_duration
  no_duration n there e h =
      let z : (length s * 8 - (i * 8 + 1 + 6)) / 8 ≡ n - 1 = omega arith in
      break_lacks _ _ (takes_flag s (i * 8) _ _ _ (omega arith) refl ∙ takes_ones s (i * 8 + 1) 6 _ (omega arith) ∙ lacks_number s (i * 8 + 1 + 6) 33 _ _ (omega arith) ∙ ap (short 4) z)

  pub a_break : (f v : ℕ) (m : ReturnMode) → i + 5 ≤ length s → f ≡ get_or s i 0 → f < 256 → m ≡ pick (eqb (f / 128) 1) ReturnMode.Automatic ReturnMode.Manual → v ≡ field (bits_of s) (i * 8 + 7) 33
      → Ok (record { value = Some (record { return_mode = m; duration = v }); next = i + 5 }) ≡ break_read (parse (break_duration true) (bits_of s) (i * 8))
  unfolding break_duration
  a_break f v m there ef byte em ev =
      let p : i * 8 + 1 + 6 ≡ i * 8 + 7 = omega arith in
      let q : i * 8 + 1 + 6 + 33 ≡ (i + 5) * 8 = omega arith in
      break_got _ _ (i + 5) (rw em (takes_flag s (i * 8) (eqb (f / 128) 1) _ _ (omega arith) (ap (λ (x : ℕ). eqb x 1) (sym (first_bit s i f (omega arith) ef byte))) ∙ takes_ones s (i * 8 + 1) 6 _ (omega arith)
      ∙ takes_number s (i * 8 + 1 + 6) 33 v _ _ (omega arith) (ev ∙ ap (λ (x : ℕ). field (bits_of s) x 33) (sym p)) ∙ ap (got (Some (record { return_mode = pick (eqb (f / 128) 1) ReturnMode.Automatic ReturnMode.Manual; duration = v }))) q))

-- one that was read, and the byte after it
module _ (s : List ℕ) (i : ℕ) (room : i ≤ length s) (b : Bool) (d : Field (Option SpliceDuration) ℕ) (ed : Ok d ≡ break_read (parse (break_duration b) (bits_of s) (i * 8))) where
  pub break_there : parse (break_duration b) (bits_of s) (i * 8) ≡ got d.value (d.next * 8)
  break_there = got_break _ d (aligned_break s b (i * 8) (omega arith)) ed

  pub break_within : d.next ≤ length s
  break_within =
      let h : d.next * 8 ≤ length (bits_of s) = parse_bound (break_duration b) (bits_of s) (i * 8) _ _ (omega (arith, length_bits s)) break_there in
      omega (arith, h, length_bits s)

-- ---- the structure
pub break_tells : (b : Bool) (at : ℕ) → at % 8 ≡ 0 → Tells (break_duration b) at (λ a y. (a % 8 ≡ 0) × (lasting y ≡ b))
unfolding break_duration
break_tells true at e =
    let z : (at + 1 + 6 + 33) % 8 ≡ 0 = omega arith in
    tells_either _ _ at _
    (tells_ones 6 _ (at + 1) _ (tells_number 33 _ _ (at + 1 + 6) _ λ d h. (((z, refl), refl), refl)))
    (tells_ones 6 _ (at + 1) _ (tells_number 33 _ _ (at + 1 + 6) _ λ d h. (((z, refl), refl), refl)))
break_tells false at e = (e, refl)

abbrev pub break_bytes : Option SpliceDuration → ℕ
break_bytes None = 0
break_bytes (Some d) = 5

pub break_leads : (d : Option SpliceDuration) (at m : ℕ) → Leads (break_duration (lasting d)) d d at (at + break_bytes d * 8) m
unfolding break_duration
break_leads None at m = leads_done None _ _ _ _ m refl (omega arith)
break_leads (Some d) at m =
    leads_flag _ _ _ _ at _ m
    (leads_ones 6 _ _ _ (at + 1) _ m
    (leads_number 33 _ _ _ _ (at + 1 + 6) _ m
    (leads_done (Some d) _ _ _ _ m (rw (again d.return_mode d.duration)) (omega arith))))
  where
    again : (r : ReturnMode) (t : ℕ) → pick (auto_return (Some (record { return_mode = r; duration = t }))) ReturnMode.Automatic ReturnMode.Manual ≡ r
    again ReturnMode.Automatic t = refl
    again ReturnMode.Manual t = refl
