-- The payloads of avail, DTMF, time and reserved descriptors: what a reader answers.
use Prim.Native.Nat.{ℕ, ◌+◌, ◌*◌, ◌-◌, ◌/◌, ◌<◌, ◌≤◌}
use mathlib.Core.List.{List}
use mathlib.Core.Path.{◌≡◌, ◌∙◌}
use native.Mathlib.Omega.{arith}
use lib.ListN.{length}
use borrow.Author.Tests.{lt-ltb, le-ltb}
use Rattle.table.specs.Bits.{bits_of, field}
use Rattle.table.specs.Cursor.{place, skipped_of, passed_of}
use Rattle.table.specs.Table.{Table, done, inside, number, reserved, part, ones, got, short, parse}
use Rattle.table.specs.declared.View.{View}
use Rattle.table.specs.declared.cursor.Cursor.{Cursor}
use Rattle.table.specs.declared.cursor.Field.{Field}
use Rattle.table.specs.declared.cursor.Short.{Short}
use Rattle.table.proofs.Cursors.{goes_ones, stops_ones, goes_part, stops_part}
use Rattle.table.proofs.Steps.{takes_number, takes_remaining, takes_part}
use Rattle.upid.specs.declared.Refusal as why
use Rattle.descriptor.specs.Descriptor.{avail_of, dtmf_of, time_of, reserved_of}
use Rattle.descriptor.specs.Plain.{avail, dtmf, time, private_table}
use Rattle.descriptor.specs.Private.{octet_of, lacking}
use Rattle.descriptor.specs.declared.Descriptor.TheVariants.{Avail, Dtmf, Time, Reserved}
use Rattle.descriptor.specs.declared.plain.DTMFDescriptor.{DTMFDescriptor}
use Rattle.descriptor.proofs.Octets.{place_start, goes_octet, stops_octet}
use Rattle.std.proofs.Common.{Ok, Err}

-- ---- those that are tested whole
module _ (s : List ℕ) where
  pub avail_short : length s < 4 → Err (why.Refusal.NotEnoughData 4 (length s)) ≡ avail_of s
  unfolding avail_of
  avail_short h = rw (lt-ltb (length s) 4 h)

  pub avail_is : (id : ℕ) → 4 ≤ length s → id ≡ field (bits_of s) 0 32 → Ok (Avail (record { provider_avail_id = id })) ≡ avail_of s
  unfolding avail_of avail
  avail_is id h e =
      let g : parse avail (bits_of s) 0 ≡ got (record { provider_avail_id = id }) 32 = takes_number s 0 32 id _ _ (omega arith) e in
      rw (le-ltb (length s) 4 h, g)

  pub time_short : length s < 12 → Err (why.Refusal.NotEnoughData 12 (length s)) ≡ time_of s
  unfolding time_of
  time_short h = rw (lt-ltb (length s) 12 h)

  pub time_is : (a b c : ℕ) → 12 ≤ length s → a ≡ field (bits_of s) 0 48 → b ≡ field (bits_of s) 48 32 → c ≡ field (bits_of s) 80 16
      → Ok (Time (record { tai_seconds = a; tai_nanoseconds = b; utc_offset = c })) ≡ time_of s
  unfolding time_of time
  time_is a b c h e f g =
      let i : parse time (bits_of s) 0 ≡ got (record { tai_seconds = a; tai_nanoseconds = b; utc_offset = c }) 96 =
      takes_number s 0 48 a _ _ (omega arith) e ∙ takes_number s 48 32 b _ _ (omega arith) f ∙ takes_number s 80 16 c _ _ (omega arith) g in
      rw (le-ltb (length s) 12 h, i)

  -- ---- the rest of the bytes
  pub reserved_is : (tag : ℕ) → Ok (Reserved tag (record { at = 0; len = length s })) ≡ reserved_of tag s
  unfolding reserved_of private_table
  reserved_is tag =
      let e : (length s * 8 - 0) / 8 ≡ length s = omega arith in
      let i : parse private_table (bits_of s) 0 ≡ parse (inside (part (length s)) (λ (v : View). v) done) (bits_of s) 0 = takes_remaining s 0 _ _ ∙ rw e in
      let j : parse private_table (bits_of s) 0 ≡ got (record { at = 0; len = length s }) (0 + length s * 8) = i ∙ takes_part s 0 (length s) _ _ (omega arith) in
      rw j

-- ---- DTMF, step by step
abbrev start : Cursor
start = record { byte = 0; bit = 0 }

abbrev chars : ℕ → ℕ → Table DTMFDescriptor
chars preroll n = inside (part n) (λ x. x.dtmf_chars) λ v. done (record { preroll = preroll; dtmf_chars = v })

module _ (s : List ℕ) where
  lacked : (x : Short) → parse dtmf (bits_of s) (place start) ≡ short x.expected x.actual → lacking x ≡ dtmf_of s
  unfolding dtmf_of lacking
  lacked x e = rw (← place_start, e)

  pub no_preroll : (x : Short) → Err x ≡ octet_of (parse (number 8) (bits_of s) (place start)) → lacking x ≡ dtmf_of s
  unfolding dtmf
  no_preroll x e = lacked x (stops_octet s _ 8 _ _ x e)

  module _ (p : Field ℕ Cursor) (ep : Ok p ≡ octet_of (parse (number 8) (bits_of s) (place start))) where
    pub no_count : (x : Short) → Err x ≡ octet_of (parse (number 3) (bits_of s) (place p.next)) → lacking x ≡ dtmf_of s
    unfolding dtmf
    no_count x e = lacked x (goes_octet s _ 8 _ _ p ep ∙ stops_octet s _ 3 _ _ x e)

    module _ (n : Field ℕ Cursor) (en : Ok n ≡ octet_of (parse (number 3) (bits_of s) (place p.next))) where
      counted : parse dtmf (bits_of s) (place start) ≡ parse (ones 5 (chars p.value n.value)) (bits_of s) (place n.next)
      unfolding dtmf
      counted = goes_octet s _ 8 _ _ p ep ∙ goes_octet s _ 3 _ _ n en

      pub no_reserved : (x : Short) → Err x ≡ skipped_of (parse (reserved 5) (bits_of s) (place n.next)) → lacking x ≡ dtmf_of s
      no_reserved x e = lacked x (counted ∙ stops_ones s _ 5 _ x e)

      module _ (c : Cursor) (ec : Ok c ≡ skipped_of (parse (reserved 5) (bits_of s) (place n.next))) (z : ℕ) (ez : z ≡ n.value) where
        pub no_chars : (x : Short) → Err x ≡ passed_of (parse (part z) (bits_of s) (place c)) → lacking x ≡ dtmf_of s
        no_chars x e = lacked x (counted ∙ goes_ones s _ 5 _ c ec ∙ stops_part s _ n.value _ _ x (rw ez at e))

        pub dtmf_is : (r : Field View Cursor) → Ok r ≡ passed_of (parse (part z) (bits_of s) (place c)) → Ok (Dtmf (record { preroll = p.value; dtmf_chars = r.value })) ≡ dtmf_of s
        unfolding dtmf_of
        dtmf_is r e = rw (← place_start, counted ∙ goes_ones s _ 5 _ c ec ∙ goes_part s _ n.value _ _ r (rw ez at e))
