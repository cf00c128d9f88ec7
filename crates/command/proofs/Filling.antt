-- The components of an insert in their array.
use Prim.Native.Nat.{ℕ, zero, suc, ◌+◌, ◌*◌, ◌-◌, ◌%◌, ◌^◌, ◌≤◌}
use mathlib.Core.Bool.{Bool, true, false}
use mathlib.Core.List.{List, [], ◌∷◌, ◌++◌}
use mathlib.Core.Path.{◌≡◌, refl, ap, sym, subst, ◌∙◌}
use native.Mathlib.Nat.{zero-add, sub-zero, zero-sub, suc-sub-suc}
use native.Mathlib.Numerals.{add-one}
use native.Mathlib.Omega.{arith}
use lib.Dec.{eqb}
use lib.ListN.{length, drop, set, replicate, length-replicate}
use lib.Seq.{sets, sets-eq}
use Rattle.table.specs.Bits.{pick, bits_of, field}
use Rattle.table.specs.Table.{Table, done, inside, list, Answer, got, short, parse}
use Rattle.table.specs.declared.cursor.Field.{Field}
use Rattle.table.specs.declared.cursor.Short.{Short}
use Rattle.table.proofs.Reading.{bits_are}
use Rattle.table.proofs.Steps.{onward, list_turn, list_short, list_none, reads_in, reads_number, reads_flag, reads_ones}
use Rattle.command.specs.Command.{read, command_of, insert_count, array, components_in, components_of}
use Rattle.splice_time.specs.Break.{break_duration}
use Rattle.command.specs.Insert.{WithComponents, count, time_unless, component, blank, moded, mode_of, ending, active, active_of, insert}
use Rattle.command.specs.Private.{component_read, list_in, filled, count_read}
use Rattle.command.specs.declared.SpliceCommand.{SpliceCommand}
use Rattle.command.specs.declared.components.InsertComponent.{InsertComponent}
use Rattle.command.specs.declared.insert.InsertDetail.{InsertDetail}
use Rattle.command.specs.declared.insert.SpliceInsert.{SpliceInsert}
use Rattle.command.specs.declared.insert.SpliceDetail.{SpliceDetail}
use Rattle.command.specs.declared.insert.SpliceMode.{SpliceMode}
use Rattle.command.proofs.Answers.{lacks_component}
use Rattle.command.proofs.Walking.{component_there}
use Rattle.std.proofs.Common.{Ok, Err, Result}
use Rattle.command.specs.declared.CommandRefusal.{CommandRefusal}

-- ---- as many as the list says
list_length : {Y : Type 0} (n : ℕ) (d : Y) (t : Table Y) (bs : List ℕ) (at : ℕ) (ys : List Y) (m : ℕ) → parse (list n d t) bs at ≡ got ys m → length ys ≡ n
unfolding list
list_length zero d t bs at ys m e = let z : ys ≡ [] = cc in rw z
list_length (suc n) d t bs at ys m e =
    let r = reads_in t _ _ bs at ys m e in
    let q = reads_in (list n d t) _ _ bs r.seam ys m r.back in
    let z : ys ≡ r.inner ∷ q.inner = cc in
    rw z (ap suc (list_length n d t bs r.seam q.inner q.seam q.front))

-- ---- an array that is filled
drop_replicate : {A : Type 0} (i n : ℕ) (a : A) → drop i (replicate n a) ≡ replicate (n - i) a
drop_replicate zero n a = rw sub-zero
drop_replicate (suc i) zero a = rw zero-sub
drop_replicate (suc i) (suc n) a = rw suc-sub-suc (drop_replicate i n a)

blank_sets : (cs : List InsertComponent) → length cs ≤ 255 → sets (replicate 255 blank) 0 cs ≡ cs ++ replicate (255 - length cs) blank
blank_sets cs h =
    let e : 0 + length cs ≡ length cs = zero-add (length cs) in
    sets-eq cs (replicate 255 blank) 0 (omega (arith, length-replicate 255 blank)) ∙ rw (e, drop_replicate (length cs) 255 blank)

start : (r : Answer (List InsertComponent)) → ((cs : List InsertComponent) (m : ℕ) → r ≡ got cs m → length cs ≤ 255) → filled (array []) 0 r ≡ array (list_in r)
unfolding filled array
start (got cs m) h = blank_sets cs (h cs m refl)
start (short e a) h = refl

on : (bs : List ℕ) (out : List InsertComponent) (i : ℕ) (y : InsertComponent) (r : Answer (List InsertComponent)) → filled out i (onward bs (λ ys. done (y ∷ ys)) r) ≡ filled (set out i y) (i + 1) r
unfolding filled
on bs out i y (got ys m) = rw (add-one i)
on bs out i y (short e a) = refl

module _ (s : List ℕ) (b : Bool) where
  pub fill_start : (n at : ℕ) → n ≤ 255 → filled (array []) 0 (parse (list n blank (component b)) (bits_of s) at) ≡ array (list_in (parse (list n blank (component b)) (bits_of s) at))
  fill_start n at h = start _ (λ cs m e. omega (arith, list_length n blank (component b) (bits_of s) at cs m e))

  pub fill_turn : (out : List InsertComponent) (i n at : ℕ) (y : Field InsertComponent ℕ) → Ok y ≡ component_read (parse (component b) (bits_of s) (at * 8))
      → filled (set out i y.value) (i + 1) (parse (list n blank (component b)) (bits_of s) (y.next * 8)) ≡ filled out i (parse (list (suc n) blank (component b)) (bits_of s) (at * 8))
  fill_turn out i n at y e =
      sym (ap (filled out i) (list_turn n blank (component b) (bits_of s) (at * 8) y.value (y.next * 8) (component_there s b at y e))
      ∙ on (bits_of s) out i y.value (parse (list n blank (component b)) (bits_of s) (y.next * 8)))

  pub fill_lacks : (out : List InsertComponent) (i n at : ℕ) (x : Short) → Err x ≡ component_read (parse (component b) (bits_of s) at)
      → array [] ≡ filled out i (parse (list (suc n) blank (component b)) (bits_of s) at)
  unfolding filled
  fill_lacks out i n at x e = rw (list_short n blank (component b) (bits_of s) at _ _ (lacks_component (parse (component b) (bits_of s) at) x e))

  pub fill_end : (out : List InsertComponent) (i at : ℕ) → out ≡ filled out i (parse (list 0 blank (component b)) (bits_of s) at)
  unfolding filled
  fill_end out i at = rw (list_none blank (component b) (bits_of s) at)

-- ---- where an insert's components lie
abbrev Mode : Type 0
Mode = WithComponents SpliceMode

same_reading : {X : Type 0} (x y : X) (m n : ℕ) → got x m ≡ got y n → x ≡ y
same_reading x y m n e = cc

-- the components that a mode, and an insert, says there are; f n are the first n
abbrev mode_for : SpliceMode → (ℕ → List InsertComponent) → List InsertComponent
mode_for (SpliceMode.Program t) f = []
mode_for (SpliceMode.Components n) f = f n

abbrev pub detail_for : SpliceDetail → (ℕ → List InsertComponent) → List InsertComponent
detail_for SpliceDetail.Cancel f = []
detail_for (SpliceDetail.Insert i) f = mode_for i.splice_mode f

-- the first n components from byte 7 on
abbrev pub listed : List ℕ → Bool → ℕ → List InsertComponent
listed s b n = list_in (parse (list n blank (component b)) (bits_of s) 56)

mode_keeps : (s : List ℕ) (p b : Bool) (m : Mode) (e : ℕ) → parse (moded p b) (bits_of s) 48 ≡ got m e → m.components ≡ mode_for m.value (listed s b)
unfolding moded
mode_keeps s true b m e h =
    let r = reads_in (time_unless b) _ _ (bits_of s) 48 m e h in
    subst (λ (x : Mode). x.components ≡ mode_for x.value (listed s b)) (same_reading _ m _ e r.back) refl
mode_keeps s false b m e h =
    let h₁ = (reads_number s 48 8 _ _ m e h).1 in
    let r = reads_in (list (field (bits_of s) 48 8) blank (component b)) _ _ (bits_of s) 56 m e h₁ in
    subst (λ (x : Mode). x.components ≡ mode_for x.value (listed s b)) (same_reading _ m _ e r.back) (sym (ap list_in r.front))

-- what follows the mode leaves it as it is
ending_keeps : (s : List ℕ) (at : ℕ) (o : Bool) (m : Mode) (d : Bool) (a : WithComponents InsertDetail) (e : ℕ) → parse (ending o m d) (bits_of s) at ≡ got a e → mode_of a ≡ m
unfolding ending
ending_keeps s at o m d a e h =
    let r = reads_in (break_duration d) _ _ (bits_of s) at a e h in
    let h₁ = (reads_number s r.seam 16 _ _ a e r.back).1 in
    let h₂ = (reads_number s _ 8 _ _ a e h₁).1 in
    ap mode_of (sym (same_reading _ a _ e (reads_number s _ 8 _ _ a e h₂).1))

-- the flag that says whether all is immediate
abbrev pub immediate_bit : List ℕ → Bool
immediate_bit s = eqb (field (bits_of s) 43 1) 1

active_keeps : (s : List ℕ) (a : WithComponents InsertDetail) (e : ℕ) → parse active (bits_of s) 40 ≡ got a e → a.components ≡ mode_for a.value.splice_mode (listed s (immediate_bit s))
unfolding active
active_keeps s a e h =
    let h₁ = (reads_flag s 40 _ _ a e h).1 in
    let h₂ = (reads_flag s 41 _ _ a e h₁).1 in
    let h₃ = (reads_flag s 42 _ _ a e h₂).1 in
    let h₄ = (reads_flag s 43 _ _ a e h₃).1 in
    let h₅ = (reads_ones s 44 4 _ a e h₄).1 in
    let r = reads_in (moded (eqb (field (bits_of s) 41 1) 1) (immediate_bit s)) mode_of _ (bits_of s) 48 a e h₅ in
    subst (λ (m : Mode). m.components ≡ mode_for m.value (listed s (immediate_bit s))) (sym (ending_keeps s r.seam _ r.inner _ a e r.back))
    (mode_keeps s _ _ r.inner r.seam r.front)

insert_keeps : (s : List ℕ) (x : WithComponents SpliceInsert) (e : ℕ) → parse insert (bits_of s) 0 ≡ got x e → x.components ≡ detail_for x.value.splice_detail (listed s (immediate_bit s))
unfolding insert
insert_keeps s x e h =
    let h₁ = (reads_number s 0 32 _ _ x e h).1 in
    let h₂ = (reads_flag s 32 _ _ x e h₁).1 in
    go (eqb (field (bits_of s) 32 1) 1) (reads_number s 33 7 _ _ x e h₂).1
  where
    go : (c : Bool) → parse (pick c
        (done (record {
          value = record { splice_event_id = field (bits_of s) 0 32; reserved = field (bits_of s) 33 7; splice_detail = SpliceDetail.Cancel };
          components = [];
        }))
        (inside active active_of λ a.
        done (record {
          value = record { splice_event_id = field (bits_of s) 0 32; reserved = field (bits_of s) 33 7; splice_detail = SpliceDetail.Insert a.value };
          components = a.components;
        }))) (bits_of s) 40 ≡ got x e
        → x.components ≡ detail_for x.value.splice_detail (listed s (immediate_bit s))
    go true f = subst (λ (y : WithComponents SpliceInsert). y.components ≡ detail_for y.value.splice_detail (listed s (immediate_bit s))) (same_reading _ x _ e f) refl
    go false f =
        let r = reads_in active active_of _ (bits_of s) 40 x e f in
        subst (λ (y : WithComponents SpliceInsert). y.components ≡ detail_for y.value.splice_detail (listed s (immediate_bit s))) (same_reading _ x _ e r.back)
        (active_keeps s r.inner r.seam r.front)

-- ---- what the reader on demand answers
none_listed : (s : List ℕ) (b : Bool) → listed s b 0 ≡ []
none_listed s b = ap list_in (list_none blank (component b) (bits_of s) 56)

-- as many as the mode, and the insert, says: where there is no mode by components, none
mode_counts : (s : List ℕ) (b : Bool) (m : SpliceMode) → listed s b (count m) ≡ mode_for m (listed s b)
mode_counts s b (SpliceMode.Program t) = none_listed s b
mode_counts s b (SpliceMode.Components n) = refl

detail_counts : (s : List ℕ) (b : Bool) (d : SpliceDetail) → listed s b (insert_count d) ≡ detail_for d (listed s b)
detail_counts s b SpliceDetail.Cancel = none_listed s b
detail_counts s b (SpliceDetail.Insert i) = mode_counts s b i.splice_mode

-- the count of an insert that was read
pub counted : (r : Result SpliceCommand CommandRefusal) (c : SpliceCommand) (i : SpliceInsert) (x : InsertDetail) (m : SpliceMode) → r ≡ Ok c → c ≡ SpliceCommand.SpliceInsert i
    → i.splice_detail ≡ SpliceDetail.Insert x → x.splice_mode ≡ m → count m ≡ count_read r
counted r c i x m e₁ e₂ e₃ e₄ = rw (e₁, e₂, e₃, e₄)

-- as many as the insert of a payload says are all that it has
module _ (s : List ℕ) where
  as_counted : (b : Bool) → b ≡ immediate_bit s → array (listed s b (count_read (command_of 5 s))) ≡ components_of s
  unfolding components_of command_of
  as_counted b z = go (parse insert (bits_of s) 0) refl
    where
      go : (r : Answer (WithComponents SpliceInsert)) → parse insert (bits_of s) 0 ≡ r
          → array (listed s b (count_read (read (λ x. SpliceCommand.SpliceInsert x.value) r))) ≡ array (components_in r)
      go (got x m) p = ap array (detail_counts s b x.value.splice_detail ∙ rw z (sym (insert_keeps s x m p)))
      go (short e a) p = ap array (none_listed s b)

  pub all_components : (c : Result SpliceCommand CommandRefusal) (n v : ℕ) (r : List InsertComponent) → c ≡ command_of 5 s → n ≡ count_read c → v ≡ field (bits_of s) 43 1 % 2 ^ 64
      → r ≡ array (list_in (parse (list n blank (component (eqb v 1))) (bits_of s) 56)) → r ≡ components_of s
  all_components c n v r e f g h =
      h ∙ ap (λ (k : ℕ). array (listed s (eqb v 1) k)) (f ∙ ap count_read e)
      ∙ as_counted (eqb v 1) (ap (λ (k : ℕ). eqb k 1) (bits_are s 43 1 v (omega arith) g).0)

pub blank_length : length (array []) ≡ 255
unfolding array
blank_length = length-replicate 255 blank
