-- The parts of a segmentation descriptor before its type id, each of which starts with a byte: what is read of them. s are the payload's bytes, i the place of the part's first.
use Prim.Native.Nat.{ℕ, zero, suc, ◌+◌, ◌*◌, ◌-◌, ◌/◌, ◌%◌, ◌^◌, ◌<◌, ◌≤◌}
use mathlib.Core.Bool.{Bool, true, false}
use mathlib.Core.List.{List, [], ◌∷◌}
use mathlib.Core.Path.{◌≡◌, refl, ap, sym, subst, ◌∙◌}
use native.Mathlib.Nat.{div-one}
use native.Mathlib.Omega.{arith}
use lib.Dec.{ltb, eqb}
use lib.ListN.{length, get_or}
use borrow.Author.Tests.{ltb-true, ltb-false, eq-eqb, ne_eqb}
use Rattle.table.specs.Bits.{pick, bits_of, field}
use Rattle.table.specs.Table.{Table, done, list, Answer, got, short, parse}
use Rattle.table.specs.declared.cursor.Short.{Short}
use Rattle.table.proofs.Bits.{length_bits}
use Rattle.table.proofs.Fields.{byte_field, field_in}
use Rattle.table.proofs.Steps.{onward, takes_in, lacks_in, takes_number, lacks_number, takes_flag, takes_ones, lacks_ones, takes_part, lacks_part, list_turn, list_short, list_none, parse_bound}
use Rattle.descriptor.specs.Segmentation.{device_of, delivery_restrictions, component, blank_component, mode, duration, written_upid}
use Rattle.descriptor.specs.Private.{restrictions_in, lacked_of}
use Rattle.descriptor.specs.declared.segmentation.SegmentationComponent.{SegmentationComponent}
use Rattle.descriptor.specs.declared.segmentation.SegmentationMode.{SegmentationMode}
use Rattle.std.proofs.Common.{Some, None, Option}
use Rattle.descriptor.specs.declared.segmentation.DeliveryRestrictions.{DeliveryRestrictions}

-- what an answer says, said of what it is matched with
pub told : {A R : Type 0} (P : A → R → Type 0) (a b : A) (r : R) → a ≡ b → P a r → P b r
told P a b r e h = subst (λ x. P x r) e h

-- a part ends within the payload
pub ends_inside : {X : Type 0} (t : Table X) (s : List ℕ) (i n : ℕ) (x : X) → i ≤ length s → parse t (bits_of s) (i * 8) ≡ got x (n * 8) → n ≤ length s
ends_inside t s i n x h e = omega (arith, length_bits s, parse_bound t (bits_of s) (i * 8) x (n * 8) (omega (arith, length_bits s)) e)

-- ---- the byte of flags
module _ (s : List ℕ) (i : ℕ) (there : i < length s) (byte : get_or s i 0 < 256) where
  -- bit p, which is bit j of the byte
  pub bit_at : (p j k : ℕ) → p ≡ i * 8 + j → j + 1 + k ≡ 8 → eqb (field (bits_of s) p 1) 1 ≡ eqb (get_or s i 0 / 2 ^ k % 2) 1
  bit_at p j k e f = ap (λ (x : ℕ). eqb (field (bits_of s) x 1) 1) e ∙ ap (λ (x : ℕ). eqb x 1) (field_in s i there byte j 1 k f)

  last_two : (p : ℕ) → p ≡ i * 8 + 6 → get_or s i 0 % 4 ≡ field (bits_of s) p 2
  last_two p e = sym (ap (λ (x : ℕ). field (bits_of s) x 2) e ∙ field_in s i there byte 6 2 0 refl ∙ ap (λ (x : ℕ). x % 4) (div-one (get_or s i 0)))

  abbrev limits : Option DeliveryRestrictions
  limits = Some (record {
    web_delivery_allowed_flag = eqb (get_or s i 0 / 16 % 2) 1;
    no_regional_blackout_flag = eqb (get_or s i 0 / 8 % 2) 1;
    archive_allowed_flag = eqb (get_or s i 0 / 4 % 2) 1;
    device_restrictions = device_of (get_or s i 0 % 4);
  })

  by_third : (b : Bool) → parse (delivery_restrictions b) (bits_of s) (i * 8 + 3) ≡ got (pick b None limits) ((i + 1) * 8)
  unfolding delivery_restrictions
  by_third true =
      let z : i * 8 + 3 + 5 ≡ (i + 1) * 8 = omega arith in
      takes_ones s (i * 8 + 3) 5 _ (omega arith) ∙ ap (got None) z
  by_third false =
      let z : i * 8 + 3 + 1 + 1 + 1 + 2 ≡ (i + 1) * 8 = omega arith in
      takes_flag s (i * 8 + 3) (eqb (get_or s i 0 / 16 % 2) 1) _ _ (omega arith) (bit_at (i * 8 + 3) 3 4 refl refl)
      ∙ takes_flag s (i * 8 + 3 + 1) (eqb (get_or s i 0 / 8 % 2) 1) _ _ (omega arith) (bit_at (i * 8 + 3 + 1) 4 3 (omega arith) refl)
      ∙ takes_flag s (i * 8 + 3 + 1 + 1) (eqb (get_or s i 0 / 4 % 2) 1) _ _ (omega arith) (bit_at (i * 8 + 3 + 1 + 1) 5 2 (omega arith) refl)
      ∙ takes_number s (i * 8 + 3 + 1 + 1 + 1) 2 (get_or s i 0 % 4) _ _ (omega arith) (last_two (i * 8 + 3 + 1 + 1 + 1) (omega arith))
      ∙ ap (got limits) z

  pub restrictions_there : parse (delivery_restrictions (eqb (get_or s i 0 / 32 % 2) 1)) (bits_of s) (i * 8 + 3) ≡ got (restrictions_in (get_or s i 0)) ((i + 1) * 8)
  unfolding restrictions_in
  restrictions_there = by_third (eqb (get_or s i 0 / 32 % 2) 1)

-- ---- what a component lacks
pub lacked_none : (n : ℕ) → n ≡ 0 → record { expected = 1; actual = 0 } ≡ lacked_of n
unfolding lacked_of
lacked_none n e = rw (eq-eqb n 0 e)

pub lacked_one : (n : ℕ) → n ≡ 1 → record { expected = 0; actual = 0 } ≡ lacked_of n
unfolding lacked_of
lacked_one n e = rw (ne_eqb n 0 (λ z. omega arith), eq-eqb n 1 e)

pub lacked_more : (n : ℕ) → (n ≡ 0 → ⊥) → (n ≡ 1 → ⊥) → record { expected = 4; actual = n - 2 } ≡ lacked_of n
unfolding lacked_of
lacked_more n e f = rw (ne_eqb n 0 e, ne_eqb n 1 f)

-- as a reader answers it
pub lacked_as : {X : Type 0} (x : Short) (n : ℕ) → x ≡ lacked_of n → (r : Answer X) → r ≡ short (lacked_of n).expected (lacked_of n).actual → r ≡ short x.expected x.actual
lacked_as x n e r h = rw e h

abbrev lacks_as : Short → Answer SegmentationComponent
lacks_as x = short x.expected x.actual

-- ---- a component
module _ (s : List ℕ) (i : ℕ) where
  pub component_there : (t v : ℕ) → t ≡ field (bits_of s) (i * 8) 8 → v ≡ field (bits_of s) ((i + 1) * 8 + 7) 33 → i + 6 ≤ length s
      → parse component (bits_of s) (i * 8) ≡ got (record { component_tag = t; pts_offset = v }) ((i + 6) * 8)
  unfolding component
  component_there t v et ev h =
      let p : (i + 1) * 8 + 7 ≡ i * 8 + 8 + 7 = omega arith in
      let z : i * 8 + 8 + 7 + 33 ≡ (i + 6) * 8 = omega arith in
      takes_number s (i * 8) 8 t _ _ (omega arith) et
      ∙ takes_ones s (i * 8 + 8) 7 _ (omega arith)
      ∙ takes_number s (i * 8 + 8 + 7) 33 v _ _ (omega arith) (ev ∙ ap (λ (x : ℕ). field (bits_of s) x 33) p)
      ∙ ap (got (record { component_tag = t; pts_offset = v })) z

  pub component_lacks : (n : ℕ) → n ≡ length s - i → n < 6 → i ≤ length s → parse component (bits_of s) (i * 8) ≡ short (lacked_of n).expected (lacked_of n).actual
  unfolding component
  component_lacks zero e h k =
      let z : (length s * 8 - i * 8) / 8 ≡ 0 = omega arith in
      lacks_number s (i * 8) 8 _ _ (omega arith) ∙ ap (short 1) z ∙ ap lacks_as (lacked_none 0 refl)
  component_lacks (suc zero) e h k =
      let z : (length s * 8 - (i * 8 + 8)) / 8 ≡ 0 = omega arith in
      takes_number s (i * 8) 8 _ _ _ (omega arith) refl ∙ lacks_ones s (i * 8 + 8) 7 _ (omega arith) ∙ ap (short 0) z ∙ ap lacks_as (lacked_one 1 refl)
  component_lacks (suc (suc n)) e h k =
      let z : (length s * 8 - (i * 8 + 8 + 7)) / 8 ≡ suc (suc n) - 2 = omega arith in
      takes_number s (i * 8) 8 _ _ _ (omega arith) refl
      ∙ takes_ones s (i * 8 + 8) 7 _ (omega arith)
      ∙ lacks_number s (i * 8 + 8 + 7) 33 _ _ (omega arith)
      ∙ ap (short 4) z
      ∙ ap lacks_as (lacked_more (suc (suc n)) (λ e. omega arith) (λ e. omega arith))

-- ---- components, one after the other
pub components_there : (s : List ℕ) (n i : ℕ) → i + n * 6 ≤ length s
    → (cs : List SegmentationComponent) × (parse (list n blank_component component) (bits_of s) (i * 8) ≡ got cs ((i + n * 6) * 8))
components_there s zero i h =
    let z : i * 8 ≡ (i + 0 * 6) * 8 = omega arith in
    ([], list_none blank_component component (bits_of s) (i * 8) ∙ ap (got []) z)
components_there s (suc n) i h =
    let c : SegmentationComponent = record { component_tag = field (bits_of s) (i * 8) 8; pts_offset = field (bits_of s) ((i + 1) * 8 + 7) 33 } in
    let r = components_there s n (i + 6) (omega arith) in
    let z : (i + 6 + n * 6) * 8 ≡ (i + suc n * 6) * 8 = omega arith in (
      c ∷ r.0,
      list_turn n blank_component component (bits_of s) (i * 8) c ((i + 6) * 8) (component_there s i _ _ refl refl (omega arith))
          ∙ ap (onward (bits_of s) (λ ys. done (c ∷ ys))) r.1
          ∙ ap (got (c ∷ r.0)) z,
    )

abbrev lacks_list : ℕ → Answer (List SegmentationComponent)
lacks_list n = short (lacked_of n).expected (lacked_of n).actual

pub components_lack : (s : List ℕ) (n i : ℕ) → i ≤ length s → length s - i < n * 6
    → parse (list n blank_component component) (bits_of s) (i * 8) ≡ short (lacked_of ((length s - i) % 6)).expected (lacked_of ((length s - i) % 6)).actual
components_lack s zero i k h = absurd (omega arith)
components_lack s (suc n) i k h = go (ltb (length s - i) 6) refl (components_lack s n (i + 6))
  where
    go : (b : Bool) → ltb (length s - i) 6 ≡ b
        → (i + 6 ≤ length s → length s - (i + 6) < n * 6 → parse (list n blank_component component) (bits_of s) ((i + 6) * 8) ≡ lacks_list ((length s - (i + 6)) % 6))
        → parse (list (suc n) blank_component component) (bits_of s) (i * 8) ≡ lacks_list ((length s - i) % 6)
    go true e after =
        let l : length s - i < 6 = ltb-true (length s - i) 6 e in
        let z : length s - i ≡ (length s - i) % 6 = omega arith in
        list_short n blank_component component (bits_of s) (i * 8) _ _ (component_lacks s i (length s - i) refl l k) ∙ ap lacks_list z
    go false e after =
        let l : 6 ≤ length s - i = ltb-false (length s - i) 6 e in
        let z : (length s - (i + 6)) % 6 ≡ (length s - i) % 6 = omega arith in
        list_turn n blank_component component (bits_of s) (i * 8) _ ((i + 6) * 8) (component_there s i _ _ refl refl (omega arith))
        ∙ (let w = after (omega arith) (omega arith) in rw w)
        ∙ ap lacks_list z

-- with the bytes that they take worked out
pub as_counted : (i n k : ℕ) → k ≡ n → (cs : List SegmentationComponent) (r : Answer (List SegmentationComponent)) → r ≡ got cs ((i + n * 6) * 8) → r ≡ got cs ((i + k * 6) * 8)
as_counted i n k e cs r h = rw e h

-- ---- the mode
module _ (s : List ℕ) (i : ℕ) (b : Bool) where
  pub by_program_lem : b ≡ true → parse (mode b) (bits_of s) (i * 8) ≡ got (record { mode = SegmentationMode.Program; components = [] }) (i * 8)
  unfolding mode
  by_program_lem on = rw on

  module _ (off : b ≡ false) where
    counting : parse (mode b) (bits_of s) (i * 8) ≡ parse (mode false) (bits_of s) (i * 8)
    counting = rw off

    pub no_count : length s ≤ i → parse (mode b) (bits_of s) (i * 8) ≡ short 1 0
    unfolding mode
    no_count h =
        let z : (length s * 8 - i * 8) / 8 ≡ 0 = omega arith in
        counting ∙ lacks_number s (i * 8) 8 _ _ (omega arith) ∙ ap (short 1) z

    module _ (there : i < length s) (n : ℕ) (en : n ≡ field (bits_of s) (i * 8) 8) where
      next : i * 8 + 8 ≡ (i + 1) * 8
      next = omega arith

      pub no_components_lem : (x a : ℕ) → parse (list n blank_component component) (bits_of s) ((i + 1) * 8) ≡ short x a → parse (mode b) (bits_of s) (i * 8) ≡ short x a
      unfolding mode
      no_components_lem x a e =
          counting ∙ takes_number s (i * 8) 8 n _ _ (omega arith) en
          ∙ lacks_in (list n blank_component component) _ _ (bits_of s) (i * 8 + 8) x a (ap (parse (list n blank_component component) (bits_of s)) next ∙ e)

      pub by_components : (cs : List SegmentationComponent) (m : ℕ) → parse (list n blank_component component) (bits_of s) ((i + 1) * 8) ≡ got cs m
          → parse (mode b) (bits_of s) (i * 8) ≡ got (record { mode = SegmentationMode.Component n; components = cs }) m
      unfolding mode
      by_components cs m e =
          counting ∙ takes_number s (i * 8) 8 n _ _ (omega arith) en
          ∙ takes_in (list n blank_component component) _ _ (bits_of s) (i * 8 + 8) cs m (ap (parse (list n blank_component component) (bits_of s)) next ∙ e)

-- ---- the duration
module _ (s : List ℕ) (i : ℕ) (b : Bool) where
  pub no_ticks : b ≡ true → (n : ℕ) → n ≡ length s - i → n < 5 → i ≤ length s → parse (duration b) (bits_of s) (i * 8) ≡ short 5 n
  unfolding duration
  no_ticks on n e h k =
      let z : (length s * 8 - i * 8) / 8 ≡ n = omega arith in
      rw on (lacks_number s (i * 8) 40 _ _ (omega arith) ∙ ap (short 5) z)

  pub lasts : b ≡ true → (v : ℕ) → v ≡ field (bits_of s) (i * 8) 40 → i + 5 ≤ length s → parse (duration b) (bits_of s) (i * 8) ≡ got (Some v) ((i + 5) * 8)
  unfolding duration
  lasts on v e h =
      let z : i * 8 + 40 ≡ (i + 5) * 8 = omega arith in
      rw on (takes_number s (i * 8) 40 v _ _ (omega arith) e ∙ ap (got (Some v)) z)

  pub no_duration : b ≡ false → parse (duration b) (bits_of s) (i * 8) ≡ got None (i * 8)
  unfolding duration
  no_duration off = rw off

-- ---- the UPID as it is written
module _ (s : List ℕ) (i : ℕ) where
  pub no_head : (n : ℕ) → n ≡ length s - i → n < 2 → i ≤ length s → parse written_upid (bits_of s) (i * 8) ≡ short 1 0
  unfolding written_upid
  no_head zero e h k =
      let z : (length s * 8 - i * 8) / 8 ≡ 0 = omega arith in
      lacks_number s (i * 8) 8 _ _ (omega arith) ∙ ap (short 1) z
  no_head (suc zero) e h k =
      let z : (length s * 8 - (i * 8 + 8)) / 8 ≡ 0 = omega arith in
      takes_number s (i * 8) 8 _ _ _ (omega arith) refl ∙ lacks_number s (i * 8 + 8) 8 _ _ (omega arith) ∙ ap (short 1) z
  no_head (suc (suc n)) e h k = absurd (omega arith)

  module _ (bytes : (j : ℕ) → get_or s j 0 < 256) (there : i + 2 ≤ length s) (n : ℕ) (en : n ≡ get_or s (i + 1) 0) where
    length_at : n ≡ field (bits_of s) (i * 8 + 8) 8
    length_at =
        let z : (i + 1) * 8 ≡ i * 8 + 8 = omega arith in
        en ∙ sym (byte_field s (i + 1) (omega arith) (bytes (i + 1))) ∙ ap (λ (x : ℕ). field (bits_of s) x 8) z

    pub no_bytes : length s - i - 2 < n → parse written_upid (bits_of s) (i * 8) ≡ short 1 0
    unfolding written_upid
    no_bytes h =
        takes_number s (i * 8) 8 _ _ _ (omega arith) refl ∙ takes_number s (i * 8 + 8) 8 n _ _ (omega arith) length_at
        ∙ lacks_part s (i * 8 + 8 + 8) n _ _ (omega arith)

    pub upid_at_lem : n ≤ length s - i - 2 → parse written_upid (bits_of s) (i * 8) ≡ got (record { upid_type = get_or s i 0; bytes = record { at = i + 2; len = n } }) ((i + 2 + n) * 8)
    unfolding written_upid
    upid_at_lem h =
        let a : (i * 8 + 8 + 8) / 8 ≡ i + 2 = omega arith in
        let z : i * 8 + 8 + 8 + n * 8 ≡ (i + 2 + n) * 8 = omega arith in
        takes_number s (i * 8) 8 (get_or s i 0) _ _ (omega arith) (sym (byte_field s i (omega arith) (bytes i)))
        ∙ takes_number s (i * 8 + 8) 8 n _ _ (omega arith) length_at
        ∙ takes_part s (i * 8 + 8 + 8) n _ _ (omega arith)
        ∙ ap (λ (x : ℕ). got (record { upid_type = get_or s i 0; bytes = record { at = x; len = n } }) (i * 8 + 8 + 8 + n * 8)) a
        ∙ ap (got (record { upid_type = get_or s i 0; bytes = record { at = i + 2; len = n } })) z
