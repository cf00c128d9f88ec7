-- Contents stored one behind the other.
--     then                              storing cs and then ds is storing both
--     put_number, put_bytes, put_none   one field; none
--     put_joined                        several fields as one number
use Prim.Native.Nat.{ℕ, ◌+◌, ◌<◌}
use mathlib.Core.List.{List, [], ◌∷◌, ◌++◌, append_assoc}
use mathlib.Core.Path.{◌≡◌, refl, ap, sym, ◌∙◌}
use native.Mathlib.Numerals.{add-one}
use native.Mathlib.Omega.{arith}
use lib.ListN.{length, take, get_or, length-append}
use lib.Seq.{take-suc}
use Rattle.table.specs.Bits.{bits_of_num, bits_of}
use Rattle.table.specs.Writing.{Field, Content, number, bytes, count, content, contents, bits_in, print}
use Rattle.table.specs.declared.cursor.Cursor.{Cursor}
use Rattle.table.proofs.Walks.{print_bits}
use Rattle.descriptor.specs.Segmentation.{blank_component}
use Rattle.descriptor.specs.declared.segmentation.SegmentationComponent.{SegmentationComponent}
use Rattle.descriptor_measure.specs.Private.{component_fields, components_fields}
use Rattle.bit_stores.specs.Pen.{Pens}
use Rattle.bit_stores.specs.Private.{Fits}
use Rattle.bit_stores.proofs.Tables.{pens_append, pens_last}
use Rattle.descriptor_writer.specs.Private.{Stores}

print_append : (cs ds : List Content) → print (cs ++ ds) ≡ print cs ++ print ds
print_append [] ds = refl
print_append (c ∷ cs) ds = ap (λ (l : List ℕ). bits_in c ++ l) (print_append cs ds) ∙ sym (append_assoc (bits_in c) (print cs) (print ds))

pub then : (t : List ℕ) (c : Cursor) (cs ds : List Content) (u : List ℕ) (d : Cursor) (v : List ℕ) (e : Cursor) → Stores t c cs u d → Stores u d ds v e → Stores t c (cs ++ ds) v e
then t c cs ds u d v e p q = record {
  stores = λ h.
      let k : Fits t c (print cs ++ print ds) = rw (print_append cs ds) at h in
      let n : length (print cs ++ print ds) ≡ length (print cs) + length (print ds) = length-append (print cs) (print ds) in
      let g = pens_append t c (print cs) u d (print ds) (print_bits cs) k (p.stores (omega arith)) in
      rw (print_append cs ds) (g.both v e (q.stores g.room));
}

contents_append : (l : List ℕ) (fs gs : List Field) → contents l (fs ++ gs) ≡ contents l fs ++ contents l gs
contents_append l [] gs = refl
contents_append l (f ∷ fs) gs = ap (λ (cs : List Content). content l f ∷ cs) (contents_append l fs gs)

-- the same of fields
pub then_fields : (l t : List ℕ) (c : Cursor) (fs gs : List Field) (u : List ℕ) (d : Cursor) (v : List ℕ) (e : Cursor)
    → Stores t c (contents l fs) u d → Stores u d (contents l gs) v e → Stores t c (contents l (fs ++ gs)) v e
then_fields l t c fs gs u d v e p q = rw (contents_append l fs gs) (then t c (contents l fs) (contents l gs) u d v e p q)

-- the same bits, said by other fields
pub same_print : (t : List ℕ) (c : Cursor) (cs ds : List Content) (u : List ℕ) (d : Cursor) → print cs ≡ print ds → Stores t c cs u d → Stores t c ds u d
same_print t c cs ds u d z s = record { stores = λ h. rw (← z) (s.stores (rw z h)) }

module _ (t : List ℕ) (c : Cursor) (u : List ℕ) (d : Cursor) where
  pub put_number : (w v : ℕ) → Pens t c (bits_of_num w v) u d → Stores t c (number w v ∷ []) u d
  put_number w v p = record { stores = λ h. pens_last t c (bits_of_num w v) u d p }

  pub put_same : (w v n : ℕ) → n ≡ v → Pens t c (bits_of_num w n) u d → Stores t c (number w v ∷ []) u d
  put_same w v n e p = put_number w v (rw (← e) p)

  pub put_bytes : (b : List ℕ) → Pens t c (bits_of b) u d → Stores t c (bytes b ∷ []) u d
  put_bytes b p = record { stores = λ h. pens_last t c (bits_of b) u d p }

  pub put_joined : (cs : List Content) (w v : ℕ) → print cs ≡ print (number w v ∷ []) → Pens t c (bits_of_num w v) u d → Stores t c cs u d
  put_joined cs w v e p = same_print t c (number w v ∷ []) cs u d (sym e) (put_number w v p)

  -- no bits
  pub put_none : Pens t c [] u d → Stores t c [] u d
  put_none p = record { stores = λ h. p }

-- a number, and then more
pub number_then : (t : List ℕ) (c : Cursor) (u : List ℕ) (d : Cursor) (v : List ℕ) (e : Cursor) (cs : List Content) (w x n : ℕ) → n ≡ x → Pens t c (bits_of_num w n) u d
    → Stores u d cs v e → Stores t c (number w x ∷ cs) v e
number_then t c u d v e cs w x n i p q = then t c (number w x ∷ []) cs u d v e (put_same t c u d w x n i p) q

-- how many bytes are left is not stored
pub count_then : (t : List ℕ) (c : Cursor) (u : List ℕ) (d : Cursor) (n : ℕ) (cs : List Content) → Stores t c cs u d → Stores t c (count n ∷ cs) u d
count_then t c u d n cs s = record { stores = s.stores }

-- ---- components, one behind the other
components_append : (xs ys : List SegmentationComponent) → components_fields (xs ++ ys) ≡ components_fields xs ++ components_fields ys
components_append [] ys = refl
components_append (x ∷ xs) ys = ap (λ (l : List Field). component_fields x ++ l) (components_append xs ys)

pub component_next : (l t : List ℕ) (c : Cursor) (cs : List SegmentationComponent) (i : ℕ) (u : List ℕ) (d : Cursor) (v : List ℕ) (e : Cursor) → i < length cs
    → Stores t c (contents l (components_fields (take i cs))) u d → Stores u d (contents l (components_fields (get_or cs i blank_component ∷ []))) v e
    → Stores t c (contents l (components_fields (take (i + 1) cs))) v e
component_next l t c cs i u d v e h p q =
    let m = get_or cs i blank_component in
    let y : take (i + 1) cs ≡ take i cs ++ (m ∷ []) = rw (add-one i) (take-suc cs i blank_component h) in
    let z : components_fields (take (i + 1) cs) ≡ components_fields (take i cs) ++ components_fields (m ∷ []) = ap components_fields y ∙ components_append (take i cs) (m ∷ []) in
    rw z (then_fields l t c (components_fields (take i cs)) (components_fields (m ∷ [])) u d v e p q)
