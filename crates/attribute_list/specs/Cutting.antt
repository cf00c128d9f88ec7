-- How a line is cut into attributes, from its start on. `cut_exactly` in proofs/Theorems.antt: it finds the list of `Line` exactly where there is one.
use Rattle.std.specs.Prelude.{ℕ, zero, suc, ◌+◌, Bool, true, false, not, ◌&&◌, List, [], ◌∷◌, eqb, length, take, drop, get_or, Option, Some, None}
use Rattle.std.specs.List.{prefix_len}
use Rattle.table.specs.Bits.{pick}
use Rattle.attribute_list.specs.Grammar.{name_byte, quoted_byte, plain_byte, Value, quoted, plain, Attribute, tag}
use Rattle.attribute_list.specs.declared.cutting.Cut.{Cut}

-- the same bytes
unfoldable pub same : List ℕ → List ℕ → Bool
same [] [] = true
same [] (y ∷ ys) = false
same (x ∷ xs) [] = false
same (x ∷ xs) (y ∷ ys) = eqb x y && same xs ys

-- behind an attribute stands nothing, or a comma
abbrev pub closed : List ℕ → Bool
closed [] = true
closed (x ∷ xs) = eqb x 0x2C

-- an attribute whose name has n bytes and whose value has k
abbrev pub some_cut : ℕ → Bool → ℕ → Option Cut
some_cut n q k = Some (record { name = n; quoted = q; value = k })

-- a quoted value, and an unquoted one, behind a name of n bytes
abbrev pub quoted_of : ℕ → List ℕ → Option Cut
quoted_of n v =
    let k : ℕ = prefix_len quoted_byte v in
    pick (eqb (get_or v k 0) 0x22 && closed (drop (k + 1) v)) (some_cut n true k) None

abbrev pub plain_of : ℕ → List ℕ → Option Cut
plain_of n v =
    let k : ℕ = prefix_len plain_byte v in
    pick (not (eqb k 0) && closed (drop k v)) (some_cut n false k) None

-- the attribute that a text begins with: the lengths of its name and of its value
unfoldable pub cut_of : List ℕ → Option Cut
cut_of s =
    let n : ℕ = prefix_len name_byte s in
    let v : List ℕ = drop (n + 1) s in
    pick (not (eqb n 0) && eqb (get_or s n 0) 0x3D)
    (pick (eqb (get_or v 0 0) 0x22) (quoted_of n (drop 1 v)) (plain_of n v))
    None

-- where its value begins, and where it ends
abbrev pub value_from : ℕ → Bool → ℕ
value_from n q = n + pick q 2 1

abbrev pub end_of : ℕ → Bool → ℕ → ℕ
end_of n q k = value_from n q + k + pick q 1 0

abbrev pub value_in : Bool → List ℕ → Value
value_in true b = quoted b
value_in false b = plain b

abbrev pub attribute_in : List ℕ → ℕ → Bool → ℕ → Attribute
attribute_in s n q k = record { name = take n s; value = value_in q (take k (drop (value_from n q) s)) }

abbrev pub consed : Attribute → Option (List Attribute) → Option (List Attribute)
consed a None = None
consed a (Some l) = Some (a ∷ l)

-- the attributes from a cut on; `more` are those of what stands behind its comma
abbrev pub attributes_by : (List ℕ → Option (List Attribute)) → List ℕ → Option Cut → Option (List Attribute)
attributes_by more s None = None
attributes_by more s (Some c) =
    pick (eqb (length (drop (end_of c.name c.quoted c.value) s)) 0) (Some (attribute_in s c.name c.quoted c.value ∷ []))
    (consed (attribute_in s c.name c.quoted c.value) (more (drop (end_of c.name c.quoted c.value + 1) s)))

-- the attributes of a text: n is any number over the count of its bytes, and says that this ends
unfoldable pub attributes_from : ℕ → List ℕ → Option (List Attribute)
attributes_from zero s = None
attributes_from (suc n) s = attributes_by (attributes_from n) s (cut_of s)

unfoldable pub attributes_of : List ℕ → Option (List Attribute)
attributes_of line = pick (same (take 17 line) tag) (attributes_from (length line) (drop 17 line)) None
