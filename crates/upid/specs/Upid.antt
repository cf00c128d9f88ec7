-- What a UPID says (document 01, "Identifiers").
use Rattle.std.specs.Prelude.{ℕ, zero, suc, ◌+◌, Bool, not, ◌&&◌, ◌||◌, cond as pick, List, [], ◌∷◌, ◌++◌, ltb, eqb, length, take, drop, replicate, Ok, Err, None, Result}
use Rattle.table.specs.Lent.{filled_to}
use Rattle.table.specs.declared.View.{View}
use Rattle.upid.specs.Text.{text_of}
use Rattle.upid.specs.declared.Part.{Part}
use Rattle.upid.specs.declared.PartList.{PartList}
use Rattle.upid.specs.declared.Upid.{Upid}
use Rattle.upid.specs.declared.Refusal.{Refusal}
use Rattle.upid.specs.declared.Refusal.TheVariants.{InputTooLong, NotEnoughData, UpidLengthTypeMismatch, InvalidUpidContent, InvalidUpidLength}

-- ---- document 01's number and values of each refusal

unfoldable pub number_of : Refusal → ℕ
number_of InputTooLong = 2
number_of (NotEnoughData expected actual) = 21
number_of UpidLengthTypeMismatch = 23
number_of (InvalidUpidContent upid_type_number bytes) = 24
number_of (InvalidUpidLength upid_type_number expected actual) = 25

unfoldable pub values_of : Refusal → List ℕ
values_of InputTooLong = []
values_of (NotEnoughData expected actual) = expected ∷ actual ∷ []
values_of UpidLengthTypeMismatch = []
values_of (InvalidUpidContent upid_type_number bytes) = upid_type_number ∷ bytes.at ∷ bytes.len ∷ []
values_of (InvalidUpidLength upid_type_number expected actual) = upid_type_number ∷ expected ∷ actual ∷ []

-- ---- the types

-- "types 2, 5, 8 have 8; 3, 6, 7, 10 have 12; 4 has 32"; 0 stands for any number
unfoldable pub length_of : ℕ → ℕ
length_of k =
    pick (eqb k 2 || eqb k 5 || eqb k 8) 8
    (pick (eqb k 3 || eqb k 6 || eqb k 7 || eqb k 10) 12
    (pick (eqb k 4) 32 0))

-- "Types 2, 3, 7 are UTF-8"
unfoldable pub is_text : ℕ → Bool
is_text k = eqb k 2 || eqb k 3 || eqb k 7

-- "Types 5 and 6 are one kind .. both report type 6"
unfoldable pub reported_of : ℕ → ℕ
reported_of k = pick (eqb k 5) 6 k

-- A payload of type k, other than a MID, that starts at `start` of the top UPID: type 0 has none, a type without a fixed length takes any
-- bytes, and length is tested before text.
unfoldable pub plain_of : ℕ → ℕ → List ℕ → Result ℕ Refusal
plain_of k start bytes =
    pick (eqb k 0) (Err UpidLengthTypeMismatch)
    (pick (eqb (length_of k) 0) (Ok (reported_of k))
    (pick (not (eqb (length bytes) (length_of k))) (Err (InvalidUpidLength k (length_of k) (length bytes)))
    (pick (is_text k && not (text_of bytes)) (Err (InvalidUpidContent k (record { at = start; len = length bytes })))
    (Ok (reported_of k)))))

-- ---- a MID "repeats type, length, payload"

-- "the first faulty part ends the walk at once and its refusal stands"
infixr 40 ◌then◌
unfoldable pub ◌then◌ : Result ℕ Refusal → Result ℕ Refusal → Result ℕ Refusal
Ok k then b = b
Err r then b = Err r

-- A MID with these bytes. "Fewer than 2 bytes: 21 (1, 0). Payload short, tested first: 21 (length, present)"; then the part itself, and then
-- those after it. n is any number from the count of the bytes on: it says that the reading ends (`walk_any` in proofs/Laws.antt).
unfoldable pub walk_of : ℕ → ℕ → List ℕ → Result ℕ Refusal
walk_of zero start bytes = Ok 13
walk_of (suc n) start [] = Ok 13
walk_of (suc n) start (k ∷ []) = Err (NotEnoughData 1 0)
walk_of (suc n) start (k ∷ (l ∷ rest)) =
    pick (ltb (length rest) l) (Err (NotEnoughData l (length rest)))
    (pick (eqb k 13) (walk_of n (start + 2) (take l rest)) (plain_of k (start + 2) (take l rest))
    then walk_of n (start + (2 + l)) (drop l rest))

-- a payload of any type
unfoldable pub read_of : ℕ → ℕ → List ℕ → Result ℕ Refusal
read_of k start bytes = pick (eqb k 13) (walk_of (length bytes) start bytes) (plain_of k start bytes)

-- The parts of a MID that is accepted, "outer part before its inner ones", and then those after it.
unfoldable pub parts_of : ℕ → ℕ → ℕ → List ℕ → List Part
parts_of zero level start bytes = []
parts_of (suc n) level start [] = []
parts_of (suc n) level start (k ∷ []) = []
parts_of (suc n) level start (k ∷ (l ∷ rest)) =
    record { upid_type = reported_of k; level = level; start = start + 2; len = l }
    ∷ (pick (eqb k 13) (parts_of n (level + 1) (start + 2) (take l rest)) []
    ++ parts_of n level (start + (2 + l)) (drop l rest))

-- of anything but a MID the list has count 0 (docs/DECISIONS.md)
unfoldable pub list_of : ℕ → ℕ → ℕ → List ℕ → List Part
list_of k level start bytes = pick (eqb k 13) (parts_of (length bytes) level start bytes) []

-- ---- the answers

-- "Length 0 at top level is None and reports type 0, whichever type was written"
unfoldable pub check_of : ℕ → List ℕ → Result ℕ Refusal
check_of k bytes =
    pick (ltb 255 (length bytes)) (Err InputTooLong)
    (pick (eqb (length bytes) 0) (Ok 0)
    (read_of k 0 bytes))

-- "The EIDR identifier of 12 bytes is held by value"; all zero where there is none
unfoldable pub eidr_of : ℕ → List ℕ → List ℕ
eidr_of k bytes = pick (eqb k 10 && eqb (length bytes) 12) bytes (replicate 12 0)

abbrev pub blank_part : Part
blank_part = record { upid_type = 0; level = 0; start = 0; len = 0 }

-- "a list of 127 part records with a count .. places past the count are all zero"
unfoldable pub listed : List Part → PartList
listed ps = record { parts = filled_to 127 blank_part ps; count = length ps }

-- the parts of what is accepted, and none of what is refused
unfoldable pub unless_refused : Result ℕ Refusal → List Part → List Part
unless_refused (Ok k) ps = ps
unless_refused (Err r) ps = []

unfoldable pub upid_of : ℕ → List ℕ → Upid
upid_of k bytes =
    record {
      read = check_of k bytes;
      eidr = eidr_of k bytes;
      list = listed (unless_refused (check_of k bytes) (list_of k 1 0 bytes));
    }

-- ---- what an answer says

-- where a part's payload lies in the top UPID
abbrev pub part_view : Part → View
part_view p = record { at = p.start; len = p.len }

-- the parts in an answer: those before its count
abbrev pub parts_in : Upid → List Part
parts_in u = take u.list.count u.list.parts
