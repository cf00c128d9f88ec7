-- Rows h, i and j of document 01, "Worked rows", and more of its rules, over the public definition.
use Prim.Native.Nat.{ℕ}
use mathlib.Core.Path.{◌≡◌, refl}
use mathlib.Core.List.{List, [], ◌∷◌}
use Rattle.upid.specs.Text.{text_of, done, step, within}
use Rattle.upid.specs.Upid.{number_of, values_of, upid_of, check_of, read_of, walk_of, ◌then◌, plain_of, length_of, is_text, reported_of, list_of, parts_of, listed, unless_refused, parts_in}
use Rattle.upid.specs.declared.Part.{Part}
use Rattle.upid.specs.declared.Upid.{Upid}
use Rattle.std.proofs.Common.{Ok, Err, None, Result}
use Rattle.upid.specs.declared.Refusal.{Refusal}

-- an answer in document 01's terms: a reported type with parts, or a refusal's number with its values
pub data Told : Type 0 where
  accepted : ℕ → List Part → Told
  refused : ℕ → List ℕ → Told

unfoldable pub tells : Result ℕ Refusal → List Part → Told
tells (Ok k) ps = accepted k ps
tells (Err r) ps = refused (number_of r) (values_of r)

abbrev pub told : Upid → Told
told u = tells u.read (parts_in u)

-- one row: a type, the bytes, and what they are read as
pub record Row : Type 0 where
  pub upid_type : ℕ
  pub bytes : List ℕ
  pub answer : Told

unfoldable pub rows : List Row
rows =
    -- h: two parts, one inside the other; a part without bytes is no None
    record { upid_type = 13; bytes = 0x0D ∷ 0x02 ∷ 0x0D ∷ 0x00 ∷ []; answer = accepted 13 (record { upid_type = 13; level = 1; start = 2; len = 2 } ∷ record { upid_type = 13; level = 2; start = 4; len = 0 } ∷ []) }
    -- i
    ∷ record { upid_type = 13; bytes = 0x00 ∷ 0x00 ∷ []; answer = refused 23 [] }
    -- j
    ∷ record { upid_type = 13; bytes = 0x08 ∷ 0x03 ∷ 0x01 ∷ 0x02 ∷ []; answer = refused 21 (3 ∷ 2 ∷ []) }
    -- None, whichever type was written; and type 0 with bytes
    ∷ record { upid_type = 13; bytes = []; answer = accepted 0 [] }
    ∷ record { upid_type = 0; bytes = 0x41 ∷ []; answer = refused 23 [] }
    -- a part of one byte; a short payload before the part's type
    ∷ record { upid_type = 13; bytes = 0x09 ∷ 0x00 ∷ 0x08 ∷ []; answer = refused 21 (1 ∷ 0 ∷ []) }
    ∷ record { upid_type = 13; bytes = 0x00 ∷ 0x05 ∷ 0x01 ∷ []; answer = refused 21 (5 ∷ 1 ∷ []) }
    -- of two faulty parts the first: type 0, before a payload that is short
    ∷ record { upid_type = 13; bytes = 0x00 ∷ 0x00 ∷ 0x08 ∷ 0x03 ∷ 0x01 ∷ []; answer = refused 23 [] }
    -- type 5 reports 6; type 6 has 12 bytes, and no other number
    ∷ record { upid_type = 5; bytes = 1 ∷ 2 ∷ 3 ∷ 4 ∷ 5 ∷ 6 ∷ 7 ∷ 8 ∷ []; answer = accepted 6 [] }
    ∷ record { upid_type = 6; bytes = 1 ∷ 2 ∷ 3 ∷ 4 ∷ 5 ∷ 6 ∷ 7 ∷ 8 ∷ []; answer = refused 25 (6 ∷ 12 ∷ 8 ∷ []) }
    ∷ record { upid_type = 13; bytes = 0x06 ∷ 0x01 ∷ 0x00 ∷ []; answer = refused 25 (6 ∷ 12 ∷ 1 ∷ []) }
    -- "types 2, 5, 8 have 8; 3, 6, 7, 10 have 12; 4 has 32"
    ∷ record { upid_type = 5; bytes = 1 ∷ []; answer = refused 25 (5 ∷ 8 ∷ 1 ∷ []) }
    ∷ record { upid_type = 8; bytes = 1 ∷ []; answer = refused 25 (8 ∷ 8 ∷ 1 ∷ []) }
    ∷ record { upid_type = 3; bytes = 1 ∷ []; answer = refused 25 (3 ∷ 12 ∷ 1 ∷ []) }
    ∷ record { upid_type = 7; bytes = 1 ∷ []; answer = refused 25 (7 ∷ 12 ∷ 1 ∷ []) }
    ∷ record { upid_type = 10; bytes = 1 ∷ []; answer = refused 25 (10 ∷ 12 ∷ 1 ∷ []) }
    ∷ record { upid_type = 4; bytes = 1 ∷ []; answer = refused 25 (4 ∷ 32 ∷ 1 ∷ []) }
    -- text that is not UTF-8, and length before text
    ∷ record { upid_type = 13; bytes = 0x02 ∷ 0x08 ∷ 0x41 ∷ 0x41 ∷ 0x41 ∷ 0x41 ∷ 0x41 ∷ 0x41 ∷ 0xC3 ∷ 0x41 ∷ []; answer = refused 24 (2 ∷ 2 ∷ 8 ∷ []) }
    ∷ record { upid_type = 2; bytes = 0xC3 ∷ 0x41 ∷ []; answer = refused 25 (2 ∷ 8 ∷ 2 ∷ []) }
    ∷ []

pub data Hold : List Row → Type 0 where
  none : Hold []
  more : {r : Row} {rs : List Row} → told (upid_of r.upid_type r.bytes) ≡ r.answer → Hold rs → Hold (r ∷ rs)

pub rows_hold : Hold rows
unfolding rows tells number_of values_of upid_of check_of read_of walk_of ◌then◌ plain_of length_of is_text reported_of list_of parts_of listed unless_refused text_of done step within
rows_hold =
    more refl (more refl (more refl (more refl (more refl (more refl
    (more refl (more refl (more refl (more refl (more refl (more refl
    (more refl (more refl (more refl (more refl (more refl (more refl
    (more refl none))))))))))))))))))
