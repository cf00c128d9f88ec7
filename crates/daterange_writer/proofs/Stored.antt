-- A line as the pieces that are stored one behind the other.
use Prim.Native.Nat.{ℕ, ◌+◌, ◌*◌, ◌≤◌}
use mathlib.Core.Bool.{true, false}
use mathlib.Core.List.{List, [], ◌∷◌, ◌++◌, append_assoc}
use mathlib.Core.Path.{◌≡◌, refl, ap, sym, ◌∙◌}
use native.Mathlib.Omega.{arith}
use lib.Dec.{leb}
use lib.ListN.{length, length-append}
use borrow.Author.Tests.{leb-true, leb-false}
use Rattle.table.specs.Lent.{stored}
use Rattle.table.specs.Writing.{made, refused}
use Rattle.bit_stores.specs.Written.{answer_of, later_of}
use Rattle.bit_stores.proofs.Writes.{short_answer, wrote_answer}
use Rattle.table.proofs.Lists.{append_nil}
use Rattle.table.proofs.Stores.{stored_append}
use Rattle.attribute_list.specs.Grammar.{all, quoted_byte, text_of, later_text, list_text}
use Rattle.daterange_writer.specs.Writing.{hex_of, line_of, line_made}
use Rattle.daterange_line.specs.Reading.{cue_name}
use Rattle.daterange_writer.specs.Pieces.{opening, middle, pieces}
use Rattle.daterange_line.specs.declared.Cue.{Cue}
use Rattle.daterange_line.specs.declared.Cue.TheVariants.{Cmd, Out, In}
use Rattle.daterange_writer.proofs.Digits.{hex_length}
use Rattle.std.proofs.Common.{Ok, Err}

pub pieces_length : (id date word digits : List ℕ) → length (pieces id date word digits) ≡ 35 + length id + length date + length word + length digits
unfolding pieces
pieces_length id date word digits =
    omega (
      arith,
      length-append opening (id ++ (middle ++ (date ++ (word ++ digits)))),
      length-append id (middle ++ (date ++ (word ++ digits))),
      length-append middle (date ++ (word ++ digits)),
      length-append date (word ++ digits),
      length-append word digits,
    )

pub pieces_size : (id date word section : List ℕ) → length (pieces id date word (hex_of section)) ≡ 35 + length id + length date + length word + length section * 2
pieces_size id date word section = pieces_length id date word (hex_of section) ∙ omega (arith, hex_length section)

-- a store behind another
behind : (t u b c : List ℕ) (p : ℕ) → u ≡ stored t 0 b → p ≡ 0 + length b → 0 + length b + length c ≤ length t → stored u p c ≡ stored t 0 (b ++ c)
behind t u b c p e f h = rw (e, f) (stored_append t 0 b c h)

pub all_stored : (t t1 t2 t3 t4 t5 t6 id date word digits : List ℕ) → 35 + length id + length date + length word + length digits ≤ length t
    → t1 ≡ stored t 0 opening → t2 ≡ stored t1 21 id → t3 ≡ stored t2 (21 + length id) middle → t4 ≡ stored t3 (21 + length id + 14) date
    → t5 ≡ stored t4 (21 + length id + 14 + length date) word → t6 ≡ stored t5 (21 + length id + 14 + length date + length word) digits
    → t6 ≡ stored t 0 (pieces id date word digits)
unfolding pieces
all_stored t t1 t2 t3 t4 t5 t6 id date word digits h e1 e2 e3 e4 e5 e6 =
    let b2 = opening ++ id in
    let b3 = b2 ++ middle in
    let b4 = b3 ++ date in
    let b5 = b4 ++ word in
    let n2 : length b2 ≡ 21 + length id = length-append opening id in
    let n3 : length b3 ≡ 21 + length id + 14 = length-append b2 middle ∙ omega arith in
    let n4 : length b4 ≡ 21 + length id + 14 + length date = length-append b3 date ∙ omega arith in
    let n5 : length b5 ≡ 21 + length id + 14 + length date + length word = length-append b4 word ∙ omega arith in
    let f2 : t2 ≡ stored t 0 b2 = e2 ∙ behind t t1 opening id 21 e1 refl (omega arith) in
    let f3 : t3 ≡ stored t 0 b3 = e3 ∙ behind t t2 b2 middle (21 + length id) f2 (omega arith) (omega arith) in
    let f4 : t4 ≡ stored t 0 b4 = e4 ∙ behind t t3 b3 date (21 + length id + 14) f3 (omega arith) (omega arith) in
    let f5 : t5 ≡ stored t 0 b5 = e5 ∙ behind t t4 b4 word (21 + length id + 14 + length date) f4 (omega arith) (omega arith) in
    let f6 : t6 ≡ stored t 0 (b5 ++ digits) = e6 ∙ behind t t5 b5 digits (21 + length id + 14 + length date + length word) f5 (omega arith) (omega arith) in
    let a : b5 ++ digits ≡ opening ++ (id ++ (middle ++ (date ++ (word ++ digits)))) = simp append_assoc in
    f6 ∙ ap (stored t 0) a

pub section_stored : (t t1 t2 t3 t4 t5 t6 id date word section : List ℕ) → 35 + length id + length date + length word + length section * 2 ≤ length t
    → t1 ≡ stored t 0 opening → t2 ≡ stored t1 21 id → t3 ≡ stored t2 (21 + length id) middle → t4 ≡ stored t3 (21 + length id + 14) date
    → t5 ≡ stored t4 (21 + length id + 14 + length date) word → t6 ≡ stored t5 (21 + length id + 14 + length date + length word) (hex_of section)
    → t6 ≡ stored t 0 (pieces id date word (hex_of section))
section_stored t t1 t2 t3 t4 t5 t6 id date word section h = all_stored t t1 t2 t3 t4 t5 t6 id date word (hex_of section) (omega (arith, hex_length section))

-- ---- is there room

module _ (t id date word section : List ℕ) where
  pub store_short : leb (35 + length id + length date + length word + length section * 2) (length t) ≡ false
      → (Err 36 ≡ answer_of (made (pieces id date word (hex_of section))) t) × (t ≡ later_of (made (pieces id date word (hex_of section))) t)
  store_short e =
      let p = pieces id date word (hex_of section) in
      short_answer (made p) t p refl (omega (arith, pieces_size id date word section, leb-false (35 + length id + length date + length word + length section * 2) (length t) e))

  pub store_all : (later : List ℕ) → leb (35 + length id + length date + length word + length section * 2) (length t) ≡ true → later ≡ stored t 0 (pieces id date word (hex_of section))
      → (Ok (35 + length id + length date + length word + length section * 2) ≡ answer_of (made (pieces id date word (hex_of section))) t)
      × (later ≡ later_of (made (pieces id date word (hex_of section))) t)
  store_all later e f =
      let p = pieces id date word (hex_of section) in
      let x = wrote_answer (made p) t p refl (omega (arith, pieces_size id date word section, leb-true (35 + length id + length date + length word + length section * 2) (length t) e)) in
      (ap Ok (sym (pieces_size id date word section)) ∙ x.0, f ∙ x.1)

-- ---- ID and START-DATE

-- ", the cue's name, =0x
abbrev pub word : Cue → List ℕ
word cue = 0x22 ∷ (0x2C ∷ (cue_name cue ++ (0x3D ∷ (0x30 ∷ (0x78 ∷ [])))))

pub line_pieces : (section : List ℕ) (cue : Cue) (id date : List ℕ) → line_of section cue id date ≡ pieces id date (word cue) (hex_of section)
unfolding line_of text_of later_text list_text pieces
line_pieces section Cmd id date = simp (append_assoc, append_nil)
line_pieces section Out id date = simp (append_assoc, append_nil)
line_pieces section In id date = simp (append_assoc, append_nil)

module _ (section : List ℕ) (cue : Cue) (id date : List ℕ) where
  pub made_line : all quoted_byte id ≡ true → all quoted_byte date ≡ true → line_made section cue id date ≡ made (pieces id date (word cue) (hex_of section))
  unfolding line_made
  made_line i d = rw (i, d) (ap made (line_pieces section cue id date))

  pub made_not_id : all quoted_byte id ≡ false → line_made section cue id date ≡ refused 53
  unfolding line_made
  made_not_id i = rw i

  pub made_not_date : all quoted_byte id ≡ true → all quoted_byte date ≡ false → line_made section cue id date ≡ refused 53
  unfolding line_made
  made_not_date i d = rw (i, d)
