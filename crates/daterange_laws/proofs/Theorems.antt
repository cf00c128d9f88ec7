-- What is proved of lines, over the definitions alone.
--     one_list               the list of attributes of a line is unique
--     cut_exactly            the cutting finds it exactly where there is one
--     refused_52             a line is refused with 52 exactly where it has no list, or its list has one of the stated faults
--     judged_by              what a line with a list is judged by: 52, 51, fine
--     views_are_values       ID and START-DATE of a reading are views of the line, of the values in its list
--     written_line           a written line is by the grammar, with the three attributes
--     written_reads_back     what it reads back to: the same section, ID and date, and the name used
--     written_then_read      the same of the reader's answer and the target's later bytes
use Prim.Native.Nat.{ℕ, suc, ◌+◌, ◌*◌, ◌/◌, ◌%◌, ◌≤◌, ◌<◌}
use mathlib.Core.Bool.{Bool, true, false, not, ◌&&◌, ◌||◌}
use mathlib.Core.List.{List, [], ◌∷◌, ◌++◌}
use mathlib.Core.Path.{◌≡◌, refl, ap, sym, ◌∙◌}
use native.Mathlib.Omega.{arith}
use lib.Dec.{eqb}
use lib.ListN.{length, drop}
use borrow.Author.Tests.{lt-ltb, le-leb, eq-eqb, eqb-true}
use Rattle.table.specs.Bits.{pick, AllBytes}
use Rattle.table.specs.Lent.{viewed}
use Rattle.bit_stores.specs.Written.{answer_of, later_of}
use Rattle.table.proofs.Lists.{zero_one, below_all}
use Rattle.attribute_list.specs.Grammar.{all, name_byte, quoted_byte, plain_byte, hex_byte, Attribute, plain, valid, Line}
use Rattle.attribute_list.specs.Cutting.{same, attributes_of}
use Rattle.daterange_line.specs.Reading.{cue_name, known_of, hexadecimal, fitting, is_id, is_date, is_signal, named, repeats, any, value_of, view_of, cue_of, digit_of, octets, section_of, number_of, fault, fine, judge, section_made, read_by, read_of, read_later}
use Rattle.daterange_writer.specs.Writing.{hex_digit, hex_of, attributes_for, line_of}
use Rattle.daterange_line.specs.declared.Cue.{Cue}
use Rattle.daterange_line.specs.declared.Cue.TheVariants.{Cmd, Out, In}
use Rattle.attribute_list.proofs.Lists.{line_sound, line_exact}
use Rattle.daterange_writer.proofs.Digits.{hex_length}
use Rattle.daterange_line.proofs.Values.{stands_viewed, view_value, Fine, judged_fine}
use Rattle.daterange_line.proofs.Answers.{text_behind}
use Rattle.std.specs.Prelude.{Option, Some, None, Ok}
use Rattle.daterange_line.specs.declared.LineRefusal.TheVariants.{MalformedLine, AttributeMissing}

-- ---- the list of a line

pub cut_exactly : (line : List ℕ) (l : List Attribute) → (attributes_of line ≡ Some l → Line l line) × (Line l line → attributes_of line ≡ Some l)
cut_exactly line l = (line_sound line l, line_exact line l)

pub one_list : (line : List ℕ) (l m : List Attribute) → Line l line → Line m line → l ≡ m
one_list line l m h g = let e = line_exact line l h in let f = line_exact line m g in cc

-- a line without a list, or with a fault: 52; one without a fault that lacks something: 51; any other is read
pub refused_none : (line : List ℕ) → ((l : List Attribute) → Line l line → ⊥) → (judge (attributes_of line) ≡ fault MalformedLine) × (number_of MalformedLine ≡ 52)
unfolding judge
refused_none line h = (go (attributes_of line) refl, refl)
  where
    go : (o : Option (List Attribute)) → attributes_of line ≡ o → judge o ≡ fault MalformedLine
    go None e = refl
    go (Some l) e = absurd (h l (line_sound line l e))

pub judged_by : (line : List ℕ) (l : List Attribute) → Line l line
    → (judge (attributes_of line) ≡ pick (repeats l || not (all fitting l)) (fault MalformedLine) (pick (not (any is_id l && (any is_date l && any is_signal l))) (fault AttributeMissing) (fine l)))
    × (number_of MalformedLine ≡ 52) × (number_of AttributeMissing ≡ 51)
unfolding judge
judged_by line l h = (rw (line_exact line l h), refl, refl)

-- ---- views

pub views_are_values : (line : List ℕ) (l : List Attribute) → judge (attributes_of line) ≡ fine l
    → (viewed line (view_of is_id 17 l) ≡ value_of is_id l) × (viewed line (view_of is_date 17 l) ≡ value_of is_date l)
views_are_values line l e =
    let x : Fine (attributes_of line) l = judged_fine (attributes_of line) l e in
    let h : Line l line = line_sound line l x.is in
    let t = text_behind line l h in
    (stands_viewed line _ _ (view_value is_id line l 17 h.each t x.id), stands_viewed line _ _ (view_value is_date line l 17 h.each t x.date))

-- ---- what is written

-- the digits of a byte, by one test over all bytes
pub digits_back : (b : ℕ) → b < 256 → digit_of (hex_digit (b / 16)) * 16 + digit_of (hex_digit (b % 16)) ≡ b
digits_back b h = eqb_is (below_all 256 (λ n. eqb (digit_of (hex_digit (n / 16)) * 16 + digit_of (hex_digit (n % 16))) n) refl b h)
  where
    eqb_is : eqb (digit_of (hex_digit (b / 16)) * 16 + digit_of (hex_digit (b % 16))) b ≡ true → digit_of (hex_digit (b / 16)) * 16 + digit_of (hex_digit (b % 16)) ≡ b
    eqb_is e = eqb-true (digit_of (hex_digit (b / 16)) * 16 + digit_of (hex_digit (b % 16))) b e

pub octets_back : (s : List ℕ) → AllBytes s → octets (hex_of s) ≡ s
unfolding octets hex_of
octets_back [] h = refl
octets_back (b ∷ s) h = rw (digits_back b h.0, octets_back s h.1)

hex_all : (s : List ℕ) → AllBytes s → all hex_byte (hex_of s) ≡ true
unfolding hex_of hex_byte
hex_all [] h = refl
hex_all (b ∷ s) h = rw (high, low, hex_all s h.1)
  where
    high : hex_byte (hex_digit (b / 16)) ≡ true
    high = below_all 256 (λ n. hex_byte (hex_digit (n / 16))) refl b h.0

    low : hex_byte (hex_digit (b % 16)) ≡ true
    low = below_all 256 (λ n. hex_byte (hex_digit (n % 16))) refl b h.0

hex_plain : (s : List ℕ) → AllBytes s → all plain_byte (hex_of s) ≡ true
unfolding hex_of plain_byte
hex_plain [] h = refl
hex_plain (b ∷ s) h = rw (high, low, hex_plain s h.1)
  where
    high : plain_byte (hex_digit (b / 16)) ≡ true
    high = below_all 256 (λ n. plain_byte (hex_digit (n / 16))) refl b h.0

    low : plain_byte (hex_digit (b % 16)) ≡ true
    low = below_all 256 (λ n. plain_byte (hex_digit (n % 16))) refl b h.0

module _ (section : List ℕ) (cue : Cue) (id date : List ℕ) (i : all quoted_byte id ≡ true) (d : all quoted_byte date ≡ true) (bytes : AllBytes section) where
  cue_valid : valid (record { name = cue_name cue; value = plain (0x30 ∷ (0x78 ∷ hex_of section)) }) ≡ true
  unfolding valid name_byte plain_byte
  cue_valid = go cue
    where
      go : (c : Cue) → valid (record { name = cue_name c; value = plain (0x30 ∷ (0x78 ∷ hex_of section)) }) ≡ true
      go Cmd = rw (lt-ltb 0 (suc (suc (length (hex_of section)))) (omega arith), hex_plain section bytes)
      go Out = rw (lt-ltb 0 (suc (suc (length (hex_of section)))) (omega arith), hex_plain section bytes)
      go In = rw (lt-ltb 0 (suc (suc (length (hex_of section)))) (omega arith), hex_plain section bytes)

  pub written_line : Line (attributes_for section cue id date) (line_of section cue id date)
  unfolding line_of valid name_byte
  written_line = record { some = omega arith; each = rw (i, d, cue_valid); text = refl }

  module _ (some_bytes : 0 < length section) where
    hexadecimal_is : hexadecimal (0x30 ∷ (0x78 ∷ hex_of section)) ≡ true
    unfolding hexadecimal
    hexadecimal_is =
        let n = length (hex_of section) in
        let m : n ≡ length section * 2 = hex_length section in
        rw (lt-ltb 2 (suc (suc n)) (omega arith), eq-eqb (suc (suc n) % 2) 0 (omega arith), hex_all section bytes)

    -- what is found in a written line
    pub record Back : Type 0 where
      pub fine_line : judge (attributes_of (line_of section cue id date)) ≡ fine (attributes_for section cue id date)
      pub same_id : value_of is_id (attributes_for section cue id date) ≡ id
      pub same_date : value_of is_date (attributes_for section cue id date) ≡ date
      pub same_cue : cue_of (attributes_for section cue id date) ≡ cue
      pub same_section : section_of (attributes_for section cue id date) ≡ section

    pub written_reads_back : Back
    unfolding judge repeats named any known_of same value_of cue_of
    written_reads_back =
        record {
          fine_line = ap judge (line_exact (line_of section cue id date) (attributes_for section cue id date) written_line) ∙ judged cue;
          same_id = at_id cue;
          same_date = at_date cue;
          same_cue = at_cue cue;
          same_section = at_section cue ∙ octets_back section bytes;
        }
      where
        judged : (c : Cue) → judge (Some (attributes_for section c id date)) ≡ fine (attributes_for section c id date)
        judged Cmd = rw hexadecimal_is
        judged Out = rw hexadecimal_is
        judged In = rw hexadecimal_is

        at_id : (c : Cue) → value_of is_id (attributes_for section c id date) ≡ id
        at_id c = refl

        at_date : (c : Cue) → value_of is_date (attributes_for section c id date) ≡ date
        at_date c = refl

        at_cue : (c : Cue) → cue_of (attributes_for section c id date) ≡ c
        at_cue Cmd = refl
        at_cue Out = refl
        at_cue In = refl

        at_section : (c : Cue) → section_of (attributes_for section c id date) ≡ octets (hex_of section)
        at_section Cmd = refl
        at_section Out = refl
        at_section In = refl

    -- the reader on the written line: the section stands in the target, and the two views are of the ID and the date
    pub written_then_read : (target : List ℕ) → length section ≤ length target
        → (read_of (line_of section cue id date) target
        ≡ Ok (record { id = view_of is_id 17 (attributes_for section cue id date); date = view_of is_date 17 (attributes_for section cue id date); cue = cue; len = length section }))
        × (read_later (line_of section cue id date) target ≡ section ++ drop (length section) target)
        × (viewed (line_of section cue id date) (view_of is_id 17 (attributes_for section cue id date)) ≡ id)
        × (viewed (line_of section cue id date) (view_of is_date 17 (attributes_for section cue id date)) ≡ date)
    unfolding read_by section_made answer_of later_of
    written_then_read target h =
        let w = written_reads_back in
        let v = views_are_values (line_of section cue id date) (attributes_for section cue id date) w.fine_line in (
          rw (w.fine_line, w.same_section, le-leb (length section) (length target) h, w.same_cue),
          rw (w.fine_line, w.same_section, le-leb (length section) (length target) h),
          v.0 ∙ w.same_id,
          v.1 ∙ w.same_date,
        )

-- ---- 52 exactly

not_51 : (l : List Attribute) (f m : Bool) → pick f (fault MalformedLine) (pick m (fault AttributeMissing) (fine l)) ≡ fault MalformedLine → f ≡ true
not_51 l true m e = refl
not_51 l false true e = let z : ◌≡◌ {A = ℕ} 51 52 = cc in absurd (omega arith)
not_51 l false false e = zero_one cc

-- a line is refused with 52 exactly where every list of it (there is at most one) has a repeated name, or a value of another kind than its name asks for
pub refused_52 : (line : List ℕ)
    → (judge (attributes_of line) ≡ fault MalformedLine → (l : List Attribute) → Line l line → repeats l || not (all fitting l) ≡ true)
    × (((l : List Attribute) → Line l line → repeats l || not (all fitting l) ≡ true) → judge (attributes_of line) ≡ fault MalformedLine)
    × (number_of MalformedLine ≡ 52)
unfolding judge
refused_52 line = (
  λ e l h. not_51 l (repeats l || not (all fitting l)) (not (any is_id l && (any is_date l && any is_signal l))) (sym (judged_by line l h).0 ∙ e),
  λ h. go h (attributes_of line) refl,
  refl,
)
  where
    go : ((l : List Attribute) → Line l line → repeats l || not (all fitting l) ≡ true) → (o : Option (List Attribute)) → attributes_of line ≡ o → judge o ≡ fault MalformedLine
    go h None e = refl
    go h (Some l) e = rw (h l (line_sound line l e))
