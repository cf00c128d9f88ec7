-- A command alone, and as a section has it; and what is written of the words of a command.
--     moved_flat, flat_number    the words of a command that is read
--     as_its_command             a section that none of 1 to 9 refuses is refused as its command is
--     payload_words              what is written of words is a canonical payload that reads as they say
--     command_words              and it is the command of the section that is written of them
use Prim.Native.Nat.{ℕ, suc, ◌+◌}
use mathlib.Core.Bool.{Bool, true, false}
use mathlib.Core.List.{List, [], ◌∷◌, ◌++◌, map}
use mathlib.Core.Path.{◌≡◌, refl, ap, sym, subst, ◌∙◌}
use native.Mathlib.Omega.{arith}
use lib.Dec.{eqb, lit<}
use lib.ListN.{length, take}
use Rattle.c_command_writer.proofs.Answers as command_answers
use Rattle.c_command_writer.proofs.Given.{same_at}
use Rattle.c_command_writer.specs.CommandGiven.{command_given, components_from, command_refusal, command_words_made}
use Rattle.c_command_writer.specs.CommandWords.{command_words}
use Rattle.c_command_writer.specs.Words.{word, same, no_less}
use Rattle.c_section.specs.FlatCommand.{flat_command, flat_command_read, no_command}
use Rattle.c_section_writer.specs.SectionGiven.{header_from, section_words_made}
use Rattle.command.specs.Command as command
use Rattle.command.specs.Command.{array, command_of, type_of}
use Rattle.command.specs.declared.SpliceCommand.{SpliceCommand}
use Rattle.command.specs.declared.components.InsertComponent.{InsertComponent}
use Rattle.command_measure.specs.Made.{command_made}
use Rattle.section.specs.Section.{command_type, command_bytes, moved, frame_tests, unknown_command, malformed_command, conditions, first, None}
use Rattle.section.specs.declared.Refusal.{Refusal}
use Rattle.table.proofs.Lists.{zero_one}
use Rattle.table.specs.Bits.{AllBytes}
use Rattle.table.specs.Lent.{placeless}
use Rattle.table.specs.Writing.{Made, made, refused}
use Rattle.theorems_functions.proofs.Theorems.{payload_of_lem}
use Rattle.theorems_functions.proofs.WrittenOverC as written
use Rattle.theorems_writer.proofs.Theorems as writing
use Rattle.theorems_writer.specs.Making.{CommandMakes, SectionMakes}
use Rattle.theorems_answers.specs.Words.{moved_by, PayloadOf}
use Rattle.std.proofs.Common.{Ok, Err, Result}
use Rattle.command.specs.declared.CommandRefusal.{CommandRefusal}

-- ---- the words of a command that is read

pub moved_flat : (c : SpliceCommand) → flat_command (moved 14 c) ≡ moved_by 14 (flat_command c)
unfolding moved flat_command no_command
moved_flat SpliceCommand.SpliceNull = refl
moved_flat (SpliceCommand.SpliceInsert i) = refl
moved_flat (SpliceCommand.TimeSignal t) = refl
moved_flat SpliceCommand.BandwidthReservation = refl
moved_flat (SpliceCommand.PrivateCommand p) = refl

pub flat_number : (r : Result SpliceCommand CommandRefusal) → (flat_command_read r).refusal ≡ command.number_of r
unfolding flat_command_read flat_command no_command
flat_number (Ok SpliceCommand.SpliceNull) = refl
flat_number (Ok (SpliceCommand.SpliceInsert i)) = refl
flat_number (Ok (SpliceCommand.TimeSignal t)) = refl
flat_number (Ok SpliceCommand.BandwidthReservation) = refl
flat_number (Ok (SpliceCommand.PrivateCommand p)) = refl
flat_number (Err CommandRefusal.UnknownType) = refl
flat_number (Err CommandRefusal.Malformed) = refl

-- ---- its refusal, behind 1 to 9

first_after : (n : ℕ) (bs cs : List Bool) → None bs → first n (bs ++ cs) ≡ first (n + length bs) cs
first_after n [] cs h = let e : n ≡ n + 0 = omega arith in ap (λ (k : ℕ). first k cs) e
first_after n (true ∷ bs) cs h = zero_one cc
first_after n (false ∷ bs) cs h = let e : suc n + length bs ≡ n + suc (length bs) = omega arith in first_after (suc n) bs cs h.1 ∙ ap (λ (k : ℕ). first k cs) e

last_two : (r : Result SpliceCommand CommandRefusal) → first 10 (eqb (command.number_of r) 10 ∷ eqb (command.number_of r) 11 ∷ []) ≡ command.number_of r
last_two (Ok c) = refl
last_two (Err CommandRefusal.UnknownType) = refl
last_two (Err CommandRefusal.Malformed) = refl

pub as_its_command : (s : List ℕ) → None (take 9 (conditions s)) → first 1 (conditions s) ≡ command.number_of (command_of (command_type s) (command_bytes s))
as_its_command s n =
    first_after 1 (map (λ (t : Bool × Refusal). t.0) (frame_tests s)) (unknown_command s ∷ malformed_command s ∷ []) n ∙ last_two (command_of (command_type s) (command_bytes s))

-- ---- what is written of the words of a command

module _ (words components lent : List ℕ) (a : AllBytes lent) where
  abbrev own : SpliceCommand
  own = command_given words

  abbrev places : List InsertComponent
  places = array (command_answers.listed words components lent)

  makes : CommandMakes own places lent (command_made own places lent)
  makes = writing.what_is_made_of_a_command own places lent (written.own_size words components lent) (written.few_given words) a

  -- a refusal has a number
  makes_some : {m : Made} → CommandMakes own places lent m → (n : ℕ) → m ≡ refused n → n ≡ 0 → ⊥
  makes_some (CommandMakes.outside f) n e z = let q : 31 ≡ n = cc in omega arith
  makes_some (CommandMakes.over f g) n e z = let q : 32 ≡ n = cc in omega arith
  makes_some (CommandMakes.nobodys f g h) n e z = let q : 33 ≡ n = cc in omega arith
  makes_some (CommandMakes.its f p h) n e z = zero_one cc

  pub words_some : (n : ℕ) → command_words_made words components lent ≡ refused n → n ≡ 0 → ⊥
  unfolding command_words_made components_from
  words_some = written.less_some _ _ (makes_some makes)

  pub payload_words : (p : List ℕ) → command_words_made words components lent ≡ made p → PayloadOf words components lent p
  unfolding command_words_made components_from
  payload_words p e =
      let u = written.unless_refused_lem (command_refusal own words components lent) (command_made own places lent) p e in
      record {
        own_command = own;
        own_components = command_answers.listed words components lent;
        command_is_lem = written.own_words words components lent u.0;
        payload = payload_of_lem own places lent makes p u.1;
      }

  -- it is the command of the section that is written of the same words
  module _ (header loop : List ℕ) (l : AllBytes loop) where
    in_section_lem : {m : Made} → SectionMakes (header_from header) own places lent loop m → (b : List ℕ) → m ≡ made b → CommandMakes own places lent (made (command_bytes b))
    in_section_lem (SectionMakes.outside f) b e = zero_one cc
    in_section_lem (SectionMakes.over f g) b e = zero_one cc
    in_section_lem (SectionMakes.nobodys f g h) b e = zero_one cc
    in_section_lem (SectionMakes.long f x p h k i) b e = zero_one cc
    in_section_lem (SectionMakes.other f x p h k i j) b e = zero_one cc
    in_section_lem (SectionMakes.its f x k) b e =
        let q : x ≡ b = cc in
        subst (λ (v : List ℕ). CommandMakes own places lent (made (command_bytes v))) q (CommandMakes.its f (command_bytes x) k.command)

    pub command_words_lem : (b : List ℕ) → section_words_made header words components lent loop ≡ made b → command_words_made words components lent ≡ made (command_bytes b)
    unfolding command_words_made components_from no_less
    command_words_lem b e =
        let m = written.made_so header words components lent loop b e in
        rw m.taken
        (writing.what_is_made_of_a_command_is_one own places lent (written.own_size words components lent) (written.few_given words) a _ _ makes
        (in_section_lem (written.makes header words components lent loop a l) b m.overall))

-- ---- and read again

type_word : (c : SpliceCommand) → word (command_words (flat_command c)) 1 ≡ type_of c
unfolding command_words flat_command no_command
type_word SpliceCommand.SpliceNull = refl
type_word (SpliceCommand.SpliceInsert i) = refl
type_word (SpliceCommand.TimeSignal t) = refl
type_word SpliceCommand.BandwidthReservation = refl
type_word (SpliceCommand.PrivateCommand p) = refl

-- words that are a command's own begin with its type
own_type : (c : SpliceCommand) (words : List ℕ) → same (command_words (flat_command c)) words ≡ true → word words 1 ≡ type_of c
unfolding command_words
own_type c words e = same_at (command_words (flat_command c)) words e 1 (lit< tt) ∙ type_word c

pub payload_again_lem : (words components lent p : List ℕ) (w : PayloadOf words components lent p) → flat_command_read (command_of (word words 1) p) ≡ flat_command_read (Ok w.payload.again)
payload_again_lem words components lent p w =
    ap (λ (k : ℕ). flat_command_read (command_of k p)) (own_type w.own_command words w.command_is_lem.own) ∙ ap flat_command_read w.payload.reading

pub words_again : (words components lent p : List ℕ) (w : PayloadOf words components lent p) → same (take 19 (command_words (flat_command_read (Ok w.payload.again)))) words ≡ true
unfolding flat_command_read
words_again words components lent p w =
    let c : SpliceCommand = w.own_command in
    let d : SpliceCommand = w.payload.again in
    ap (λ (v : List ℕ). same v words)
    (sym (written.views_words placeless d) ∙ ap (λ (y : SpliceCommand). take 19 (command_words (flat_command y))) w.payload.values ∙ written.views_words placeless c)
    ∙ written.same_take 19 (command_words (flat_command c)) words w.command_is_lem.own
