-- What is written over C is read back: the words that are accepted are those of a header and a command, and the section has these.
use Prim.Native.Nat.{ℕ, zero, suc, ◌-◌, ◌%◌, ◌≤◌}
use mathlib.Core.Bool.{Bool, true, false}
use mathlib.Core.List.{List, [], ◌∷◌}
use mathlib.Core.Path.{◌≡◌, refl, ap, sym, ◌∙◌}
use native.Mathlib.Omega.{arith}
use borrow.Author.Tests.{eqb-true, eqb-false}
use lib.Dec.{eqb, ltb, leb}
use lib.ListN.{length, take, drop, replicate, length-append, length-replicate}
use Rattle.bit_stores.specs.Written.{answer_of, later_of}
use Rattle.c_command_writer.proofs.Answers as command_answers
use Rattle.c_command_writer.proofs.Given.{given_typed}
use Rattle.c_command_writer.proofs.Typed.{TypedMode, TypedDetail, Typed}
use Rattle.c_command_writer.proofs.Words.{places_length}
use Rattle.c_command_writer.specs.CommandGiven.{command_given, component_from, components_from, words_refusal, command_refusal}
use Rattle.c_command_writer.specs.CommandWords.{command_words, insert_components_in, CommandIs, command_seen}
use Rattle.c_command_writer.specs.Words.{word, within, same, refusal_of, seen_first, lowest, no_less, flat_written}
use Rattle.c_command_writer.specs.declared.FlatWritten.{FlatWritten}
use Rattle.c_section.specs.Flat.{flat_header}
use Rattle.c_section.specs.FlatCommand.{flat_command, no_command}
use Rattle.c_section_writer.specs.SectionGiven.{header_from, header_refusal, either, section_words_made}
use Rattle.c_section_writer.specs.SectionWords.{header_words, header_widths}
use Rattle.canonical_form.specs.Same.{without_place, SameHeader}
use Rattle.command.specs.Command.{array, with_view, count_in, insert_count}
use Rattle.command.specs.Insert.{blank, count}
use Rattle.command.specs.declared.SpliceCommand.{SpliceCommand}
use Rattle.command.specs.declared.components.InsertComponent.{InsertComponent}
use Rattle.command.specs.declared.insert.SpliceDetail.{SpliceDetail}
use Rattle.command.specs.declared.insert.SpliceMode.{SpliceMode}
use Rattle.command_measure.specs.Made.{command_made}
use Rattle.header.specs.declared.header.SpliceInfoHeader.{SpliceInfoHeader}
use Rattle.names.proofs.Algorithms.{algorithm_laws}
use Rattle.section.specs.Section.{moved, moved_read}
use Rattle.section_writer.specs.Writing.{type_of, section_made}
use Rattle.table.proofs.Lists.{zero_one, and_true}
use Rattle.table.specs.Bits.{pick, AllBytes}
use Rattle.table.specs.Lent.{shifted, placeless}
use Rattle.table.specs.Writing.{Made, made, refused}
use Rattle.table.specs.declared.View.{View}
use Rattle.theorems_writer.proofs.Theorems as writing
use Rattle.theorems_writer.specs.Making.{SectionMakes}
use Rattle.theorems_functions.specs.Flat.{WrittenOf}
use Rattle.std.proofs.Common.{Ok, Err, Result}
use Rattle.command.specs.declared.CommandRefusal.{CommandRefusal}

-- ---- words that are not refused

pub unless_refused_lem : (n : ℕ) (m : Made) (b : List ℕ) → no_less n m ≡ made b → (n ≡ 0) × (m ≡ made b)
unfolding no_less
unless_refused_lem n m b e = go (eqb n 0) refl e
  where
    go : (t : Bool) → eqb n 0 ≡ t → pick t m (refused (lowest n m)) ≡ made b → (n ≡ 0) × (m ≡ made b)
    go true z e = (eqb-true n 0 z, e)
    go false z e = zero_one cc

none_of : (fits own : Bool) → refusal_of fits own ≡ 0 → (fits ≡ true) × (own ≡ true)
none_of true true e = (refl, refl)
none_of true false e = absurd (eqb-false 33 0 refl e)
none_of false own e = absurd (eqb-false 32 0 refl e)

seen_none : (s : Bool) (n : ℕ) → seen_first s n ≡ 0 → (s ≡ true) × (n ≡ 0)
seen_none true n e = (refl, e)
seen_none false n e = absurd (eqb-false 31 0 refl e)

both_none : (m n : ℕ) → either m n ≡ 0 → (m ≡ 0) × (n ≡ 0)
both_none m n e = go (eqb m 0) refl (eqb n 0) refl (ltb n m) e
  where
    go : (a : Bool) → eqb m 0 ≡ a → (b : Bool) → eqb n 0 ≡ b → (c : Bool) → pick a n (pick b m (pick c n m)) ≡ 0 → (m ≡ 0) × (n ≡ 0)
    go true p b q c e = (eqb-true m 0 p, e)
    go false p true q c e = absurd (eqb-false m 0 p e)
    go false p false q true e = absurd (eqb-false n 0 q e)
    go false p false q false e = absurd (eqb-false m 0 p e)

few_typed : (d : SpliceCommand) → Typed d → count_in d ≤ 255
few_typed SpliceCommand.SpliceNull h = omega arith
few_typed (SpliceCommand.SpliceInsert x) h = detail x.splice_detail h.2
  where
    mode : (m : SpliceMode) → TypedMode m → count m ≤ 255
    mode (SpliceMode.Program t) h = omega arith
    mode (SpliceMode.Components n) h = omega (arith, h)

    detail : (d : SpliceDetail) → TypedDetail d → insert_count d ≤ 255
    detail SpliceDetail.Cancel h = omega arith
    detail (SpliceDetail.Insert i) h = mode i.splice_mode h.3
few_typed (SpliceCommand.TimeSignal t) h = omega arith
few_typed SpliceCommand.BandwidthReservation h = omega arith
few_typed (SpliceCommand.PrivateCommand p) h = omega arith

-- what is made of a section is refused with 31 to 35, or made
makes_some : (h : SpliceInfoHeader) (d : SpliceCommand) (places : List InsertComponent) (lent loop : List ℕ) {m : Made} → SectionMakes h d places lent loop m → (n : ℕ) → m ≡ refused n → n ≡ 0 → ⊥
makes_some h d places lent loop (SectionMakes.outside a) n e z = let q : 31 ≡ n = cc in omega arith
makes_some h d places lent loop (SectionMakes.over a b) n e z = let q : 32 ≡ n = cc in omega arith
makes_some h d places lent loop (SectionMakes.nobodys a b f) n e z = let q : 33 ≡ n = cc in omega arith
makes_some h d places lent loop (SectionMakes.long a b p x y g) n e z = let q : 34 ≡ n = cc in omega arith
makes_some h d places lent loop (SectionMakes.other a b p x y g i) n e z = let q : 35 ≡ n = cc in omega arith
makes_some h d places lent loop (SectionMakes.its a b x) n e z = zero_one cc

pub array_size : (cs : List InsertComponent) → length cs ≤ 255 → length (array cs) ≡ 255
unfolding array
array_size cs h = omega (arith, length-append cs (replicate (255 - length cs) blank), length-replicate (255 - length cs) blank)

-- ---- what was made of them

-- a command of words counts no more than a byte does
pub few_given : (command : List ℕ) → count_in (command_given command) ≤ 255
few_given command = few_typed (command_given command) (given_typed command)

-- and words that are not refused are its own
pub own_words : (command components lent : List ℕ) → command_refusal (command_given command) command components lent ≡ 0
    → CommandIs command components (command_given command) (command_answers.listed command components lent)
unfolding command_refusal words_refusal
own_words command components lent e =
    let s = seen_none (command_seen command lent) (words_refusal (command_given command) command components) e in
    let o = none_of (command_answers.fits command components lent) (command_answers.own command components lent) s.1 in
    command_answers.given_is command components lent o.1

-- its places fill an array
pub own_size : (command components lent : List ℕ) → length (array (command_answers.listed command components lent)) ≡ 255
own_size command components lent =
    array_size (command_answers.listed command components lent) (omega (arith, places_length component_from 3 (count_in (command_given command)) (insert_components_in components), few_given command))

module _ (header command components lent loop : List ℕ) where
  abbrev c : SpliceCommand
  c = command_given command

  abbrev cs : List InsertComponent
  cs = command_answers.listed command components lent

  pub record Made-of (b : List ℕ) : Type 0 where
    pub head : same (header_words (flat_header (header_from header))) header ≡ true
    -- no word of the command is refused
    pub taken : command_refusal c command components lent ≡ 0
    pub overall : section_made (header_from header) (command_made c (array cs) lent) (type_of c) loop ≡ made b

  pub made_so : (b : List ℕ) → section_words_made header command components lent loop ≡ made b → Made-of b
  unfolding section_words_made header_refusal components_from
  made_so b e =
      let u = unless_refused_lem _ _ b e in
      let v = both_none (header_refusal header) (command_refusal c command components lent) u.0 in
      let h = none_of (within header_widths header) (same (header_words (flat_header (header_from header))) header) v.0 in
      record { head = h.1; taken = v.1; overall = u.1 }

  -- what is made of the value that they are
  pub makes : AllBytes lent → AllBytes loop → SectionMakes (header_from header) c (array cs) lent loop (section_made (header_from header) (command_made c (array cs) lent) (type_of c) loop)
  makes a l = writing.what_is_made_of_a_section (header_from header) c (array cs) lent loop (own_size command components lent) (few_given command) a l

  -- a refusal has a number
  section_some : (n : ℕ) → section_made (header_from header) (command_made c (array cs) lent) (type_of c) loop ≡ refused n → AllBytes lent → AllBytes loop → n ≡ 0 → ⊥
  section_some n e a l = makes_some (header_from header) c (array cs) lent loop (makes a l) n e

  written_of : AllBytes lent → AllBytes loop → (b : List ℕ) → section_words_made header command components lent loop ≡ made b → WrittenOf header command components lent loop b
  unfolding header_from
  written_of a l b e =
      let m = made_so b e in
      record {
        own_header = header_from header;
        own_command = c;
        own_components = cs;
        header_is = record { own = m.head; writable = algorithm_laws.is_writable (word header 3 % 256) };
        command_is_lem = own_words command components lent m.taken;
        section = writing.what_is_written_reads_back (header_from header) c (array cs) lent loop (own_size command components lent) (few_given command) a l b m.overall;
      }

-- ---- the answer

lowest_some : (k : ℕ) (m : Made) → (k ≡ 0 → ⊥) → ((n : ℕ) → m ≡ refused n → n ≡ 0 → ⊥) → lowest k m ≡ 0 → ⊥
lowest_some k (made b) f g e = f e
lowest_some k (refused n) f g e = go (ltb n k) e
  where
    go : (t : Bool) → pick t n k ≡ 0 → ⊥
    go true e = g n refl e
    go false e = f e

pub less_some : (k : ℕ) (m : Made) → ((n : ℕ) → m ≡ refused n → n ≡ 0 → ⊥) → (n : ℕ) → no_less k m ≡ refused n → n ≡ 0 → ⊥
unfolding no_less
less_some k m g n e z = go (eqb k 0) refl e
  where
    go : (t : Bool) → eqb k 0 ≡ t → pick t m (refused (lowest k m)) ≡ refused n → ⊥
    go true f e = g n e z
    go false f e = let q : lowest k m ≡ n = cc in lowest_some k m (eqb-false k 0 f) g (q ∙ z)

answer_some : (m : Made) (target : List ℕ) → ((n : ℕ) → m ≡ refused n → n ≡ 0 → ⊥) → (n : ℕ) → answer_of m target ≡ Err n → n ≡ 0 → ⊥
unfolding answer_of
answer_some (refused k) target g n e z = let q : k ≡ n = cc in g k refl (q ∙ z)
answer_some (made b) target g n e z = go (leb (length b) (length target)) e
  where
    go : (t : Bool) → pick {A = Result ℕ ℕ} t (Ok (length b)) (Err 36) ≡ Err n → ⊥
    go true e = zero_one cc
    go false e = let q : 36 ≡ n = cc in omega arith

pub accepted_write : (m : Made) (target : List ℕ) → ((n : ℕ) → m ≡ refused n → n ≡ 0 → ⊥) → (flat_written (answer_of m target)).refusal ≡ 0
    → (b : List ℕ) × (m ≡ made b) × (take (flat_written (answer_of m target)).«length» (later_of m target) ≡ b) × (length b ≡ (flat_written (answer_of m target)).«length»)
unfolding flat_written
accepted_write m target some z = go (answer_of m target) refl z
  where
    go : (w : Result ℕ ℕ) → answer_of m target ≡ w → (flat_written w).refusal ≡ 0 → (b : List ℕ) × (m ≡ made b) × (take (flat_written w).«length» (later_of m target) ≡ b) × (length b ≡ (flat_written w).«length»)
    go (Ok n) e z = let c = writing.an_accepted_write_changes_only_its_result m target n e in (c.result, c.is, c.start, c.number)
    go (Err n) e z = absurd (answer_some m target some n e z)

-- the bytes that an accepted write left are what was made
pub written_bytes : (m : Made) (target : List ℕ) (answer : FlatWritten) (later : List ℕ) → ((n : ℕ) → m ≡ refused n → n ≡ 0 → ⊥) → answer ≡ flat_written (answer_of m target) → later ≡ later_of m target
    → answer.refusal ≡ 0 → m ≡ made (take answer.«length» later)
written_bytes m target answer later some ea el z =
    let w = accepted_write m target some (ap (λ (v : FlatWritten). v.refusal) (sym ea) ∙ z) in
    let b : take answer.«length» later ≡ w.0 = ap (λ (v : FlatWritten). take v.«length» later) ea ∙ ap (take (flat_written (answer_of m target)).«length») el ∙ w.2 in
    w.1 ∙ ap made (sym b)

-- of words that are accepted
pub section_bytes : (header command components lent loop target : List ℕ) (answer : FlatWritten) (later : List ℕ) → AllBytes lent → AllBytes loop
    → answer ≡ flat_written (answer_of (section_words_made header command components lent loop) target) → later ≡ later_of (section_words_made header command components lent loop) target → answer.refusal ≡ 0
    → section_words_made header command components lent loop ≡ made (take answer.«length» later)
unfolding section_words_made components_from
section_bytes header command components lent loop target answer later a l ea el z =
    let m : Made = section_words_made header command components lent loop in
    let some : (n : ℕ) → m ≡ refused n → n ≡ 0 → ⊥ = less_some _ _ (λ n e. section_some header command components lent loop n e a l) in
    written_bytes m target answer later some ea el z

pub written_back : (header command components lent loop target : List ℕ) (answer : FlatWritten) (later : List ℕ) → AllBytes lent → AllBytes loop
    → answer ≡ flat_written (answer_of (section_words_made header command components lent loop) target) → later ≡ later_of (section_words_made header command components lent loop) target → answer.refusal ≡ 0
    → WrittenOf header command components lent loop (take answer.«length» later)
written_back header command components lent loop target answer later a l ea el z =
    written_of header command components lent loop a l _ (section_bytes header command components lent loop target answer later a l ea el z)

-- the words of a header with equal values are equal
pub same_words : (g h : SpliceInfoHeader) → SameHeader g h → header_words (flat_header g) ≡ header_words (flat_header h)
unfolding header_words flat_header
same_words g h s = rw (s.version, s.encrypted, s.algorithm, s.adjustment, s.index, s.tiers)

-- ---- the words of a command, but for its view's last two
pub views_words : (f : View → View) (d : SpliceCommand) → take 19 (command_words (flat_command (with_view f d))) ≡ take 19 (command_words (flat_command d))
unfolding command_words flat_command no_command
views_words f SpliceCommand.SpliceNull = refl
views_words f (SpliceCommand.SpliceInsert i) = refl
views_words f (SpliceCommand.TimeSignal t) = refl
views_words f SpliceCommand.BandwidthReservation = refl
views_words f (SpliceCommand.PrivateCommand p) = refl

pub command_words_lem : (x c d : SpliceCommand) → x ≡ moved 14 d → without_place d ≡ without_place c → take 19 (command_words (flat_command x)) ≡ take 19 (command_words (flat_command c))
unfolding moved
command_words_lem x c d e f =
    ap (λ (y : SpliceCommand). take 19 (command_words (flat_command y))) e ∙ views_words (shifted 14) d ∙ sym (views_words placeless d)
    ∙ ap (λ (y : SpliceCommand). take 19 (command_words (flat_command y))) f ∙ views_words placeless c

pub same_take : (n : ℕ) (own words : List ℕ) → same own words ≡ true → same (take n own) words ≡ true
unfolding same
same_take zero own words e = refl
same_take (suc n) [] words e = refl
same_take (suc n) (x ∷ own) words e =
    let a = and_true (eqb (word words 0) x) (same own (drop 1 words)) e in
    rw a.0 (same_take n own (drop 1 words) a.1)

-- the command that is read in a section is its payload's
pub moved_command : (c : SpliceCommand) (r : Result SpliceCommand CommandRefusal) (x : SpliceCommand) → r ≡ Ok c → moved_read r ≡ Ok x → x ≡ moved 14 c
unfolding moved_read
moved_command c r x e f = let z : Ok (moved 14 c) ≡ Ok x = sym (ap moved_read e) ∙ f in cc
