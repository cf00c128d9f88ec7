-- What the writer answers of the words of a header and a command: it is as `SectionAnswer` says, and nothing else is.
use Prim.Native.Nat.{ℕ, zero, suc, ◌%◌, ◌^◌, ◌<◌}
use mathlib.Core.Bool.{Bool, true, false, not, ◌&&◌, ◌||◌}
use mathlib.Core.List.{List, [], ◌∷◌}
use mathlib.Core.Path.{◌≡◌, refl, ap, ap₂, sym, ◌∙◌}
use native.Mathlib.Nat.{mod-eq_of_lt, mod-lt}
use native.Mathlib.Omega.{arith}
use lib.Dec.{eqb, ltb, lit<}
use lib.ListN.{length, get_or}
use borrow.Author.Tests.{lt-ltb, ne_eqb}
use Rattle.command.specs.Command.{array}
use Rattle.command.specs.declared.SpliceCommand.{SpliceCommand}
use Rattle.command.specs.declared.components.InsertComponent.{InsertComponent}
use Rattle.command_measure.proofs.Making.{flag_within}
use Rattle.command_measure.specs.Made.{command_made}
use Rattle.canonical_form.specs.Descriptor.{canonical_loop}
use Rattle.c_section.specs.Flat.{flat_header}
use Rattle.c_command_writer.proofs.Answers as command
use Rattle.c_command_writer.proofs.Answers.{Late, refused_31, refused_32, refused_33, unrefused}
use Rattle.c_command_writer.proofs.Given.{same_at, within_at, within_same}
use Rattle.c_command_writer.specs.CommandGiven.{words_refusal, command_refusal, components_from}
use Rattle.c_command_writer.specs.CommandWords.{CommandIs, command_seen, command_fits}
use Rattle.c_command_writer.specs.Words.{word, within, same, refusal_of, seen_first, no_less}
use Rattle.header.specs.declared.header.SpliceInfoHeader.{SpliceInfoHeader}
use Rattle.names.proofs.Algorithms.{algorithm_laws}
use Rattle.bit_stores.specs.Written.{refusal_in, bytes_in}
use Rattle.section.specs.Section.{first, section_length}
use Rattle.section_writer.proofs.Heads.{fitting, fits_within}
use Rattle.section_writer.specs.Frame.{headed, head, body, frame, numbers_fit, writable_head}
use Rattle.section_writer.specs.Writing.{unless, section_made, type_of}
use Rattle.table.proofs.Lists.{zero_one, and_true}
use Rattle.table.specs.Writing.{Made, made, refused}
use Rattle.c_section_writer.specs.SectionGiven.{header_from, header_refusal, either, section_words_made}
use Rattle.c_section_writer.specs.SectionWords.{header_words, header_widths, HeaderIs, section_fits, SectionAnswer, outside, over, nobodys, its}
use Rattle.c_section_writer.proofs.Back.{header_back}
use Rattle.c_section_writer.proofs.Typed.{Typed}

-- ---- of two structs of words the lower refusal is that of both together
either_is : (s a b c d : Bool) → either (refusal_of a b) (seen_first s (refusal_of c d)) ≡ seen_first s (refusal_of (a && c) (b && d))
either_is true true true c d = refl
either_is true true false true true = refl
either_is true true false true false = refl
either_is true true false false d = refl
either_is true false b true true = refl
either_is true false b true false = refl
either_is true false b false d = refl
either_is false true true c d = refl
either_is false true false c d = refl
either_is false false b c d = refl

-- ---- a section is refused with n at the least where its command is
first_late : (n : ℕ) (bs : List Bool) (b : List ℕ) → Late n (unless (first n bs) b)
first_late n [] b = tt
first_late zero (true ∷ bs) b = tt
first_late (suc n) (true ∷ bs) b = omega arith
first_late n (false ∷ bs) b = sooner (unless (first (suc n) bs) b) (first_late (suc n) bs b)
  where
    sooner : (m : Made) → Late (suc n) m → Late n m
    sooner (made b) h = tt
    sooner (refused k) h = omega arith

late_ne : (n k : ℕ) (m : Made) → 0 < k → k < n → Late n m → eqb (refusal_in m) k ≡ false
late_ne n k (made b) z h l = ne_eqb 0 k (λ e. omega arith)
late_ne n k (refused j) z h l = ne_eqb j k (λ e. omega arith)

module _ (h : SpliceInfoHeader) (m : Made) (command-type : ℕ) (loop : List ℕ) where
  abbrev rest : List Bool
  rest = (eqb (refusal_in m) 33 || not (writable_head h)) ∷ ltb 4096 (section_length (length (bytes_in m)) (length loop)) ∷ not (canonical_loop loop) ∷ []

  section_late : Late 32 m → Late 32 (section_made h m command-type loop)
  unfolding section_made
  section_late l = rw (late_ne 32 31 m (omega arith) (omega arith) l) (first_late 32 ((eqb (refusal_in m) 32 || not (numbers_fit h)) ∷ rest) (frame h command-type (bytes_in m) loop))

  section_fits_lem : Late 33 m → numbers_fit h ≡ true → Late 33 (section_made h m command-type loop)
  unfolding section_made
  section_fits_lem l e = rw (late_ne 33 31 m (omega arith) (omega arith) l, late_ne 33 32 m (omega arith) (omega arith) l, e) (first_late 33 rest (frame h command-type (bytes_in m) loop))

  -- whatever it is of
  any_late : Late 31 (section_made h m command-type loop)
  unfolding section_made
  any_late = first_late 31 (eqb (refusal_in m) 31 ∷ (eqb (refusal_in m) 32 || not (numbers_fit h)) ∷ rest) (frame h command-type (bytes_in m) loop)

  section_31 : m ≡ refused 31 → section_made h m command-type loop ≡ refused 31
  unfolding section_made
  section_31 e = rw e

  section_32 : m ≡ refused 32 → section_made h m command-type loop ≡ refused 32
  unfolding section_made
  section_32 e = rw e

  section_over : Late 32 m → numbers_fit h ≡ false → section_made h m command-type loop ≡ refused 32
  unfolding section_made
  section_over l e = rw (late_ne 32 31 m (omega arith) (omega arith) l, e) (go (eqb (refusal_in m) 32))
    where
      go : (b : Bool) → unless (first 32 ((b || true) ∷ rest)) (frame h command-type (bytes_in m) loop) ≡ refused 32
      go true = refl
      go false = refl

  -- the command's length and type, which a header says, are not looked at
  headless : section_made (headed h 0 0) m command-type loop ≡ section_made h m command-type loop
  unfolding section_made frame body head headed numbers_fit writable_head
  headless = refl

-- ---- the header that words make
header_fits : (words : List ℕ) → within header_widths words ≡ true → numbers_fit (header_from words) ≡ true
unfolding numbers_fit header_from header_widths
header_fits words e =
    let w : (i : ℕ) → i < 7 → word words i < 2 ^ get_or header_widths i 0 = within_at header_widths words e in
    let a : word words 3 % 256 ≡ word words 3 = mod-eq_of_lt (omega (arith, w 3 (omega arith))) in
    let t : word words 6 % 65536 ≡ word words 6 = mod-eq_of_lt (omega (arith, w 6 (omega arith))) in
    fits_within (header_from words) 0 0
    (record {
      version = mod-lt (word words 1) {m = 256} (lit< tt);
      algorithm = rw (algorithm_laws.there (word words 3 % 256), a) (w 3 (omega arith));
      adjustment = w 4 (omega arith);
      index = mod-lt (word words 5) {m = 256} (lit< tt);
      tiers = rw t (w 6 (omega arith));
    })
    (omega arith)
    (omega arith)

header_unfit : (words : List ℕ) (h : SpliceInfoHeader) → same (header_words (flat_header h)) words ≡ true → within header_widths words ≡ false → numbers_fit h ≡ false
unfolding within header_widths header_words flat_header
header_unfit words h s e = go (numbers_fit h) refl
  where
    go : (b : Bool) → numbers_fit h ≡ b → b ≡ false
    go false f = refl
    go true f =
        let t = fitting h f in
        let w : within header_widths (header_words (flat_header h)) ≡ true =
        rw (lt-ltb _ _ t.version, flag_within h.encrypted_packet, lt-ltb _ _ t.algorithm, lt-ltb _ _ t.adjustment, lt-ltb _ _ t.index, lt-ltb _ _ t.tiers) in
        let z = within_same header_widths (header_words (flat_header h)) words refl s in
        zero_one cc

header_given : (words : List ℕ) (h : SpliceInfoHeader) → HeaderIs words h → within header_widths words ≡ true → header_from words ≡ headed h 0 0
unfolding header_from header_words header_widths flat_header
header_given words h i e =
    let s : (i : ℕ) → i < 7 → word words i ≡ word (header_words (flat_header h)) i = same_at (header_words (flat_header h)) words i.own in
    let w : (i : ℕ) → i < 7 → word words i < 2 ^ get_or header_widths i 0 = within_at header_widths words e in
    let typed : Typed h = (
      omega (arith, s 1 (omega arith), w 1 (omega arith)),
      omega (arith, s 3 (omega arith), w 3 (omega arith)),
      omega (arith, s 5 (omega arith), w 5 (omega arith)),
      omega (arith, s 6 (omega arith), w 6 (omega arith)),
    ) in
    rw (s 1 (omega arith), s 2 (omega arith), s 3 (omega arith), s 4 (omega arith), s 5 (omega arith), s 6 (omega arith)) (header_back h typed i.writable)

module _ (header words components lent loop : List ℕ) where
  abbrev given : SpliceCommand
  given = command.given words components lent

  abbrev overall : Made
  overall = section_made (header_from header) (command.overall words components lent) (type_of given) loop

  abbrev fits : Bool
  fits = within header_widths header && command.fits words components lent

  abbrev own : Bool
  own = same (header_words (flat_header (header_from header))) header && command.own words components lent

  words_made : section_words_made header words components lent loop ≡ no_less (seen_first (command_seen words lent) (refusal_of fits own)) overall
  unfolding section_words_made header_refusal command_refusal words_refusal components_from
  words_made = ap (λ (n : ℕ). no_less n overall) (either_is (command_seen words lent) (within header_widths header) (same (header_words (flat_header (header_from header))) header) (command.fits words components lent) (command.own words components lent))

  words_seen : command_seen words lent ≡ true → section_words_made header words components lent loop ≡ no_less (refusal_of fits own) overall
  words_seen e = words_made ∙ rw e

  fits_are : section_fits header words components ≡ fits
  unfolding section_fits
  fits_are = ap (λ (b : Bool). within header_widths header && b) (command.fits_are words components lent)

  given_late : command_seen words lent ≡ true → Late 32 overall × (fits ≡ true → Late 33 overall)
  given_late e =
      let l = command.given_late words components lent e in
      let m = command.overall words components lent in (
        section_late (header_from header) m (type_of given) loop l.0,
        λ f. let a = and_true (within header_widths header) (command.fits words components lent) f in section_fits_lem (header_from header) m (type_of given) loop (l.1 a.1) (header_fits header a.0),
      )

  -- ---- by each case
  abbrev answer : Made
  answer = section_words_made header words components lent loop

  pub made_outside : command_seen words lent ≡ false → answer ≡ refused 31
  made_outside e = words_made ∙ rw e (refused_31 overall (any_late (header_from header) (command.overall words components lent) (type_of given) loop))

  pub made_over : command_seen words lent ≡ true → section_fits header words components ≡ false → answer ≡ refused 32
  made_over e f = words_seen e ∙ refused_32 fits own overall (sym fits_are ∙ f) (given_late e).0

  made_other : command_seen words lent ≡ true → section_fits header words components ≡ true → own ≡ false → answer ≡ refused 33
  made_other e f g = words_seen e ∙ refused_33 fits own overall (sym fits_are ∙ f) g ((given_late e).1 (sym fits_are ∙ f))

  made_own : command_seen words lent ≡ true → section_fits header words components ≡ true → own ≡ true → answer ≡ overall
  made_own e f g = words_seen e ∙ unrefused fits own overall (sym fits_are ∙ f) g

  -- ---- their own values
  given_are : own ≡ true → HeaderIs header (header_from header) × CommandIs words components given (command.listed words components lent)
  unfolding header_from
  given_are e =
      let a = and_true (same (header_words (flat_header (header_from header))) header) (command.own words components lent) e in
      (record { own = a.0; writable = algorithm_laws.is_writable (word header 3 % 256) }, command.given_is words components lent a.1)

  module _ (h : SpliceInfoHeader) (c : SpliceCommand) (cs : List InsertComponent) (i : HeaderIs header h) (j : CommandIs words components c cs) where
    abbrev section : Made
    section = section_made h (command_made c (array cs) lent) (type_of c) loop

    are_given : section_fits header words components ≡ true → (section ≡ overall) × (own ≡ true)
    unfolding header_words flat_header headed
    are_given f =
        let a = and_true (within header_widths header) (command.fits words components lent) (sym fits_are ∙ f) in
        let g = command.is_given words components lent c cs j (command.fits_are words components lent ∙ a.1) in
        let e : header_from header ≡ headed h 0 0 = header_given header h i a.0 in (
          sym (headless h (command_made c (array cs) lent) (type_of c) loop)
              ∙ ap₂ (λ (d : SpliceCommand) (l : List InsertComponent). section_made (headed h 0 0) (command_made d (array l) lent) (type_of d) loop) (sym g.0) (sym g.1)
              ∙ ap (λ (x : SpliceInfoHeader). section_made x (command.overall words components lent) (type_of given) loop) (sym e),
          ap₂ (λ (a b : Bool). a && b) (ap (λ (x : SpliceInfoHeader). same (header_words (flat_header x)) header) e ∙ i.own) g.2,
        )

    are_made : length lent < 2 ^ 64 → section ≡ answer
    unfolding section_fits
    are_made short = go (command_seen words lent) refl (section_fits header words components) refl
      where
        m : Made
        m = command_made c (array cs) lent

        -- the command's words or the header's are over their widths
        some : command_seen words lent ≡ true → (a : Bool) → within header_widths header ≡ a → (b : Bool) → command_fits words components ≡ b → a && b ≡ false → section ≡ refused 32
        some e a f false g z = section_32 h m (type_of c) loop (command.is_over words components lent short c cs j e g)
        some e true f true g z = zero_one cc
        some e false f true g z =
            let k = command.is_given words components lent c cs j g in
            let l : Late 32 m = rw (← k.0, ← k.1) (command.given_late words components lent e).0 in
            section_over h m (type_of c) loop l (header_unfit header h i.own f)

        go : (s : Bool) → command_seen words lent ≡ s → (f : Bool) → section_fits header words components ≡ f → section ≡ answer
        go false e f g = section_31 h m (type_of c) loop (command.is_unseen words components lent c cs j e) ∙ sym (made_outside e)
        go true e false g = some e (within header_widths header) refl (command_fits words components) refl g ∙ sym (made_over e g)
        go true e true g = (are_given g).0 ∙ sym (made_own e g (are_given g).1)

  pub answered : SectionAnswer header words components lent loop answer
  answered = go (command_seen words lent) refl (section_fits header words components) refl own refl
    where
      go : (s : Bool) → command_seen words lent ≡ s → (f : Bool) → section_fits header words components ≡ f → (o : Bool) → own ≡ o → SectionAnswer header words components lent loop answer
      go false e f g o h = rw (made_outside e) (outside e)
      go true e false g o h = rw (made_over e g) (over e g)
      go true e true g false h = rw (made_other e g h) (nobodys e g (λ x c cs i j. let z = (are_given x c cs i j g).1 in zero_one cc))
      go true e true g true h = let r = given_are h in rw (made_own e g h) (its (header_from header) given (command.listed words components lent) r.0 r.1)

  module _ (short : length lent < 2 ^ 64) where
    pub answer_is : (m : Made) → SectionAnswer header words components lent loop m → m ≡ answer
    answer_is m (outside e) = sym (made_outside e)
    answer_is m (over e f) = sym (made_over e f)
    answer_is m (nobodys e f n) = go own refl
      where
        go : (o : Bool) → own ≡ o → refused 33 ≡ answer
        go true o = let r = given_are o in absurd (n (header_from header) given (command.listed words components lent) r.0 r.1)
        go false o = sym (made_other e f o)
    answer_is m (its h c cs i j) = are_made h c cs i j short

    pub one_answer : (m n : Made) → SectionAnswer header words components lent loop m → SectionAnswer header words components lent loop n → m ≡ n
    one_answer m n a b = answer_is m a ∙ sym (answer_is n b)
