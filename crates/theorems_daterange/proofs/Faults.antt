-- What a reader of lines answers: by the faults of a line's list, in words of its own.
use Prim.Native.Nat.{ℕ}
use mathlib.Core.Bool.{Bool, true, false, not, ◌&&◌, ◌||◌}
use mathlib.Core.List.{List, [], ◌∷◌, ◌++◌}
use mathlib.Core.Path.{◌≡◌, refl, sym, subst, ◌∙◌, ap}
use borrow.Author.Tests.{eq-eqb, le-leb, lt-leb}
use lib.ListN.{length}
use Rattle.attribute_list.proofs.Lists.{same_true, line_sound, line_exact}
use Rattle.attribute_list.specs.Cutting.{same, attributes_of}
use Rattle.attribute_list.specs.Grammar.{Value, quoted, plain, Attribute, Line, all}
use Rattle.bit_stores.specs.Written.{answer_of, later_of}
use Rattle.daterange_laws.proofs.Theorems.{refused_none, judged_by}
use Rattle.daterange_line.specs.Reading.{id_name, date_name, cue_name, known_of, as_id, as_date, as_signal, is_id, is_date, is_signal, fits_for, fitting, named, repeats, any, section_of, fault, fine, judge, section_made, read_by, read_of, read_later}
use Rattle.daterange_line.specs.declared.Cue.{Cue}
use Rattle.daterange_line.specs.declared.Cue.TheVariants.{Cmd, Out, In}
use Rattle.daterange_line.specs.declared.Known.{Known}
use Rattle.table.proofs.Lists.{zero_one}
use Rattle.table.specs.Bits.{pick}
use Rattle.upid.proofs.Laws.{by_cases}
use Rattle.upid.specs.Cover.{All}
use Rattle.theorems_daterange.specs.Faults.{NoSequence, Misfit, Faulty, Lacking, LineRead}
use Rattle.std.specs.Prelude.{Option, Some, None, Result}
use Rattle.daterange_line.specs.declared.Reading.{Reading}
use Rattle.daterange_line.specs.declared.LineRefusal.{LineRefusal}
use Rattle.daterange_line.specs.declared.LineRefusal.TheVariants.{MalformedLine, AttributeMissing}

-- ---- names

same_self : (a : List ℕ) → same a a ≡ true
unfolding same
same_self [] = refl
same_self (x ∷ a) = rw (eq-eqb x x refl, same_self a)

data KnownAs (name : List ℕ) : Known → Type 0 where
  id : name ≡ id_name → KnownAs name Known.Id
  date : name ≡ date_name → KnownAs name Known.Date
  cue : (c : Cue) → name ≡ cue_name c → KnownAs name (Known.Signal c)
  other : (name ≡ id_name → ⊥) → (name ≡ date_name → ⊥) → ((c : Cue) → name ≡ cue_name c → ⊥) → KnownAs name Known.Other

unlike : (a b : List ℕ) → same a b ≡ false → a ≡ b → ⊥
unlike a b f e = let z : same a b ≡ true = ap (λ (x : List ℕ). same x b) e ∙ same_self b in zero_one cc

known_as : (name : List ℕ) → KnownAs name (known_of name)
unfolding known_of
known_as name = go (same name id_name) refl (same name date_name) refl (same name (cue_name Cmd)) refl (same name (cue_name Out)) refl (same name (cue_name In)) refl
  where
    cues : same name (cue_name Cmd) ≡ false → same name (cue_name Out) ≡ false → same name (cue_name In) ≡ false → (c : Cue) → name ≡ cue_name c → ⊥
    cues a b d Cmd = unlike name (cue_name Cmd) a
    cues a b d Out = unlike name (cue_name Out) b
    cues a b d In = unlike name (cue_name In) d

    go : (a : Bool) → same name id_name ≡ a → (b : Bool) → same name date_name ≡ b → (c : Bool) → same name (cue_name Cmd) ≡ c → (d : Bool) → same name (cue_name Out) ≡ d → (e : Bool) → same name (cue_name In) ≡ e
        → KnownAs name (pick a Known.Id (pick b Known.Date (pick c (Known.Signal Cmd) (pick d (Known.Signal Out) (pick e (Known.Signal In) Known.Other)))))
    go true p b q c r d s e t = id (same_true name id_name p)
    go false p true q c r d s e t = date (same_true name date_name q)
    go false p false q true r d s e t = cue Cmd (same_true name (cue_name Cmd) r)
    go false p false q false r true s e t = cue Out (same_true name (cue_name Out) s)
    go false p false q false r false s true t = cue In (same_true name (cue_name In) t)
    go false p false q false r false s false t = other (unlike name id_name p) (unlike name date_name q) (cues r s t)

known_id : known_of id_name ≡ Known.Id
unfolding known_of same
known_id = refl

known_date : known_of date_name ≡ Known.Date
unfolding known_of same
known_date = refl

known_cue : (c : Cue) → known_of (cue_name c) ≡ Known.Signal c
unfolding known_of same
known_cue Cmd = refl
known_cue Out = refl
known_cue In = refl

-- ---- an attribute that does not fit its name

misfit_if : (a : Attribute) → fitting a ≡ false → Misfit a
misfit_if a = go (known_as a.name) a.value refl
  where
    go : {k : Known} → KnownAs a.name k → (v : Value) → a.value ≡ v → fits_for k v ≡ false → Misfit a
    go (id e) (quoted b) ev f = zero_one cc
    go (id e) (plain b) ev f = Misfit.id b e ev
    go (date e) (quoted b) ev f = zero_one cc
    go (date e) (plain b) ev f = Misfit.date b e ev
    go (cue c e) (quoted b) ev f = Misfit.cue c e (subst NoSequence (sym ev) tt)
    go (cue c e) (plain b) ev f = Misfit.cue c e (subst NoSequence (sym ev) f)
    go (other x y z) v ev f = zero_one cc

misfit_so : (a : Attribute) → Misfit a → fitting a ≡ false
misfit_so a (Misfit.id b e ev) = ap (λ (n : List ℕ). fits_for (known_of n) a.value) e ∙ ap (λ (k : Known). fits_for k a.value) known_id ∙ ap (fits_for Known.Id) ev
misfit_so a (Misfit.date b e ev) = ap (λ (n : List ℕ). fits_for (known_of n) a.value) e ∙ ap (λ (k : Known). fits_for k a.value) known_date ∙ ap (fits_for Known.Date) ev
misfit_so a (Misfit.cue c e n) = ap (λ (n : List ℕ). fits_for (known_of n) a.value) e ∙ ap (λ (k : Known). fits_for k a.value) (known_cue c) ∙ go a.value n
  where
    go : (v : Value) → NoSequence v → fits_for (Known.Signal c) v ≡ false
    go (quoted b) n = refl
    go (plain b) n = n

-- ---- 52, of a list

or_true : (b : Bool) → b || true ≡ true
or_true true = refl
or_true false = refl

and_false : (b : Bool) → b && false ≡ false
and_false true = refl
and_false false = refl

faulty_later : (a : Attribute) {l : List Attribute} → Faulty l → Faulty (a ∷ l)
faulty_later a (Faulty.repeated p q r b c e n) = Faulty.repeated (a ∷ p) q r b c (ap (λ (x : List Attribute). a ∷ x) e) n
faulty_later a (Faulty.misfit p r b e m) = Faulty.misfit (a ∷ p) r b (ap (λ (x : List Attribute). a ∷ x) e) m

named_split : (name : List ℕ) (l : List Attribute) → named name l ≡ true → (q : List Attribute) × (r : List Attribute) × (b : Attribute) × (l ≡ q ++ (b ∷ r)) × (b.name ≡ name)
unfolding named
named_split name [] e = zero_one cc
named_split name (b ∷ l) e = go (same b.name name) refl (λ f. named_split name l f) e
  where
    go : (t : Bool) → same b.name name ≡ t
        → (named name l ≡ true → (q : List Attribute) × (r : List Attribute) × (c : Attribute) × (l ≡ q ++ (c ∷ r)) × (c.name ≡ name)) → t || named name l ≡ true
        → (q : List Attribute) × (r : List Attribute) × (c : Attribute) × (b ∷ l ≡ q ++ (c ∷ r)) × (c.name ≡ name)
    go true s again e = ([], l, b, refl, same_true b.name name s)
    go false s again e = let x = again e in (b ∷ x.0, x.1, x.2, ap (λ (y : List Attribute). b ∷ y) x.3, x.4)

repeated_if : (l : List Attribute) → repeats l ≡ true → Faulty l
unfolding repeats
repeated_if [] e = zero_one cc
repeated_if (a ∷ l) e = go (named a.name l) refl (λ f. repeated_if l f) e
  where
    go : (t : Bool) → named a.name l ≡ t → (repeats l ≡ true → Faulty l) → t || repeats l ≡ true → Faulty (a ∷ l)
    go true n again e = let x = named_split a.name l n in Faulty.repeated [] x.0 x.1 a x.2 (ap (λ (y : List Attribute). a ∷ y) x.3) (sym x.4)
    go false n again e = faulty_later a (again e)

unfit_if : (l : List Attribute) → all fitting l ≡ false → Faulty l
unfit_if [] e = zero_one cc
unfit_if (a ∷ l) e = go (fitting a) refl (λ f. unfit_if l f) e
  where
    go : (t : Bool) → fitting a ≡ t → (all fitting l ≡ false → Faulty l) → t && all fitting l ≡ false → Faulty (a ∷ l)
    go true f again e = faulty_later a (again e)
    go false f again e = Faulty.misfit [] l a refl (misfit_if a f)

abbrev faults : List Attribute → Bool
faults l = repeats l || not (all fitting l)

faulty_if : (l : List Attribute) → faults l ≡ true → Faulty l
faulty_if l = go (repeats l) refl (all fitting l) refl
  where
    go : (r : Bool) → repeats l ≡ r → (f : Bool) → all fitting l ≡ f → r || not f ≡ true → Faulty l
    go true er f ef e = repeated_if l er
    go false er true ef e = zero_one cc
    go false er false ef e = unfit_if l ef

named_at : (name : List ℕ) (q r : List Attribute) (b : Attribute) → b.name ≡ name → named name (q ++ (b ∷ r)) ≡ true
unfolding named
named_at name [] r b e = ap (λ (n : List ℕ). same n name || named name r) e ∙ rw (same_self name)
named_at name (c ∷ q) r b e = rw (named_at name q r b e) (or_true (same c.name name))

repeats_at : (p q r : List Attribute) (a b : Attribute) → a.name ≡ b.name → repeats (p ++ (a ∷ (q ++ (b ∷ r)))) ≡ true
unfolding repeats
repeats_at [] q r a b e = rw (named_at a.name q r b (sym e))
repeats_at (c ∷ p) q r a b e = rw (repeats_at p q r a b e) (or_true (named c.name (p ++ (a ∷ (q ++ (b ∷ r))))))

unfit_at : (p r : List Attribute) (a : Attribute) → fitting a ≡ false → all fitting (p ++ (a ∷ r)) ≡ false
unfit_at [] r a f = rw f
unfit_at (c ∷ p) r a f = rw (unfit_at p r a f) (and_false (fitting c))

faulty_so : (l : List Attribute) → Faulty l → faults l ≡ true
faulty_so l (Faulty.repeated p q r a b e n) = ap faults e ∙ rw (repeats_at p q r a b n)
faulty_so l (Faulty.misfit p r a e m) = ap faults e ∙ rw (unfit_at p r a (misfit_so a m)) (or_true (repeats (p ++ (a ∷ r))))

-- ---- 51

none_of : (P : Attribute → Type 0) (p : Attribute → Bool) → ((a : Attribute) → p a ≡ false → P a) → (l : List Attribute) → any p l ≡ false → All P l
unfolding any
none_of P p f [] e = All.none
none_of P p f (a ∷ l) e = go (p a) refl (λ g. none_of P p f l g) e
  where
    go : (t : Bool) → p a ≡ t → (any p l ≡ false → All P l) → t || any p l ≡ false → All P (a ∷ l)
    go true h again e = zero_one cc
    go false h again e = All.more (f a h) (again e)

of_none : (P : Attribute → Type 0) (p : Attribute → Bool) → ((a : Attribute) → P a → p a ≡ false) → {l : List Attribute} → All P l → any p l ≡ false
unfolding any
of_none P p f All.none = refl
of_none P p f (All.more {x = a} h hs) = rw (f a h) (of_none P p f hs)

no_id : (a : Attribute) → is_id a ≡ false → a.name ≡ id_name → ⊥
no_id a f e = let z : is_id a ≡ true = ap (λ (n : List ℕ). as_id (known_of n)) e ∙ ap as_id known_id in zero_one cc

no_date : (a : Attribute) → is_date a ≡ false → a.name ≡ date_name → ⊥
no_date a f e = let z : is_date a ≡ true = ap (λ (n : List ℕ). as_date (known_of n)) e ∙ ap as_date known_date in zero_one cc

no_cue : (a : Attribute) → is_signal a ≡ false → (c : Cue) → a.name ≡ cue_name c → ⊥
no_cue a f c e = let z : is_signal a ≡ true = ap (λ (n : List ℕ). as_signal (known_of n)) e ∙ ap as_signal (known_cue c) in zero_one cc

id_none : (a : Attribute) → (a.name ≡ id_name → ⊥) → is_id a ≡ false
id_none a n = go (known_as a.name)
  where
    go : {k : Known} → KnownAs a.name k → as_id k ≡ false
    go (id e) = absurd (n e)
    go (date e) = refl
    go (cue c e) = refl
    go (other x y z) = refl

date_none : (a : Attribute) → (a.name ≡ date_name → ⊥) → is_date a ≡ false
date_none a n = go (known_as a.name)
  where
    go : {k : Known} → KnownAs a.name k → as_date k ≡ false
    go (id e) = refl
    go (date e) = absurd (n e)
    go (cue c e) = refl
    go (other x y z) = refl

cue_none : (a : Attribute) → ((c : Cue) → a.name ≡ cue_name c → ⊥) → is_signal a ≡ false
cue_none a n = go (known_as a.name)
  where
    go : {k : Known} → KnownAs a.name k → as_signal k ≡ false
    go (id e) = refl
    go (date e) = refl
    go (cue c e) = absurd (n c e)
    go (other x y z) = refl

abbrev has : List Attribute → Bool
has l = any is_id l && (any is_date l && any is_signal l)

lacking_if : (l : List Attribute) → has l ≡ false → Lacking l
lacking_if l = go (any is_id l) refl (any is_date l) refl (any is_signal l) refl
  where
    go : (a : Bool) → any is_id l ≡ a → (b : Bool) → any is_date l ≡ b → (c : Bool) → any is_signal l ≡ c → a && (b && c) ≡ false → Lacking l
    go false p b q c r e = Lacking.no_id (none_of (λ a. a.name ≡ id_name → ⊥) is_id no_id l p)
    go true p false q c r e = Lacking.no_date (none_of (λ a. a.name ≡ date_name → ⊥) is_date no_date l q)
    go true p true q false r e = Lacking.no_cue (none_of (λ a. (c : Cue) → a.name ≡ cue_name c → ⊥) is_signal no_cue l r)
    go true p true q true r e = zero_one cc

lacking_so : (l : List Attribute) → Lacking l → has l ≡ false
lacking_so l (Lacking.no_id h) = rw (of_none (λ a. a.name ≡ id_name → ⊥) is_id id_none h)
lacking_so l (Lacking.no_date h) = rw (of_none (λ a. a.name ≡ date_name → ⊥) is_date date_none h) (and_false (any is_id l))
lacking_so l (Lacking.no_cue h) = rw (of_none (λ a. (c : Cue) → a.name ≡ cue_name c → ⊥) is_signal cue_none h, and_false (any is_date l)) (and_false (any is_id l))

-- ---- the answer

sound : (l : List Attribute) → (Faulty l → ⊥) → faults l ≡ false
sound l n = go (faults l) refl
  where
    go : (b : Bool) → faults l ≡ b → b ≡ false
    go true e = absurd (n (faulty_if l e))
    go false e = refl

complete : (l : List Attribute) → (Lacking l → ⊥) → has l ≡ true
complete l n = go (has l) refl
  where
    go : (b : Bool) → has l ≡ b → b ≡ true
    go true e = refl
    go false e = absurd (n (lacking_if l e))

module _ (line target : List ℕ) where
  fine_so : (l : List Attribute) → Line l line → (Faulty l → ⊥) → (Lacking l → ⊥) → judge (attributes_of line) ≡ fine l
  fine_so l h f n = (judged_by line l h).0 ∙ rw (sound l f, complete l n)

  pub answer_is : {answer : Result Reading LineRefusal} {later : List ℕ} → LineRead line target answer later → (answer ≡ read_of line target) × (later ≡ read_later line target)
  unfolding read_by section_made answer_of later_of
  answer_is (LineRead.unlisted n i) = let j = (refused_none line n).0 in (rw j, rw j)
  answer_is (LineRead.faulty l h f i) = let j : judge (attributes_of line) ≡ fault MalformedLine = (judged_by line l h).0 ∙ rw (faulty_so l f) in (rw j, rw j)
  answer_is (LineRead.lacking l h f n i) = let j : judge (attributes_of line) ≡ fault AttributeMissing = (judged_by line l h).0 ∙ rw (sound l f, lacking_so l n) in (rw j, rw j)
  answer_is (LineRead.short l h f n s i) = let j = fine_so l h f n in let k = lt-leb (length (section_of l)) (length target) s in (rw (j, k), rw (j, k))
  answer_is (LineRead.its l h f n s) = let j = fine_so l h f n in let k = le-leb (length (section_of l)) (length target) s in (rw (j, k), rw (j, k))

  answered : (answer : Result Reading LineRefusal) × (later : List ℕ) × LineRead line target answer later
  answered = go (attributes_of line) refl
    where
      judged : (l : List Attribute) → Line l line → (a : Bool) → faults l ≡ a → (b : Bool) → has l ≡ b → (answer : Result Reading LineRefusal) × (later : List ℕ) × LineRead line target answer later
      judged l h true f b n = (_, _, LineRead.faulty l h (faulty_if l f) refl)
      judged l h false f false n = (_, _, LineRead.lacking l h (λ x. let z = faulty_so l x in zero_one cc) (lacking_if l n) refl)
      judged l h false f true n =
          let none : Faulty l → ⊥ = λ x. let z = faulty_so l x in zero_one cc in
          let all : Lacking l → ⊥ = λ x. let z = lacking_so l x in zero_one cc in
          by_cases (length target) (length (section_of l)) (λ s. (_, _, LineRead.short l h none all s refl)) (λ s. (_, _, LineRead.its l h none all s))

      go : (o : Option (List Attribute)) → attributes_of line ≡ o → (answer : Result Reading LineRefusal) × (later : List ℕ) × LineRead line target answer later
      go None e = (_, _, LineRead.unlisted (λ l h. let z = line_exact line l h in zero_one cc) refl)
      go (Some l) e = judged l (line_sound line l e) (faults l) refl (has l) refl

  pub reads_so : {answer : Result Reading LineRefusal} {later : List ℕ} → answer ≡ read_of line target → later ≡ read_later line target → LineRead line target answer later
  reads_so {answer} {later} e f =
      let x = answered in
      let y = answer_is x.2 in
      subst (λ (v : List ℕ). LineRead line target answer v) (y.1 ∙ sym f) (subst (λ (r : Result Reading LineRefusal). LineRead line target r x.1) (y.0 ∙ sym e) x.2)

  pub reads_one : (a b : Result Reading LineRefusal) (x y : List ℕ) → LineRead line target a x → LineRead line target b y → (a ≡ b) × (x ≡ y)
  reads_one a b x y h g = let p = answer_is h in let q = answer_is g in (p.0 ∙ sym q.0, p.1 ∙ sym q.1)
