-- What a writer's measure says of an insert, a time and a private command.
use Prim.Native.Nat.{ℕ, zero, suc, ◌+◌, ◌*◌, ◌/◌, ◌^◌, ◌<◌, ◌≤◌}
use mathlib.Core.Bool.{Bool, true, false, not, ◌&&◌}
use mathlib.Core.List.{List, [], ◌∷◌, ◌++◌}
use mathlib.Core.Logic.{⊎_elim}
use mathlib.Core.Path.{◌≡◌, refl, ap, ap₂, sym, ◌∙◌}
use native.Mathlib.Nat.{zero-add}
use native.Mathlib.Omega.{arith}
use lib.Dec.{ltb, eqb}
use lib.ListN.{length, take, get_or, replicate}
use lib.Seq.{length-take-le, get_or-take}
use denote.Enum.Declared.{tag_of}
use types.Run.{OneOf}
use borrow.Author.Tests.{lt-ltb, le-leb, lt-leb}
use Rattle.command.specs.Command.{array, count_in, private, Tags}
use Rattle.command.specs.Writable.{alike, unmixed, writable_insert}
use Rattle.command.specs.Insert as insert
use Rattle.command.specs.Insert.{WithComponents, immediate, blank, by_program, program_time, count, out_of_network, insert_of}
use Rattle.splice_time.specs.Break.{lasting, break_ticks}
use Rattle.command.specs.declared.Private.{Private}
use Rattle.command.specs.declared.SpliceCommand.{SpliceCommand}
use Rattle.command.specs.declared.components.InsertComponent.{InsertComponent}
use Rattle.command.specs.declared.insert.InsertDetail.{InsertDetail}
use Rattle.command.specs.declared.insert.SpliceInsert.{SpliceInsert}
use Rattle.command.specs.declared.insert.SpliceDetail.{SpliceDetail}
use Rattle.command.specs.declared.insert.SpliceMode.{SpliceMode}
use Rattle.command.proofs.Filling.{blank_length}
use Rattle.command.specs.contracts.SpliceCommand.{the_type}
use Rattle.splice_time.specs.Time.{splice_time, ticks, not_immediate}
use Rattle.splice_time.specs.declared.SpliceTime.{SpliceTime}
use Rattle.splice_time.specs.declared.SpliceTime.TheVariants.{Immediate, Unspecified, At}
use Rattle.bit_stores.specs.Written.{refusal_in, bytes_in}
use Rattle.table.specs.Bits.{pick, bytes_of}
use Rattle.table.specs.Table.{flag_number, number, part, remaining}
use Rattle.table.specs.Writing as writing
use Rattle.table.specs.Writing.{Content, Field, bits, run, rest, walk, seen, within, contents, print, Made, made, refused, make_of, make}
use Rattle.table.proofs.Bits.{length_bytes_n}
use Rattle.table.proofs.Lists.{and_assoc, and_true}
use Rattle.table.proofs.Walks.{past, past_append, print_length}
use Rattle.command_measure.specs.Fields.{ink, time_fields, unless_fields, list_fields, mode_fields, break_fields, automatic, tail_fields, end_fields, immediate_in, active_fields, insert_fields}
use Rattle.command_measure.specs.Made.{counted, times_fit, insert_made, command_made, measured_of}
use Rattle.command_measure.specs.Survey.{time_bytes, adding, surveyed, blanks_of, mode_bytes, break_bytes, measured, active_measured}
use Rattle.command_measure.specs.declared.Measured.{Measured}
use Rattle.command_measure.specs.declared.measure.Survey.{Survey}
use Rattle.command_measure.proofs.Surveys.{survey_fits, survey_alike, survey_blanks}
use Rattle.command_measure.proofs.Ties.{time_fields_lem, insert_fields_lem}
use Rattle.std.proofs.Common.{Some, None, Option}
use Rattle.splice_time.specs.declared.break_duration.SpliceDuration.{SpliceDuration}

and_one : (b : Bool) → b && true ≡ b
and_one true = refl
and_one false = refl

-- ---- what is made of fields that have no view
measured_pick : (w f : Bool) (p : List ℕ) (n : ℕ) → length p ≡ n * 8 → measured_of (pick w (pick f (made (bytes_of p)) (refused 33)) (refused 32)) ≡ measured w f n
unfolding measured_of bytes_in
measured_pick true true p n e =
    let z : length (bytes_of p) ≡ n = length_bytes_n (length p / 8) p ∙ omega arith in
    ap (λ (k : ℕ). record { refusal = 0; size = k }) z
measured_pick true false p n e = refl
measured_pick false f p n e = refl

measured_make : (writable : Bool) (lent : List ℕ) (fs : List Field) (n : ℕ) → seen lent fs ≡ true → length (print (contents lent fs)) ≡ n * 8 → measured_of (make_of writable lent fs) ≡ measured (within fs) writable n
measured_make writable lent fs n s e = rw s (measured_pick (within fs) writable (print (contents lent fs)) n e)

pub measured_same : {u v a b : Bool} {n k : ℕ} → u ≡ v → a ≡ b → n ≡ k → measured u a n ≡ measured v b k
measured_same {u} {v} {a} {b} {n} {k} e f g = rw (e, f, g)

-- no view
abbrev pub Plain : List Field → Type 0
Plain [] = Unit {0}
Plain (bits w v ∷ fs) = Plain fs
Plain (run n from ∷ fs) = ⊥
Plain (rest m ∷ fs) = Plain fs

pub plain_seen : (lent : List ℕ) (fs : List Field) → Plain fs → seen lent fs ≡ true
plain_seen lent [] h = refl
plain_seen lent (bits w v ∷ fs) h = plain_seen lent fs h
plain_seen lent (run n from ∷ fs) h = absurd h
plain_seen lent (rest m ∷ fs) h = plain_seen lent fs h

plain_append : (fs gs : List Field) → Plain fs → Plain gs → Plain (fs ++ gs)
plain_append [] gs h k = k
plain_append (bits w v ∷ fs) gs h k = plain_append fs gs h k
plain_append (run n from ∷ fs) gs h k = absurd h
plain_append (rest m ∷ fs) gs h k = plain_append fs gs h k

contents_plain : (lent : List ℕ) (fs : List Field) → Plain fs → contents lent fs ≡ contents [] fs
contents_plain lent [] h = refl
contents_plain lent (bits w v ∷ fs) h = ap (λ (l : List Content). writing.number w v ∷ l) (contents_plain lent fs h)
contents_plain lent (run n from ∷ fs) h = absurd h
contents_plain lent (rest m ∷ fs) h = ap (λ (l : List Content). writing.count m ∷ l) (contents_plain lent fs h)

-- fields without a view are made the same of any lent bytes
make_plain : (writable : Bool) (lent : List ℕ) (fs : List Field) → Plain fs → make_of writable lent fs ≡ make_of writable [] fs
make_plain writable lent fs h = rw (plain_seen lent fs h, plain_seen [] fs h, contents_plain lent fs h)

pub within_append : (fs gs : List Field) → within (fs ++ gs) ≡ within fs && within gs
within_append [] gs = refl
within_append (bits w v ∷ fs) gs = ap (λ (b : Bool). ltb v (2 ^ w) && b) (within_append fs gs) ∙ and_assoc (ltb v (2 ^ w)) (within fs) (within gs)
within_append (run n from ∷ fs) gs = within_append fs gs
within_append (rest m ∷ fs) gs = within_append fs gs

-- ---- times
within_time : (t : SpliceTime) → within (time_fields t) ≡ ltb (ticks t) (2 ^ 33)
within_time Immediate = refl
within_time Unspecified = refl
within_time (At t) = and_one (ltb t (2 ^ 33))

plain_unless : (b : Bool) (t : SpliceTime) → Plain (unless_fields b t)
plain_unless true t = tt
plain_unless false Immediate = tt
plain_unless false Unspecified = tt
plain_unless false (At t) = tt

past_unless : (b : Bool) (t : SpliceTime) (at : ℕ) → past (unless_fields b t) at ≡ at + time_bytes b t * 8
past_unless true t at = omega arith
past_unless false Immediate at = omega arith
past_unless false Unspecified at = omega arith
past_unless false (At t) at = omega arith

pub within_unless : (t : SpliceTime) → within (unless_fields (immediate t) t) ≡ ltb (ticks t) (2 ^ 33)
within_unless Immediate = refl
within_unless Unspecified = refl
within_unless (At t) = and_one (ltb t (2 ^ 33))

within_timed : (b : Bool) (t : SpliceTime) → ltb (ticks t) (2 ^ 33) ≡ true → within (unless_fields b t) ≡ true
within_timed true t h = refl
within_timed false t h = within_time t ∙ h

timed_not : (t : SpliceTime) → not_immediate t ≡ not (immediate t)
timed_not Immediate = refl
timed_not Unspecified = refl
timed_not (At t) = refl

pub measured_time : (t : SpliceTime) → measured (ltb (ticks t) (2 ^ 33)) (not (immediate t)) (time_bytes false t) ≡ measured_of (make splice_time (not_immediate t) [] t)
measured_time t =
    let l : length (print (contents [] (time_fields t))) ≡ time_bytes false t * 8 =
    sym (zero-add (length (print (contents [] (time_fields t))))) ∙ print_length [] (time_fields t) 0 (plain_seen [] (time_fields t) (plain_unless false t)) ∙ past_unless false t 0 ∙ zero-add (time_bytes false t * 8) in
    sym (ap (λ (fs : List Field). measured_of (make_of (not_immediate t) [] fs)) (time_fields_lem t 0)
    ∙ measured_make (not_immediate t) [] (time_fields t) (time_bytes false t) (plain_seen [] (time_fields t) (plain_unless false t)) l
    ∙ ap₂ (λ (a b : Bool). measured a b (time_bytes false t)) (within_time t) (timed_not t))

-- ---- components
plain_list : (b : Bool) (cs : List InsertComponent) → Plain (list_fields b cs)
plain_list b [] = tt
plain_list b (c ∷ cs) = plain_append (unless_fields b c.splice_time) (list_fields b cs) (plain_unless b c.splice_time) (plain_list b cs)

past_list : (b : Bool) (cs : List InsertComponent) (at : ℕ) → past (list_fields b cs) at ≡ at + (surveyed b cs).bytes * 8
unfolding surveyed adding
past_list b [] at = omega arith
past_list b (c ∷ cs) at =
    past_append (unless_fields b c.splice_time) (list_fields b cs) (at + 8)
    ∙ past_list b cs (past (unless_fields b c.splice_time) (at + 8)) ∙ omega (arith, past_unless b c.splice_time (at + 8))

within_list : (b : Bool) (cs : List InsertComponent) → Tags cs → times_fit cs ≡ true → within (list_fields b cs) ≡ true
within_list b [] h e = refl
within_list b (c ∷ cs) h e =
    let a = and_true (ltb (ticks c.splice_time) (2 ^ 33)) (times_fit cs) e in
    rw (lt-ltb c.component_tag (2 ^ 8) h.0)
    (within_append (unless_fields b c.splice_time) (list_fields b cs) ∙ rw (within_timed b c.splice_time a.0) (within_list b cs h.1 a.1))

-- ---- the mode, the duration
plain_mode : (b : Bool) (k : SpliceMode) (cs : List InsertComponent) → Plain (mode_fields b k cs)
plain_mode b (SpliceMode.Program t) cs = plain_unless b t
plain_mode b (SpliceMode.Components n) cs = plain_list b cs

plain_break : (d : Option SpliceDuration) → Plain (break_fields d)
plain_break None = tt
plain_break (Some d) = tt

pub flag_within : (b : Bool) → ltb (flag_number b) 2 ≡ true
flag_within true = refl
flag_within false = refl

pub within_break : (d : Option SpliceDuration) → within (break_fields d) ≡ ltb (break_ticks d) (2 ^ 33)
within_break None = refl
within_break (Some d) = rw (flag_within (automatic d.return_mode)) (and_one (ltb d.duration (2 ^ 33)))

past_break : (d : Option SpliceDuration) (at : ℕ) → past (break_fields d) at ≡ at + break_bytes d * 8
past_break None at = omega arith
past_break (Some d) at = omega arith

module _ (i : InsertDetail) (cs : List InsertComponent) where
  past_mode : (k : SpliceMode) (b : Bool) (at : ℕ) → b ≡ insert.all_immediate (record { value = k; components = cs }) → past (mode_fields b k cs) at ≡ at + mode_bytes k (surveyed b cs).bytes * 8
  past_mode (SpliceMode.Program t) b at e = ap (λ (x : Bool). past (unless_fields x t) at) e ∙ past_unless (immediate t) t at
  past_mode (SpliceMode.Components n) b at e = past_list b cs (at + 8) ∙ omega arith

  within_mode : (k : SpliceMode) (b : Bool) → b ≡ insert.all_immediate (record { value = k; components = cs }) → count k < 256 → Tags cs → times_fit cs ≡ true
      → within (mode_fields b k cs) ≡ ltb (ticks (program_time k)) (2 ^ 33)
  within_mode (SpliceMode.Program t) b e n h f = ap (λ (x : Bool). within (unless_fields x t)) e ∙ within_unless t
  within_mode (SpliceMode.Components n) b e l h f = rw (lt-ltb n (2 ^ 8) l) (within_list b cs h f)

  pub plain_active : Plain (active_fields i cs)
  plain_active =
      let b = immediate_in i cs in
      plain_append (mode_fields b i.splice_mode cs) (end_fields i) (plain_mode b i.splice_mode cs)
      (plain_append (break_fields i.duration) (tail_fields i.unique_program_id i.avail_num i.avails_expected) (plain_break i.duration) tt)

  past_active : (at : ℕ) → past (active_fields i cs) at ≡ at + (5 + mode_bytes i.splice_mode (surveyed (immediate_in i cs) cs).bytes + break_bytes i.duration) * 8
  past_active at =
      let b = immediate_in i cs in
      let m = mode_fields b i.splice_mode cs in
      let d = break_fields i.duration in
      let t = tail_fields i.unique_program_id i.avail_num i.avails_expected in
      let a = at + 1 + 1 + 1 + 1 + 4 in
      past_append m (d ++ t) a ∙ past_append d t (past m a) ∙ omega (arith, past_mode i.splice_mode b a refl, past_break i.duration (past m a))

  within_active : count i.splice_mode < 256 → i.unique_program_id < 2 ^ 16 → i.avail_num < 256 → i.avails_expected < 256 → Tags cs → times_fit cs ≡ true
      → within (active_fields i cs) ≡ ltb (ticks (program_time i.splice_mode)) (2 ^ 33) && ltb (break_ticks i.duration) (2 ^ 33)
  within_active n p a x h f =
      let b = immediate_in i cs in
      let t = tail_fields i.unique_program_id i.avail_num i.avails_expected in
      let w : within t ≡ true = rw (lt-ltb i.unique_program_id (2 ^ 16) p, lt-ltb i.avail_num (2 ^ 8) a, lt-ltb i.avails_expected (2 ^ 8) x) in
      rw (flag_within (out_of_network i.network_indicator), flag_within (by_program i.splice_mode), flag_within (lasting i.duration), flag_within b)
      (within_append (mode_fields b i.splice_mode cs) (end_fields i)
      ∙ ap₂ (λ (u v : Bool). u && v) (within_mode i.splice_mode b refl n h f)
      (within_append (break_fields i.duration) t ∙ ap₂ (λ (u v : Bool). u && v) (within_break i.duration) w ∙ and_one (ltb (break_ticks i.duration) (2 ^ 33))))

-- ---- are all as the first is?
alike_first : (i : InsertDetail) (cs : List InsertComponent) → length cs ≡ count i.splice_mode → alike (immediate_in i cs) cs ≡ unmixed cs
alike_first i cs e = go i.splice_mode cs e
  where
    go : (k : SpliceMode) (cs : List InsertComponent) → length cs ≡ count k → alike (insert.all_immediate (record { value = k; components = cs })) cs ≡ unmixed cs
    go k [] e = refl
    go (SpliceMode.Program t) (c ∷ cs) e = absurd (omega arith)
    go (SpliceMode.Components n) (c ∷ cs) e = ap (λ (b : Bool). alike (b && immediate c.splice_time) (c ∷ cs)) (lt-ltb 0 n (omega arith))

-- ---- an insert
measured_either : (t w f : Bool) (m : Made) (n : ℕ) → (t ≡ true → measured_of m ≡ measured w f n) → measured (t && w) f n ≡ measured_of (pick t m (refused 32))
unfolding measured_of bytes_in
measured_either true w f m n e = sym (e refl)
measured_either false w f m n e = refl

pub measured_cancel : (event kept : ℕ) → event < 2 ^ 32
    → (let x : WithComponents SpliceInsert = record { value = record { splice_event_id = event; reserved = kept; splice_detail = SpliceDetail.Cancel }; components = [] } in
    measured (ltb kept 128) (eqb kept 127) 5 ≡ measured_of (insert_made x))
unfolding insert_made writable_insert
measured_cancel event kept h =
    let x : WithComponents SpliceInsert = record { value = record { splice_event_id = event; reserved = kept; splice_detail = SpliceDetail.Cancel }; components = [] } in
    let w : within (insert_fields x) ≡ ltb kept 128 = rw (lt-ltb event (2 ^ 32) h) (and_one (ltb kept 128)) in
    sym (ap (λ (fs : List Field). measured_of (make_of (writable_insert x) [] fs)) (insert_fields_lem event kept SpliceDetail.Cancel [] refl)
    ∙ measured_make (writable_insert x) [] (insert_fields x) 5 refl refl
    ∙ ap₂ (λ (a b : Bool). measured a b 5) w (and_one (eqb kept 127)))

module _ (event kept : ℕ) (i : InsertDetail) (cs : List InsertComponent) (counts : length cs ≡ count i.splice_mode) where
  pub measured_active : event < 2 ^ 32 → count i.splice_mode < 256 → i.unique_program_id < 2 ^ 16 → i.avail_num < 256 → i.avails_expected < 256 → Tags cs
      → (let x : WithComponents SpliceInsert = record { value = record { splice_event_id = event; reserved = kept; splice_detail = SpliceDetail.Insert i }; components = cs } in
      active_measured kept i.splice_mode i.duration (surveyed (immediate_in i cs) cs) ≡ measured_of (insert_made x))
  unfolding insert_made writable_insert active_measured
  measured_active ev n p a e h =
      let x : WithComponents SpliceInsert = record { value = record { splice_event_id = event; reserved = kept; splice_detail = SpliceDetail.Insert i }; components = cs } in
      let b = immediate_in i cs in
      let s = surveyed b cs in
      let w = ltb kept 128 && (ltb (ticks (program_time i.splice_mode)) (2 ^ 33) && ltb (break_ticks i.duration) (2 ^ 33)) in
      let size = 10 + mode_bytes i.splice_mode s.bytes + break_bytes i.duration in
      let l : length (print (contents [] (insert_fields x))) ≡ size * 8 =
      sym (zero-add (length (print (contents [] (insert_fields x))))) ∙ print_length [] (insert_fields x) 0 (plain_seen [] (insert_fields x) (plain_active i cs)) ∙ past_active i cs 40 ∙ omega arith in
      let writable : writable_insert x ≡ eqb kept 127 && s.alike = ap (λ (y : Bool). eqb kept 127 && y) (sym (survey_alike b cs ∙ alike_first i cs counts)) in
      let wide : times_fit cs ≡ true → within (insert_fields x) ≡ w = λ f. rw (lt-ltb event (2 ^ 32) ev) (ap (λ (y : Bool). ltb kept 128 && y) (within_active i cs n p a e h f)) in
      let made_so : times_fit cs ≡ true → measured_of (make_of (writable_insert x) [] (walk insert.insert x 0).fields) ≡ measured w (eqb kept 127 && s.alike) size = λ f.
      ap (λ (fs : List Field). measured_of (make_of (writable_insert x) [] fs)) (insert_fields_lem event kept (SpliceDetail.Insert i) cs counts)
      ∙ measured_make (writable_insert x) [] (insert_fields x) size (plain_seen [] (insert_fields x) (plain_active i cs)) l
      ∙ ap₂ (λ (u v : Bool). measured u v size) (wide f) writable in
      ap (λ (t : Bool). measured (t && w) (eqb kept 127 && s.alike) size) (survey_fits b cs)
      ∙ measured_either (times_fit cs) w (eqb kept 127 && s.alike) (make_of (writable_insert x) [] (walk insert.insert x 0).fields) size made_so

-- ---- the first place of the array says whether all is immediate
pub get_d_any : {A : Type 0} (l : List A) (i : ℕ) (d e : A) → i < length l → get_or l i d ≡ get_or l i e
get_d_any [] i d e h = absurd (omega arith)
get_d_any (a ∷ l) zero d e h = refl
get_d_any (a ∷ l) (suc i) d e h = get_d_any l i d e (omega arith)

pub listed_now : (k : SpliceMode) (n : ℕ) (places : List InsertComponent) → k ≡ SpliceMode.Components n
    → ltb 0 n && immediate (get_or places 0 blank).splice_time ≡ insert.all_immediate (record { value = k; components = take (count k) places })
listed_now k n places e = rw e (go n)
  where
    go : (n : ℕ) → ltb 0 n && immediate (get_or places 0 blank).splice_time ≡ insert.all_immediate (record { value = SpliceMode.Components n; components = take n places })
    go zero = refl
    go (suc n) = ap (λ (c : InsertComponent). ltb 0 (suc n) && immediate c.splice_time) (sym (get_or-take (suc n) places 0 blank (omega arith)))

-- no blank component is immediate
blanks_timed : (n m : ℕ) → ltb 0 n && immediate (get_or (take n (replicate m blank)) 0 blank).splice_time ≡ false
blanks_timed zero m = refl
blanks_timed (suc n) zero = rw (lt-ltb 0 (suc n) (omega arith))
blanks_timed (suc n) (suc m) = rw (lt-ltb 0 (suc n) (omega arith))

blanks_are : (k : SpliceMode) → count k ≤ 255
    → (let cs = take (count k) (array []) in
    (blanks_of k ≡ surveyed (insert.all_immediate (record { value = k; components = cs })) cs) × Tags cs)
unfolding array surveyed blanks_of
blanks_are (SpliceMode.Program t) h = (refl, tt)
blanks_are (SpliceMode.Components n) h =
    let r = survey_blanks n 255 h in
    (r.0 ∙ ap (λ (b : Bool). surveyed b (take n (replicate 255 blank))) (sym (blanks_timed n 255)), r.1)

pub blanks_bytes : (k : SpliceMode) → count k ≤ 255 → (blanks_of k).bytes ≤ 1530
unfolding blanks_of
blanks_bytes k h = omega arith

-- ---- a private command
module _ (p : Private) (lent : List ℕ) where
  pub private_fields : (walk private p 0).fields ≡ bits 32 p.identifier ∷ rest p.private_bytes.len ∷ run p.private_bytes.len p.private_bytes.at ∷ []
  unfolding private number part remaining
  private_fields = refl

  pub private_outside : length lent < p.private_bytes.at + p.private_bytes.len → record { refusal = 31; size = 0 } ≡ measured_of (make private true lent p)
  unfolding measured_of bytes_in
  private_outside h = rw (private_fields, lt-leb _ _ h)

  pub private_inside : p.identifier < 2 ^ 32 → p.private_bytes.at + p.private_bytes.len ≤ length lent → record { refusal = 0; size = 4 + p.private_bytes.len } ≡ measured_of (make private true lent p)
  private_inside i h =
      let fs : List Field = bits 32 p.identifier ∷ rest p.private_bytes.len ∷ run p.private_bytes.len p.private_bytes.at ∷ [] in
      let s : seen lent fs ≡ true = rw (le-leb _ _ h) in
      let w : within fs ≡ true = rw (lt-ltb p.identifier (2 ^ 32) i) in
      let l : length (print (contents lent fs)) ≡ (4 + p.private_bytes.len) * 8 =
      sym (zero-add (length (print (contents lent fs)))) ∙ print_length lent fs 0 s ∙ omega arith in
      sym (ap (λ (fs : List Field). measured_of (make_of true lent fs)) private_fields ∙ measured_make true lent fs (4 + p.private_bytes.len) s l
      ∙ ap (λ (a : Bool). measured a true (4 + p.private_bytes.len)) w)

-- ---- as they are handed in
pub cancel_count : (d : SpliceDetail) → d ≡ SpliceDetail.Cancel → count (insert_of d).splice_mode ≤ 255
cancel_count d e = rw e (omega arith)

pub active_count : (d : SpliceDetail) (x : InsertDetail) → d ≡ SpliceDetail.Insert x → count x.splice_mode ≤ 255 → count (insert_of d).splice_mode ≤ 255
active_count d x e h = rw e h

pub measured_parts : (r : Measured) (m : Made) → r ≡ measured_of m → (r.refusal ≡ refusal_in m) × (r.size ≡ length (bytes_in m))
unfolding measured_of
measured_parts r m e = rw e (refl, refl)

pub countable : (c d : SpliceCommand) → c ≡ d → count_in d ≤ 255 → count_in c ≤ 255
countable c d e h = rw e h

pub insert_cancelled : (i : SpliceInsert) (places : List InsertComponent) → i.splice_detail ≡ SpliceDetail.Cancel → i.splice_event_id < 2 ^ 32
    → measured (ltb i.reserved 128) (eqb i.reserved 127) 5 ≡ measured_of (insert_made (counted i places))
insert_cancelled i places e h = go i.splice_event_id i.reserved i.splice_detail e h
  where
    go : (event kept : ℕ) (d : SpliceDetail) → d ≡ SpliceDetail.Cancel → event < 2 ^ 32
        → measured (ltb kept 128) (eqb kept 127) 5 ≡ measured_of (insert_made (counted (record { splice_event_id = event; reserved = kept; splice_detail = d }) places))
    go event kept d e h = rw e (measured_cancel event kept h)

module _ (i : SpliceInsert) (x : InsertDetail) (places : List InsertComponent) (is : i.splice_detail ≡ SpliceDetail.Insert x) (there : count x.splice_mode ≤ length places) where
  pub insert_active : i.splice_event_id < 2 ^ 32 → count x.splice_mode < 256 → x.unique_program_id < 2 ^ 16 → x.avail_num < 256 → x.avails_expected < 256
      → (let cs = take (count x.splice_mode) places in
      Tags cs → active_measured i.reserved x.splice_mode x.duration (surveyed (immediate_in x cs) cs) ≡ measured_of (insert_made (counted i places)))
  insert_active ev n p a e h = go i.splice_event_id i.reserved i.splice_detail is ev
    where
      go : (event kept : ℕ) (d : SpliceDetail) → d ≡ SpliceDetail.Insert x → event < 2 ^ 32
          → (let cs = take (count x.splice_mode) places in
          active_measured kept x.splice_mode x.duration (surveyed (immediate_in x cs) cs) ≡ measured_of (insert_made (counted (record { splice_event_id = event; reserved = kept; splice_detail = d }) places)))
      go event kept d is ev = rw is (measured_active event kept x (take (count x.splice_mode) places) (length-take-le (count x.splice_mode) places there) ev n p a e h)

-- whose components are all blank
pub blanks_active : (i : SpliceInsert) (x : InsertDetail) → i.splice_detail ≡ SpliceDetail.Insert x → count x.splice_mode ≤ 255
    → i.splice_event_id < 2 ^ 32 → x.unique_program_id < 2 ^ 16 → x.avail_num < 256 → x.avails_expected < 256
    → active_measured i.reserved x.splice_mode x.duration (blanks_of x.splice_mode) ≡ measured_of (insert_made (counted i (array [])))
blanks_active i x is n ev p a e =
    let s = blanks_are x.splice_mode n in
    ap (λ (y : Survey). active_measured i.reserved x.splice_mode x.duration y) s.0
    ∙ insert_active i x (array []) is (omega (arith, blank_length)) ev (omega arith) p a e s.1

-- ---- an insert that counts no component is the same with any array, and so is a command that is no insert
pub none_counted : (i : SpliceInsert) (p q : List InsertComponent) → count (insert_of i.splice_detail).splice_mode ≡ 0 → counted i p ≡ counted i q
none_counted i p q e =
    let c : List InsertComponent → ℕ → WithComponents SpliceInsert = λ l n. record { value = i; components = take n l } in
    ap (c p) e ∙ sym (ap (c q) e)

pub cancel_none : (d : SpliceDetail) → d ≡ SpliceDetail.Cancel → count (insert_of d).splice_mode ≡ 0
cancel_none d e = rw e

pub program_none : (d : SpliceDetail) (x : InsertDetail) (t : SpliceTime) → d ≡ SpliceDetail.Insert x → x.splice_mode ≡ SpliceMode.Program t → count (insert_of d).splice_mode ≡ 0
program_none d x t e k = rw e (ap count k)

no_insert : OneOf (0 ∷ 2 ∷ 3 ∷ 4 ∷ []) 1 → ⊥
no_insert o = ⊎_elim (λ e. omega (arith, e)) (λ p. ⊎_elim (λ e. omega (arith, e)) (λ q. ⊎_elim (λ e. omega (arith, e)) (λ e. omega (arith, e)) q) p) o

pub made_without_components : (c : SpliceCommand) (p q : List InsertComponent) (lent : List ℕ) → OneOf (0 ∷ 2 ∷ 3 ∷ 4 ∷ []) (tag_of the_type c) → command_made c p lent ≡ command_made c q lent
unfolding command_made
made_without_components SpliceCommand.SpliceNull p q lent o = refl
made_without_components (SpliceCommand.SpliceInsert i) p q lent o = absurd (no_insert o)
made_without_components (SpliceCommand.TimeSignal t) p q lent o = refl
made_without_components SpliceCommand.BandwidthReservation p q lent o = refl
made_without_components (SpliceCommand.PrivateCommand x) p q lent o = refl

module _ (c : SpliceCommand) (places : List InsertComponent) (lent : List ℕ) where
  pub insert_is : (i : SpliceInsert) → c ≡ SpliceCommand.SpliceInsert i → insert_made (counted i places) ≡ command_made c places lent
  unfolding command_made
  insert_is i e = rw e

  pub command_null : c ≡ SpliceCommand.SpliceNull → record { refusal = 0; size = 0 } ≡ measured_of (command_made c places lent)
  unfolding command_made measured_of bytes_in
  command_null e = rw e

  pub command_bandwidth : c ≡ SpliceCommand.BandwidthReservation → record { refusal = 0; size = 0 } ≡ measured_of (command_made c places lent)
  unfolding command_made measured_of bytes_in
  command_bandwidth e = rw e

  pub command_insert : (i : SpliceInsert) → c ≡ SpliceCommand.SpliceInsert i → measured_of (insert_made (counted i places)) ≡ measured_of (command_made c places lent)
  command_insert i e = ap measured_of (insert_is i e)

  pub command_time : (t : SpliceTime) → c ≡ SpliceCommand.TimeSignal t → measured_of (make splice_time (not_immediate t) [] t) ≡ measured_of (command_made c places lent)
  unfolding command_made
  command_time t e = rw e

  pub command_private : (p : Private) → c ≡ SpliceCommand.PrivateCommand p → measured_of (make private true lent p) ≡ measured_of (command_made c places lent)
  unfolding command_made
  command_private p e = rw e

-- ---- whole bytes
pub time_aligned : (t : SpliceTime) → (n : ℕ) × (length (ink (time_fields t)) ≡ n * 8)
time_aligned Immediate = (1, refl)
time_aligned Unspecified = (1, refl)
time_aligned (At t) = (5, refl)

pub insert_aligned : (event kept : ℕ) (d : SpliceDetail) (cs : List InsertComponent)
    → (let x : WithComponents SpliceInsert = record { value = record { splice_event_id = event; reserved = kept; splice_detail = d }; components = cs } in
    (n : ℕ) × (length (ink (insert_fields x)) ≡ n * 8))
insert_aligned event kept SpliceDetail.Cancel cs = (5, refl)
insert_aligned event kept (SpliceDetail.Insert i) cs =
    let x : WithComponents SpliceInsert = record { value = record { splice_event_id = event; reserved = kept; splice_detail = SpliceDetail.Insert i }; components = cs } in
    let n = 10 + mode_bytes i.splice_mode (surveyed (immediate_in i cs) cs).bytes + break_bytes i.duration in
    (n, sym (zero-add (length (ink (insert_fields x)))) ∙ print_length [] (insert_fields x) 0 (plain_seen [] (insert_fields x) (plain_active i cs)) ∙ past_active i cs 40 ∙ omega arith)

-- ---- of any lent bytes
pub time_made : (t : SpliceTime) (lent : List ℕ) → make splice_time (not_immediate t) lent t ≡ make splice_time (not_immediate t) [] t
time_made t lent =
    ap (make_of (not_immediate t) lent) (time_fields_lem t 0) ∙ make_plain (not_immediate t) lent (time_fields t) (plain_unless false t) ∙ sym (ap (make_of (not_immediate t) []) (time_fields_lem t 0))

pub insert_made_of : (event kept : ℕ) (d : SpliceDetail) (cs : List InsertComponent) (lent : List ℕ) → length cs ≡ count (insert_of d).splice_mode
    → (let x : WithComponents SpliceInsert = record { value = record { splice_event_id = event; reserved = kept; splice_detail = d }; components = cs } in
    make insert.insert (writable_insert x) lent x ≡ make insert.insert (writable_insert x) [] x)
insert_made_of event kept d cs lent e =
    let x : WithComponents SpliceInsert = record { value = record { splice_event_id = event; reserved = kept; splice_detail = d }; components = cs } in
    let f = insert_fields_lem event kept d cs e in
    ap (make_of (writable_insert x) lent) f ∙ make_plain (writable_insert x) lent (insert_fields x) (plain d) ∙ sym (ap (make_of (writable_insert x) []) f)
  where
    plain : (d : SpliceDetail) → Plain (insert_fields (record { value = record { splice_event_id = event; reserved = kept; splice_detail = d }; components = cs }))
    plain SpliceDetail.Cancel = tt
    plain (SpliceDetail.Insert i) = plain_active i cs
