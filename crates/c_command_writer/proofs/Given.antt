-- The command that words make: its numbers are of their types, and it is the one whose words they are.
use Prim.Native.Nat.{ℕ, zero, suc, ◌+◌, ◌%◌, ◌^◌, ◌<◌}
use mathlib.Core.Bool.{Bool, true, false, not, ◌&&◌}
use mathlib.Core.List.{List, [], ◌∷◌, ◌++◌, map}
use mathlib.Core.Path.{◌≡◌, refl, ap, sym, ◌∙◌}
use native.Mathlib.Nat.{mod-eq_of_lt, mod-lt}
use native.Mathlib.Omega.{arith}
use lib.Dec.{eqb, ltb, leb, lit<}
use lib.ListN.{length, get_or, drop}
use lib.Seq.{get_or-drop, drop-drop}
use borrow.Author.Tests.{ltb-true, lt-ltb, le-leb, eqb-true, eqb-false, ne_eqb}
use Rattle.command.specs.Command.{count_in, of_private}
use Rattle.command.specs.Insert as insert
use Rattle.splice_time.specs.Break.{break_ticks}
use Rattle.command.specs.Insert.{program_time}
use Rattle.command.specs.declared.SpliceCommand.{SpliceCommand}
use Rattle.command.specs.declared.components.InsertComponent.{InsertComponent}
use Rattle.command.specs.declared.insert.SpliceDetail.{SpliceDetail}
use Rattle.command.specs.declared.insert.SpliceMode.{SpliceMode}
use Rattle.command_measure.specs.Made.{times_fit}
use Rattle.command.specs.Command.{Tags}
use Rattle.c_section.specs.FlatCommand.{flat_mode, active_insert, insert_head, flat_insertion, no_command, flat_command, flat_component}
use Rattle.c_section.specs.declared.FlatTime.{FlatTime}
use Rattle.c_section.specs.declared.commands.FlatCommand.{FlatCommand}
use Rattle.c_section.specs.declared.commands.FlatInsert.{FlatInsert}
use Rattle.splice_time.specs.Time.{ticks}
use Rattle.splice_time.specs.declared.SpliceTime.{SpliceTime}
use Rattle.names.specs.declared.flags.ReturnMode.{ReturnMode}
use Rattle.table.proofs.Lists.{zero_one, and_true, and_assoc}
use Rattle.table.specs.Bits.{pick}
use Rattle.c_command_writer.specs.CommandGiven.{mode_in, break_in, insert_in, command_in, time_from, view_from, mode_from, break_from, insert_from, insertion_from, command_from, command_given, component_from, own_component}
use Rattle.c_command_writer.specs.CommandWords.{command_words, command_widths, component_words, component_widths, places_words, places_given, command_seen}
use Rattle.c_command_writer.specs.Words.{word, within, same, places_of, each_place}
use Rattle.c_command_writer.proofs.Back.{words_back, command_back, time_back}
use Rattle.c_command_writer.proofs.Typed.{TypedMode, TypedDetail, Typed}
use Rattle.std.proofs.Common.{Some, None}

-- ---- words that are the same, and words within their widths
pub same_at : (own words : List ℕ) → same own words ≡ true → (i : ℕ) → i < length own → word words i ≡ word own i
unfolding same
same_at [] words e i h = absurd (omega arith)
same_at (x ∷ own) words e zero h = eqb-true (word words 0) x (and_true (eqb (word words 0) x) (same own (drop 1 words)) e).0
same_at (x ∷ own) words e (suc i) h =
    let r = same_at own (drop 1 words) (and_true (eqb (word words 0) x) (same own (drop 1 words)) e).1 i (omega arith) in
    let k : 1 + i ≡ suc i = omega arith in
    sym (get_or-drop 1 words i 0 ∙ ap (λ (j : ℕ). get_or words j 0) k) ∙ r

pub within_at : (widths words : List ℕ) → within widths words ≡ true → (i : ℕ) → i < length widths → word words i < 2 ^ get_or widths i 0
unfolding within
within_at [] words e i h = absurd (omega arith)
within_at (w ∷ widths) words e zero h = ltb-true (word words 0) (2 ^ w) (and_true (ltb (word words 0) (2 ^ w)) (within widths (drop 1 words)) e).0
within_at (w ∷ widths) words e (suc i) h =
    let r = within_at widths (drop 1 words) (and_true (ltb (word words 0) (2 ^ w)) (within widths (drop 1 words)) e).1 i (omega arith) in
    let k : 1 + i ≡ suc i = omega arith in
    rw (get_or-drop 1 words i 0 ∙ ap (λ (j : ℕ). get_or words j 0) k) at r

pub within_same : (widths own words : List ℕ) → length widths ≡ length own → same own words ≡ true → within widths words ≡ within widths own
unfolding within same
within_same [] own words l e = refl
within_same (w ∷ widths) [] words l e = absurd (omega arith)
within_same (w ∷ widths) (x ∷ own) words l e =
    let a = and_true (eqb (word words 0) x) (same own (drop 1 words)) e in
    rw (eqb-true (word words 0) x a.0) (ap (λ (b : Bool). ltb x (2 ^ w) && b) (within_same widths own (drop 1 words) (omega arith) a.1))

pub same_append : (a b words : List ℕ) → same (a ++ b) words ≡ same a words && same b (drop (length a) words)
unfolding same
same_append [] b words = refl
same_append (x ∷ a) b words =
    let k : 1 + length a ≡ suc (length a) = omega arith in
    let next : drop (length a) (drop 1 words) ≡ drop (suc (length a)) words = drop-drop (length a) 1 words ∙ ap (λ (j : ℕ). drop j words) k in
    ap (λ (t : Bool). eqb (word words 0) x && t) (same_append a b (drop 1 words) ∙ ap (λ (l : List ℕ). same a (drop 1 words) && same b l) next)
    ∙ and_assoc (eqb (word words 0) x) (same a (drop 1 words)) (same b (drop (suc (length a)) words))

-- ---- the command that words make is that whose words they are
own_in : (f : FlatCommand) (words : List ℕ) → same (command_words f) words ≡ true → command_in words ≡ f
unfolding command_in insert_in mode_in break_in command_words
own_in f words e =
    let w : (i : ℕ) → i < 21 → word words i ≡ word (command_words f) i = same_at (command_words f) words e in
    rw (
      w 0 (omega arith),
      w 1 (omega arith),
      w 2 (omega arith),
      w 3 (omega arith),
      w 4 (omega arith),
      w 5 (omega arith),
      w 6 (omega arith),
      w 7 (omega arith),
      w 8 (omega arith),
      w 9 (omega arith),
      w 10 (omega arith),
      w 11 (omega arith),
      w 12 (omega arith),
      w 13 (omega arith),
      w 14 (omega arith),
      w 15 (omega arith),
      w 16 (omega arith),
      w 17 (omega arith),
      w 18 (omega arith),
      w 19 (omega arith),
      w 20 (omega arith),
    )

-- its numbers are of their types if the words are within their widths
own_typed : (c : SpliceCommand) → within command_widths (command_words (flat_command c)) ≡ true → Typed c
unfolding command_widths command_words flat_command flat_insertion active_insert insert_head flat_mode
own_typed SpliceCommand.SpliceNull h = tt
own_typed (SpliceCommand.SpliceInsert x) h = go x.splice_event_id x.reserved x.splice_detail h
  where
    mode : (m : SpliceMode) → (flat_mode m).component_count < 256 → TypedMode m
    mode (SpliceMode.Program t) h = tt
    mode (SpliceMode.Components n) h = h

    go : (event kept : ℕ) (d : SpliceDetail) → within command_widths (command_words (flat_command (SpliceCommand.SpliceInsert (record { splice_event_id = event; reserved = kept; splice_detail = d })))) ≡ true
        → (event < 2 ^ 32) × (kept < 256) × TypedDetail d
    go event kept SpliceDetail.Cancel h =
        let w = within_at command_widths _ h in
        (w 2 (omega arith), omega (arith, w 4 (omega arith)), tt)
    go event kept (SpliceDetail.Insert i) h =
        let w = within_at command_widths _ h in
        (w 2 (omega arith), omega (arith, w 4 (omega arith)), (w 13 (omega arith), w 14 (omega arith), w 15 (omega arith), mode i.splice_mode (w 9 (omega arith))))
own_typed (SpliceCommand.TimeSignal t) h = tt
own_typed SpliceCommand.BandwidthReservation h = tt
own_typed (SpliceCommand.PrivateCommand p) h = within_at command_widths _ h 18 (omega arith)

pub own_given : (c : SpliceCommand) (words : List ℕ) → within command_widths words ≡ true → same (command_words (flat_command c)) words ≡ true → command_given words ≡ c
unfolding command_widths command_words
own_given c words w e =
    ap command_from (own_in (flat_command c) words e ∙ sym (words_back (flat_command c)))
    ∙ command_back c (own_typed c (sym (within_same command_widths (command_words (flat_command c)) words refl e) ∙ w))

-- ---- by its kind: what holds of the command of each kind that the words may make
from_types : (P : SpliceCommand → Type 0) (f : FlatCommand)
    → (f.splice_command_type ≡ 0x05 → P (SpliceCommand.SpliceInsert (insertion_from f.insert)))
    → (f.splice_command_type ≡ 0x06 → P (SpliceCommand.TimeSignal (time_from f.splice_time)))
    → (f.splice_command_type ≡ 0x07 → P SpliceCommand.BandwidthReservation)
    → (f.splice_command_type ≡ 0xff → P (SpliceCommand.PrivateCommand (record { identifier = f.identifier % 2 ^ 32; private_bytes = view_from f.private_bytes })))
    → ((f.splice_command_type ≡ 0x05 → ⊥) → (f.splice_command_type ≡ 0xff → ⊥) → P SpliceCommand.SpliceNull)
    → P (command_from f)
unfolding command_from
from_types P f insert time bandwidth private null = go (eqb k 0x05) refl (eqb k 0x06) refl (eqb k 0x07) refl (eqb k 0xff) refl
  where
    k : ℕ
    k = f.splice_command_type

    go : (b₅ : Bool) → eqb k 0x05 ≡ b₅ → (b₆ : Bool) → eqb k 0x06 ≡ b₆ → (b₇ : Bool) → eqb k 0x07 ≡ b₇ → (b₈ : Bool) → eqb k 0xff ≡ b₈
        → P (pick b₅ (SpliceCommand.SpliceInsert (insertion_from f.insert)) (pick b₆ (SpliceCommand.TimeSignal (time_from f.splice_time)) (pick b₇ SpliceCommand.BandwidthReservation
        (pick b₈ (SpliceCommand.PrivateCommand (record { identifier = f.identifier % 2 ^ 32; private_bytes = view_from f.private_bytes })) SpliceCommand.SpliceNull))))
    go true e b₆ e₆ b₇ e₇ b₈ e₈ = insert (eqb-true k 0x05 e)
    go false e true e₆ b₇ e₇ b₈ e₈ = time (eqb-true k 0x06 e₆)
    go false e false e₆ true e₇ b₈ e₈ = bandwidth (eqb-true k 0x07 e₇)
    go false e false e₆ false e₇ true e₈ = private (eqb-true k 0xff e₈)
    go false e false e₆ false e₇ false e₈ = null (eqb-false k 0x05 e) (eqb-false k 0xff e₈)

-- ---- its numbers are of their types, whatever the words are
below : (x m : ℕ) → 0 < m → x % m < m
below x m h = mod-lt x {m = m} h

detail_typed : (i : FlatInsert) (b : Bool) → TypedDetail (pick b SpliceDetail.Cancel (SpliceDetail.Insert (insert_from i)))
unfolding insert_from mode_from
detail_typed i true = tt
detail_typed i false = (below _ 65536 (lit< tt), below _ 256 (lit< tt), below _ 256 (lit< tt), mode (eqb i.mode.program_splice_flag 1))
  where
    mode : (b : Bool) → TypedMode (pick b (SpliceMode.Program (time_from i.mode.splice_time)) (SpliceMode.Components (i.mode.component_count % 256)))
    mode true = tt
    mode false = below _ 256 (lit< tt)

pub given_typed : (words : List ℕ) → Typed (command_given words)
unfolding insertion_from
given_typed words =
    let f = command_in words in
    from_types (λ c. Typed c) f (λ e. (below _ (2 ^ 32) (lit< tt), below _ 256 (lit< tt), detail_typed f.insert (eqb f.insert.splice_event_cancel_indicator 1))) (λ e. tt) (λ e. tt)
    (λ e. below _ (2 ^ 32) (lit< tt)) (λ a b. tt)

pub places_tags : (n : ℕ) (words : List ℕ) → Tags (places_of component_from 3 n words)
unfolding places_of component_from
places_tags zero words = tt
places_tags (suc n) words = (below _ 256 (lit< tt), places_tags n (drop 3 words))

-- ---- and within their fields, if the words are within their widths
abbrev pub SmallDetail : SpliceDetail → Type 0
SmallDetail SpliceDetail.Cancel = Unit {0}
SmallDetail (SpliceDetail.Insert i) = (ltb (ticks (program_time i.splice_mode)) (2 ^ 33) ≡ true) × (ltb (break_ticks i.duration) (2 ^ 33) ≡ true)

abbrev pub Small : SpliceCommand → Type 0
Small SpliceCommand.SpliceNull = Unit {0}
Small (SpliceCommand.SpliceInsert x) = (ltb x.reserved 128 ≡ true) × SmallDetail x.splice_detail
Small (SpliceCommand.TimeSignal t) = ltb (ticks t) (2 ^ 33) ≡ true
Small SpliceCommand.BandwidthReservation = Unit {0}
Small (SpliceCommand.PrivateCommand p) = Unit {0}

small_time : (t : FlatTime) → t.ticks < 2 ^ 33 → ltb (ticks (time_from t)) (2 ^ 33) ≡ true
small_time t h = go (eqb t.kind 1) (eqb t.kind 3)
  where
    go : (a b : Bool) → ltb (ticks (pick a SpliceTime.Immediate (pick b (SpliceTime.At t.ticks) SpliceTime.Unspecified))) (2 ^ 33) ≡ true
    go true b = refl
    go false true = lt-ltb _ _ h
    go false false = refl

small_detail : (i : FlatInsert) → i.mode.splice_time.ticks < 2 ^ 33 → i.break_duration.duration < 2 ^ 33 → (b : Bool) → SmallDetail (pick b SpliceDetail.Cancel (SpliceDetail.Insert (insert_from i)))
unfolding insert_from mode_from break_from
small_detail i t d true = tt
small_detail i t d false = (mode (eqb i.mode.program_splice_flag 1), lasts (eqb i.break_duration.duration_flag 1))
  where
    mode : (b : Bool) → ltb (ticks (program_time (pick b (SpliceMode.Program (time_from i.mode.splice_time)) (SpliceMode.Components (i.mode.component_count % 256))))) (2 ^ 33) ≡ true
    mode true = small_time i.mode.splice_time t
    mode false = refl

    lasts : (b : Bool)
        → ltb (break_ticks (pick b (Some (record { return_mode = pick (eqb i.break_duration.auto_return 1) ReturnMode.Automatic ReturnMode.Manual; duration = i.break_duration.duration })) None)) (2 ^ 33) ≡ true
    lasts true = lt-ltb _ _ d
    lasts false = refl

pub given_small : (words : List ℕ) → within command_widths words ≡ true → Small (command_given words)
unfolding command_widths insertion_from command_in insert_in mode_in break_in
given_small words h =
    let w : (i : ℕ) → i < 21 → word words i < 2 ^ get_or command_widths i 0 = within_at command_widths words h in
    let k : word words 4 % 256 ≡ word words 4 = mod-eq_of_lt (omega (arith, w 4 (omega arith))) in
    from_types (λ c. Small c) (command_in words)
    (λ e. (lt-ltb (word words 4 % 256) 128 (omega (arith, k, w 4 (omega arith))), small_detail (insert_in words) (w 8 (omega arith)) (w 12 (omega arith)) (eqb (word words 3) 1)))
    (λ e. small_time (record { kind = word words 16; ticks = word words 17 }) (w 17 (omega arith))) (λ e. tt) (λ e. tt) (λ a b. tt)

pub places_fit : (n : ℕ) (words : List ℕ) → each_place (within component_widths) 3 n words ≡ true → times_fit (places_of component_from 3 n words) ≡ true
unfolding each_place places_of component_from component_widths
places_fit zero words e = refl
places_fit (suc n) words e =
    let a = and_true (within component_widths words) (each_place (within component_widths) 3 n (drop 3 words)) e in
    rw (small_time (record { kind = word words 1; ticks = word words 2 }) (within_at component_widths words a.0 2 (omega arith))) (places_fit n (drop 3 words) a.1)

-- ---- it counts the places that are looked at
pub given_count : (words : List ℕ) → within command_widths words ≡ true → count_in (command_given words) ≡ places_given words
unfolding command_widths insertion_from insert_from mode_from command_in insert_in mode_in
given_count words h =
    from_types (λ c. count_in c ≡ places_given words) (command_in words)
    (λ e. rw e (go (eqb (word words 3) 1) (eqb (word words 3) 0) (eqb (word words 6) 1) (eqb (word words 6) 0) (flags (word words 3) (w 3 (omega arith))) (flags (word words 6) (w 6 (omega arith)))))
    (λ e. rw e) (λ e. rw e) (λ e. rw e) (λ a b. rw (ne_eqb (word words 1) 0x05 a))
  where
    w : (i : ℕ) → i < 21 → word words i < 2 ^ get_or command_widths i 0
    w = within_at command_widths words h

    flags : (x : ℕ) → x < 2 → eqb x 1 ≡ not (eqb x 0)
    flags zero h = refl
    flags (suc zero) h = refl
    flags (suc (suc x)) h = absurd (omega arith)

    i : FlatInsert
    i = insert_in words

    go : (cancel kept program listed : Bool) → cancel ≡ not kept → program ≡ not listed
        → insert.count (insert.insert_of (pick cancel SpliceDetail.Cancel (SpliceDetail.Insert (record {
          network_indicator = (insert_from i).network_indicator;
          splice_mode = pick program (SpliceMode.Program (time_from i.mode.splice_time)) (SpliceMode.Components (word words 9 % 256));
          duration = (insert_from i).duration;
          unique_program_id = word words 13 % 65536;
          avail_num = word words 14 % 256;
          avails_expected = word words 15 % 256;
        })))).splice_mode ≡ pick (kept && listed) (word words 9) 0
    go true true program listed e g = zero_one cc
    go true false program listed e g = refl
    go false true true true e g = zero_one cc
    go false true true false e g = refl
    go false true false true e g = mod-eq_of_lt (w 9 (omega arith))
    go false true false false e g = zero_one cc
    go false false program listed e g = zero_one cc

-- ---- its components, too, are those whose words they are
own_component_lem : (c : InsertComponent) (words : List ℕ) → within component_widths words ≡ true → same (component_words (flat_component c)) words ≡ true → component_from words ≡ c
unfolding component_from component_words component_widths flat_component
own_component_lem c words w e =
    let s : (i : ℕ) → i < 3 → word words i ≡ word (component_words (flat_component c)) i = same_at (component_words (flat_component c)) words e in
    let t : c.component_tag < 256 = rw (s 0 (omega arith)) at (within_at component_widths words w 0 (omega arith)) in
    rw (s 0 (omega arith), s 1 (omega arith), s 2 (omega arith), mod-eq_of_lt t, time_back c.splice_time)

pub own_places : (cs : List InsertComponent) (words : List ℕ) → each_place (within component_widths) 3 (length cs) words ≡ true → same (places_words (map flat_component cs)) words ≡ true
    → (places_of component_from 3 (length cs) words ≡ cs) × (each_place own_component 3 (length cs) words ≡ true)
unfolding each_place places_of component_words
own_places [] words w e = (refl, refl)
own_places (c ∷ cs) words w e =
    let a = and_true (within component_widths words) (each_place (within component_widths) 3 (length cs) (drop 3 words)) w in
    let s = and_true (same (component_words (flat_component c)) words) (same (places_words (map flat_component cs)) (drop 3 words)) (sym (same_append (component_words (flat_component c)) (places_words (map flat_component cs)) words) ∙ e) in
    let i = own_component_lem c words a.0 s.0 in
    let r = own_places cs (drop 3 words) a.1 s.1 in
    (rw (i, r.0), rw (i, s.0) r.1)

pub places_own : (n : ℕ) (words : List ℕ) → each_place own_component 3 n words ≡ true → same (places_words (map flat_component (places_of component_from 3 n words))) words ≡ true
unfolding each_place places_of component_words same
places_own zero words e = refl
places_own (suc n) words e =
    let own = component_words (flat_component (component_from words)) in
    let a = and_true (own_component words) (each_place own_component 3 n (drop 3 words)) e in
    same_append own (places_words (map flat_component (places_of component_from 3 n (drop 3 words)))) words ∙ rw a.0 (places_own n (drop 3 words) a.1)

-- ---- only a private command has a view
abbrev pub seen_by : SpliceCommand → List ℕ → Bool
seen_by c lent = of_private (λ p. leb (p.private_bytes.at + p.private_bytes.len) (length lent)) true c

pub given_seen : (words lent : List ℕ) → command_seen words lent ≡ true → seen_by (command_given words) lent ≡ true
unfolding command_seen command_in
given_seen words lent s = from_types (λ c. seen_by c lent ≡ true) (command_in words) (λ e. refl) (λ e. refl) (λ e. refl) (λ e. s) (λ a b. refl)

pub own_seen : (c : SpliceCommand) (words lent : List ℕ) → same (command_words (flat_command c)) words ≡ true → command_seen words lent ≡ seen_by c lent
unfolding command_seen command_words flat_command no_command
own_seen c words lent e =
    let w : (i : ℕ) → i < 21 → word words i ≡ word (command_words (flat_command c)) i = same_at (command_words (flat_command c)) words e in
    rw (w 19 (omega arith), w 20 (omega arith)) (go c)
  where
    -- the blank lies in any bytes
    blank : leb (0 + 0) (length lent) ≡ true
    blank = le-leb (0 + 0) (length lent) (omega arith)

    go : (c : SpliceCommand) → leb ((flat_command c).private_bytes.at + (flat_command c).private_bytes.len) (length lent) ≡ seen_by c lent
    go SpliceCommand.SpliceNull = blank
    go (SpliceCommand.SpliceInsert x) = blank
    go (SpliceCommand.TimeSignal t) = blank
    go SpliceCommand.BandwidthReservation = blank
    go (SpliceCommand.PrivateCommand p) = refl
