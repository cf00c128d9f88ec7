-- What is promised of a section in which one identifier is replaced, of the functions: whoever meets the contracts of `relabel` and `scte35_relabel`, as the checker
-- makes them of the sources, gives this on every input. So a contract that is changed together with its body is refused here.
-- Two theorems together: a refusal leaves every byte of the target; else what stands at the target's start is the section with that one identifier replaced and every
-- other one kept, and the rest of the target is as it was. And which of these it is, and with which number, is said in words of its own (specs/Answered.antt).
use Prim.Native.Nat.{ℕ, ◌<◌, ◌≤◌}
use mathlib.Core.Bool.{true}
use mathlib.Core.List.{List}
use mathlib.Core.Path.{◌≡◌, refl, sym, subst, ◌∙◌, ap}
use lib.ListN.{length, take, drop}
use Rattle.bit_stores.specs.Written.{answer_of}
use Rattle.c_command_writer.specs.Words.{flat_written}
use Rattle.c_command_writer.specs.declared.FlatWritten.{FlatWritten}
use Rattle.canonical_form.specs.Section.{canonical_section}
use Rattle.descriptor_loop.specs.Items.{items_of}
use Rattle.relabel_canonical.proofs.Theorems.{canonical_in_canonical_out}
use Rattle.relabel_laws.specs.Identifiers.{each, identifiers_in}
use Rattle.relabel_trips.proofs.Theorems as trips
use Rattle.relabel_trips.specs.Cutting.{CutAt}
use Rattle.relabel_trips.specs.Named.{Named}
use Rattle.section.specs.Section.{loop_bytes, section_of}
use Rattle.section.specs.declared.Section.{Section}
use Rattle.table.specs.Bits.{AllBytes}
use Rattle.theorems_writer.proofs.Theorems as demands
use Rattle.transport_packet.specs.Sections.{Right}
use Rattle.theorems_relabel.specs.Answered.{answered}
use Rattle.theorems_relabel.specs.Back.{put_back}
use Rattle.theorems_relabel.specs.Readings.{ListedAs}
use Rattle.theorems_relabel.specs.Replaced.{Request, Relabelled}
use Rattle.theorems_relabel.proofs.Answered as answered
use Rattle.theorems_relabel.proofs.Contracts.{made_for, Relabels, relabels_so, RelabelsC, relabels_c_so}
use Rattle.theorems_relabel.proofs.Numbers.{all_at, Some, some_answered, length_of_lem, refused_of}
use Rattle.theorems_relabel.proofs.Readings as readings
use Rattle.theorems_relabel.proofs.Replaced as replaced
use Rattle.upid.specs.Cover.{All}
use Rattle.std.proofs.Common.{Ok, Err, Result}

-- ---- of `relabel`

-- "Refusals in order: 1 to 11 for the section; 41 ..; 32 ..; 33 ..; 34 ..; 36", and nothing else is refused: then so many bytes are written
pub relabel_answers_in_order : (q : Request) (target : List ℕ) (answer : Result ℕ ℕ) (later : List ℕ) → AllBytes q.section → Relabels q target answer later → answer ≡ answered q (length target)
relabel_answers_in_order q target answer later bytes d = (relabels_so d).0 ∙ answered.answers q target (all_at q.section bytes)

-- "A refused write changes no byte"
pub a_refused_relabelling_changes_no_byte : (q : Request) (target later : List ℕ) (n : ℕ) → Relabels q target (Err n) later → later ≡ target
a_refused_relabelling_changes_no_byte q target later n d = (relabels_so d).1 ∙ demands.a_refused_write_changes_no_byte (made_for q) target n (sym (relabels_so d).0)

-- "an accepted one only its result": it is accepted, the list of its identifiers is the old list with that one replaced, the new one whole
pub a_relabelled_section_keeps_every_other_identifier : (q : Request) (target later : List ℕ) (n : ℕ) → AllBytes q.section → q.upid_type < 256 → Relabels q target (Ok n) later
    → Relabelled q (take n later) × (drop n later ≡ drop n target) × (length later ≡ length target)
a_relabelled_section_keeps_every_other_identifier q target later n bytes byte d =
    replaced.written q target later n (all_at q.section bytes) byte (sym (relabels_so d).0) (relabels_so d).1

-- "Canonical in, canonical out"
pub a_canonical_section_is_canonical_when_relabelled : (q : Request) (target later : List ℕ) (n : ℕ) → AllBytes q.section → q.upid_type < 256 → Relabels q target (Ok n) later
    → canonical_section q.section ≡ true → canonical_section (take n later) ≡ true
a_canonical_section_is_canonical_when_relabelled q target later n bytes byte d c =
    canonical_in_canonical_out q.section q.offset q.part q.upid_type q.bytes (take n later) (all_at q.section bytes) byte c
    (replaced.made_so q target later n (sym (relabels_so d).0) (relabels_so d).1)

-- "No other byte changes": each is a byte of the old section in its order, of the new identifier or its head, a length that counts it, or of the CRC
pub every_byte_of_a_relabelled_section_is_accounted_for : (q : Request) (target later : List ℕ) (n : ℕ) → AllBytes q.section → q.upid_type < 256 → Relabels q target (Ok n) later
    → CutAt q.section q.offset q.part q.upid_type q.bytes (take n later)
every_byte_of_a_relabelled_section_is_accounted_for q target later n bytes byte d =
    trips.every_byte_is_accounted_for q.section q.offset q.part q.upid_type q.bytes (take n later) (all_at q.section bytes) byte
    (replaced.made_so q target later n (sym (relabels_so d).0) (relabels_so d).1)

-- "Relabelling with the identifier that is there changes nothing", where section_length is right and the target is long enough
pub relabelling_with_what_is_there_changes_nothing : (s : List ℕ) (offset part : ℕ) (target : List ℕ) (answer : Result ℕ ℕ) (later : List ℕ) → AllBytes s → Right s → Named s offset part
    → Relabels (put_back s offset part s) target answer later → length s ≤ length target → (answer ≡ Ok (length s)) × (take (length s) later ≡ s)
relabelling_with_what_is_there_changes_nothing s offset part target answer later bytes right n d h =
    replaced.stands (made_for (put_back s offset part s)) s target later answer (trips.the_same_identifier_changes_nothing_of_the_section s offset part (all_at s bytes) right n)
    (relabels_so d).0 (relabels_so d).1 h

-- "relabelling and then relabelling back gives the old section", where its section_length was right
pub a_section_relabelled_back_is_the_old_one : (q : Request) (target later : List ℕ) (n : ℕ) (second : List ℕ) (answer : Result ℕ ℕ) (then : List ℕ) → AllBytes q.section → q.upid_type < 256
    → Right q.section → Relabels q target (Ok n) later → Relabels (put_back q.section q.offset q.part (take n later)) second answer then
    → length q.section ≤ length second → (answer ≡ Ok (length q.section)) × (take (length q.section) then ≡ q.section)
a_section_relabelled_back_is_the_old_one q target later n second answer then bytes byte right d b h =
    replaced.stands (made_for (put_back q.section q.offset q.part (take n later))) q.section second then answer
    (trips.relabelled_back_is_the_old_section q.section q.offset q.part q.upid_type q.bytes (take n later) (all_at q.section bytes) byte right
    (replaced.made_so q target later n (sym (relabels_so d).0) (relabels_so d).1))
    (relabels_so b).0 (relabels_so b).1 h

-- ---- the same over C, of `scte35_relabel`

pub scte35_relabel_answers_in_order : (q : Request) (target : List ℕ) (answer : FlatWritten) (later : List ℕ) → AllBytes q.section → RelabelsC q target answer later
    → answer ≡ flat_written (answered q (length target))
scte35_relabel_answers_in_order q target answer later bytes d = (relabels_c_so d).0 ∙ ap flat_written (answered.answers q target (all_at q.section bytes))

pub a_refused_relabelling_over_c_changes_no_byte : (q : Request) (target : List ℕ) (answer : FlatWritten) (later : List ℕ) → RelabelsC q target answer later → (answer.refusal ≡ 0 → ⊥) → later ≡ target
a_refused_relabelling_over_c_changes_no_byte q target answer later d some =
    let r = refused_of (answer_of (made_for q) target) (λ e. some (ap (λ (v : FlatWritten). v.refusal) (relabels_c_so d).0 ∙ e)) in
    (relabels_c_so d).1 ∙ demands.a_refused_write_changes_no_byte (made_for q) target r.0 r.1

pub a_relabelled_section_over_c_keeps_every_other_identifier : (q : Request) (target : List ℕ) (answer : FlatWritten) (later : List ℕ) → AllBytes q.section → q.upid_type < 256
    → RelabelsC q target answer later → answer.refusal ≡ 0
    → Relabelled q (take answer.«length» later) × (drop answer.«length» later ≡ drop answer.«length» target) × (length later ≡ length target)
a_relabelled_section_over_c_keeps_every_other_identifier q target answer later bytes byte d none =
    let at = all_at q.section bytes in
    let some : Some (answer_of (made_for q) target) = subst Some (sym (answered.answers q target at)) (some_answered q (length target)) in
    let w = length_of_lem (answer_of (made_for q) target) some (ap (λ (v : FlatWritten). v.refusal) (sym (relabels_c_so d).0) ∙ none) in
    replaced.written q target later answer.«length» at byte (w ∙ ap (λ (v : FlatWritten). Ok v.«length») (sym (relabels_c_so d).0)) (relabels_c_so d).1

-- ---- the list of identifiers

-- The list that these statements speak of is, item by item, of the UPIDs that the readers hand out: of a UPID its type as it is written and its very bytes (an EIDR's by
-- value), of a MID the parts that `read_upid` lists of the bytes handed out, MIDs among them left out, as their bytes are those of their own parts; and of any other item
-- nothing. So it is, but for the fields of other kinds, the list `identifiers_of` of theorems, which has all of these (`the_list_of_identifiers_is_complete`).
pub the_list_is_of_the_upids_that_are_read : (s : List ℕ) (x : Section) → section_of s ≡ Ok x → AllBytes s
    → (identifiers_in s ≡ each (loop_bytes s) (items_of (loop_bytes s))) × All (ListedAs (loop_bytes s)) (items_of (loop_bytes s))
unfolding identifiers_in
the_list_is_of_the_upids_that_are_read s x e a = (refl, readings.listed_as s x e a)
