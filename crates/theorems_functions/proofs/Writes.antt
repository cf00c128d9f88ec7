-- What a write of bytes that are made answers and leaves; and that what stands beside a command that is read is what it is written with.
use Rattle.descriptor_loop.specs.declared.ItemRefusal.{ItemRefusal}
use Prim.Native.Nat.{ℕ, ◌≤◌}
use mathlib.Core.List.{List}
use mathlib.Core.Path.{◌≡◌, refl, ap, sym, ◌∙◌}
use lib.ListN.{length, take, drop}
use borrow.Author.Tests.{le-leb, lt-leb}
use Rattle.command.specs.Command.{components_of}
use Rattle.command.specs.declared.SpliceCommand.{SpliceCommand}
use Rattle.command_measure.specs.Made.{command_made}
use Rattle.descriptor_writer.specs.Stores.{Writes}
use Rattle.bit_stores.specs.Written.{answer_of, later_of}
use Rattle.section.specs.Full.{beside_command, beside_section, full_section_of}
use Rattle.section.specs.Section.{command_bytes, section_of}
use Rattle.section.specs.declared.Section.{Section}
use Rattle.section.specs.declared.full.FullSection.{FullSection}
use Rattle.table.proofs.Lists.{zero_one}
use Rattle.upid.proofs.Laws.{by_cases}
use lib.Seq.{take_at}
use Rattle.descriptor.specs.declared.Descriptor.{Descriptor}
use Rattle.descriptor_measure.specs.Writing.{descriptor_made}
use Rattle.descriptor_loop.specs.Cover.{run_of}
use Rattle.descriptor_loop.proofs.Lists.{walked}
use Rattle.descriptor_loop.specs.Items.{step_of, reading_of, Listed, items_of}
use Rattle.descriptor_loop.specs.declared.Step.{Step}
use Rattle.descriptor_loop.specs.declared.reading.Reading.{Reading}
use Rattle.theorems_reader.proofs.Sections.{each_item}
use Rattle.upid.specs.Cover.{All}
use Rattle.upid.specs.Cover.All.{none, more}
use Rattle.loop_round_trips.specs.Loops.{WrittenAgain}
use Rattle.table.specs.Writing.{Made, made}
use Rattle.theorems_functions.specs.Calls.{Puts}
use Rattle.std.proofs.Common.{Ok, Some, Result, Option}
use Rattle.section.specs.declared.Refusal.{Refusal}

-- bytes that are made are put
pub puts : (b target : List ℕ) → Puts b target (answer_of (made b) target) (later_of (made b) target)
unfolding answer_of later_of
puts b target = record {
  fits = λ h. (rw (le-leb (length b) (length target) h), rw (le-leb (length b) (length target) h));
  short = λ h. (rw (lt-leb (length b) (length target) h), rw (lt-leb (length b) (length target) h));
}

pub puts_made : (m : Made) (b target : List ℕ) (answer : Result ℕ ℕ) (later : List ℕ) → m ≡ made b → Writes m target later answer → Puts b target answer later
puts_made m b target answer later e w =
    let a : answer ≡ answer_of (made b) target = w.answer ∙ ap (λ (n : Made). answer_of n target) e in
    let l : later ≡ later_of (made b) target = w.target_later ∙ ap (λ (n : Made). later_of n target) e in
    rw (a, l) (puts b target)

-- a command that is no insert is written without its components
pub beside_serves : (c : SpliceCommand) (payload lent : List ℕ) → command_made c (beside_command c payload) lent ≡ command_made c (components_of payload) lent
unfolding command_made
beside_serves SpliceCommand.SpliceNull payload lent = refl
beside_serves (SpliceCommand.SpliceInsert i) payload lent = refl
beside_serves (SpliceCommand.TimeSignal t) payload lent = refl
beside_serves SpliceCommand.BandwidthReservation payload lent = refl
beside_serves (SpliceCommand.PrivateCommand p) payload lent = refl

-- ---- the full reading of a section that is accepted
pub full_read : (s : List ℕ) (w : FullSection) (x : Section) → w ≡ full_section_of s → w.read ≡ Ok x → section_of s ≡ Ok x
unfolding full_section_of
full_read s w x e r = ap (λ (v : FullSection). v.read) (sym e) ∙ r

pub full_beside : (s : List ℕ) (w : FullSection) (x : Section) → w ≡ full_section_of s → w.read ≡ Ok x → w.components ≡ beside_command x.command (command_bytes s)
unfolding full_section_of
full_beside s w x e r = ap (λ (v : FullSection). v.components) e ∙ ap (λ (v : Result Section Refusal). beside_section v (command_bytes s)) (ap (λ (v : FullSection). v.read) (sym e) ∙ r)

-- ---- an item that is read at its offset and written again

-- it is written as its own bytes, and it is what is read there
pub record Again (loop : List ℕ) (y : Listed) : Type 0 where
  pub written : WrittenAgain loop y
  pub here : y.step ≡ (reading_of loop y.offset).step

both : {loop : List ℕ} {xs : List Listed} → All (WrittenAgain loop) xs → All (λ (y : Listed). y.step ≡ (reading_of loop y.offset).step) xs → All (Again loop) xs
both none none = none
both (more w ws) (more h hs) = more (record { written = w; here = h }) (both ws hs)

pub all_again : (loop : List ℕ) → length loop ≤ 4076 → All (WrittenAgain loop) (items_of loop) → All (Again loop) (items_of loop)
unfolding reading_of
all_again loop fits h = both h (each_item (λ o inside. refl) (walked loop fits))

-- so of what is said of each item: it is what is stepped to at its offset
pub with_steps : {P : Listed → Type 0} (loop : List ℕ) → length loop ≤ 4076 → All P (items_of loop) → All (λ (y : Listed). P y × (y.step ≡ step_of loop y.offset)) (items_of loop)
with_steps {P = P} loop fits h = paired h (each_item (λ o inside. refl) (walked loop fits))
  where
    paired : {xs : List Listed} → All P xs → All (λ (y : Listed). y.step ≡ step_of loop y.offset) xs → All (λ (y : Listed). P y × (y.step ≡ step_of loop y.offset)) xs
    paired none none = none
    paired (more p ps) (more q qs) = more (p, q) (paired ps qs)

pub item_back : (loop : List ℕ) (y : Listed) → Again loop y → (r : Reading) (d : Descriptor) → r ≡ reading_of loop y.offset → r.step.item ≡ Some (Ok d)
    → (target : List ℕ) (answer : Result ℕ ℕ) (later : List ℕ) → Writes (descriptor_made d r.step.identifier r.beside loop) target later answer → Puts (run_of loop y) target answer later
item_back loop y h r d e is target answer later p =
    let z : y.step ≡ r.step = h.here ∙ ap (λ (v : Reading). v.step) (sym e) in
    let k : ◌≡◌ {A = Option (Result Descriptor ItemRefusal)} (Some (Ok d)) (Some (Ok h.written.descriptor)) = sym is ∙ ap (λ (v : Step). v.item) (sym z) ∙ h.written.is in
    let same : d ≡ h.written.descriptor = cc in
    let m : descriptor_made d r.step.identifier r.beside loop ≡ made (run_of loop y) =
    ap (λ (v : Descriptor). descriptor_made v r.step.identifier r.beside loop) same
    ∙ ap (λ (v : Step). descriptor_made h.written.descriptor v.identifier r.beside loop) (sym z)
    ∙ ap (λ (v : Reading). descriptor_made h.written.descriptor y.step.identifier v.beside loop) e
    ∙ h.written.writes in
    puts_made _ (run_of loop y) target answer later m p

-- an accepted write of bytes has them at the target's start
pub put_start : (b target : List ℕ) (n : ℕ) (later : List ℕ) → Puts b target (Ok n) later → take n later ≡ b
put_start b target n later w =
    by_cases (length target) (length b)
    (λ short. zero_one (cc (w.short short).0))
    (λ fits.
    let k : length b ≡ n = cc (w.fits fits).0 in
    ap (take n) (w.fits fits).1 ∙ take_at b (drop (length b) target) n k)
