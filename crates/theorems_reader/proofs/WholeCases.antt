-- The wholeness of what is read (specs/Whole.antt), case by case: what the proofs go by.
use Prim.Native.Nat.{ℕ, ◌+◌, ◌-◌, ◌/◌, ◌%◌}
use mathlib.Core.List.{List}
use mathlib.Core.Path.{◌≡◌, subst}
use lib.ListN.{get_or}
use Rattle.command.specs.declared.SpliceCommand.{SpliceCommand}
use Rattle.descriptor.specs.declared.Descriptor.{Descriptor}
use Rattle.descriptor.specs.declared.segmentation.DescriptorDetail.{DescriptorDetail}
use Rattle.descriptor_loop.specs.declared.ItemRefusal.{ItemRefusal}
use Rattle.descriptor_loop.specs.declared.reading.Reading.{Reading}
use Rattle.upid.specs.declared.Refusal.{Refusal}
use Rattle.theorems_reader.specs.Identifiers.{in_section, in_lent}
use Rattle.theorems_reader.specs.Whole.{Exactly, WholeUpid, upid_at, WholeText, WholeItem, WholePrivate, WholeCommand}
use Rattle.std.proofs.Common.{Ok, Err, Some, None, Option, Result}

abbrev pub DetailCase : List ℕ → ℕ → ℕ → List ℕ → List ℕ → DescriptorDetail → Type 0
DetailCase s p base loop eidr DescriptorDetail.Cancel = get_or s (p + 4) 0 / 128 % 2 ≡ 1
DetailCase s p base loop eidr (DescriptorDetail.Active i) = WholeUpid s (upid_at s p) base loop eidr i.segmentation_upid

abbrev pub RefusalCase : List ℕ → ℕ → ℕ → List ℕ → ItemRefusal → Type 0
RefusalCase s p base loop ItemRefusal.InvalidDescriptorLength = Unit {0}
RefusalCase s p base loop (ItemRefusal.Other Refusal.InputTooLong) = Unit {0}
RefusalCase s p base loop (ItemRefusal.Other (Refusal.NotEnoughData expected actual)) = Unit {0}
RefusalCase s p base loop (ItemRefusal.Other Refusal.UpidLengthTypeMismatch) = Unit {0}
RefusalCase s p base loop (ItemRefusal.Other (Refusal.InvalidUpidContent upid_type v)) = WholeText s p upid_type (in_lent base loop v)
RefusalCase s p base loop (ItemRefusal.Other (Refusal.InvalidUpidLength upid_type expected actual)) = Unit {0}

abbrev pub ItemCase : List ℕ → ℕ → List ℕ → ℕ → Reading → Option (Result Descriptor ItemRefusal) → Type 0
ItemCase s base loop offset r None = Unit {0}
ItemCase s base loop offset r (Some (Err q)) = RefusalCase s (base + offset + 6) base loop q
ItemCase s base loop offset r (Some (Ok (Descriptor.Avail x))) = Unit {0}
ItemCase s base loop offset r (Some (Ok (Descriptor.Dtmf x))) =
    let p : ℕ = base + offset + 6 in
    Exactly s (p + 2) (get_or s (p + 1) 0 / 32) (in_lent base loop x.dtmf_chars)
ItemCase s base loop offset r (Some (Ok (Descriptor.Segmentation x))) = DetailCase s (base + offset + 6) base loop r.beside.eidr x.descriptor_detail
ItemCase s base loop offset r (Some (Ok (Descriptor.Time x))) = Unit {0}
ItemCase s base loop offset r (Some (Ok (Descriptor.Reserved tag v))) =
    Exactly s (base + offset + 6) (get_or s (base + offset + 1) 0 - 4) (in_lent base loop v)
    × Exactly s (base + offset + 2) 4 (record { start = base + offset + 2; len = 4; bytes = r.step.identifier })

abbrev pub CommandCase : List ℕ → SpliceCommand → Type 0
CommandCase s SpliceCommand.SpliceNull = Unit {0}
CommandCase s (SpliceCommand.SpliceInsert i) = Unit {0}
CommandCase s (SpliceCommand.TimeSignal t) = Unit {0}
CommandCase s SpliceCommand.BandwidthReservation = Unit {0}
CommandCase s (SpliceCommand.PrivateCommand p) = WholePrivate s (in_section s p.private_bytes)

-- ---- the cases say what is stated

pub item_whole : (s : List ℕ) (base : ℕ) (loop : List ℕ) (offset : ℕ) (r : Reading) → ItemCase s base loop offset r r.step.item → WholeItem s base loop offset r
item_whole s base loop offset r w = record {
  dtmf = λ d e. subst (ItemCase s base loop offset r) e w;
  upid = λ d i e f. subst (DetailCase s (base + offset + 6) base loop r.beside.eidr) f (subst (ItemCase s base loop offset r) e w);
  cancelled = λ d e f. subst (DetailCase s (base + offset + 6) base loop r.beside.eidr) f (subst (ItemCase s base loop offset r) e w);
  reserved = λ tag v e. subst (ItemCase s base loop offset r) e w;
  text = λ k v e. subst (ItemCase s base loop offset r) e w;
}

pub command_whole : (s : List ℕ) (c : SpliceCommand) → CommandCase s c → WholeCommand s c
command_whole s c w p e = subst (CommandCase s) e w
