-- What each function may do, by its contract as the checker makes it: a relation of what is handed in and what comes back (`May`,
-- theorems_c/specs/Boards.antt). `..-so` is what the contract then says of it.
use Prim.Native.Nat.{ℕ}
use mathlib.Core.Bool.{Bool}
use mathlib.Core.List.{List, []}
use mathlib.Core.Path.{◌≡◌, sym, ◌∙◌, ap}
use lib.ListN.{drop}
use Rattle.bit_stores.specs.Written.{answer_of, later_of}
use Rattle.c_command_writer.specs.CommandGiven.{command_words_made}
use Rattle.c_command_writer.specs.Words.{flat_written}
use Rattle.c_command_writer.specs.declared.FlatWritten.{FlatWritten}
use Rattle.c_section.specs.Flat.{flat_header_read}
use Rattle.c_section.specs.FlatCommand.{flat_command_read}
use Rattle.c_section.specs.declared.commands.FlatCommand.{FlatCommand}
use Rattle.c_section.specs.declared.headers.FlatHeader.{FlatHeader}
use Rattle.canonical_form.specs.Command.{canonical_command}
use Rattle.canonical_form.specs.Descriptor.{canonical_descriptor, canonical_loop}
use Rattle.command.specs.Command.{array, command_of, listed_of}
use Rattle.command.specs.declared.SpliceCommand.{SpliceCommand}
use Rattle.command.specs.declared.components.ListedCommand.{ListedCommand}
use Rattle.command_measure.specs.Made.{command_made}
use Rattle.crc.specs.Crc.{crc_of}
use Rattle.descriptor.specs.Descriptor.{descriptor_of}
use Rattle.descriptor.specs.Full.{filled, full_of}
use Rattle.descriptor.specs.declared.Descriptor.{Descriptor}
use Rattle.descriptor.specs.declared.full.FullDescriptor.{FullDescriptor}
use Rattle.descriptor_loop.specs.Items.{count_of}
use Rattle.descriptor_measure.specs.Writing.{descriptor_made}
use Rattle.descriptor_writer.specs.Stores.{Writes}
use Rattle.header.specs.Header.{header_of}
use Rattle.header.specs.declared.header.SpliceInfoHeader.{SpliceInfoHeader}
use Rattle.names.specs.Algorithm.{algorithm_entry, algorithm_of}
use Rattle.names.specs.Command.{command_entry, command_type_of}
use Rattle.names.specs.Flags.{network_flag, network_of, return_flag, return_of, restrictions_bits, restrictions_of}
use Rattle.names.specs.Segmentation.{segmentation_entry, segmentation_type_of}
use Rattle.names.specs.Upid.{upid_type_entry, upid_type_of}
use Rattle.scte35.specs.FlatNumber.{flat_name, flat_answer}
use Rattle.scte35.specs.declared.numbers.FlatNumber.{FlatNumber}
use Rattle.section_writer.specs.Writing.{type_of, section_made}
use Rattle.theorems_c.specs.Boards.{May}
use Rattle.upid.specs.Upid.{check_of}
use Rattle.command.proofs.components.read_components.Reads as read_components
use Rattle.command.proofs.read_command.Reads as read_command
use Rattle.command_canonical.proofs.is_canonical_command.Reads as is_canonical_command
use Rattle.command_writer.proofs.write_command_without_components.Reads as write_command_without_components
use Rattle.crc.proofs.crc32.Reads as crc32
use Rattle.descriptor.proofs.full.read_full_descriptor.Reads as read_full_descriptor
use Rattle.descriptor.proofs.read_descriptor.Reads as read_descriptor
use Rattle.descriptor_canonical.proofs.is_canonical_descriptor.Reads as is_canonical_descriptor
use Rattle.descriptor_canonical.proofs.is_canonical_loop.Reads as is_canonical_loop
use Rattle.descriptor_loop.proofs.iteration.count_items.Reads as count_items
use Rattle.descriptor_writer.proofs.write_descriptor_without_components.Reads as write_descriptor_without_components
use Rattle.header.proofs.header.read_header.Reads as read_header
use Rattle.section_writer.proofs.write_section_without_components.Reads as write_section_without_components
use Rattle.upid.proofs.check_upid.Reads as check_upid
use Rattle.scte35.proofs.canonical.scte35_is_canonical_descriptor.Reads as scte35_is_canonical_descriptor
use Rattle.scte35.proofs.canonical.scte35_is_canonical_loop.Reads as scte35_is_canonical_loop
use Rattle.scte35.proofs.numbers.scte35_classify_algorithm.Reads as scte35_classify_algorithm
use Rattle.scte35.proofs.numbers.scte35_classify_command_type.Reads as scte35_classify_command_type
use Rattle.scte35.proofs.numbers.scte35_classify_device_restrictions.Reads as scte35_classify_device_restrictions
use Rattle.scte35.proofs.numbers.scte35_classify_network_indicator.Reads as scte35_classify_network_indicator
use Rattle.scte35.proofs.numbers.scte35_classify_return_mode.Reads as scte35_classify_return_mode
use Rattle.scte35.proofs.numbers.scte35_classify_segmentation_type.Reads as scte35_classify_segmentation_type
use Rattle.scte35.proofs.numbers.scte35_classify_upid_type.Reads as scte35_classify_upid_type
use Rattle.scte35.proofs.scte35_crc.Reads as scte35_crc
use Rattle.scte35.proofs.scte35_read_command.Reads as scte35_read_command
use Rattle.scte35.proofs.scte35_read_header.Reads as scte35_read_header
use Rattle.scte35.proofs.writing.scte35_write_command_words.Reads as scte35_write_command_words
use Rattle.std.proofs.Common.{Option, Result}
use Rattle.command.specs.declared.CommandRefusal.{CommandRefusal}
use Rattle.upid.specs.declared.Refusal.{Refusal}
use Rattle.descriptor_loop.specs.declared.ItemRefusal.{ItemRefusal}

-- ---- the readers

abbrev pub ReadsHeader : List ℕ → Option SpliceInfoHeader → Type 0
ReadsHeader b r = May read_header.Learnt {S = List ℕ} {T = Option SpliceInfoHeader} (λ κ a. a.0.now) (λ κ r e. r) b r

pub reads_header_so : {b : List ℕ} {r : Option SpliceInfoHeader} → ReadsHeader b r → r ≡ header_of b
reads_header_so d = sym d.left ∙ d.learnt_so ∙ ap header_of d.taken

-- a type and a payload
abbrev pub ReadsCommand : ℕ → List ℕ → Result SpliceCommand CommandRefusal → Type 0
ReadsCommand k p r = May read_command.Learnt {S = ℕ × List ℕ} {T = Result SpliceCommand CommandRefusal} (λ κ a. (a.0, a.1.0.now)) (λ κ r e. r) (k, p) r

pub reads_command_so : {k : ℕ} {p : List ℕ} {r : Result SpliceCommand CommandRefusal} → ReadsCommand k p r → r ≡ command_of k p
reads_command_so d = sym d.left ∙ d.learnt_so ∙ ap (λ (v : ℕ × List ℕ). command_of v.0 v.1) d.taken

-- of an insert's payload
abbrev pub ReadsComponents : List ℕ → ListedCommand → Type 0
ReadsComponents p r = May read_components.Learnt {S = List ℕ} {T = ListedCommand} (λ κ a. a.0.now) (λ κ r e. r) p r

pub reads_components_so : {p : List ℕ} {r : ListedCommand} → ReadsComponents p r → r ≡ listed_of p
reads_components_so d = sym d.left ∙ d.learnt_so ∙ ap listed_of d.taken

abbrev pub CountsItems : List ℕ → Result ℕ ItemRefusal → Type 0
CountsItems loop r = May count_items.Learnt {S = List ℕ} {T = Result ℕ ItemRefusal} (λ κ a. a.0.now) (λ κ r e. r) loop r

pub counts_items_so : {loop : List ℕ} {r : Result ℕ ItemRefusal} → CountsItems loop r → r ≡ count_of loop
counts_items_so d = sym d.left ∙ d.learnt_so ∙ ap count_of d.taken

-- a tag, an identifier and a payload
abbrev pub ReadsDescriptor : ℕ → List ℕ → List ℕ → Result Descriptor Refusal → Type 0
ReadsDescriptor tag identifier p r = May read_descriptor.Learnt {S = ℕ × (List ℕ × List ℕ)} {T = Result Descriptor Refusal} (λ κ a. (a.0, (a.1.0, a.1.1.0.now))) (λ κ r e. r) (tag, (identifier, p)) r

pub reads_descriptor_so : {tag : ℕ} {identifier p : List ℕ} {r : Result Descriptor Refusal} → ReadsDescriptor tag identifier p r → r ≡ descriptor_of tag identifier p
reads_descriptor_so d = sym d.left ∙ d.learnt_so ∙ ap (λ (v : ℕ × (List ℕ × List ℕ)). descriptor_of v.0 v.1.0 v.1.1) d.taken

abbrev pub ReadsFullDescriptor : ℕ → List ℕ → List ℕ → FullDescriptor → Type 0
ReadsFullDescriptor tag identifier p r = May read_full_descriptor.Learnt {S = ℕ × (List ℕ × List ℕ)} {T = FullDescriptor} (λ κ a. (a.0, (a.1.0, a.1.1.0.now))) (λ κ r e. r) (tag, (identifier, p)) r

pub reads_full_descriptor_so : {tag : ℕ} {identifier p : List ℕ} {r : FullDescriptor} → ReadsFullDescriptor tag identifier p r → r ≡ full_of tag identifier p
reads_full_descriptor_so d = sym d.left ∙ d.learnt_so ∙ ap (λ (v : ℕ × (List ℕ × List ℕ)). full_of v.0 v.1.0 v.1.1) d.taken

abbrev pub ChecksUpid : ℕ → List ℕ → Result ℕ Refusal → Type 0
ChecksUpid k b r = May check_upid.Learnt {S = ℕ × List ℕ} {T = Result ℕ Refusal} (λ κ a. (a.0, a.1.0.now)) (λ κ r e. r) (k, b) r

pub checks_upid_so : {k : ℕ} {b : List ℕ} {r : Result ℕ Refusal} → ChecksUpid k b r → r ≡ check_of k b
checks_upid_so d = sym d.left ∙ d.learnt_so ∙ ap (λ (v : ℕ × List ℕ). check_of v.0 v.1) d.taken

abbrev pub GivesCrc : List ℕ → ℕ → Type 0
GivesCrc b n = May crc32.Learnt {S = List ℕ} {T = ℕ} (λ κ a. a.0.now) (λ κ r e. r) b n

pub gives_crc_so : {b : List ℕ} {n : ℕ} → GivesCrc b n → n ≡ crc_of b
gives_crc_so d = sym d.left ∙ d.learnt_so ∙ ap crc_of d.taken

-- ---- the canonical form

abbrev pub TellsCommand : ℕ → List ℕ → Bool → Type 0
TellsCommand k p r = May is_canonical_command.Learnt {S = ℕ × List ℕ} {T = Bool} (λ κ a. (a.0, a.1.0.now)) (λ κ r e. r) (k, p) r

pub tells_command_so : {k : ℕ} {p : List ℕ} {r : Bool} → TellsCommand k p r → r ≡ canonical_command k p
tells_command_so d = sym d.left ∙ d.learnt_so ∙ ap (λ (v : ℕ × List ℕ). canonical_command v.0 v.1) d.taken

abbrev pub TellsDescriptor : List ℕ → Bool → Type 0
TellsDescriptor b r = May is_canonical_descriptor.Learnt {S = List ℕ} {T = Bool} (λ κ a. a.0.now) (λ κ r e. r) b r

pub tells_descriptor_so : {b : List ℕ} {r : Bool} → TellsDescriptor b r → r ≡ canonical_descriptor b
tells_descriptor_so d = sym d.left ∙ d.learnt_so ∙ ap canonical_descriptor d.taken

abbrev pub TellsLoop : List ℕ → Bool → Type 0
TellsLoop loop r = May is_canonical_loop.Learnt {S = List ℕ} {T = Bool} (λ κ a. a.0.now) (λ κ r e. r) loop r

pub tells_loop_so : {loop : List ℕ} {r : Bool} → TellsLoop loop r → r ≡ canonical_loop loop
tells_loop_so d = sym d.left ∙ d.learnt_so ∙ ap canonical_loop d.taken

-- ---- the writers without components: what is handed in, the target, the answer and the target's later bytes

abbrev pub WritesCommandAlone : SpliceCommand → List ℕ → List ℕ → Result ℕ ℕ → List ℕ → Type 0
WritesCommandAlone c lent target answer later =
    May write_command_without_components.Learnt {S = SpliceCommand × (List ℕ × List ℕ)} {T = Result ℕ ℕ × List ℕ}
    (λ κ a. (a.0, (a.1.0.now, a.1.1.0.now))) (λ κ r e. (r, e.1.1.0.now)) (c, (lent, target)) (answer, later)

pub writes_command_alone_so : {c : SpliceCommand} {lent target : List ℕ} {answer : Result ℕ ℕ} {later : List ℕ} → WritesCommandAlone c lent target answer later
    → Writes (command_made c (array []) lent) target later answer
writes_command_alone_so d = record {
  answer = sym (ap (λ (v : Result ℕ ℕ × List ℕ). v.0) d.left) ∙ d.learnt_so.0
      ∙ ap (λ (v : SpliceCommand × (List ℕ × List ℕ)). answer_of (command_made v.0 (array []) v.1.0) v.1.1) d.taken;
  target_later = sym (ap (λ (v : Result ℕ ℕ × List ℕ). v.1) d.left) ∙ d.learnt_so.1
      ∙ ap (λ (v : SpliceCommand × (List ℕ × List ℕ)). later_of (command_made v.0 (array []) v.1.0) v.1.1) d.taken;
}

-- a descriptor, an identifier and an EIDR
abbrev pub WritesDescriptorAlone : Descriptor → List ℕ → List ℕ → List ℕ → List ℕ → Result ℕ ℕ → List ℕ → Type 0
WritesDescriptorAlone x identifier eidr lent target answer later =
    May write_descriptor_without_components.Learnt {S = Descriptor × (List ℕ × (List ℕ × (List ℕ × List ℕ)))} {T = Result ℕ ℕ × List ℕ}
    (λ κ a. (a.0, (a.1.0, (a.1.1.0, (a.1.1.1.0.now, a.1.1.1.1.0.now))))) (λ κ r e. (r, e.1.1.1.1.0.now))
    (x, (identifier, (eidr, (lent, target)))) (answer, later)

pub writes_descriptor_alone_so : {x : Descriptor} {identifier eidr lent target : List ℕ} {answer : Result ℕ ℕ} {later : List ℕ} → WritesDescriptorAlone x identifier eidr lent target answer later
    → Writes (descriptor_made x identifier (record { components = filled []; eidr = eidr }) lent) target later answer
writes_descriptor_alone_so d = record {
  answer = sym (ap (λ (v : Result ℕ ℕ × List ℕ). v.0) d.left) ∙ d.learnt_so.answer
      ∙ ap (λ (v : Descriptor × (List ℕ × (List ℕ × (List ℕ × List ℕ)))). answer_of (descriptor_made v.0 v.1.0 (record { components = filled []; eidr = v.1.1.0 }) v.1.1.1.0) v.1.1.1.1) d.taken;
  target_later = sym (ap (λ (v : Result ℕ ℕ × List ℕ). v.1) d.left) ∙ d.learnt_so.target_later
      ∙ ap (λ (v : Descriptor × (List ℕ × (List ℕ × (List ℕ × List ℕ)))). later_of (descriptor_made v.0 v.1.0 (record { components = filled []; eidr = v.1.1.0 }) v.1.1.1.0) v.1.1.1.1) d.taken;
}

-- a header, a command, the bytes that its view refers to, and a loop
abbrev pub WritesSectionAlone : SpliceInfoHeader → SpliceCommand → List ℕ → List ℕ → List ℕ → Result ℕ ℕ → List ℕ → Type 0
WritesSectionAlone h c lent loop target answer later =
    May write_section_without_components.Learnt {S = SpliceInfoHeader × (SpliceCommand × (List ℕ × (List ℕ × List ℕ)))} {T = Result ℕ ℕ × List ℕ}
    (λ κ a. (a.0, (a.1.0, (a.1.1.0.now, (a.1.1.1.0.now, a.1.1.1.1.0.now))))) (λ κ r e. (r, e.1.1.1.1.0.now))
    (h, (c, (lent, (loop, target)))) (answer, later)

pub writes_section_alone_so : {h : SpliceInfoHeader} {c : SpliceCommand} {lent loop target : List ℕ} {answer : Result ℕ ℕ} {later : List ℕ} → WritesSectionAlone h c lent loop target answer later
    → Writes (section_made h (command_made c (array []) lent) (type_of c) loop) target later answer
writes_section_alone_so d = record {
  answer = sym (ap (λ (v : Result ℕ ℕ × List ℕ). v.0) d.left) ∙ d.learnt_so.0
      ∙ ap (λ (v : SpliceInfoHeader × (SpliceCommand × (List ℕ × (List ℕ × List ℕ)))). answer_of (section_made v.0 (command_made v.1.0 (array []) v.1.1.0) (type_of v.1.0) v.1.1.1.0) v.1.1.1.1) d.taken;
  target_later = sym (ap (λ (v : Result ℕ ℕ × List ℕ). v.1) d.left) ∙ d.learnt_so.1
      ∙ ap (λ (v : SpliceInfoHeader × (SpliceCommand × (List ℕ × (List ℕ × List ℕ)))). later_of (section_made v.0 (command_made v.1.0 (array []) v.1.1.0) (type_of v.1.0) v.1.1.1.0) v.1.1.1.1) d.taken;
}

-- ---- over C, of the bytes that stand from an offset to the end

abbrev pub ReadsHeaderC : List ℕ → FlatHeader → Type 0
ReadsHeaderC b f = May scte35_read_header.Learnt {S = List ℕ} {T = FlatHeader} (λ κ a. drop a.1.0 a.0.now) (λ κ r e. r) b f

pub reads_header_c_so : {b : List ℕ} {f : FlatHeader} → ReadsHeaderC b f → f ≡ flat_header_read (header_of b)
reads_header_c_so d = sym d.left ∙ d.learnt_so ∙ ap (λ (v : List ℕ). flat_header_read (header_of v)) d.taken

abbrev pub ReadsCommandC : ℕ → List ℕ → FlatCommand → Type 0
ReadsCommandC k p f = May scte35_read_command.Learnt {S = ℕ × List ℕ} {T = FlatCommand} (λ κ a. (a.0, drop a.1.1.0 a.1.0.now)) (λ κ r e. r) (k, p) f

pub reads_command_c_so : {k : ℕ} {p : List ℕ} {f : FlatCommand} → ReadsCommandC k p f → f ≡ flat_command_read (command_of k p)
reads_command_c_so d = sym d.left ∙ d.learnt_so ∙ ap (λ (v : ℕ × List ℕ). flat_command_read (command_of v.0 v.1)) d.taken

abbrev pub TellsDescriptorC : List ℕ → Bool → Type 0
TellsDescriptorC b r = May scte35_is_canonical_descriptor.Learnt {S = List ℕ} {T = Bool} (λ κ a. drop a.1.0 a.0.now) (λ κ r e. r) b r

pub tells_descriptor_c_so : {b : List ℕ} {r : Bool} → TellsDescriptorC b r → r ≡ canonical_descriptor b
tells_descriptor_c_so d = sym d.left ∙ d.learnt_so ∙ ap canonical_descriptor d.taken

abbrev pub TellsLoopC : List ℕ → Bool → Type 0
TellsLoopC loop r = May scte35_is_canonical_loop.Learnt {S = List ℕ} {T = Bool} (λ κ a. drop a.1.0 a.0.now) (λ κ r e. r) loop r

pub tells_loop_c_so : {loop : List ℕ} {r : Bool} → TellsLoopC loop r → r ≡ canonical_loop loop
tells_loop_c_so d = sym d.left ∙ d.learnt_so ∙ ap canonical_loop d.taken

abbrev pub GivesCrcC : List ℕ → ℕ → Type 0
GivesCrcC b n = May scte35_crc.Learnt {S = List ℕ} {T = ℕ} (λ κ a. drop a.1.0 a.0.now) (λ κ r e. r) b n

pub gives_crc_c_so : {b : List ℕ} {n : ℕ} → GivesCrcC b n → n ≡ crc_of b
gives_crc_c_so d = sym d.left ∙ d.learnt_so ∙ ap crc_of d.taken

-- the words of a command and of its components, lent bytes, the target, the answer and the target's later bytes
abbrev pub WritesCommandC : List ℕ → List ℕ → List ℕ → List ℕ → FlatWritten → List ℕ → Type 0
WritesCommandC words components lent target answer later =
    May scte35_write_command_words.Learnt {S = List ℕ × (List ℕ × (List ℕ × List ℕ))} {T = FlatWritten × List ℕ}
    (λ κ a. (a.0.now, (a.1.0.now, (a.1.1.0.now, a.1.1.1.0.now)))) (λ κ r e. (r, e.1.1.1.0.now)) (words, (components, (lent, target))) (answer, later)

pub writes_command_c_so : {words components lent target : List ℕ} {answer : FlatWritten} {later : List ℕ} → WritesCommandC words components lent target answer later
    → (answer ≡ flat_written (answer_of (command_words_made words components lent) target)) × (later ≡ later_of (command_words_made words components lent) target)
writes_command_c_so d = (
  sym (ap (λ (v : FlatWritten × List ℕ). v.0) d.left) ∙ d.learnt_so.0
      ∙ ap (λ (v : List ℕ × (List ℕ × (List ℕ × List ℕ))). flat_written (answer_of (command_words_made v.0 v.1.0 v.1.1.0) v.1.1.1)) d.taken,
  sym (ap (λ (v : FlatWritten × List ℕ). v.1) d.left) ∙ d.learnt_so.1
      ∙ ap (λ (v : List ℕ × (List ℕ × (List ℕ × List ℕ))). later_of (command_words_made v.0 v.1.0 v.1.1.0) v.1.1.1) d.taken,
)

-- ---- the named numbers over C

abbrev pub ClassifiesAlgorithm : ℕ → FlatNumber → Type 0
ClassifiesAlgorithm n f = May scte35_classify_algorithm.Learnt {S = ℕ} {T = FlatNumber} (λ κ a. a.0) (λ κ r e. r) n f

pub classifies_algorithm_so : {n : ℕ} {f : FlatNumber} → ClassifiesAlgorithm n f → f ≡ flat_name algorithm_entry (algorithm_of n)
classifies_algorithm_so d = sym d.left ∙ d.learnt_so ∙ ap (λ (v : ℕ). flat_name algorithm_entry (algorithm_of v)) d.taken

abbrev pub ClassifiesCommandType : ℕ → FlatNumber → Type 0
ClassifiesCommandType n f = May scte35_classify_command_type.Learnt {S = ℕ} {T = FlatNumber} (λ κ a. a.0) (λ κ r e. r) n f

pub classifies_command_type_so : {n : ℕ} {f : FlatNumber} → ClassifiesCommandType n f → f ≡ flat_name command_entry (command_type_of n)
classifies_command_type_so d = sym d.left ∙ d.learnt_so ∙ ap (λ (v : ℕ). flat_name command_entry (command_type_of v)) d.taken

abbrev pub ClassifiesUpidType : ℕ → FlatNumber → Type 0
ClassifiesUpidType n f = May scte35_classify_upid_type.Learnt {S = ℕ} {T = FlatNumber} (λ κ a. a.0) (λ κ r e. r) n f

pub classifies_upid_type_so : {n : ℕ} {f : FlatNumber} → ClassifiesUpidType n f → f ≡ flat_name upid_type_entry (upid_type_of n)
classifies_upid_type_so d = sym d.left ∙ d.learnt_so ∙ ap (λ (v : ℕ). flat_name upid_type_entry (upid_type_of v)) d.taken

abbrev pub ClassifiesSegmentationType : ℕ → FlatNumber → Type 0
ClassifiesSegmentationType n f = May scte35_classify_segmentation_type.Learnt {S = ℕ} {T = FlatNumber} (λ κ a. a.0) (λ κ r e. r) n f

pub classifies_segmentation_type_so : {n : ℕ} {f : FlatNumber} → ClassifiesSegmentationType n f → f ≡ flat_name segmentation_entry (segmentation_type_of n)
classifies_segmentation_type_so d = sym d.left ∙ d.learnt_so ∙ ap (λ (v : ℕ). flat_name segmentation_entry (segmentation_type_of v)) d.taken

abbrev pub ClassifiesNetworkIndicator : ℕ → FlatNumber → Type 0
ClassifiesNetworkIndicator n f = May scte35_classify_network_indicator.Learnt {S = ℕ} {T = FlatNumber} (λ κ a. a.0) (λ κ r e. r) n f

pub classifies_network_indicator_so : {n : ℕ} {f : FlatNumber} → ClassifiesNetworkIndicator n f → f ≡ flat_answer network_flag (network_of n)
classifies_network_indicator_so d = sym d.left ∙ d.learnt_so ∙ ap (λ (v : ℕ). flat_answer network_flag (network_of v)) d.taken

abbrev pub ClassifiesReturnMode : ℕ → FlatNumber → Type 0
ClassifiesReturnMode n f = May scte35_classify_return_mode.Learnt {S = ℕ} {T = FlatNumber} (λ κ a. a.0) (λ κ r e. r) n f

pub classifies_return_mode_so : {n : ℕ} {f : FlatNumber} → ClassifiesReturnMode n f → f ≡ flat_answer return_flag (return_of n)
classifies_return_mode_so d = sym d.left ∙ d.learnt_so ∙ ap (λ (v : ℕ). flat_answer return_flag (return_of v)) d.taken

abbrev pub ClassifiesRestrictions : ℕ → FlatNumber → Type 0
ClassifiesRestrictions n f = May scte35_classify_device_restrictions.Learnt {S = ℕ} {T = FlatNumber} (λ κ a. a.0) (λ κ r e. r) n f

pub classifies_restrictions_so : {n : ℕ} {f : FlatNumber} → ClassifiesRestrictions n f → f ≡ flat_answer restrictions_bits (restrictions_of n)
classifies_restrictions_so d = sym d.left ∙ d.learnt_so ∙ ap (λ (v : ℕ). flat_answer restrictions_bits (restrictions_of v)) d.taken
