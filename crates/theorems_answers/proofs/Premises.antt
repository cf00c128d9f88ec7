-- What these statements ask of answers can be met: of any arguments the definition's answer is one that the contract allows (`ReadsHeader` and its like:
-- Contracts.antt), over C from offset 0 on.
use Prim.Native.Nat.{ℕ}
use mathlib.Core.List.{List, []}
use mathlib.Core.Path.{refl}
use Rattle.bit_stores.specs.Written.{answer_of, later_of}
use Rattle.c_command_writer.specs.CommandGiven.{command_words_made}
use Rattle.c_command_writer.specs.Words.{flat_written}
use Rattle.c_section.specs.Flat.{flat_header_read}
use Rattle.c_section.specs.FlatCommand.{flat_command_read}
use Rattle.canonical_form.specs.Command.{canonical_command}
use Rattle.canonical_form.specs.Descriptor.{canonical_descriptor, canonical_loop}
use Rattle.command.specs.Command.{array, command_of, listed_of}
use Rattle.command.specs.declared.SpliceCommand.{SpliceCommand}
use Rattle.command_measure.specs.Made.{command_made}
use Rattle.crc.specs.Crc.{crc_of}
use Rattle.descriptor.specs.Descriptor.{descriptor_of}
use Rattle.descriptor.specs.Full.{filled, full_of}
use Rattle.descriptor.specs.declared.Descriptor.{Descriptor}
use Rattle.descriptor_loop.specs.Items.{count_of}
use Rattle.descriptor_measure.specs.Writing.{descriptor_made}
use Rattle.header.specs.Header.{header_of}
use Rattle.header.specs.declared.header.SpliceInfoHeader.{SpliceInfoHeader}
use Rattle.names.specs.Algorithm.{algorithm_entry, algorithm_of}
use Rattle.names.specs.Command.{command_entry, command_type_of}
use Rattle.names.specs.Flags.{network_flag, network_of, return_flag, return_of, restrictions_bits, restrictions_of}
use Rattle.names.specs.Segmentation.{segmentation_entry, segmentation_type_of}
use Rattle.names.specs.Upid.{upid_type_entry, upid_type_of}
use Rattle.scte35.specs.FlatNumber.{flat_name, flat_answer}
use Rattle.section_writer.specs.Writing.{type_of, section_made}
use Rattle.table.specs.Writing.{Made}
use Rattle.theorems_functions.proofs.Premises.{slice, target_of}
use Rattle.upid.specs.Upid.{check_of}
use Rattle.theorems_answers.proofs.Contracts.{ReadsHeader, ReadsCommand, ReadsComponents, CountsItems, ReadsDescriptor, ReadsFullDescriptor, ChecksUpid, GivesCrc, TellsCommand, TellsDescriptor, TellsLoop, WritesCommandAlone, WritesDescriptorAlone, WritesSectionAlone, ReadsHeaderC, ReadsCommandC, TellsDescriptorC, TellsLoopC, GivesCrcC, WritesCommandC, ClassifiesAlgorithm, ClassifiesCommandType, ClassifiesUpidType, ClassifiesSegmentationType, ClassifiesNetworkIndicator, ClassifiesReturnMode, ClassifiesRestrictions}

-- ---- the readers and the tests

pub read_header_is_met : (b : List ℕ) → ReadsHeader b (header_of b)
read_header_is_met b = record { κ = ([], tt); arguments = (slice b, tt); answer = header_of b; after = (slice b, tt); taken = refl; left = refl; learnt_so = refl }

pub read_command_is_met : (k : ℕ) (p : List ℕ) → ReadsCommand k p (command_of k p)
read_command_is_met k p = record { κ = ([], tt); arguments = (k, (slice p, tt)); answer = command_of k p; after = (k, (slice p, tt)); taken = refl; left = refl; learnt_so = refl }

pub read_components_is_met : (p : List ℕ) → ReadsComponents p (listed_of p)
read_components_is_met p = record { κ = ([], tt); arguments = (slice p, tt); answer = listed_of p; after = (slice p, tt); taken = refl; left = refl; learnt_so = refl }

pub count_items_is_met : (loop : List ℕ) → CountsItems loop (count_of loop)
count_items_is_met loop = record { κ = ([], tt); arguments = (slice loop, tt); answer = count_of loop; after = (slice loop, tt); taken = refl; left = refl; learnt_so = refl }

pub read_descriptor_is_met : (tag : ℕ) (id p : List ℕ) → ReadsDescriptor tag id p (descriptor_of tag id p)
read_descriptor_is_met tag id p = record { κ = ([], tt); arguments = (tag, (id, (slice p, tt))); answer = descriptor_of tag id p; after = (tag, (id, (slice p, tt))); taken = refl; left = refl; learnt_so = refl }

pub read_full_descriptor_is_met : (tag : ℕ) (id p : List ℕ) → ReadsFullDescriptor tag id p (full_of tag id p)
read_full_descriptor_is_met tag id p = record { κ = ([], tt); arguments = (tag, (id, (slice p, tt))); answer = full_of tag id p; after = (tag, (id, (slice p, tt))); taken = refl; left = refl; learnt_so = refl }

pub check_upid_is_met : (k : ℕ) (b : List ℕ) → ChecksUpid k b (check_of k b)
check_upid_is_met k b = record { κ = ([], tt); arguments = (k, (slice b, tt)); answer = check_of k b; after = (k, (slice b, tt)); taken = refl; left = refl; learnt_so = refl }

pub crc32_is_met : (b : List ℕ) → GivesCrc b (crc_of b)
crc32_is_met b = record { κ = ([], tt); arguments = (slice b, tt); answer = crc_of b; after = (slice b, tt); taken = refl; left = refl; learnt_so = refl }

pub is_canonical_command_is_met : (k : ℕ) (p : List ℕ) → TellsCommand k p (canonical_command k p)
is_canonical_command_is_met k p = record { κ = ([], tt); arguments = (k, (slice p, tt)); answer = canonical_command k p; after = (k, (slice p, tt)); taken = refl; left = refl; learnt_so = refl }

pub is_canonical_descriptor_is_met : (b : List ℕ) → TellsDescriptor b (canonical_descriptor b)
is_canonical_descriptor_is_met b = record { κ = ([], tt); arguments = (slice b, tt); answer = canonical_descriptor b; after = (slice b, tt); taken = refl; left = refl; learnt_so = refl }

pub is_canonical_loop_is_met : (loop : List ℕ) → TellsLoop loop (canonical_loop loop)
is_canonical_loop_is_met loop = record { κ = ([], tt); arguments = (slice loop, tt); answer = canonical_loop loop; after = (slice loop, tt); taken = refl; left = refl; learnt_so = refl }

-- ---- the writers without components

pub write_command_without_components_is_met : (c : SpliceCommand) (lent target : List ℕ)
    → WritesCommandAlone c lent target (answer_of (command_made c (array []) lent) target) (later_of (command_made c (array []) lent) target)
write_command_without_components_is_met c lent target =
    let m : Made = command_made c (array []) lent in
    record {
      κ = ([], ([], tt));
      arguments = (c, (slice lent, (target_of target, tt)));
      answer = answer_of m target;
      after = (c, (slice lent, (target_of (later_of m target), tt)));
      taken = refl;
      left = refl;
      learnt_so = (refl, refl);
    }

pub write_descriptor_without_components_is_met : (x : Descriptor) (identifier eidr lent target : List ℕ) → let m : Made = descriptor_made x identifier (record { components = filled []; eidr = eidr }) lent in
    WritesDescriptorAlone x identifier eidr lent target (answer_of m target) (later_of m target)
write_descriptor_without_components_is_met x identifier eidr lent target =
    let m : Made = descriptor_made x identifier (record { components = filled []; eidr = eidr }) lent in
    record {
      κ = ([], ([], tt));
      arguments = (x, (identifier, (eidr, (slice lent, (target_of target, tt)))));
      answer = answer_of m target;
      after = (x, (identifier, (eidr, (slice lent, (target_of (later_of m target), tt)))));
      taken = refl;
      left = refl;
      learnt_so = record { answer = refl; target_later = refl };
    }

pub write_section_without_components_is_met : (h : SpliceInfoHeader) (c : SpliceCommand) (lent loop target : List ℕ) → let m : Made = section_made h (command_made c (array []) lent) (type_of c) loop in
    WritesSectionAlone h c lent loop target (answer_of m target) (later_of m target)
write_section_without_components_is_met h c lent loop target =
    let m : Made = section_made h (command_made c (array []) lent) (type_of c) loop in
    record {
      κ = ([], ([], ([], tt)));
      arguments = (h, (c, (slice lent, (slice loop, (target_of target, tt)))));
      answer = answer_of m target;
      after = (h, (c, (slice lent, (slice loop, (target_of (later_of m target), tt)))));
      taken = refl;
      left = refl;
      learnt_so = (refl, refl);
    }

-- ---- over C

pub scte35_read_header_is_met : (b : List ℕ) → ReadsHeaderC b (flat_header_read (header_of b))
scte35_read_header_is_met b = record { κ = ([], tt); arguments = (slice b, (0, tt)); answer = flat_header_read (header_of b); after = (slice b, (0, tt)); taken = refl; left = refl; learnt_so = refl }

pub scte35_read_command_is_met : (k : ℕ) (p : List ℕ) → ReadsCommandC k p (flat_command_read (command_of k p))
scte35_read_command_is_met k p = record { κ = ([], tt); arguments = (k, (slice p, (0, tt))); answer = flat_command_read (command_of k p); after = (k, (slice p, (0, tt))); taken = refl; left = refl; learnt_so = refl }

pub scte35_is_canonical_descriptor_is_met : (b : List ℕ) → TellsDescriptorC b (canonical_descriptor b)
scte35_is_canonical_descriptor_is_met b = record { κ = ([], tt); arguments = (slice b, (0, tt)); answer = canonical_descriptor b; after = (slice b, (0, tt)); taken = refl; left = refl; learnt_so = refl }

pub scte35_is_canonical_loop_is_met : (loop : List ℕ) → TellsLoopC loop (canonical_loop loop)
scte35_is_canonical_loop_is_met loop = record { κ = ([], tt); arguments = (slice loop, (0, tt)); answer = canonical_loop loop; after = (slice loop, (0, tt)); taken = refl; left = refl; learnt_so = refl }

pub scte35_crc_is_met : (b : List ℕ) → GivesCrcC b (crc_of b)
scte35_crc_is_met b = record { κ = ([], tt); arguments = (slice b, (0, tt)); answer = crc_of b; after = (slice b, (0, tt)); taken = refl; left = refl; learnt_so = refl }

pub scte35_write_command_words_is_met : (words components lent target : List ℕ)
    → WritesCommandC words components lent target (flat_written (answer_of (command_words_made words components lent) target)) (later_of (command_words_made words components lent) target)
scte35_write_command_words_is_met words components lent target =
    let m : Made = command_words_made words components lent in
    record {
      κ = ([], ([], ([], ([], tt))));
      arguments = (slice words, (slice components, (slice lent, (target_of target, tt))));
      answer = flat_written (answer_of m target);
      after = (slice words, (slice components, (slice lent, (target_of (later_of m target), tt))));
      taken = refl;
      left = refl;
      learnt_so = (refl, refl);
    }

pub scte35_classify_algorithm_is_met : (n : ℕ) → ClassifiesAlgorithm n (flat_name algorithm_entry (algorithm_of n))
scte35_classify_algorithm_is_met n = record { κ = tt; arguments = (n, tt); answer = flat_name algorithm_entry (algorithm_of n); after = (n, tt); taken = refl; left = refl; learnt_so = refl }

pub scte35_classify_command_type_is_met : (n : ℕ) → ClassifiesCommandType n (flat_name command_entry (command_type_of n))
scte35_classify_command_type_is_met n = record { κ = tt; arguments = (n, tt); answer = flat_name command_entry (command_type_of n); after = (n, tt); taken = refl; left = refl; learnt_so = refl }

pub scte35_classify_upid_type_is_met : (n : ℕ) → ClassifiesUpidType n (flat_name upid_type_entry (upid_type_of n))
scte35_classify_upid_type_is_met n = record { κ = tt; arguments = (n, tt); answer = flat_name upid_type_entry (upid_type_of n); after = (n, tt); taken = refl; left = refl; learnt_so = refl }

pub scte35_classify_segmentation_type_is_met : (n : ℕ) → ClassifiesSegmentationType n (flat_name segmentation_entry (segmentation_type_of n))
scte35_classify_segmentation_type_is_met n = record { κ = tt; arguments = (n, tt); answer = flat_name segmentation_entry (segmentation_type_of n); after = (n, tt); taken = refl; left = refl; learnt_so = refl }

pub scte35_classify_network_indicator_is_met : (n : ℕ) → ClassifiesNetworkIndicator n (flat_answer network_flag (network_of n))
scte35_classify_network_indicator_is_met n = record { κ = tt; arguments = (n, tt); answer = flat_answer network_flag (network_of n); after = (n, tt); taken = refl; left = refl; learnt_so = refl }

pub scte35_classify_return_mode_is_met : (n : ℕ) → ClassifiesReturnMode n (flat_answer return_flag (return_of n))
scte35_classify_return_mode_is_met n = record { κ = tt; arguments = (n, tt); answer = flat_answer return_flag (return_of n); after = (n, tt); taken = refl; left = refl; learnt_so = refl }

pub scte35_classify_device_restrictions_is_met : (n : ℕ) → ClassifiesRestrictions n (flat_answer restrictions_bits (restrictions_of n))
scte35_classify_device_restrictions_is_met n = record { κ = tt; arguments = (n, tt); answer = flat_answer restrictions_bits (restrictions_of n); after = (n, tt); taken = refl; left = refl; learnt_so = refl }
