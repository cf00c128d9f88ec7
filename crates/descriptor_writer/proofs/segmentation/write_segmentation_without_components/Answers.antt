-- `descriptor_writer::segmentation::write_segmentation_without_components`, with components or without.
use mathlib.Core.List.{[]}
use mathlib.Core.Path.{sym, ◌∙◌}
use native.Mathlib.Omega.{arith}
use Rattle.descriptor.specs.Full.{filled}
use Rattle.descriptor_measure.proofs.Tests.{blanks_length}
use Rattle.descriptor_writer.proofs.Listing.{none_listed}
use Rattle.descriptor_writer.proofs.Segmenting.{segment_refused, segment_view, with_blanks}
use Rattle.descriptor_writer.proofs.segmentation.write_segmentation_without_components.Goals as goal

pub returns-then-count_in_segmentation-gt0 : goal.returns-then-count_in_segmentation-gt0
returns-then-count_in_segmentation-gt0 c =
    with_blanks _ _ _ _ _ _ _ _ c.blank_beside-blank.ensures c.write_segmentation.ensures

pub returns-then-refusal-ne0 : goal.returns-then-refusal-ne0
returns-then-refusal-ne0 c =
    let a = c.args in
    segment_refused a.x _ (record { components = filled []; eidr = a.eidr }) a.lent.now a.target.now _ c.refusal_with_no_components-refusal.ensures c.if-refusal-ne0.true

pub write_tested_segmentation-requires : goal.write_tested_segmentation-requires
write_tested_segmentation-requires c =
    let a = c.args in
    segment_view a.x _ (record { components = filled []; eidr = a.eidr }) a.lent.now a.target.now _ c.refusal_with_no_components-refusal.ensures c.if-refusal-ne0.false

pub returns : goal.returns
returns c =
    let a = c.args in
    c.write_tested_segmentation.ensures.writable a.identifier (filled []) blanks_length (sym c.refusal_with_no_components-refusal.ensures ∙ c.if-refusal-ne0.false)
    (none_listed _ (filled []) (sym c.count_in_segmentation.ensures ∙ omega (arith, c.if-count_in_segmentation-gt0.false)))
