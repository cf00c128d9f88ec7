-- `descriptor_writer::segmentation::write_segmentation`: the components as bytes, and then the whole.
use Prim.Native.Nat.{ℕ}
use mathlib.Core.List.{[]}
use mathlib.Core.Path.{◌≡◌, sym, ◌∙◌}
use native.Mathlib.Omega.{arith}
use lib.ListN.{length, length-replicate}
use Rattle.descriptor_writer.proofs.Listing.{all_zeros, listed_so}
use Rattle.descriptor_writer.proofs.Segmenting.{segment_refused, segment_view}
use Rattle.descriptor_writer.proofs.segmentation.write_segmentation.Goals as goal

pub returns-then-refusal-ne0 : goal.returns-then-refusal-ne0
returns-then-refusal-ne0 c =
    let a = c.args in
    segment_refused a.x _ (record { components = a.components; eidr = a.eidr }) a.lent.now a.target.now _ c.refusal_of_segmentation-refusal.ensures c.if-refusal-ne0.true

pub write_tested_segmentation-requires : goal.write_tested_segmentation-requires
write_tested_segmentation-requires c =
    let a = c.args in
    segment_view a.x _ (record { components = a.components; eidr = a.eidr }) a.lent.now a.target.now _ c.refusal_of_segmentation-refusal.ensures c.if-refusal-ne0.false

pub returns : goal.returns
returns c =
    let a = c.args in
    let n = c.count_in_segmentation-n in
    let many : length a.components ≡ 255 = omega (arith, c) in
    c.write_tested_segmentation.ensures.writable a.identifier a.components many (sym c.refusal_of_segmentation-refusal.ensures ∙ c.if-refusal-ne0.false)
    (listed_so a.x a.components _ n.ensures many (omega (arith, n)) _ (all_zeros 1530) (length-replicate {A = ℕ} 1530 0) _ _ (c.store_components-last.ensures []))
