-- `descriptor_loop::reading::read_item` meets its contract: the payload of a descriptor lies in the loop.
use Rattle.std.proofs.Common.{Some}
use mathlib.Core.Path.{ap, ◌∙◌}
use native.Mathlib.Omega.{arith}
use Rattle.descriptor_loop.proofs.Readings.{payload_there, reading_is_lem}
use Rattle.descriptor_loop.proofs.reading.read_item.Goals as goal

pub overflow_add-start : goal.overflow_add-start
overflow_add-start c =
    let a = c.args in
    omega (arith, payload_there a.descriptors.now a.offset _ c.step-read.ensures _ (c.in-Some-Ok.is ∙ ap Some (rw c.in-Some-Ok.is at c.in-Some-Ok.field-0-is)))

pub slice_bounds-beside_of-count : goal.slice_bounds-beside_of-count
slice_bounds-beside_of-count c =
    let a = c.args in
    omega (arith, payload_there a.descriptors.now a.offset _ c.step-read.ensures _ (c.in-Some-Ok.is ∙ ap Some (rw c.in-Some-Ok.is at c.in-Some-Ok.field-0-is)))

pub slice_bounds-beside_of-start : goal.slice_bounds-beside_of-start
slice_bounds-beside_of-start c =
    let a = c.args in
    omega (arith, payload_there a.descriptors.now a.offset _ c.step-read.ensures _ (c.in-Some-Ok.is ∙ ap Some (rw c.in-Some-Ok.is at c.in-Some-Ok.field-0-is)))

pub slice_bounds-beside_of-end : goal.slice_bounds-beside_of-end
slice_bounds-beside_of-end c =
    let a = c.args in
    omega (arith, payload_there a.descriptors.now a.offset _ c.step-read.ensures _ (c.in-Some-Ok.is ∙ ap Some (rw c.in-Some-Ok.is at c.in-Some-Ok.field-0-is)))

pub returns-in-None : goal.returns-in-None
returns-in-None c =
    let a = c.args in
    reading_is_lem a.descriptors.now a.offset _ c.step-read.ensures _ c.in-None.is _ c.blank_beside.ensures

pub returns-in-Some-Err : goal.returns-in-Some-Err
returns-in-Some-Err c =
    let a = c.args in
    reading_is_lem a.descriptors.now a.offset _ c.step-read.ensures _ (c.in-Some-Err.is ∙ ap Some (rw c.in-Some-Err.is at c.in-Some-Err.field-0-is)) _ c.blank_beside-in-Some-Err.ensures

pub returns-in-Some-Ok : goal.returns-in-Some-Ok
returns-in-Some-Ok c =
    let a = c.args in
    reading_is_lem a.descriptors.now a.offset _ c.step-read.ensures _ (c.in-Some-Ok.is ∙ ap Some (rw c.in-Some-Ok.is at c.in-Some-Ok.field-0-is)) _ c.beside_of.ensures
