-- `descriptor_loop::iteration::read_complete` meets its contract: the payload is read, and its views, which lie inside it, are moved.
use Prim.Native.Nat.{◌+◌, ◌-◌}
use mathlib.Core.Path.{◌∙◌, ap}
use native.Mathlib.Omega.{arith}
use Rattle.descriptor_loop.proofs.Completes.{is_movable, refused_movable, complete_refused, avail_is, dtmf_is, segmentation_is_lem, time_is, reserved_is}
use Rattle.descriptor_loop.proofs.iteration.read_complete.Goals as goal

pub move_refusal-requires : goal.move_refusal-requires
move_refusal-requires c =
    let a = c.args in
    refused_movable a.descriptors.now (a.offset + 6) (a.offset + (a.len + 2) - (a.offset + 6)) _ _ _ _ c.read_descriptor.ensures c.in-Err.is (omega arith) (omega arith)

pub returns-in-Err : goal.returns-in-Err
returns-in-Err c =
    let a = c.args in
    c.plain.ensures ∙ complete_refused a.descriptors.now a.offset a.len (omega arith) (omega arith) _ c.read_descriptor.ensures _ _ c.in-Err.is c.move_refusal.ensures

pub returns-in-Avail : goal.returns-in-Avail
returns-in-Avail c =
    let a = c.args in
    c.plain-in-Avail.ensures ∙ avail_is a.descriptors.now a.offset a.len (omega arith) (omega arith) _ c.read_descriptor.ensures _ _ c.in-Ok.is c.in-Avail.is

pub move_descriptor-requires : goal.move_descriptor-requires
move_descriptor-requires c =
    let a = c.args in
    is_movable a.descriptors.now (a.offset + 6) (a.offset + (a.len + 2) - (a.offset + 6)) _ _ _ _ c.read_descriptor.ensures c.in-Ok.is (omega arith) (omega arith)

pub returns-in-Dtmf : goal.returns-in-Dtmf
returns-in-Dtmf c =
    let a = c.args in
    c.plain-in-Dtmf.ensures ∙ dtmf_is a.descriptors.now a.offset a.len (omega arith) (omega arith) _ c.read_descriptor.ensures _ _ _ c.in-Ok.is c.in-Dtmf.is c.move_descriptor.ensures

pub move_descriptor-requires-in-Segmentation : goal.move_descriptor-requires-in-Segmentation
move_descriptor-requires-in-Segmentation c =
    let a = c.args in
    is_movable a.descriptors.now (a.offset + 6) (a.offset + (a.len + 2) - (a.offset + 6)) _ _ _ _ c.read_descriptor.ensures c.in-Ok.is (omega arith) (omega arith)

pub returns-in-Segmentation : goal.returns-in-Segmentation
returns-in-Segmentation c =
    let a = c.args in
    c.plain-in-Segmentation.ensures ∙ segmentation_is_lem a.descriptors.now a.offset a.len (omega arith) (omega arith) _ c.read_descriptor.ensures _ _ _ c.in-Ok.is c.in-Segmentation.is c.move_descriptor-in-Segmentation.ensures

pub returns-in-Time : goal.returns-in-Time
returns-in-Time c =
    let a = c.args in
    c.plain-in-Time.ensures ∙ time_is a.descriptors.now a.offset a.len (omega arith) (omega arith) _ c.read_descriptor.ensures _ _ c.in-Ok.is c.in-Time.is

pub move_descriptor-requires-in-Reserved : goal.move_descriptor-requires-in-Reserved
move_descriptor-requires-in-Reserved c =
    let a = c.args in
    is_movable a.descriptors.now (a.offset + 6) (a.offset + (a.len + 2) - (a.offset + 6)) _ _ _ _ c.read_descriptor.ensures c.in-Ok.is (omega arith) (omega arith)

pub returns-in-Reserved : goal.returns-in-Reserved
returns-in-Reserved c =
    let a = c.args in
    reserved_is a.descriptors.now a.offset a.len (omega arith) (omega arith) _ c.read_descriptor.ensures _ _ _ _ c.in-Ok.is c.in-Reserved.is c.move_descriptor-in-Reserved.ensures
