-- `c_items::descriptors::flat_item` meets its contract, arm by arm.
use mathlib.Core.Path.{ap, sym, ◌∙◌}
use Rattle.c_items.specs.FlatItem.{segmentation_item, flat_descriptor, flat_item}
use Rattle.c_items.proofs.descriptors.flat_item.Goals as goal
use Rattle.std.proofs.Common.{Ok, Some}

pub returns-in-None : goal.returns-in-None
unfolding flat_item
returns-in-None c = rw c.in-None.is c.blank_item.ensures

pub returns-in-Some-Err : goal.returns-in-Some-Err
unfolding flat_item
returns-in-Some-Err c = rw (c.in-Some-Err.is, rw c.in-Some-Err.is at c.in-Some-Err.field-0-is) c.blank_item-in-Some-Err.ensures

pub returns-in-Avail : goal.returns-in-Avail
unfolding flat_item
returns-in-Avail c =
    c.avail_item.ensures ∙ sym (ap flat_item (c.in-Some-Ok.is ∙ ap Some (rw c.in-Some-Ok.is at c.in-Some-Ok.field-0-is) ∙ ap (λ x. Some (Ok x)) c.in-Avail.is))

pub returns-in-Dtmf : goal.returns-in-Dtmf
unfolding flat_item
returns-in-Dtmf c =
    c.dtmf_item.ensures ∙ sym (ap flat_item (c.in-Some-Ok.is ∙ ap Some (rw c.in-Some-Ok.is at c.in-Some-Ok.field-0-is) ∙ ap (λ x. Some (Ok x)) c.in-Dtmf.is))

pub returns-in-Cancel : goal.returns-in-Cancel
unfolding flat_item flat_descriptor
returns-in-Cancel c =
    c.cancelled_item.ensures ∙ sym (ap (segmentation_item _) c.in-Cancel.is) ∙ sym (ap flat_item (c.in-Some-Ok.is ∙ ap Some (rw c.in-Some-Ok.is at c.in-Some-Ok.field-0-is) ∙ ap (λ x. Some (Ok x)) c.in-Segmentation.is))

pub returns-in-Active : goal.returns-in-Active
unfolding flat_item flat_descriptor
returns-in-Active c =
    c.active_item.ensures ∙ sym (ap (segmentation_item _) c.in-Active.is) ∙ sym (ap flat_item (c.in-Some-Ok.is ∙ ap Some (rw c.in-Some-Ok.is at c.in-Some-Ok.field-0-is) ∙ ap (λ x. Some (Ok x)) c.in-Segmentation.is))

pub returns-in-Time : goal.returns-in-Time
unfolding flat_item
returns-in-Time c =
    c.time_item.ensures ∙ sym (ap flat_item (c.in-Some-Ok.is ∙ ap Some (rw c.in-Some-Ok.is at c.in-Some-Ok.field-0-is) ∙ ap (λ x. Some (Ok x)) c.in-Time.is))

pub returns-in-Reserved : goal.returns-in-Reserved
unfolding flat_item
returns-in-Reserved c =
    c.reserved_item.ensures ∙ sym (ap flat_item (c.in-Some-Ok.is ∙ ap Some (rw c.in-Some-Ok.is at c.in-Some-Ok.field-0-is) ∙ ap (λ x. Some (Ok x)) c.in-Reserved.is))
