-- `descriptor_writer::write_descriptor`, kind by kind.
use Rattle.descriptor_writer.proofs.Describing.{as_segmentation, avail_without_components, dtmf_without_components, time_without_components, reserved_without_components}
use Rattle.descriptor_writer.proofs.write_descriptor.Goals as goal

pub returns-in-Avail : goal.returns-in-Avail
returns-in-Avail c =
    avail_without_components _ _ _ _ _ _ _ _ c.in-Avail.is c.write_descriptor_without_components.ensures

pub returns-in-Dtmf : goal.returns-in-Dtmf
returns-in-Dtmf c =
    dtmf_without_components _ _ _ _ _ _ _ _ c.in-Dtmf.is c.write_descriptor_without_components-in-Dtmf.ensures

pub returns-in-Time : goal.returns-in-Time
returns-in-Time c =
    time_without_components _ _ _ _ _ _ _ _ c.in-Time.is c.write_descriptor_without_components-in-Time.ensures

pub returns-in-Reserved : goal.returns-in-Reserved
returns-in-Reserved c =
    reserved_without_components _ _ _ _ _ _ _ _ _ c.in-Reserved.is c.write_descriptor_without_components-in-Reserved.ensures

pub returns : goal.returns
returns c =
    as_segmentation _ _ _ _ _ _ _ _ c.in-Segmentation.is c.write_segmentation.ensures
