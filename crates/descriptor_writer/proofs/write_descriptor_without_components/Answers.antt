-- `descriptor_writer::write_descriptor_without_components`, kind by kind.
use Rattle.descriptor_writer.proofs.Describing.{as_avail, as_dtmf, as_segmentation, as_time, as_reserved}
use Rattle.descriptor_writer.proofs.write_descriptor_without_components.Goals as goal

pub returns-in-Avail : goal.returns-in-Avail
returns-in-Avail c =
    as_avail _ _ _ _ _ _ _ _ c.in-Avail.is c.write_avail.ensures

pub returns-in-Dtmf : goal.returns-in-Dtmf
returns-in-Dtmf c =
    as_dtmf _ _ _ _ _ _ _ _ c.in-Dtmf.is c.write_dtmf.ensures

pub returns-in-Segmentation : goal.returns-in-Segmentation
returns-in-Segmentation c =
    as_segmentation _ _ _ _ _ _ _ _ c.in-Segmentation.is c.write_segmentation_without_components.ensures

pub returns-in-Time : goal.returns-in-Time
returns-in-Time c =
    as_time _ _ _ _ _ _ _ _ c.in-Time.is c.write_time.ensures

pub returns-in-Reserved : goal.returns-in-Reserved
returns-in-Reserved c =
    as_reserved _ _ _ _ _ _ _ _ _ c.in-Reserved.is c.write_reserved.ensures
