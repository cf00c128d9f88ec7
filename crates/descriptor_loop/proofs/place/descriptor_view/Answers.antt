-- `descriptor_loop::place::descriptor_view` meets its contract, kind by kind.
use Rattle.descriptor_loop.proofs.place.descriptor_view.Goals as goal

pub returns-in-Avail : goal.returns-in-Avail
returns-in-Avail c = rw c.in-Avail.is

pub returns-in-Cancel : goal.returns-in-Cancel
returns-in-Cancel c = rw (c.in-Segmentation.is, c.in-Cancel.is)

pub returns-in-Active : goal.returns-in-Active
returns-in-Active c = rw (c.in-Segmentation.is, c.in-Active.is) c.upid_view.ensures

pub returns-in-Time : goal.returns-in-Time
returns-in-Time c = rw c.in-Time.is
