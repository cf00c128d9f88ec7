-- `adjust_section::put_section`: four stores as one.
use Rattle.adjust_section.proofs.Stored.{section_stored}
use Rattle.adjust_section.proofs.put_section.Goals as goal

pub returns : goal.returns
returns c =
    let a = c.args in
    section_stored a.target.now _ _ _ _ a.section.now _ a.p _ c.wide.ensures.0 c.put_bytes.ensures c.put_number.ensures c.put_bytes-2.ensures
    c.crc32-crc.ensures c.put_number-2.ensures c.requires.1 c.requires.3
