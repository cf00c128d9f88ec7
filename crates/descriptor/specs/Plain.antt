-- The payloads of avail, DTMF, time and reserved descriptors. 01, "Loop items".
use Rattle.table.specs.Table.{Table, done, inside, part, remaining, uimsbf, ones}
use Rattle.table.specs.declared.View.{View}
use Rattle.descriptor.specs.declared.plain.AvailDescriptor.{AvailDescriptor}
use Rattle.descriptor.specs.declared.plain.DTMFDescriptor.{DTMFDescriptor}
use Rattle.descriptor.specs.declared.plain.TimeDescriptor.{TimeDescriptor}

-- "0 avail: 32 bits."
unfoldable pub avail : Table AvailDescriptor
avail =
    uimsbf 32 (λ x. x.provider_avail_id) λ provider_avail_id.
    done (record { provider_avail_id = provider_avail_id })

-- "1 DTMF: preroll 8, count 3, reserved 5, count bytes."
unfoldable pub dtmf : Table DTMFDescriptor
dtmf =
    uimsbf 8 (λ x. x.preroll) λ preroll.
    uimsbf 3 (λ x. x.dtmf_chars.len) λ dtmf_count.
    ones 5 (
    inside (part dtmf_count) (λ x. x.dtmf_chars) λ dtmf_chars.
    done (record { preroll = preroll; dtmf_chars = dtmf_chars }))

-- "3 time: seconds 48, nanoseconds 32, offset 16."
unfoldable pub time : Table TimeDescriptor
time =
    uimsbf 48 (λ x. x.tai_seconds) λ tai_seconds.
    uimsbf 32 (λ x. x.tai_nanoseconds) λ tai_nanoseconds.
    uimsbf 16 (λ x. x.utc_offset) λ utc_offset.
    done (record { tai_seconds = tai_seconds; tai_nanoseconds = tai_nanoseconds; utc_offset = utc_offset })

-- "Other tags or identifiers: reserved, with tag, identifier and bytes": all that is left
unfoldable pub private_table : Table View
private_table =
    inside remaining (λ v. v.len) λ n.
    inside (part n) (λ v. v) λ v.
    done v
