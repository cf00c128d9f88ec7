-- A transport packet's fields by position (ISO/IEC 13818-1, 2.4.3.2 to 2.4.3.5 and 2.4.4.1), and refusals 71 to 74.
use Rattle.std.specs.Prelude.{ℕ, ◌+◌, ◌*◌, ◌/◌, ◌%◌, Bool, List, eqb, leb, ltb, length, get_or, Option, Some, None, Result, Ok, Err}
use Rattle.table.specs.Bits.{pick}
use Rattle.transport_packet.specs.declared.packet.Payload.{Payload}
use Rattle.transport_packet.specs.declared.packet.Refusal.{Refusal}
use Rattle.transport_packet.specs.declared.packet.Refusal.TheVariants.{NotAPacket, OtherPid, Scrambled, PayloadOutside, SectionLengthTooLarge}

-- the number of each refusal
unfoldable pub number_of : Refusal → ℕ
number_of NotAPacket = 71
number_of OtherPid = 72
number_of Scrambled = 73
number_of PayloadOutside = 74
number_of SectionLengthTooLarge = 75

-- ---- the fields

-- 13 bits
abbrev pub pid_of : List ℕ → ℕ
pid_of p = get_or p 1 0 % 32 * 256 + get_or p 2 0

abbrev pub payload_unit_start : List ℕ → ℕ
payload_unit_start p = get_or p 1 0 / 64 % 2

abbrev pub scrambling_control : List ℕ → ℕ
scrambling_control p = get_or p 3 0 / 64

-- adaptation_field_control's two bits: an adaptation field is there, a payload is there
abbrev pub has_adaptation : List ℕ → ℕ
has_adaptation p = get_or p 3 0 / 32 % 2

abbrev pub has_payload : List ℕ → ℕ
has_payload p = get_or p 3 0 / 16 % 2

abbrev pub counter_of : List ℕ → ℕ
counter_of p = get_or p 3 0 % 16

-- the first byte behind the header and the adaptation field, whose length does not count its own byte
unfoldable pub payload_at : List ℕ → ℕ
payload_at p = pick (eqb (has_adaptation p) 1) (5 + get_or p 4 0) 4

-- where the pointer_field points: it counts from the byte behind itself
abbrev pub target : List ℕ → ℕ
target p = payload_at p + 1 + get_or p (payload_at p) 0

-- ---- "Refusals in order"

-- what a packet brings: a payload, or none; or its refusal
abbrev pub Head : Type 0
Head = Result (Option Payload) Refusal

abbrev pub bringing : ℕ → ℕ → ℕ → Head
bringing counter at first = Ok (Some (record { counter = counter; at = at; first = first }))

-- the refusal unless the test holds
abbrev pub unless : Bool → Refusal → Head → Head
unless test refusal else = pick test else (Err refusal)

-- A payload's bytes stand from `at` on, and from `first` on those of the sections that begin in the packet: 188 where none does.
unfoldable pub head_of : ℕ → List ℕ → Head
head_of pid p =
    -- 71 "not 188 bytes or wrong sync"
    unless (eqb (length p) 188) NotAPacket
    (unless (eqb (get_or p 0 0) 71) NotAPacket
    -- 72 "another PID"
    (unless (eqb (pid_of p) pid) OtherPid
    -- 73 "scrambled"
    (unless (eqb (scrambling_control p) 0) Scrambled
    -- 74 "adaptation field past the packet's end or leaving no byte of an announced payload"
    (unless (leb (payload_at p + has_payload p) 188) PayloadOutside
    (pick (eqb (has_payload p) 0) (Ok None)
    (pick (eqb (payload_unit_start p) 0) (bringing (counter_of p) (payload_at p) 188)
    -- 74 "or a pointer to byte 188 or past it"
    (unless (ltb (target p) 188) PayloadOutside
    (bringing (counter_of p) (payload_at p + 1) (target p)))))))))
