-- The payloads of the commands by their type. 01, "Commands".
use Rattle.std.specs.Prelude.{ℕ, List, [], map, eqb, length, Ok, Err, Result}
use Rattle.splice_time.specs.Time.{splice_time}
use Rattle.splice_time.specs.declared.SpliceTime.{SpliceTime}
use Rattle.table.specs.Bits.{pick, bits_of, AllBytes}
use Rattle.table.specs.Lent.{filled_to}
use Rattle.table.specs.Table.{Table, done, inside, uimsbf, remaining, part, Answer, got, short, parse}
use Rattle.table.specs.declared.View.{View}
use Rattle.command.specs.Insert.{WithComponents, insert, insert_of, count, blank}
use Rattle.command.specs.declared.Private.{Private}
use Rattle.command.specs.declared.SpliceCommand.{SpliceCommand}
use Rattle.command.specs.declared.components.InsertComponent.{InsertComponent}
use Rattle.command.specs.declared.components.ListedCommand.{ListedCommand}
use Rattle.command.specs.declared.insert.SpliceInsert.{SpliceInsert}
use Rattle.command.specs.declared.insert.SpliceDetail.{SpliceDetail}
use Rattle.command.specs.declared.CommandRefusal.{CommandRefusal}

-- "Private: identifier 32, the rest as a view."
unfoldable pub private : Table Private
private =
    uimsbf 32 (λ x. x.identifier) λ identifier.
    inside remaining (λ x. x.private_bytes.len) λ n.
    inside (part n) (λ x. x.private_bytes) λ bytes.
    done (record { identifier = identifier; private_bytes = bytes })

-- the command that is made of what a table reads, or 11. Where the reading ended is not looked at: "Bytes after insert or time signal are tolerated"
abbrev pub read : {X : Type 0} → (X → SpliceCommand) → Answer X → Result SpliceCommand CommandRefusal
read f (got x at) = Ok (f x)
read f (short expected actual) = Err CommandRefusal.Malformed

-- "Null and bandwidth reservation: payload empty."
abbrev pub empty : SpliceCommand → List ℕ → Result SpliceCommand CommandRefusal
empty command payload = pick (eqb (length payload) 0) (Ok command) (Err CommandRefusal.Malformed)

-- by a command's type: "none of 0x00, 0x05, 0x06, 0x07, 0xFF" is another
abbrev pub by_type {ℓ} : {A : Type ℓ} → ℕ → A → A → A → A → A → A → A
by_type command_type null insert time bandwidth private another =
    pick (eqb command_type 0x00) null
    (pick (eqb command_type 0x05) insert
    (pick (eqb command_type 0x06) time
    (pick (eqb command_type 0x07) bandwidth
    (pick (eqb command_type 0xff) private
    another))))

-- by a command: what is made of each kind
abbrev pub by_command : {A : Type 0} → A → (SpliceInsert → A) → (SpliceTime → A) → A → (Private → A) → SpliceCommand → A
by_command null insert time bandwidth private SpliceCommand.SpliceNull = null
by_command null insert time bandwidth private (SpliceCommand.SpliceInsert i) = insert i
by_command null insert time bandwidth private (SpliceCommand.TimeSignal t) = time t
by_command null insert time bandwidth private SpliceCommand.BandwidthReservation = bandwidth
by_command null insert time bandwidth private (SpliceCommand.PrivateCommand p) = private p

-- the type that a command has
abbrev pub type_of : SpliceCommand → ℕ
type_of c = by_command 0x00 (λ i. 0x05) (λ t. 0x06) 0x07 (λ p. 0xff) c

-- refusal 10: "command type is none of ..", the last; refusal 11: "command payload malformed"
unfoldable pub command_of : ℕ → List ℕ → Result SpliceCommand CommandRefusal
command_of command_type payload =
    by_type command_type
    (empty SpliceCommand.SpliceNull payload)
    (read (λ x. SpliceCommand.SpliceInsert x.value) (parse insert (bits_of payload) 0))
    (read SpliceCommand.TimeSignal (parse splice_time (bits_of payload) 0))
    (empty SpliceCommand.BandwidthReservation payload)
    (read SpliceCommand.PrivateCommand (parse private (bits_of payload) 0))
    (Err CommandRefusal.UnknownType)

-- 01's number of each refusal; none has values
abbrev pub number_of : Result SpliceCommand CommandRefusal → ℕ
number_of (Ok c) = 0
number_of (Err CommandRefusal.UnknownType) = 10
number_of (Err CommandRefusal.Malformed) = 11

-- ---- f of one kind of command, and `none` of any other
abbrev pub of_insert : {A : Type 0} → (SpliceInsert → A) → A → SpliceCommand → A
of_insert f none c = by_command none f (λ t. none) none (λ p. none) c

-- how many components an insert and a command have
abbrev pub insert_count : SpliceDetail → ℕ
insert_count d = count (insert_of d).splice_mode

abbrev pub count_in : SpliceCommand → ℕ
count_in c = of_insert (λ i. insert_count i.splice_detail) 0 c

abbrev pub of_private : {A : Type 0} → (Private → A) → A → SpliceCommand → A
of_private f none c = by_command none (λ i. none) (λ t. none) none f c

-- the same command with another view, if it has one
abbrev pub with_view : (View → View) → SpliceCommand → SpliceCommand
with_view f c = of_private (λ p. SpliceCommand.PrivateCommand (record { identifier = p.identifier; private_bytes = f p.private_bytes })) c c

-- ---- "arrays with a count, 255 components, blank .. past it"
unfoldable pub array : List InsertComponent → List InsertComponent
array cs = filled_to 255 blank cs

-- each tag is a byte
abbrev pub Tags : List InsertComponent → Type 0
Tags cs = AllBytes (map (λ c. c.component_tag) cs)

-- the components of an insert's payload, none where it is malformed
abbrev pub components_in : Answer (WithComponents SpliceInsert) → List InsertComponent
components_in (got x at) = x.components
components_in (short expected actual) = []

unfoldable pub components_of : List ℕ → List InsertComponent
components_of payload = array (components_in (parse insert (bits_of payload) 0))

-- an insert's payload as it is read, or its refusal, and the components beside it
unfoldable pub listed_of : List ℕ → ListedCommand
listed_of payload = record { read = command_of 0x05 payload; components = components_of payload }
