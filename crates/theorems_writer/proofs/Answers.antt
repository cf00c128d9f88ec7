-- Two canonical sections of which the readers answer the same are equal.
--     payload_of_lem     a command's payload is a function of what is compared of the command
--     one_answer     so the sections have equal parts
--     own_answer     a canonical section has the same reading as itself
use Prim.Native.Nat.{ℕ, ◌+◌}
use mathlib.Core.Bool.{true}
use mathlib.Core.List.{List, [], ◌++◌}
use mathlib.Core.Path.{◌≡◌, refl, ap, sym, ◌∙◌}
use lib.Dec.{leb}
use lib.ListN.{length, take}
use Rattle.command.specs.Command.{private, components_of, count_in}
use Rattle.command.specs.declared.Private.{Private}
use Rattle.command.specs.declared.SpliceCommand.{SpliceCommand}
use Rattle.command.specs.declared.components.InsertComponent.{InsertComponent}
use Rattle.command_measure.specs.Made.{insert_made, command_made}
use Rattle.header.specs.declared.header.SpliceInfoHeader.{SpliceInfoHeader}
use Rattle.splice_time.specs.Time.{splice_time, not_immediate}
use Rattle.descriptor_loop.specs.Items.{Listed, listed}
use Rattle.loop_round_trips.proofs.Loops.{back_at}
use Rattle.loop_round_trips.proofs.Pieces.{At}
use Rattle.canonical_form.specs.Same.{SameItem, over, pair, Pairs, without_place, SameHeader, SameSections}
use Rattle.bit_stores.specs.Written.{bytes_in}
use Rattle.section.specs.Section.{command_type, command_bytes, private_view, section_of, loop_in}
use Rattle.section.specs.declared.Section.{Section}
use Rattle.section_writer.proofs.Theorems.{canonical_parts}
use Rattle.section_writer.proofs.Trips.{frame_one}
use Rattle.section_writer.specs.Frame.{headed}
use Rattle.canonical_form.specs.Section.{canonical_section}
use Rattle.section_writer.specs.Writing.{type_of}
use Rattle.table.proofs.Lists.{and_true}
use Rattle.table.proofs.Structure.{wrote}
use Rattle.table.specs.Bits.{bits_of_num, bits_of, bytes_of, AllBytes}
use Rattle.table.specs.Lent.{viewed}
use Rattle.table.specs.Table.{number, part, remaining}
use Rattle.table.specs.Writing.{walk, made, make}
use Rattle.upid.specs.Cover.{All, none, more}
use Rattle.theorems_writer.proofs.ItemsWritten.{each_item, one_loop}
use Rattle.theorems_writer.proofs.WrittenBack.{payload_read_write}
use Rattle.std.proofs.Common.{Ok}

-- ---- a command's type and payload, of the command without its view's place, its components and the bytes of its view
command_payload : SpliceCommand → List InsertComponent → List ℕ → List ℕ
command_payload SpliceCommand.SpliceNull components bytes = []
command_payload (SpliceCommand.SpliceInsert i) components bytes = bytes_in (insert_made (record { value = i; components = components }))
command_payload (SpliceCommand.TimeSignal t) components bytes = bytes_in (make splice_time (not_immediate t) [] t)
command_payload SpliceCommand.BandwidthReservation components bytes = []
command_payload (SpliceCommand.PrivateCommand p) components bytes = bytes_of (bits_of_num 32 p.identifier ++ (bits_of bytes ++ []))

type_of_lem : (c : SpliceCommand) → type_of c ≡ type_of (without_place c)
type_of_lem SpliceCommand.SpliceNull = refl
type_of_lem (SpliceCommand.SpliceInsert i) = refl
type_of_lem (SpliceCommand.TimeSignal t) = refl
type_of_lem SpliceCommand.BandwidthReservation = refl
type_of_lem (SpliceCommand.PrivateCommand p) = refl

-- the view lies in the lent bytes, as something is written of it
pub private_of : (lent : List ℕ) (p : Private) (b : List ℕ) → make private true lent p ≡ made b → b ≡ bytes_of (bits_of_num 32 p.identifier ++ (bits_of (viewed lent p.private_bytes) ++ []))
unfolding private number remaining part viewed
private_of lent p b e =
    let v = p.private_bytes in
    let w = wrote true lent (walk private p 0).fields b e in
    let i : leb (v.at + v.len) (length lent) ≡ true = (and_true (leb (v.at + v.len) (length lent)) _ w.views).0 in
    rw i w.bytes

payload_of_lem : (c : SpliceCommand) (p s b : List ℕ) → command_made c (components_of p) s ≡ made b
    → b ≡ command_payload (without_place c) (take (count_in c) (components_of p)) (viewed s (private_view c))
unfolding command_made bytes_in command_payload
payload_of_lem SpliceCommand.SpliceNull p s b e = ap bytes_in (sym e)
payload_of_lem (SpliceCommand.SpliceInsert i) p s b e = ap bytes_in (sym e)
payload_of_lem (SpliceCommand.TimeSignal t) p s b e = ap bytes_in (sym e)
payload_of_lem SpliceCommand.BandwidthReservation p s b e = ap bytes_in (sym e)
payload_of_lem (SpliceCommand.PrivateCommand own) p s b e = private_of s own b e

-- ---- in a section
payload_in_lem : (s : List ℕ) (x : Section) → AllBytes s → section_of s ≡ Ok x → canonical_section s ≡ true
    → command_bytes s ≡ command_payload (without_place x.command) (take (count_in x.command) (components_of (command_bytes s))) (viewed s (private_view x.command))
payload_in_lem s x a e c = payload_of_lem x.command (command_bytes s) s (command_bytes s) (payload_read_write s x a e c).1

same_payload : {c d : SpliceCommand} {cs ds : List InsertComponent} {p q : List ℕ} → c ≡ d → cs ≡ ds → p ≡ q → command_payload c cs p ≡ command_payload d ds q
same_payload e f g = rw (e, f, g)

-- equal headers, with 0 in place of the command's length and type
pub same_headed : (g h : SpliceInfoHeader) → SameHeader g h → headed g 0 0 ≡ headed h 0 0
unfolding headed
same_headed g h s = rw (s.version, s.encrypted, s.algorithm, s.adjustment, s.index, s.tiers)

pub own_header : (h : SpliceInfoHeader) (size command-type : ℕ) → SameHeader (headed h size command-type) h
unfolding headed
own_header h size command-type = record { version = refl; encrypted = refl; algorithm = refl; adjustment = refl; index = refl; tiers = refl }

pub one_answer : (s r : List ℕ) (x y : Section) → AllBytes s → AllBytes r → section_of s ≡ Ok x → section_of r ≡ Ok y → canonical_section s ≡ true → canonical_section r ≡ true
    → SameSections s x r y → s ≡ r
one_answer s r x y a b e f c d same =
    let kinds : command_type s ≡ command_type r =
    sym (payload_read_write s x a e c).0 ∙ type_of_lem x.command ∙ ap type_of same.commands ∙ sym (type_of_lem y.command) ∙ (payload_read_write r y b f d).0 in
    let payloads : command_bytes s ≡ command_bytes r = payload_in_lem s x a e c ∙ same_payload same.commands same.components same.bytes ∙ sym (payload_in_lem r y b f d) in
    frame_one s r x y a b e f (canonical_parts s c).around (canonical_parts r d).around (same_headed x.header y.header same.headers) kinds payloads (one_loop s r x y a b e f c d same.items)

-- ---- its own reading
own_item_lem : (loop : List ℕ) (offset : ℕ) (t : List ℕ) → At loop offset t → AllBytes t → SameItem loop loop (listed loop offset) (listed loop offset)
own_item_lem loop offset t at all =
    let b = back_at loop offset t at all in
    record {
      that = b.read;
      is = b.is;
      back = record { again = b.read; is = b.is; same = record { values = refl; bytes = refl; identifiers = refl; components = refl; eidrs = refl } };
    }

own_items : (loop : List ℕ) {xs : List Listed} → All (λ (y : Listed). SameItem loop loop y y) xs → Pairs (SameItem loop loop) xs xs
own_items loop none = over
own_items loop (more h hs) = pair h (own_items loop hs)

pub own_answer : (s : List ℕ) (x : Section) → AllBytes s → section_of s ≡ Ok x → canonical_section s ≡ true → SameSections s x s x
own_answer s x a e c = record { headers = record { version = refl; encrypted = refl; algorithm = refl; adjustment = refl; index = refl; tiers = refl }; commands = refl; components = refl; bytes = refl; items = own_items (loop_in s x) (each_item s x a e c (own_item_lem (loop_in s x))) }
