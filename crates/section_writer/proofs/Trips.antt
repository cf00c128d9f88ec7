-- Both round trips of a section around its command and its loop.
--     section_wrote          what was made passed every test, and is a frame
--     frame_canonical        what is written has the canonical form
--     frame_write_read     it reads as what was handed in
--     section_is_frame       a section whose frame is canonical is the frame of its parts
--     frame_read_write     a canonical section is what is written of its reading
--     frame_one            canonical sections of equal parts are equal
use Prim.Native.Nat.{ℕ, zero, suc, ◌+◌, ◌*◌, ◌-◌, ◌^◌, ◌<◌, ◌≤◌}
use mathlib.Core.Bool.{Bool, true, false, not, ◌||◌}
use mathlib.Core.List.{List, [], ◌∷◌, ◌++◌}
use mathlib.Core.Path.{◌≡◌, refl, ap, sym, ◌∙◌}
use native.Mathlib.Omega.{arith}
use lib.Dec.{eqb, ltb}
use lib.ListN.{length, take, drop}
use borrow.Author.Tests.{ltb-false, eqb-false, eq-eqb, ne_eqb, not-false, le-leb}
use Rattle.command.specs.Command as command
use Rattle.command.specs.declared.SpliceCommand.{SpliceCommand}
use Rattle.canonical_form.specs.Descriptor.{canonical_loop}
use Rattle.header.specs.declared.header.SpliceInfoHeader.{SpliceInfoHeader}
use Rattle.names.proofs.Algorithms.{algorithm_laws}
use Rattle.bit_stores.specs.Written.{refusal_in, bytes_in}
use Rattle.section.specs.Section.{first, command_length, command_type, command_bytes, loop_length, loop_place, loop_bytes, moved, section_of, number_of, section_length}
use Rattle.section.specs.declared.Section.{Section}
use Rattle.table.specs.Bits.{bits_of, field, big_endian, AllBytes}
use Rattle.table.specs.Lent.{viewed}
use Rattle.table.specs.Writing.{Made, made}
use Rattle.table.proofs.Bits.{length_bits}
use Rattle.table.proofs.Fields.{field_add}
use Rattle.table.proofs.Lists.{zero_one}
use Rattle.table.proofs.Reading.{field_lt}
use Rattle.canonical_form.specs.Section.{canonical_frame}
use Rattle.section_writer.specs.Frame.{headed, header_bytes, head, with_length, body, frame, numbers_fit, writable_head}
use Rattle.section_writer.specs.Writing.{writer_conditions, unless, section_made}
use Rattle.section_writer.proofs.Backs.{opening_is, frame_again, own, own_is}
use Rattle.section_writer.proofs.Forms.{framed}
use Rattle.section_writer.proofs.Frames.{crc, length_frame, behind_three, frame_loop, frame_accepted, frame_command_length, frame_loop_length}
use Rattle.section_writer.proofs.Heads.{Fitting}
use Rattle.section_writer.proofs.Numbers.{number_at, field_behind}
use Rattle.section.proofs.Parts.{Parts, parts_of_lem}
use Rattle.section_writer.proofs.Refusals.{no_refusal}
use Rattle.section_writer.proofs.Stored.{is_fitting, is_clear}
use Rattle.std.proofs.Common.{Ok}

-- ---- what was made, undone
or_false : (a b : Bool) → a || b ≡ false → (a ≡ false) × (b ≡ false)
or_false true b e = zero_one cc
or_false false b e = (refl, e)

all_false : (b₁ b₂ b₃ b₄ b₅ : Bool) → first 31 (b₁ ∷ b₂ ∷ b₃ ∷ b₄ ∷ b₅ ∷ []) ≡ 0 → (b₁ ≡ false) × (b₂ ≡ false) × (b₃ ≡ false) × (b₄ ≡ false) × (b₅ ≡ false)
all_false true b₂ b₃ b₄ b₅ e = absurd (omega arith)
all_false false true b₃ b₄ b₅ e = absurd (omega arith)
all_false false false true b₄ b₅ e = absurd (omega arith)
all_false false false false true b₅ e = absurd (omega arith)
all_false false false false false true e = absurd (omega arith)
all_false false false false false false e = (refl, refl, refl, refl, refl)

-- what no refusal says of the header and the section's length
pub tests_passed : (h : SpliceInfoHeader) (r size extent : ℕ) (canonical : Bool) → first 31 (writer_conditions h r size extent canonical) ≡ 0
    → (numbers_fit h ≡ true) × (writable_head h ≡ true) × (section_length size extent ≤ 4096)
tests_passed h r size extent canonical e =
    let a = all_false (eqb r 31) (eqb r 32 || not (numbers_fit h)) (eqb r 33 || not (writable_head h)) (ltb 4096 (section_length size extent)) (not canonical) e in
    (not-false _ (or_false (eqb r 32) (not (numbers_fit h)) a.1).1, not-false _ (or_false (eqb r 33) (not (writable_head h)) a.2).1, ltb-false 4096 (section_length size extent) a.3)

unless_made : (n : ℕ) (f b : List ℕ) → unless n f ≡ made b → (n ≡ 0) × (b ≡ f)
unless_made zero f b e = (refl, cc)
unless_made (suc n) f b e = zero_one cc

pub record Wrote (h : SpliceInfoHeader) (command : Made) (command_type' : ℕ) (loop b : List ℕ) : Type 0 where
  pub fits : numbers_fit h ≡ true
  pub writable : writable_head h ≡ true
  pub short : section_length (length (bytes_in command)) (length loop) ≤ 4096
  pub form : canonical_loop loop ≡ true
  pub seen : refusal_in command ≡ 31 → ⊥
  pub within : refusal_in command ≡ 32 → ⊥
  pub kept : refusal_in command ≡ 33 → ⊥
  pub bytes : b ≡ frame h command_type' (bytes_in command) loop

pub section_wrote : (h : SpliceInfoHeader) (command : Made) (command_type' : ℕ) (loop b : List ℕ) → section_made h command command_type' loop ≡ made b → Wrote h command command_type' loop b
unfolding section_made
section_wrote h command command_type' loop b e =
    let canonical = canonical_loop loop in
    let r = refusal_in command in
    let n = section_length (length (bytes_in command)) (length loop) in
    let u = unless_made (first 31 (writer_conditions h r (length (bytes_in command)) (length loop) canonical)) (frame h command_type' (bytes_in command) loop) b e in
    let a = all_false (eqb r 31) (eqb r 32 || not (numbers_fit h)) (eqb r 33 || not (writable_head h)) (ltb 4096 n) (not canonical) u.0 in
    let p = tests_passed h r (length (bytes_in command)) (length loop) canonical u.0 in
    record {
      fits = p.0;
      writable = p.1;
      short = p.2;
      form = not-false _ a.4;
      seen = eqb-false r 31 a.0;
      within = eqb-false r 32 (or_false (eqb r 32) (not (numbers_fit h)) a.1).0;
      kept = eqb-false r 33 (or_false (eqb r 33) (not (writable_head h)) a.2).0;
      bytes = u.1;
    }

-- ---- what is written has the canonical form
module _ (h : SpliceInfoHeader) (command_type' : ℕ) (payload loop : List ℕ) (fits : numbers_fit h ≡ true) (writable : writable_head h ≡ true) (byte : command_type' < 2 ^ 8)
    (small : section_length (length payload) (length loop) ≤ 4096) where
  second_and_third : field (bits_of (frame h command_type' payload loop)) 8 16 ≡ 0x3000 + (length (frame h command_type' payload loop) - 3)
  second_and_third =
      let n = section_length (length payload) (length loop) in
      let r = header_bytes (headed h (length payload) command_type') ++ (payload ++ (with_length loop ++ crc h command_type' payload loop)) in
      let e : frame h command_type' payload loop ≡ (0xfc ∷ []) ++ (big_endian 2 (0x3000 + (n - 3)) ++ r) =
      behind_three h command_type' payload loop ∙ ap (λ (l : List ℕ). l ++ r) (opening_is n (omega arith)) in
      ap (λ (l : List ℕ). field (bits_of l) 8 16) e ∙ number_at (0xfc ∷ []) r 1 2 (0x3000 + (n - 3)) refl (omega arith)
      ∙ ap (λ (m : ℕ). 0x3000 + (m - 3)) (sym (length_frame h command_type' payload loop))

  pub frame_canonical : (c : SpliceCommand) → command.command_of command_type' payload ≡ Ok c → canonical_frame (frame h command_type' payload loop) ≡ true
  unfolding canonical_frame number_of
  frame_canonical c e =
      let s = frame h command_type' payload loop in
      let l = length_frame h command_type' payload loop in
      let f : field (bits_of s) 8 16 ≡ field (bits_of s) 8 4 * 2 ^ 12 + field (bits_of s) 12 12 = field_add (bits_of s) 8 4 12 (omega (arith, length_bits s)) in
      let high : field (bits_of s) 8 4 ≡ 3 = omega (arith, second_and_third, field_lt s 12 12) in
      let low : field (bits_of s) 12 12 ≡ length s - 3 = omega (arith, second_and_third, field_lt s 12 12) in
      rw (
        frame_accepted h command_type' payload loop fits writable byte small c e,
        eq-eqb _ _ high,
        eq-eqb _ _ low,
        frame_command_length h command_type' payload loop fits writable byte small,
        frame_loop_length h command_type' payload loop fits writable byte small,
        eq-eqb _ _ l,
      )

-- ---- what is written reads as what was handed in: the header with the command's length and type, the command, and the loop's bytes
pub frame_write_read : (h : SpliceInfoHeader) (payload : List ℕ) (command_type' : ℕ) (loop b : List ℕ) (c : SpliceCommand) → command_type' < 2 ^ 8
    → section_made h (made payload) command_type' loop ≡ made b → command.command_of command_type' payload ≡ Ok c
    → (section_of b ≡ Ok (record { header = headed h (length payload) command_type'; command = moved 14 c; descriptors = record { at = 16 + length payload; len = length loop }; payload = record { at = 14; len = length payload } }))
    × (loop_bytes b ≡ loop)
    × (canonical_frame b ≡ true)
unfolding bytes_in
frame_write_read h payload command_type' loop b c byte e k =
    let w = section_wrote h (made payload) command_type' loop b e in
    rw w.bytes (
      frame_accepted h command_type' payload loop w.fits w.writable byte w.short c k,
      frame_loop h command_type' payload loop w.fits w.writable byte w.short,
      frame_canonical h command_type' payload loop w.fits w.writable byte w.short c k,
    )

-- ---- a canonical section is what is written of its reading
module _ (s : List ℕ) (x : Section) (a : AllBytes s) (p : Parts s x) where
  abbrev tail : List ℕ
  tail = drop 3 s

  read_fits : Fitting x.header
  read_fits =
      let e = own_is s a p.long x.header p.header in
      rw (← e) (record {
        version = field_lt tail 0 8;
        algorithm = rw (algorithm_laws.there (field (bits_of tail) 9 6)) (field_lt tail 9 6);
        adjustment = field_lt tail 15 33;
        index = field_lt tail 48 8;
        tiers = field_lt tail 56 12;
      })

  read_writable : true ≡ writable_head x.header
  read_writable =
      let e = own_is s a p.long x.header p.header in
      rw (← e)
      (is_clear (own s a p.long x.header p.header) true (ne_eqb (field (bits_of tail) 8 1) 1 (λ z. p.clear (field_behind s 3 8 1 ∙ z))) (sym (algorithm_laws.is_writable (field (bits_of tail) 9 6))))

pub section_is_frame : (s : List ℕ) (x : Section) → AllBytes s → section_of s ≡ Ok x → canonical_frame s ≡ true
    → s ≡ frame x.header (command_type s) (command_bytes s) (loop_bytes s)
unfolding viewed loop_place
section_is_frame s x a e c =
    let p = parts_of_lem s x e in
    let w = framed s c in
    let loop = take (loop_length s) (drop (16 + command_length s) s) in
    let l : loop_bytes s ≡ loop = rw (le-leb (16 + command_length s + loop_length s) (length s) (omega (arith, w.exact))) in
    let f : s ≡ frame x.header (command_type s) (command_bytes s) loop =
    frame_again s a p.long p.short w.exact x.header p.first p.crc w.high w.low p.header in
    f ∙ ap (frame x.header (command_type s) (command_bytes s)) (sym l)

pub frame_read_write : (s : List ℕ) (x : Section) → AllBytes s → section_of s ≡ Ok x → canonical_frame s ≡ true → canonical_loop (loop_bytes s) ≡ true
    → section_made x.header (made (command_bytes s)) (command_type s) (loop_bytes s) ≡ made s
unfolding section_made bytes_in
frame_read_write s x a e c o =
    let p = parts_of_lem s x e in
    let loop = loop_bytes s in
    let f = section_is_frame s x a e c in
    let n : section_length (length (command_bytes s)) (length loop) ≤ 4096 = omega (arith, ap length f, length_frame x.header (command_type s) (command_bytes s) loop, p.short) in
    let z = no_refusal x.header 0 (length (command_bytes s)) (length loop) true (λ q. omega arith) (λ q. omega arith) (is_fitting x.header (read_fits s x a p)) (λ q. omega arith) (read_writable s x a p) n refl in
    rw (o, ← z, ← f)

-- ---- canonical sections of equal headers, commands and loops are equal
-- the header's command length and type are left out: they are worked out
headless : (h : SpliceInfoHeader) (command_type' : ℕ) (payload loop : List ℕ) → frame h command_type' payload loop ≡ frame (headed h 0 0) command_type' payload loop
unfolding frame body head headed
headless h command_type' payload loop = refl

same_frame : (h g : SpliceInfoHeader) (k j : ℕ) (p q l m : List ℕ) → headed h 0 0 ≡ headed g 0 0 → k ≡ j → p ≡ q → l ≡ m → frame h k p l ≡ frame g j q m
same_frame h g k j p q l m e₁ e₂ e₃ e₄ = headless h k p l ∙ rw (e₁, e₂, e₃, e₄) (sym (headless g j q m))

pub frame_one : (s r : List ℕ) (x y : Section) → AllBytes s → AllBytes r → section_of s ≡ Ok x → section_of r ≡ Ok y → canonical_frame s ≡ true → canonical_frame r ≡ true
    → headed x.header 0 0 ≡ headed y.header 0 0 → command_type s ≡ command_type r → command_bytes s ≡ command_bytes r → loop_bytes s ≡ loop_bytes r → s ≡ r
frame_one s r x y a b e f c d h t p l =
    section_is_frame s x a e c
    ∙ same_frame x.header y.header (command_type s) (command_type r) (command_bytes s) (command_bytes r) (loop_bytes s) (loop_bytes r) h t p l
    ∙ sym (section_is_frame r y b f d)
