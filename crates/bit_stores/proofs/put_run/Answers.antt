-- `bit_stores::put_run`: whole bytes at once where a byte begins, else one by one.
use Prim.Native.Nat.{◌+◌, ◌/◌, ◌%◌}
use mathlib.Core.Path.{◌≡◌, ◌∙◌}
use native.Mathlib.Omega.{arith}
use Rattle.table.specs.Bits.{bits_of}
use Rattle.table.specs.Cursor.{place}
use Rattle.table.proofs.Bits.{length_bits, bytes_all}
use Rattle.bit_stores.proofs.Turns.{pens_none, pens_from, pens_stored, settled_is, place_is}
use Rattle.bit_stores.proofs.put_run.Goals as goal

pub returns-then-out-byte : goal.returns-then-out-byte
returns-then-out-byte c =
    let a = c.args in
    pens_none a.out.now a.c (bits_of a.src.now) (omega (arith, length_bits a.src.now))

pub returns-then-room-src : goal.returns-then-room-src
returns-then-room-src c =
    let a = c.args in
    pens_none a.out.now a.c (bits_of a.src.now) (omega (arith, length_bits a.src.now))

pub returns-then-room-src-2 : goal.returns-then-room-src-2
returns-then-room-src-2 c =
    let a = c.args in
    pens_none a.out.now a.c (bits_of a.src.now) (omega (arith, length_bits a.src.now))

pub put_shifted-requires : goal.put_shifted-requires
put_shifted-requires c =
    let a = c.args in
    let i = settled_is (a.c.byte + a.c.bit / 8) (a.c.bit % 8) (omega arith) in
    (bytes_all a.out.now (λ k. (c.slice_known-1.given k).fits), i.0, omega (arith, i.1, length_bits a.src.now))

pub returns-then-behind-gt0 : goal.returns-then-behind-gt0
returns-then-behind-gt0 c =
    let a = c.args in
    let i = settled_is (a.c.byte + a.c.bit / 8) (a.c.bit % 8) (omega arith) in
    let z : place (record { byte = a.c.byte + a.c.bit / 8; bit = a.c.bit % 8 }) ≡ place a.c = i.1 ∙ omega (arith, place_is a.c) in
    pens_from a.out.now a.c _ (bits_of a.src.now) _ _ z (omega (arith, place_is a.c, length_bits a.src.now)) c.put_shifted.ensures

pub returns : goal.returns
returns c =
    let a = c.args in
    let b = bytes_all a.out.now (λ k. (c.slice_known-1.given k).fits) in
    let d = bytes_all a.src.now (λ k. (c.type_inv.src k).fits) in
    let stored = pens_stored a.out.now a.c a.src.now (a.c.byte + a.c.bit / 8) b d (omega arith) (omega arith) in
    record { bytes = c.put_bytes.ensures ∙ stored.bytes; cursor = stored.cursor }
