-- Avail, DTMF, time and reserved descriptors: what is written of them is read again, and the other way round.
use Prim.Native.Nat.{ℕ, ◌+◌, ◌*◌, ◌≤◌}
use mathlib.Core.Bool.{Bool, true, false}
use mathlib.Core.List.{List, []}
use mathlib.Core.Path.{◌≡◌, refl, ap, sym, ◌∙◌}
use native.Mathlib.Omega.{arith}
use lib.Dec.{leb}
use lib.ListN.{length, take, drop}
use borrow.Author.Tests.{eq-eqb, eqb-true, le-ltb, le-leb, leb-true}
use Rattle.table.specs.Bits.{bits_of, AllBytes}
use Rattle.table.specs.Lent.{viewed}
use Rattle.table.specs.Table.{Table, number, reserved, part, remaining, Answer, got, short, parse, canonical, takes_all, canonical_by}
use Rattle.table.specs.Writing.{walk, Same, made, make_of, make}
use Rattle.table.specs.declared.View.{View}
use Rattle.table.proofs.Lists.{zero_one, and_true, append_nil}
use Rattle.table.proofs.Structure as laws
use Rattle.descriptor.specs.Descriptor.{avail_of, dtmf_of, time_of, reserved_of}
use Rattle.descriptor.specs.Plain.{avail, dtmf, time, private_table}
use Rattle.descriptor.specs.declared.Descriptor.TheVariants.{Avail, Dtmf, Time, Reserved}
use Rattle.descriptor.specs.declared.plain.AvailDescriptor.{AvailDescriptor}
use Rattle.descriptor.specs.declared.plain.DTMFDescriptor.{DTMFDescriptor}
use Rattle.descriptor.specs.declared.plain.TimeDescriptor.{TimeDescriptor}
use Rattle.descriptor.proofs.Structures.{avail_structure, dtmf_structure, dtmf_moved, time_structure, private_structure}
use Rattle.std.proofs.Common.{Ok}

-- ---- any table whose values are all writable
module _ {X : Type 0} (t : Table X) (st : laws.Structure t) (always : (x : X) → st.writable x ≡ true) where
  module _ (writable : Bool) (lent : List ℕ) (x : X) (b : List ℕ) (e : make t writable lent x ≡ made b) where
    pub writable_made : make t (st.writable x) lent x ≡ made b
    writable_made = ap (λ (f : Bool). make_of f lent (walk t x 0).fields) (always x ∙ sym (laws.wrote writable lent (walk t x 0).fields b e).fit) ∙ e

    -- what is written is read to its end, and is canonical
    pub table_write_read : st.Shape x → (parse t (bits_of b) 0 ≡ got (st.moved x) (length b * 8)) × (canonical_by t b ≡ true)
    unfolding canonical_by
    table_write_read h =
        let i = laws.write_read t st lent x b [] h writable_made st.none in
        let p : parse t (bits_of b) 0 ≡ got (st.moved x) (length b * 8) = rw (append_nil b) at i.0 in
        let c : canonical t (bits_of b) 0 ≡ true = rw (append_nil b) at i.1 in
        (p, rw (p, c, eq-eqb (length b * 8) (length b * 8) refl))

  -- canonical bytes are what is written of their reading
  pub table_read_write : (s : List ℕ) → AllBytes s → canonical_by t s ≡ true → (x : X) × (parse t (bits_of s) 0 ≡ got x (length s * 8)) × (make t true s x ≡ made s)
  unfolding canonical_by
  table_read_write s a e = go (parse t (bits_of s) 0) refl
    where
      j : (takes_all (parse t (bits_of s) 0) s ≡ true) × (canonical t (bits_of s) 0 ≡ true)
      j = and_true (takes_all (parse t (bits_of s) 0) s) (canonical t (bits_of s) 0) e

      go : (r : Answer X) → parse t (bits_of s) 0 ≡ r → (x : X) × (parse t (bits_of s) 0 ≡ got x (length s * 8)) × (make t true s x ≡ made s)
      go (got x at) h =
          let k : at ≡ length s * 8 = eqb-true at (length s * 8) (rw h at j.0) in
          let p : parse t (bits_of s) 0 ≡ got x (length s * 8) = rw k at h in
          (x, p, rw (always x) at (laws.read_write_all t st s x a p j.1))
      go (short x y) h = let z : false ≡ true = rw h at j.0 in zero_one cc

-- ---- each kind, by its reader
pub avail_write_read : (writable : Bool) (lent : List ℕ) (x : AvailDescriptor) (b : List ℕ) → make avail writable lent x ≡ made b → avail_of b ≡ Ok (Avail x)
unfolding avail_of
avail_write_read writable lent x b e =
    let n : length b ≡ 4 = laws.write_size avail avail_structure lent x b tt (writable_made avail avail_structure (λ x. refl) writable lent x b e) in
    rw (le-ltb (length b) 4 (omega arith), (table_write_read avail avail_structure (λ x. refl) writable lent x b e tt).0)

pub time_write_read : (writable : Bool) (lent : List ℕ) (x : TimeDescriptor) (b : List ℕ) → make time writable lent x ≡ made b → time_of b ≡ Ok (Time x)
unfolding time_of
time_write_read writable lent x b e =
    let n : length b ≡ 12 = laws.write_size time time_structure lent x b tt (writable_made time time_structure (λ x. refl) writable lent x b e) in
    rw (le-ltb (length b) 12 (omega arith), (table_write_read time time_structure (λ x. refl) writable lent x b e tt).0)

-- a view of bytes that are there
pub viewed_at : (s : List ℕ) (at len : ℕ) → at + len ≤ length s → viewed s (record { at = at; len = len }) ≡ take len (drop at s)
unfolding viewed
viewed_at s at len h = rw (le-leb (at + len) (length s) h)

module _ (writable : Bool) (lent : List ℕ) (b : List ℕ) where
  pub dtmf_write_read : (x : DTMFDescriptor) → AllBytes lent → make dtmf writable lent x ≡ made b
      → (dtmf_of b ≡ Ok (Dtmf (dtmf_moved x))) × (viewed b (dtmf_moved x).dtmf_chars ≡ viewed lent x.dtmf_chars)
  unfolding dtmf_of dtmf number reserved part
  dtmf_write_read x a e =
      let len = x.dtmf_chars.len in
      let at = x.dtmf_chars.at in
      let f = writable_made dtmf dtmf_structure (λ x. refl) writable lent x b e in
      let n : length b ≡ 2 + len = laws.write_size dtmf dtmf_structure lent x b tt f in
      let s : Same dtmf b (dtmf_moved x) lent x = laws.write_same dtmf dtmf_structure lent x b a tt f in
      let w = (laws.wrote writable lent (walk dtmf x 0).fields b e).views in
      let i = and_true (leb (at + len) (length lent)) true w in
      let same : take len (drop 2 b) ≡ take len (drop at lent) = cc in (
        rw (table_write_read dtmf dtmf_structure (λ x. refl) writable lent x b e tt).0,
        viewed_at b 2 len (omega arith) ∙ same ∙ sym (viewed_at lent at len (leb-true (at + len) (length lent) i.0)),
      )

  pub reserved_write_read : (tag : ℕ) (v : View) → AllBytes lent → make private_table writable lent v ≡ made b
      → (reserved_of tag b ≡ Ok (Reserved tag (record { at = 0; len = v.len }))) × (viewed b (record { at = 0; len = v.len }) ≡ viewed lent v)
  unfolding reserved_of private_table remaining part
  reserved_write_read tag v a e =
      let f = writable_made private_table private_structure (λ x. refl) writable lent v b e in
      let n : length b ≡ v.len = laws.write_size private_table private_structure lent v b tt f in
      let s : Same private_table b (record { at = 0; len = v.len }) lent v = laws.write_same private_table private_structure lent v b a tt f in
      let w = (laws.wrote writable lent (walk private_table v 0).fields b e).views in
      let i = and_true (leb (v.at + v.len) (length lent)) true w in
      let same : take v.len (drop 0 b) ≡ take v.len (drop v.at lent) = cc in (
        rw (table_write_read private_table private_structure (λ x. refl) writable lent v b e tt).0,
        viewed_at b 0 v.len (omega arith) ∙ same ∙ sym (viewed_at lent v.at v.len (leb-true (v.at + v.len) (length lent) i.0)),
      )
