-- Commands in their canonical form.
--     null_canonical, ..       what is written of a command is canonical
--     command_one              canonical commands of equal readings are equal
use Prim.Native.Nat.{ℕ, ◌*◌}
use mathlib.Core.Bool.{Bool, true, false}
use mathlib.Core.List.{List, [], ◌∷◌, ◌++◌}
use mathlib.Core.Path.{◌≡◌, refl, ap, ◌∙◌}
use native.Mathlib.Omega.{arith}
use lib.Dec.{eqb}
use lib.ListN.{length}
use borrow.Author.Tests.{eqb-true, eq-eqb}
use Rattle.canonical_form.specs.Command.{canonical_command}
use Rattle.command.specs.Command.{private}
use Rattle.command.specs.Writable.{writable_insert}
use Rattle.command.specs.Insert.{WithComponents, insert}
use Rattle.command.specs.declared.Private.{Private}
use Rattle.command.specs.declared.insert.SpliceInsert.{SpliceInsert}
use Rattle.command.proofs.InsertLeads.{Counted}
use Rattle.command.proofs.InsertTrips.{insert_write_read, insert_one}
use Rattle.command.proofs.PrivateTrips.{moved, private_write_read, private_one}
use Rattle.splice_time.specs.Time.{splice_time, not_immediate}
use Rattle.splice_time.specs.declared.SpliceTime.{SpliceTime}
use Rattle.splice_time.proofs.Times.{time_write_read, time_one}
use Rattle.section_writer.specs.Private.{SameBy, SameCommand}
use Rattle.table.specs.Bits.{pick, bits_of, AllBytes}
use Rattle.table.specs.Table.{Table, Answer, got, short, parse, canonical, takes_all, canonical_by}
use Rattle.table.specs.Writing.{Same, made, make}
use Rattle.table.proofs.Lists.{and_true, append_nil, zero_one}

-- ---- a table's canonical form, made and undone
by_table : {X : Type 0} (t : Table X) (b : List ℕ) (x : X) → parse t (bits_of (b ++ [])) 0 ≡ got x (length b * 8) → canonical t (bits_of (b ++ [])) 0 ≡ true → canonical_by t b ≡ true
unfolding canonical_by
by_table t b x p c =
    let p₂ : parse t (bits_of b) 0 ≡ got x (length b * 8) = rw (append_nil b) at p in
    let c₂ : canonical t (bits_of b) 0 ≡ true = rw (append_nil b) at c in
    rw (p₂, c₂, eq-eqb (length b * 8) (length b * 8) refl)

-- a canonical payload, read
pub record Read {X : Type 0} (t : Table X) (s : List ℕ) : Type 0 where
  pub value : X
  pub reads : parse t (bits_of s) 0 ≡ got value (length s * 8)
  pub form : canonical t (bits_of s) 0 ≡ true

pub read_by : {X : Type 0} (t : Table X) (s : List ℕ) → canonical_by t s ≡ true → Read t s
unfolding canonical_by
read_by {X} t s e =
    let a = and_true (takes_all (parse t (bits_of s) 0) s) _ e in
    go (parse t (bits_of s) 0) refl a.0 a.1
  where
    go : (r : Answer X) → parse t (bits_of s) 0 ≡ r → takes_all r s ≡ true → canonical t (bits_of s) 0 ≡ true → Read t s
    go (got x at) p h c = record { value = x; reads = p ∙ ap (got x) (eqb-true _ _ h); form = c }
    go (short e a) p h c = zero_one cc

-- ---- what is written of a command is canonical
pub null_canonical : canonical_command 0x00 [] ≡ true
unfolding canonical_command
null_canonical = refl

pub bandwidth_canonical : canonical_command 0x07 [] ≡ true
unfolding canonical_command
bandwidth_canonical = refl

pub time_canonical : (lent : List ℕ) (t : SpliceTime) (b : List ℕ) → make splice_time (not_immediate t) lent t ≡ made b → canonical_command 0x06 b ≡ true
unfolding canonical_command
time_canonical lent t b e = let w = time_write_read lent t b [] e in by_table splice_time b t w.0 w.1

pub insert_canonical : (lent : List ℕ) (x : WithComponents SpliceInsert) (b : List ℕ) → Counted x → make insert (writable_insert x) lent x ≡ made b → canonical_command 0x05 b ≡ true
unfolding canonical_command
insert_canonical lent x b h e = let w = insert_write_read lent x b [] h e in by_table insert b x w.0 w.1

pub private_canonical : (lent : List ℕ) (x : Private) (b : List ℕ) → make private true lent x ≡ made b → canonical_command 0xff b ≡ true
unfolding canonical_command
private_canonical lent x b e = let w = private_write_read lent x b [] e refl in by_table private b (moved x) w.0 w.1

-- ---- canonical commands of equal readings are equal
none : (p q : List ℕ) → eqb (length p) 0 ≡ true → eqb (length q) 0 ≡ true → p ≡ q
none [] [] e f = refl
none [] (b ∷ q) e f = absurd (omega (arith, eqb-true (length (b ∷ q)) 0 f))
none (a ∷ p) q e f = absurd (omega (arith, eqb-true (length (a ∷ p)) 0 e))

same_by : {X : Type 0} (t : Table X) (p q : List ℕ) (x y : X) (m n : ℕ) → parse t (bits_of p) 0 ≡ got x m → parse t (bits_of q) 0 ≡ got y n → SameBy t p q → Same t p x q y
unfolding SameBy
same_by t p q x y m n e f h = rw (e, f) at h

pub command_one : (command_type : ℕ) (p q : List ℕ) → AllBytes p → AllBytes q → canonical_command command_type p ≡ true → canonical_command command_type q ≡ true → SameCommand command_type p q → p ≡ q
unfolding canonical_command SameCommand
command_one command_type p q a b c d h = go (eqb command_type 0x00) (eqb command_type 0x05) (eqb command_type 0x06) (eqb command_type 0x07) (eqb command_type 0xff) c d h
  where
    go : (b₀ b₅ b₆ b₇ b₈ : Bool)
        → pick b₀ (eqb (length p) 0) (pick b₅ (canonical_by insert p) (pick b₆ (canonical_by splice_time p) (pick b₇ (eqb (length p) 0) (pick b₈ (canonical_by private p) false)))) ≡ true
        → pick b₀ (eqb (length q) 0) (pick b₅ (canonical_by insert q) (pick b₆ (canonical_by splice_time q) (pick b₇ (eqb (length q) 0) (pick b₈ (canonical_by private q) false)))) ≡ true
        → pick b₀ (Unit {0}) (pick b₅ (SameBy insert p q) (pick b₆ (SameBy splice_time p q) (pick b₇ (Unit {0}) (pick b₈ (SameBy private p q) (Unit {0}))))) → p ≡ q
    go true b₅ b₆ b₇ b₈ c d h = none p q c d
    go false true b₆ b₇ b₈ c d h =
        let x = read_by insert p c in
        let y = read_by insert q d in
        insert_one p q x.value y.value a b x.reads y.reads x.form y.form (same_by insert p q x.value y.value _ _ x.reads y.reads h)
    go false false true b₇ b₈ c d h =
        let x = read_by splice_time p c in
        let y = read_by splice_time q d in
        time_one p q x.value y.value a b x.reads y.reads x.form y.form (same_by splice_time p q x.value y.value _ _ x.reads y.reads h)
    go false false false true b₈ c d h = none p q c d
    go false false false false true c d h =
        let x = read_by private p c in
        let y = read_by private q d in
        private_one p q x.value y.value a b x.reads y.reads x.form y.form (same_by private p q x.value y.value _ _ x.reads y.reads h)
    go false false false false false c d h = zero_one cc
