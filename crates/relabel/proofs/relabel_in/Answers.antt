-- `relabel::relabel_in`: an item that is found has its place, and there `relabel_at` does what is asked.
use Prim.Native.Nat.{ℕ, ◌<◌}
use mathlib.Core.Path.{ap, sym, ◌∙◌}
use native.Mathlib.Omega.{arith}
use borrow.Author.Tests.{not-true, not-false}
use lib.ListN.{get_or}
use Rattle.bit_stores.proofs.Writes.{refused_answer}
use Rattle.bit_stores.specs.Written.{answer_of, later_of}
use Rattle.table.specs.Writing.{Made}
use Rattle.relabel.specs.Private.{placed_made}
use Rattle.relabel.specs.declared.Place.{Place}
use Rattle.relabel.proofs.Cuts.{loop_byte, spotted_at, lies}
use Rattle.relabel.proofs.Mades.{spots_there, none_spotted, made_spotted}
use Rattle.relabel.proofs.relabel_in.Goals as goal

pub returns-then-not-spots_active : goal.returns-then-not-spots_active
returns-then-not-spots_active c =
    let a = c.args in
    let s = a.section.now in
    let bytes : (k : ℕ) → get_or s k 0 < 256 = λ k. (c.type_inv.section k).fits in
    let is = spots_there s a.list a.len a.offset _ c.requires.0 c.requires.1 c.requires.2 c.spots_active.ensures in record { answer = (refused_answer _ a.target.now 41 (none_spotted s a.offset a.part a.upid_type a.new.now (loop_byte s a.offset bytes c.requires.2 c.requires.3) (sym is ∙ not-true _ c.if-not-spots_active.true-raw))).0; bytes = (refused_answer _ a.target.now 41 (none_spotted s a.offset a.part a.upid_type a.new.now (loop_byte s a.offset bytes c.requires.2 c.requires.3) (sym is ∙ not-true _ c.if-not-spots_active.true-raw))).1 }

pub place_of-p-requires : goal.place_of-p-requires
place_of-p-requires c =
    let a = c.args in
    let s = a.section.now in
    let bytes : (k : ℕ) → get_or s k 0 < 256 = λ k. (c.type_inv.section k).fits in
    let is = spots_there s a.list a.len a.offset _ c.requires.0 c.requires.1 c.requires.2 c.spots_active.ensures in
    let yes = sym is ∙ not-false _ c.if-not-spots_active.false-raw in
    let at = spotted_at s a.offset bytes c.requires.2 c.requires.3 yes in
    (at, c.requires.0, c.requires.1)

pub limit_of-limit-requires : goal.limit_of-limit-requires
limit_of-limit-requires c =
    let a = c.args in
    let s = a.section.now in
    let bytes : (k : ℕ) → get_or s k 0 < 256 = λ k. (c.type_inv.section k).fits in
    let is = spots_there s a.list a.len a.offset _ c.requires.0 c.requires.1 c.requires.2 c.spots_active.ensures in
    let yes = sym is ∙ not-false _ c.if-not-spots_active.false-raw in
    let at = spotted_at s a.offset bytes c.requires.2 c.requires.3 yes in
    rw c.place_of-p.ensures (lies s a.offset at)

pub relabel_at-requires : goal.relabel_at-requires
relabel_at-requires c =
    let a = c.args in
    let s = a.section.now in
    let bytes : (k : ℕ) → get_or s k 0 < 256 = λ k. (c.type_inv.section k).fits in
    let is = spots_there s a.list a.len a.offset _ c.requires.0 c.requires.1 c.requires.2 c.spots_active.ensures in
    let yes = sym is ∙ not-false _ c.if-not-spots_active.false-raw in
    let at = spotted_at s a.offset bytes c.requires.2 c.requires.3 yes in
    (rw c.place_of-p.ensures (lies s a.offset at), c.limit_of-limit.ensures)

pub returns : goal.returns
returns c =
    let a = c.args in
    let s = a.section.now in
    let bytes : (k : ℕ) → get_or s k 0 < 256 = λ k. (c.type_inv.section k).fits in
    let is = spots_there s a.list a.len a.offset _ c.requires.0 c.requires.1 c.requires.2 c.spots_active.ensures in
    let yes = sym is ∙ not-false _ c.if-not-spots_active.false-raw in
    let at = spotted_at s a.offset bytes c.requires.2 c.requires.3 yes in
    let lim = rw c.place_of-p.ensures at c.limit_of-limit.ensures in
    let e = made_spotted s a.offset a.part a.upid_type a.new.now yes at bytes (omega (arith, c.ranges.upid_type)) _ lim
    ∙ ap (λ (p : Place). placed_made s p c.limit_of-limit.result a.part a.upid_type a.new.now) (sym c.place_of-p.ensures) in record { answer = c.relabel_at.ensures.answer ∙ ap (λ (m : Made). answer_of m a.target.now) (sym e); bytes = c.relabel_at.ensures.bytes ∙ ap (λ (m : Made). later_of m a.target.now) (sym e) }
