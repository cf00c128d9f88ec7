-- `relabel::relabel_at`: the UPID is tested and stored first, and then all around it.
use Rattle.std.proofs.lemmas.Result.{err_from_is_err_and}
use mathlib.Core.Path.{sym, ◌∙◌}
use Rattle.relabel.proofs.Ats.{refused_at, wrote_at, all_wrote}
use Rattle.relabel.proofs.relabel_at.Goals as goal

pub returns-in_err-n : goal.returns-in_err-n
returns-in_err-n c =
    let p = err_from_is_err_and c.from_residual.result c.from_residual.ensures.1 in
    rw (p.1, p.2) (let a = c.args in record { answer = (refused_at a.section.now a.p a.limit a.part a.new_type a.new.now a.target.now c.requires.0 c.requires.1 _ _ c.beyond-room.ensures c.lesser-from.ensures.1 c.lesser-from.ensures.2 _ _ (sym c.in_err-n.was ∙ c.relabel_upid-made.ensures.answer) c.relabel_upid-made.ensures.bytes).0; bytes = (refused_at a.section.now a.p a.limit a.part a.new_type a.new.now a.target.now c.requires.0 c.requires.1 _ _ c.beyond-room.ensures c.lesser-from.ensures.1 c.lesser-from.ensures.2 _ _ (sym c.in_err-n.was ∙ c.relabel_upid-made.ensures.answer) c.relabel_upid-made.ensures.bytes).1 })

pub store_around-requires : goal.store_around-requires
store_around-requires c =
    let a = c.args in
    let w = wrote_at a.section.now a.p a.limit a.part a.new_type a.new.now a.target.now c.requires.0 c.requires.1 _ _ c.beyond-room.ensures c.lesser-from.ensures.1 c.lesser-from.ensures.2 _ _ (sym c.in_ok-n.was ∙ c.relabel_upid-made.ensures.answer) c.relabel_upid-made.ensures.bytes in
    (c.requires.0, w.takes, w.leaves)

pub overflow_add-result : goal.overflow_add-result
overflow_add-result c =
    let a = c.args in
    let w = wrote_at a.section.now a.p a.limit a.part a.new_type a.new.now a.target.now c.requires.0 c.requires.1 _ _ c.beyond-room.ensures c.lesser-from.ensures.1 c.lesser-from.ensures.2 _ _ (sym c.in_ok-n.was ∙ c.relabel_upid-made.ensures.answer) c.relabel_upid-made.ensures.bytes in
    record { fits = w.small }

pub returns : goal.returns
returns c =
    let a = c.args in
    let w = wrote_at a.section.now a.p a.limit a.part a.new_type a.new.now a.target.now c.requires.0 c.requires.1 _ _ c.beyond-room.ensures c.lesser-from.ensures.1 c.lesser-from.ensures.2 _ _ (sym c.in_ok-n.was ∙ c.relabel_upid-made.ensures.answer) c.relabel_upid-made.ensures.bytes in record { answer = (all_wrote a.section.now a.p a.limit a.part a.new_type a.new.now a.target.now c.requires.0 w.b w.is _ _ _ _ w.size c.type_then.ensures w.fits w.stores c.store_around.ensures).0; bytes = (all_wrote a.section.now a.p a.limit a.part a.new_type a.new.now a.target.now c.requires.0 w.b w.is _ _ _ _ w.size c.type_then.ensures w.fits w.stores c.store_around.ensures).1 }
