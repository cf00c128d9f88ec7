use Rattle.std.proofs.Common.{rules, ◌<◌, ◌+◌, ◌/◌, ◌%◌, ◌∙◌, sym, get_or, arith}
use Rattle.std.proofs.lemmas.List.{ext_get_or}
use Rattle.channels.proofs.Made.{made_at}
use Rattle.c_board.proofs.Words.{whose_many, whose_there}
use Rattle.c_board.proofs.whose_given.Goals as goal

pub returns : goal.returns
returns c =
    let w = c.args.words.now in
    let made = c.from_fn.ensures.items in
    ext_get_or 0 _ _ (made.long ∙ sym (whose_many w))
    (λ i h.
    let l : i < 32 = omega (arith, made.long) in
    made_at _ _ (λ k. get_or w (32 + k) 0 / 2 % 256) _ _ i 0 (λ x y q h g. search rules) made l
    ∙ sym (whose_there w i l))
