use Rattle.std.proofs.Common.{rules, ◌<◌, ◌+◌, ◌∙◌, sym, get_or, arith}
use Rattle.std.proofs.lemmas.List.{ext_get_or}
use Rattle.board.specs.Board.{blank_place}
use Rattle.channels.proofs.Made.{made_at}
use Rattle.c_board.specs.Words.{place_given}
use Rattle.c_board.proofs.Words.{places_many, place_there}
use Rattle.c_board.proofs.places_given.Goals as goal

pub returns : goal.returns
returns c =
    let w = c.args.words.now in
    let made = c.from_fn.ensures.items in
    ext_get_or blank_place _ _ (made.long ∙ sym (places_many w))
    (λ i h.
    let l : i < 32 = omega (arith, made.long) in
    made_at _ _ (λ k. place_given (get_or w k 0) (get_or w (32 + k) 0)) _ _ i blank_place (λ x y q h g. search rules) made l
    ∙ sym (place_there w i l))
