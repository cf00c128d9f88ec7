use Rattle.std.proofs.Common.{rules, ◌≡◌, ◌<◌, ◌∙◌, sym, get_or, length, arith}
use Rattle.std.proofs.lemmas.List.{ext_get_or}
use Rattle.board.specs.Board.{blank_place}
use Rattle.channels.specs.Channels.{seen_as}
use Rattle.channels.proofs.Made.{made_at}
use Rattle.channels.proofs.Views.{seen_length, seen_at}
use Rattle.channels.proofs.SharedBoard.seen.Goals as goal

pub returns : goal.returns
returns c =
    let a = c.args in
    let b = a.self.now in
    let n : length b.places ≡ 32 = search rules in
    let m : length b.whose ≡ 32 = search rules in
    let made = c.from_fn.ensures.items in
    ext_get_or blank_place _ _ (made.long ∙ sym (seen_length a.channel b.places b.whose (n ∙ sym m) ∙ n))
    (λ k h.
    let l : k < 32 = omega (arith, made.long) in
    made_at _ _ (λ i. seen_as a.channel (get_or b.places i blank_place) (get_or b.whose i 0)) _ _ k blank_place (λ x y q h g. search rules) made l
    ∙ sym (seen_at a.channel b.places b.whose k blank_place (omega arith) (omega arith)))
