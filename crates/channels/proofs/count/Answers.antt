use Rattle.std.proofs.Common.{rules, ◌≡◌, ◌∙◌, count_by, sym}
use Rattle.board.specs.declared.Place.{Place}
use Rattle.channels.proofs.Views.{count_is}
use Rattle.channels.proofs.count.Goals as goal

pub returns : goal.returns
returns c = let n : c.count.result ≡ count_by (λ (p : Place). p.used) c.args.places.now = search rules in n ∙ sym (count_is _)
