use Rattle.std.proofs.Common.{◌≡◌, ℕ, List, ◌++◌, length, take, drop, ap, ◌∙◌, arith}
use Rattle.std.proofs.lemmas.List.{length-take-le}
use Rattle.std.proofs.lemmas.List.FromFn.{fill_by_all}
use Rattle.c_board.specs.Words.{listed, word_at}
use Rattle.c_board.proofs.put_board.Goals as goal

pub returns : goal.returns
unfolding listed
returns c =
    let l = c.loop-i in
    let n : length (take 66 c.args.words.now) ≡ 66 = length-take-le 66 c.args.words.now c.requires in
    ap (λ (s : List ℕ). s ++ drop 66 c.args.words.now) (fill_by_all (word_at c.args.b.now) l.word-items 66 0 (l.auto.word-items ∙ n) (λ k h. l.invariant k (omega (arith, n, c.loop-i-test.false))))
