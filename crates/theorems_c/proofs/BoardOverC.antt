-- Over any calls of the board over C, from words that were emptied, the answers are those of two plain lists; of the exported functions' contracts as the
-- checker makes them.
use Prim.Native.Nat.{ℕ, ◌≤◌}
use mathlib.Core.List.{List, [], ◌∷◌, map}
use mathlib.Core.Path.{◌≡◌, refl, sym, ◌∙◌, ap, ap₂}
use lib.ListN.{length}
use Rattle.board.specs.Calls.{May}
use Rattle.board.specs.Runs.{Call}
use Rattle.board.specs.Runs.Call.{opening, closing}
use Rattle.channels.specs.Runs.{On, no_lists, list_replies}
use Rattle.c_board.specs.Lent.{Lent, flat_reply, emptied, opened, closed}
use Rattle.c_board.specs.Calls.{lent_by, lent_of, lent_answers, Typed}
use Rattle.c_board.specs.declared.FlatBoardAnswer.{FlatBoardAnswer}
use Rattle.c_board.proofs.Theorems.{lent_board_is_two_lists}
use Rattle.scte35.proofs.shared_board.scte35_board_empty.Reads as board_empty
use Rattle.scte35.proofs.shared_board.scte35_board_open.Reads as board_open
use Rattle.scte35.proofs.shared_board.scte35_board_close.Reads as board_close
use Rattle.theorems_c.specs.Boards.{LentRun}
use Rattle.theorems_c.specs.Boards.LentRun.{nothing, then}

-- ---- what the contracts allow

abbrev pub Empties : List ℕ → FlatBoardAnswer → List ℕ → Type 0
Empties words answer later = May board_empty.Learnt {S = List ℕ} {T = FlatBoardAnswer × List ℕ} (λ κ a. a.0.now) (λ κ r e. (r, e.0.now)) words (answer, later)

abbrev pub DoesOverC : ℕ → Call → List ℕ → FlatBoardAnswer → List ℕ → Type 0
DoesOverC channel (opening provider) words answer later = May board_open.Learnt {S = List ℕ × (ℕ × ℕ)} {T = FlatBoardAnswer × List ℕ} (λ κ a. (a.0.now, (a.1.0, a.1.1.0))) (λ κ r e. (r, e.0.now)) (words, (channel, provider)) (answer, later)
DoesOverC channel (closing id) words answer later = May board_close.Learnt {S = List ℕ × (ℕ × ℕ)} {T = FlatBoardAnswer × List ℕ} (λ κ a. (a.0.now, (a.1.0, a.1.1.0))) (λ κ r e. (r, e.0.now)) (words, (channel, id)) (answer, later)

abbrev pub Does : On → List ℕ → FlatBoardAnswer → List ℕ → Type 0
Does o words answer later = DoesOverC o.channel o.call words answer later

does_so : (channel : ℕ) (q : Call) (words : List ℕ) (answer : FlatBoardAnswer) (later : List ℕ) → DoesOverC channel q words answer later → (answer ≡ (lent_by channel q words).answer) × (later ≡ (lent_by channel q words).words)
does_so channel (opening provider) words answer later d =
    let t = d.taken in
    let l : opened d.arguments.0.now d.arguments.1.0 d.arguments.1.1.0 ≡ opened words channel provider = ap (λ (x : List ℕ × (ℕ × ℕ)). opened x.0 x.1.0 x.1.1) t in
    (sym (ap (λ (x : FlatBoardAnswer × List ℕ). x.0) d.left) ∙ d.learnt_so.0 ∙ ap (λ (x : Lent). x.answer) l, sym (ap (λ (x : FlatBoardAnswer × List ℕ). x.1) d.left) ∙ d.learnt_so.1 ∙ ap (λ (x : Lent). x.words) l)
does_so channel (closing id) words answer later d =
    let t = d.taken in
    let l : closed d.arguments.0.now d.arguments.1.0 d.arguments.1.1.0 ≡ closed words channel id = ap (λ (x : List ℕ × (ℕ × ℕ)). closed x.0 x.1.0 x.1.1) t in
    (sym (ap (λ (x : FlatBoardAnswer × List ℕ). x.0) d.left) ∙ d.learnt_so.0 ∙ ap (λ (x : Lent). x.answer) l, sym (ap (λ (x : FlatBoardAnswer × List ℕ). x.1) d.left) ∙ d.learnt_so.1 ∙ ap (λ (x : Lent). x.words) l)

run_is : (os : List On) (words : List ℕ) (answers : List FlatBoardAnswer) → LentRun Does words os answers → answers ≡ lent_answers os words
unfolding lent_answers
run_is [] words (a ∷ answers) x'' = elim x'' [ ]
run_is (o ∷ os) words [] x3 = elim x3 [ ]
run_is [] words [] nothing = refl
run_is (o ∷ os) words (a ∷ answers) (then answer later d w) =
    let s : (answer ≡ (lent_of o words).answer) × (later ≡ (lent_of o words).words) = does_so o.channel o.call words answer later d in
    ap₂ (λ (x : FlatBoardAnswer) (xs : List FlatBoardAnswer). x ∷ xs) s.0 (run_is os later answers w ∙ ap (λ (l : List ℕ). lent_answers os l) s.1)

-- ---- "From an empty board"

pub the_board_over_c_is_two_lists :
    (words later : List ℕ) (answer : FlatBoardAnswer) (os : List On) (answers : List FlatBoardAnswer)
    → Empties words answer later → 66 ≤ length words → Typed os → LentRun Does later os answers → answers ≡ map flat_reply (list_replies os no_lists)
the_board_over_c_is_two_lists words later answer os answers d h t w =
    let l : later ≡ (emptied words).words = sym (ap (λ (x : FlatBoardAnswer × List ℕ). x.1) d.left) ∙ d.learnt_so.1 ∙ ap (λ (x : List ℕ). (emptied x).words) d.taken in
    run_is os later answers w ∙ ap (λ (x : List ℕ). lent_answers os x) l ∙ lent_board_is_two_lists words os h t
