-- What Q-7 asks for, of the functions' contracts as the checker makes them.
use Rattle.std.proofs.Common.{Ok, Err, subst, ◌≡◌, ℕ, suc, ◌<◌, ◌≤◌, Bool, true, false, not, ◌&&◌, eqb, leb, List, [], ◌∷◌, ◌++◌, length, get_or, set, sym, refl, ap, ◌∙◌, ap₂, append-nil, arith, length-set, eq-eqb, ne_eqb, le-leb, leb-false, leb-true}
use borrow.Author.Tests.{lt-leb}
use contract.Lifetimes.{Lfts}
use Rattle.board.specs.Breaks.{Answer, Break, Breaks, no_breaks, under, is_open, free_from}
use Rattle.board.specs.Board.{Step, blank_place, taken_by, is_free, before, breaks_of, as_found, open_of, close_of}
use Rattle.board.specs.Runs.{Call, step_of, told_of, list_answers}
use Rattle.board.specs.Runs.Call.{opening, closing}
use Rattle.board.specs.Calls.{May, Typed, held, Given, Opened, Closed, Run, leaves}
use Rattle.board.specs.Calls.Run.{nothing, then}
use Rattle.board.specs.declared.Refusal.TheVariants.{BoardFull, NotOpen}
use Rattle.board.specs.declared.Board.{Board}
use Rattle.board.proofs.Board.empty.Reads as empty
use Rattle.board.proofs.Board.open_break.Reads as open_break
use Rattle.board.proofs.Board.close_break.Reads as close_break
use Rattle.board.proofs.Lists.{under_without, length_without}
use Rattle.board.proofs.Places.{has_free, first_free, closed_place, broken, opened_many, opened_each}
use Rattle.board.proofs.Fresh.{Search, searched, few_passed, given_free, after_fits}
use Rattle.board.proofs.Reading.{Reads, Agrees, call_agrees, empty_reads}

-- ---- what the contracts allow

abbrev pub Does : Call → Board → Step → Type 0
Does (opening provider) b s = May open_break.Learnt {S = Board × ℕ} {T = Answer × Board} (λ κ a. (a.0.now, a.1.0)) (λ κ r e. (r, e.0.now)) (b, provider) (s.answer, s.board)
Does (closing id) b s = May close_break.Learnt {S = Board × ℕ} {T = Answer × Board} (λ κ a. (a.0.now, a.1.0)) (λ κ r e. (r, e.0.now)) (b, id) (s.answer, s.board)

step_is : (s t : Step) (answer : Answer) (board : Board) → ◌≡◌ {A = Answer × Board} (answer, board) (s.answer, s.board) → answer ≡ t.answer → board ≡ t.board → s ≡ t
step_is s t answer board l x y = ap (λ (p : Answer × Board). record { answer = p.0; board = p.1 }) (sym l) ∙ rw (x, y)

does_one : (c : Call) (b : Board) (s : Step) → Does c b s → s ≡ step_of c b
does_one (opening provider) b s d = step_is s (open_of d.arguments.0.now d.arguments.1.0) _ _ d.left d.learnt_so.0 d.learnt_so.1 ∙ ap (λ (x : Board × ℕ). open_of x.0 x.1) d.taken
does_one (closing id) b s d = step_is s (close_of d.arguments.0.now d.arguments.1.0) _ _ d.left d.learnt_so.0 d.learnt_so.1 ∙ ap (λ (x : Board × ℕ). close_of x.0 x.1) d.taken

-- ---- "Over any calls from an empty board the answers are those of a plain list of open breaks with a next id"

run_agrees : (calls : List Call) (b : Board) (l : Breaks) (heard : List Answer) (z : Board) → Reads b l → Run Does b calls heard z → heard ≡ list_answers 32 calls l
unfolding list_answers
run_agrees [] b l [] z r nothing = refl
run_agrees [] b l (a ∷ heard) z r x = elim x [ ]
run_agrees (c ∷ cs) b l [] z r x = elim x [ ]
run_agrees (c ∷ cs) b l (a ∷ heard) z r (then s d w) =
    let g : Agrees (step_of c b) (told_of 32 c l).answer (told_of 32 c l).breaks = call_agrees c b l r in
    let e : s ≡ step_of c b = does_one c b s d in
    ap₂ (λ (x : Answer) (xs : List Answer). x ∷ xs) (ap (λ (x : Step). x.answer) e ∙ g.answers)
    (run_agrees cs s.board (told_of 32 c l).breaks heard z (subst (λ (x : Step). Reads x.board (told_of 32 c l).breaks) (sym e) g.reads) w)

pub board_is_the_list : (κ : Lfts 0) (calls : List Call) (b : Board) (heard : List Answer) (z : Board) → empty.Learnt κ tt b tt → Run Does b calls heard z → heard ≡ list_answers 32 calls no_breaks
board_is_the_list κ calls b heard z e w = run_agrees calls b no_breaks heard z (rw e empty_reads) w

-- ---- "Ids count up .. and an id still open is passed over"

given : (limit : ℕ) (bs : List Break) (next : ℕ) → next < 4294967296 → limit ≤ 4294967296 → length bs < limit → Given bs next (free_from limit bs next)
given limit bs next f m h =
    let s : Search limit bs next = searched limit bs next f in
    record { by = s.by; few = few_passed limit bs next f h m s; at = s.at; passed = s.passed; free = given_free limit bs next f h m }

-- ---- an opening, on any board: "61 open exactly when 32 are open"; "both leave the board as found"

module _ (b : Board) (provider : ℕ) (s : Step) (d : Does (opening provider) b s) where
  pub open_61 : 32 ≤ length (held b) → s ≡ as_found BoardFull b
  unfolding open_of
  open_61 h = does_one (opening provider) b s d ∙ rw (le-leb 32 (length (held b)) h)

  pub opens : Typed b → length (held b) < 32 → Opened b provider (free_from 32 (held b) b.next) s
  unfolding open_of under
  opens t h = rw (does_one (opening provider) b s d, lt-leb 32 (length (held b)) h) (record { answer = refl; given = first; now = alone; others = other; many = more; next = refl })
    where
      id : ℕ
      id = free_from 32 (held b) b.next

      at : ℕ
      at = before is_free b.places

      first : Given (held b) b.next id
      first = given 32 (held b) b.next t.next (omega arith) h

      room : at < length b.places
      room = has_free b.places (omega (arith, t.places))

      free : (get_or b.places at blank_place).used ≡ false
      free = first_free b.places blank_place room

      each : (k : ℕ) → under k (breaks_of (set b.places at (taken_by id provider))) ≡ under k (held b) ++ under k (broken id provider ∷ [])
      each k = opened_each id provider k b.places at blank_place room free first.free

      alone : under id (breaks_of (set b.places at (taken_by id provider))) ≡ provider ∷ []
      alone = each id ∙ rw (first.free, eq-eqb id id refl)

      other : (k : ℕ) → eqb id k ≡ false → under k (breaks_of (set b.places at (taken_by id provider))) ≡ under k (held b)
      other k n = each k ∙ rw n (append-nil (under k (held b)))

      more : length (breaks_of (set b.places at (taken_by id provider))) ≡ suc (length (held b))
      more = opened_many id provider b.places at blank_place room free

-- ---- a closing, on any board: "62 close exactly when the id isn't open"

module _ (b : Board) (id : ℕ) (s : Step) (d : Does (closing id) b s) where
  pub close_62 : is_open id (held b) ≡ false → s ≡ as_found NotOpen b
  unfolding close_of
  close_62 h = does_one (closing id) b s d ∙ rw h

  pub closes : is_open id (held b) ≡ true → Closed b id s
  unfolding close_of
  closes h =
      rw (does_one (closing id) b s d, h)
      (record {
        answer = refl;
        gone = rw (closed_place id b.places, under_without id id (held b), eq-eqb id id refl);
        others = λ k n. rw (closed_place id b.places, under_without id k (held b), n);
        many = rw (closed_place id b.places) (length_without id (held b) h);
        next = refl;
      })

-- ---- a break from its opening to its closing, over any calls between on any board

typed : (c : Call) (b : Board) (s : Step) → Typed b → Does c b s → Typed s.board
unfolding open_of close_of
typed (opening provider) b s t d = go (leb 32 (length (held b))) refl
  where
    go : (f : Bool) → leb 32 (length (held b)) ≡ f → Typed s.board
    go true e = rw (does_one (opening provider) b s d, e) t
    go false e = rw (does_one (opening provider) b s d, e) (record { places = simp length-set t.places; next = after_fits (free_from 32 (held b) b.next) })
typed (closing id) b s t d = go (is_open id (held b)) refl
  where
    go : (o : Bool) → is_open id (held b) ≡ o → Typed s.board
    go false e = rw (does_one (closing id) b s d, e) t
    go true e = rw (does_one (closing id) b s d, e) (record { places = simp length-set t.places; next = t.next })

-- a break stands while no call closes it
one_stands : (c : Call) (b : Board) (s : Step) (id provider : ℕ) → Typed b → under id (held b) ≡ provider ∷ [] → leaves id (c ∷ []) ≡ true → Does c b s → under id (held s.board) ≡ provider ∷ []
unfolding leaves
one_stands (opening q) b s id provider t u n d = go (leb 32 (length (held b))) refl
  where
    go : (f : Bool) → leb 32 (length (held b)) ≡ f → under id (held s.board) ≡ provider ∷ []
    go true e = rw (open_61 b q s d (leb-true _ _ e)) u
    go false e =
        let o : Opened b q (free_from 32 (held b) b.next) s = opens b q s d t (leb-false _ _ e) in
        o.others id (ne_eqb (free_from 32 (held b) b.next) id (λ x. absurd (omega (arith, ap length (rw x at o.given.free), ap length u)))) ∙ u
one_stands (closing k) b s id provider t u n d = go (is_open k (held b)) refl
  where
    other : eqb k id ≡ false
    other = go (eqb k id) n
      where
        go : (v : Bool) → not v && true ≡ true → v ≡ false
        go true e = sym e
        go false e = refl

    go : (o : Bool) → is_open k (held b) ≡ o → under id (held s.board) ≡ provider ∷ []
    go false e = rw (close_62 b k s d e) u
    go true e = (closes b k s d e).others id other ∙ u

left_first : (id : ℕ) (c : Call) (cs : List Call) → leaves id (c ∷ cs) ≡ true → leaves id (c ∷ []) ≡ true
unfolding leaves
left_first id (opening q) cs n = refl
left_first id (closing k) cs n = go (eqb k id) n
  where
    go : (v : Bool) → not v && leaves id cs ≡ true → not v && true ≡ true
    go true e = e
    go false e = refl

left_rest : (id : ℕ) (c : Call) (cs : List Call) → leaves id (c ∷ cs) ≡ true → leaves id cs ≡ true
unfolding leaves
left_rest id (opening q) cs n = n
left_rest id (closing k) cs n = go (eqb k id) n
  where
    go : (v : Bool) → not v && leaves id cs ≡ true → leaves id cs ≡ true
    go true e = let x : false ≡ true = e in let y : ◌≡◌ {A = ℕ} 0 1 = cc in absurd (omega arith)
    go false e = e

is_one : (x y : ℕ) → ◌≡◌ {A = Answer} (Ok x) (Ok y) → x ≡ y
is_one x y e = cc

stands : (calls : List Call) (b : Board) (heard : List Answer) (z : Board) (id provider : ℕ) → Typed b → under id (held b) ≡ provider ∷ [] → leaves id calls ≡ true → Run Does b calls heard z
    → Typed z × (under id (held z) ≡ provider ∷ [])
stands [] b [] z id provider t u n nothing = (t, u)
stands [] b (a ∷ heard) z id provider t u n x = elim x [ ]
stands (c ∷ cs) b [] z id provider t u n x = elim x [ ]
stands (c ∷ cs) b (a ∷ heard) z id provider t u n (then s d w) =
    stands cs s.board heard z id provider (typed c b s t d) (one_stands c b s id provider t u (left_first id c cs n) d) (left_rest id c cs n) w

module _ (b : Board) (provider id : ℕ) (s : Step) (calls : List Call) (heard : List Answer) (z : Board) (t : Typed b)
    (d : Does (opening provider) b s) (i : s.answer ≡ Ok id) (n : leaves id calls ≡ true) (w : Run Does s.board calls heard z) where
  still : Typed z × (under id (held z) ≡ provider ∷ [])
  still = go (leb 32 (length (held b))) refl
    where
      go : (f : Bool) → leb 32 (length (held b)) ≡ f → Typed z × (under id (held z) ≡ provider ∷ [])
      go true e = let x : ◌≡◌ {A = Answer} (Err BoardFull) (Ok id) = rw (open_61 b provider s d (leb-true _ _ e)) at i in let y : ◌≡◌ {A = ℕ} 0 1 = cc in absurd (omega arith)
      go false e =
          let o : Opened b provider (free_from 32 (held b) b.next) s = opens b provider s d t (leb-false _ _ e) in
          let same : free_from 32 (held b) b.next ≡ id = is_one _ _ (sym o.answer ∙ i) in
          stands calls s.board heard z id provider (typed (opening provider) b s t d) (rw same at o.now) n w

  -- closing gives back the provider id that the opening was given
  pub closing_gives_the_provider_back : (x : Step) → Does (closing id) z x → x.answer ≡ Ok provider
  closing_gives_the_provider_back x e =
      let u : under id (held z) ≡ provider ∷ [] = still.1 in
      (closes z id x e (rw u)).answer ∙ rw u

  -- an id is handed out again only after it was closed
  pub an_open_id_is_not_given_again : (other : ℕ) (x : Step) → Does (opening other) z x → x.answer ≡ Ok id → ⊥
  an_open_id_is_not_given_again other x e j = go (leb 32 (length (held z))) refl
    where
      go : (f : Bool) → leb 32 (length (held z)) ≡ f → ⊥
      go true g = let x : ◌≡◌ {A = Answer} (Err BoardFull) (Ok id) = rw (open_61 z other x e (leb-true _ _ g)) at j in let y : ◌≡◌ {A = ℕ} 0 1 = cc in absurd (omega arith)
      go false g =
          let o : Opened z other (free_from 32 (held z) z.next) x = opens z other x e still.0 (leb-false _ _ g) in
          let same : free_from 32 (held z) z.next ≡ id = is_one _ _ (sym o.answer ∙ j) in
          absurd (omega (arith, ap length (rw same at o.given.free), ap length still.1))
