-- A MID with a hole: how it reads when the hole is filled.
use Prim.Native.Nat.{ℕ, zero, suc, ◌+◌, ◌-◌, ◌≤◌, ◌<◌}
use mathlib.Core.Path.{◌≡◌, refl, sym, ap, subst}
use mathlib.Core.Bool.{Bool, true, false}
use mathlib.Core.List.{List, [], ◌∷◌, ◌++◌, append_assoc}
use native.Mathlib.Omega.{arith}
use lib.ListN.{length, take, drop, length-append, length-take, length-drop, take-append-drop}
use lib.Seq.{take-append_seam, drop-append_seam}
use lib.Dec.{eqb}
use borrow.Author.Tests.{lt-ltb, le-ltb, eqb-true, eqb-false}
use Rattle.upid.specs.Cover.{Cut}
use Rattle.upid.specs.Upid.{read_of, list_of, reported_of}
use Rattle.upid.specs.Private.{Accepted}
use Rattle.upid.specs.declared.Part.{Part}
use Rattle.upid.proofs.Answers.{then_all, anywhere}
use Rattle.upid.proofs.Laws.{read_one, read_more, list_nil, list_more, list_plain, accepted_mid, then_both, by_cases}
use Rattle.relabel_upid.specs.Hole.{Hole, here, inside, past, headed, filled}

-- a piece that is accepted, in front of what is accepted
accepted_headed : (start : ℕ) (c : Cut) (rest : List ℕ) → Accepted (read_of c.upid_type 0 c.payload) → Accepted (read_of 13 0 rest) → Accepted (read_of 13 start (headed c rest))
accepted_headed start c rest ha hb =
    let n : length c.payload ≤ length (c.payload ++ rest) = omega (arith, length-append c.payload rest) in
    rw (read_more, le-ltb _ _ n, take-append_seam, drop-append_seam)
    (then_all _ _ (anywhere c.upid_type 0 (start + 2) c.payload ha) (anywhere 13 0 (start + (2 + length c.payload)) rest hb))

-- where the hole is: its level, and the place of its head in the top UPID
abbrev pub level_at : ℕ → Hole → ℕ
level_at level (here a) = level
level_at level (inside h a) = level_at (level + 1) h
level_at level (past d h) = level_at level h

abbrev pub start_at : ℕ → Hole → ℕ
start_at start (here a) = start
start_at start (inside h a) = start_at (start + 2) h
start_at start (past d h) = start_at (start + (2 + length d.payload)) h

-- the part of a piece whose head is at `start`, and those inside it
abbrev pub recorded : ℕ → ℕ → Cut → Part
recorded level start c = record { upid_type = reported_of c.upid_type; level = level; start = start + 2; len = length c.payload }

abbrev pub inner : ℕ → ℕ → Cut → List Part
inner level start c = list_of c.upid_type (level + 1) (start + 2) c.payload

-- the parts before the hole, and those after it
abbrev pub before : Cut → ℕ → ℕ → Hole → List Part
before c level start (here a) = []
before c level start (inside h a) = recorded level start (record { upid_type = 13; payload = filled h c }) ∷ before c (level + 1) (start + 2) h
before c level start (past d h) = recorded level start d ∷ (inner level start d ++ before c level (start + (2 + length d.payload)) h)

abbrev pub behind : Cut → ℕ → ℕ → Hole → List Part
behind c level start (here a) = list_of 13 level (start + (2 + length c.payload)) a
behind c level start (inside h a) = behind c (level + 1) (start + 2) h ++ list_of 13 level (start + (2 + length (filled h c))) a
behind c level start (past d h) = behind c level (start + (2 + length d.payload)) h

-- the parts of a filled hole
pub list_filled : (c : Cut) (level start : ℕ) (h : Hole) → list_of 13 level start (filled h c) ≡
    before c level start h ++ (recorded (level_at level h) (start_at start h) c ∷ (inner (level_at level h) (start_at start h) c ++ behind c level start h))
unfolding filled
list_filled c level start (here a) = rw (list_more, take-append_seam, drop-append_seam)
list_filled c level start (inside h a) =
    rw (list_more, take-append_seam, drop-append_seam, list_filled c (level + 1) (start + 2) h) (simp append_assoc)
list_filled c level start (past d h) =
    rw (list_more, take-append_seam, drop-append_seam, list_filled c level (start + (2 + length d.payload)) h) (simp append_assoc)

-- ---- what is accepted

-- the parts beside the hole, and the bytes after it, are accepted
abbrev pub AcceptedBeside : Hole → Type 0
AcceptedBeside (here a) = Accepted (read_of 13 0 a)
AcceptedBeside (inside h a) = AcceptedBeside h × Accepted (read_of 13 0 a)
AcceptedBeside (past d h) = Accepted (read_of d.upid_type 0 d.payload) × AcceptedBeside h

abbrev pub AcceptedCut : Cut → Type 0
AcceptedCut c = Accepted (read_of c.upid_type 0 c.payload)

pub accepted_filled : (h : Hole) (c : Cut) (start : ℕ) → AcceptedBeside h → AcceptedCut c → Accepted (read_of 13 start (filled h c))
unfolding filled
accepted_filled (here a) c start f g = accepted_headed start c a g f
accepted_filled (inside h a) c start f g = accepted_headed start _ a (accepted_filled h c 0 f.0 g) f.1
accepted_filled (past d h) c start f g = accepted_headed start d _ f.0 (accepted_filled h c 0 f.1 g)

-- ---- every part of what is accepted fills a hole

-- the i-th part of the bytes s fills this hole
pub record Found (level start i : ℕ) (s : List ℕ) : Type 0 where
  pub hole : Hole
  pub part : Cut
  pub is : filled hole part ≡ s
  pub count : length (before part level start hole) ≡ i
  pub accepted : AcceptedBeside hole
  pub own : AcceptedCut part

found_more : (level start i : ℕ) (d : Cut) (r : List ℕ) → AcceptedCut d → Accepted (read_of 13 0 r) → i < length (list_of 13 level start (headed d r))
    → ((j : ℕ) → d.upid_type ≡ 13 → j < length (list_of 13 (level + 1) (start + 2) d.payload) → Found (level + 1) (start + 2) j d.payload)
    → ((j : ℕ) → j < length (list_of 13 level (start + (2 + length d.payload)) r) → Found level (start + (2 + length d.payload)) j r)
    → Found level start i (headed d r)
unfolding filled
found_more level start zero d r fd fr hi within after =
    record { hole = here r; part = d; is = refl; count = refl; accepted = fr; own = fd }
found_more level start (suc j) d r fd fr hi within after =
    by_cases j (length (inner level start d))
    (λ less. go less (eqb d.upid_type 13) refl)
    (λ more.
    let f = after (j - length (inner level start d)) (omega (arith, size, hi)) in
    record {
      hole = past d f.hole;
      part = f.part;
      is = ap (headed d) f.is;
      count = omega (arith, length-append (inner level start d) (before f.part level (start + (2 + length d.payload)) f.hole), f.count);
      accepted = (fd, f.accepted);
      own = f.own;
    })
  where
    size : length (list_of 13 level start (headed d r)) ≡ suc (length (inner level start d) + length (list_of 13 level (start + (2 + length d.payload)) r))
    size = rw (list_more, take-append_seam, drop-append_seam) (ap suc (length-append (inner level start d) (list_of 13 level (start + (2 + length d.payload)) r)))

    go : j < length (inner level start d) → (t : Bool) → eqb d.upid_type 13 ≡ t → Found level start (suc j) (headed d r)
    go less true e =
        let k13 : d.upid_type ≡ 13 = eqb-true _ _ e in
        let f = within j k13 (rw k13 at less) in
        let same : filled (inside f.hole r) f.part ≡ headed d r = rw (f.is, k13) in
        record {
          hole = inside f.hole r;
          part = f.part;
          is = same;
          count = ap suc f.count;
          accepted = (f.accepted, fr);
          own = f.own;
        }
    go less false e = absurd (omega (arith, ap length (list_plain d.upid_type (level + 1) (start + 2) d.payload (eqb-false _ _ e))))

-- the part that a head announces, and what follows it
unfoldable pub first : ℕ → ℕ → List ℕ → Cut
first k l rest = record { upid_type = k; payload = take l rest }

pub first_headed : (k l : ℕ) (rest : List ℕ) → l ≤ length rest → headed (first k l rest) (drop l rest) ≡ k ∷ (l ∷ rest)
unfolding first
first_headed k l rest h =
    let m : length (take l rest) ≡ l = omega (arith, length-take l rest) in
    rw (m, take-append-drop)

pub both : (start k l : ℕ) (rest : List ℕ) → l ≤ length rest → Accepted (read_of 13 start (k ∷ (l ∷ rest))) → AcceptedCut (first k l rest) × Accepted (read_of 13 0 (drop l rest))
unfolding first
both start k l rest present a =
    let b = then_both (read_of k (start + 2) (take l rest)) (read_of 13 (start + (2 + l)) (drop l rest)) (rw (read_more start k l rest, le-ltb _ _ present) at a) in
    (anywhere _ _ 0 _ b.0, anywhere _ _ 0 _ b.1)

Finds : ℕ → Type 0
Finds n = (level start i : ℕ) (s : List ℕ) → length s ≤ n → Accepted (read_of 13 0 s) → i < length (list_of 13 level start s) → Found level start i s

find_more : (n level start i : ℕ) (d : Cut) (r : List ℕ) → Finds n → length d.payload ≤ n → length r ≤ n → AcceptedCut d → Accepted (read_of 13 0 r)
    → i < length (list_of 13 level start (headed d r)) → Found level start i (headed d r)
unfolding Finds
find_more n level start i d r again hd hr fd fr hi =
    found_more level start i d r fd fr hi
    (λ j k13 hj. again (level + 1) (start + 2) j d.payload hd (accepted_mid d.upid_type 0 d.payload k13 fd) hj)
    (λ j hj. again level (start + (2 + length d.payload)) j r hr fr hj)

find_turn : (n level start i k l : ℕ) (rest : List ℕ) → Finds n → length rest ≤ n → l ≤ length rest → Accepted (read_of 13 0 (k ∷ (l ∷ rest)))
    → i < length (list_of 13 level start (k ∷ (l ∷ rest))) → Found level start i (k ∷ (l ∷ rest))
unfolding first
find_turn n level start i k l rest again hn present a hi =
    let b = both 0 k l rest present a in
    subst (Found level start i) (first_headed k l rest present)
    (find_more n level start i (first k l rest) (drop l rest) again (omega (arith, length-take l rest)) (omega (arith, length-drop l rest)) b.0 b.1
    (subst (λ (s : List ℕ). i < length (list_of 13 level start s)) (sym (first_headed k l rest present)) hi))

pub find : (n level start i : ℕ) (s : List ℕ) → length s ≤ n → Accepted (read_of 13 0 s) → i < length (list_of 13 level start s) → Found level start i s
unfolding Finds
find zero level start i [] hn a hi = absurd (omega (arith, ap length (list_nil level start)))
find zero level start i (k ∷ s) hn a hi = absurd (omega arith)
find (suc n) level start i [] hn a hi = absurd (omega (arith, ap length (list_nil level start)))
find (suc n) level start i (k ∷ []) hn a hi = absurd (rw read_one at a)
find (suc n) level start i (k ∷ (l ∷ rest)) hn a hi =
    by_cases (length rest) l
    (λ short. absurd (rw (read_more 0 k l rest, lt-ltb _ _ short) at a))
    (λ present. find_turn n level start i k l rest (find n) (omega arith) present a hi)

-- ---- what stands before the hole's head, and what stands after the hole

abbrev pub prior : Cut → Hole → List ℕ
prior c (here a) = []
prior c (inside h a) = 13 ∷ (length (filled h c) ∷ prior c h)
prior c (past d h) = headed d (prior c h)

abbrev pub back : Hole → List ℕ
back (here a) = a
back (inside h a) = back h ++ a
back (past d h) = back h

pub cut_filled : (c : Cut) (h : Hole) → filled h c ≡ prior c h ++ headed c (back h)
unfolding filled
cut_filled c (here a) = refl
cut_filled c (inside h a) =
    let e : filled h c ++ a ≡ prior c h ++ headed c (back h ++ a) = rw (cut_filled c h) (simp append_assoc) in
    ap (λ (l : List ℕ). 13 ∷ (length (filled h c) ∷ l)) e
cut_filled c (past d h) = rw (cut_filled c h) (simp append_assoc)

pub length_prior : (c : Cut) (start : ℕ) (h : Hole) → start + length (prior c h) ≡ start_at start h
length_prior c start (here a) = omega arith
length_prior c start (inside h a) = omega (arith, length_prior c (start + 2) h)
length_prior c start (past d h) =
    omega (arith, length_prior c (start + (2 + length d.payload)) h, length-append d.payload (prior c h))

pub length_filled : (c : Cut) (start : ℕ) (h : Hole) → start + length (filled h c) ≡ start_at start h + (2 + (length c.payload + length (back h)))
length_filled c start h =
    omega (arith, length_prior c start h, ap length (cut_filled c h), length-append (prior c h) (headed c (back h)), length-append c.payload (back h))
