-- The heads of a MID that was accepted stand in the order of its parts, at every level: behind the head of a MID comes the first inside it, and behind
-- the last inside it the one that comes after that MID.
--     first    from the MID's first byte on all its parts are ahead
--     turn     the head at a place is that of the first part ahead, and from the next head on the others are
--     done     behind the last byte none is
use Prim.Native.Nat.{ℕ, zero, suc, ◌+◌, ◌≤◌, ◌<◌}
use mathlib.Core.Path.{◌≡◌, refl, sym, ap, subst, ◌∙◌}
use mathlib.Core.Bool.{Bool, true, false}
use mathlib.Core.List.{List, [], ◌∷◌, ◌++◌, append_assoc, append-nil}
use native.Mathlib.Omega.{arith}
use lib.Dec.{eqb, ltb}
use lib.ListN.{length, take, drop, get_or, length-append, length-take, length-drop, take-append-drop, drop_of_length-le}
use lib.Seq.{drop-drop, get_or-drop, drop-append-le}
use borrow.Author.Tests.{ltb-false, eqb-true, eqb-false, eq-eqb, ne_eqb}
use Rattle.table.specs.Bits.{pick}
use Rattle.upid.specs.Private.{Accepted}
use Rattle.upid.specs.Upid.{read_of, list_of}
use Rattle.upid.specs.declared.Part.{Part}
use Rattle.upid.specs.declared.Refusal.{Refusal}
use Rattle.upid.proofs.Laws.{read_one, read_more, list_nil, list_more, then_both, accepted_mid, list_mid, list_plain, by_cases}
use Rattle.upid.specs.Upid.{blank_part}
use Rattle.relabel_upid.specs.Private.{heads, nth, next_head, Walkable, Headed}
use Rattle.std.proofs.Common.{Err, Result}

-- the bytes from the place `at` on have the heads of these parts, one behind the other or inside it
pub data Rest : ℕ → List ℕ → List Part → Type 0 where
  end : {at : ℕ} → Rest at [] []
  part : {at k l : ℕ} {rest : List ℕ} {q : Part} {qs : List Part} → q.start ≡ at + 2 → q.len ≡ l → l ≤ length rest
      → Rest (pick (eqb k 13) (at + 2) (at + 2 + l)) (pick (eqb k 13) rest (drop l rest)) qs → Rest at (k ∷ (l ∷ rest)) (q ∷ qs)

same : {at at₂ : ℕ} {b b₂ : List ℕ} {qs qs₂ : List Part} → at ≡ at₂ → b ≡ b₂ → qs ≡ qs₂ → Rest at b qs → Rest at₂ b₂ qs₂
same {at₂ = at₂} {b = b} {b₂ = b₂} {qs = qs} e f g r =
    subst (λ (x : List Part). Rest at₂ b₂ x) g (subst (λ (x : List ℕ). Rest at₂ x qs) f (subst (λ (x : ℕ). Rest x b qs) e r))

fits : (t : Bool) (l n : ℕ) (r : Refusal) (y : Result ℕ Refusal) → ltb n l ≡ t → Accepted (pick t (Err r) y) → (l ≤ n) × Accepted y
fits true l n r y e a = absurd a
fits false l n r y e a = (ltb-false n l e, a)

none_more : (level start : ℕ) (b : List ℕ) (qs : List Part) → Rest (start + 0) b qs → Rest start b (list_of 13 level start [] ++ qs)
none_more level start b qs r =
    let e : start + 0 ≡ start = omega arith in
    same e refl (ap (λ (x : List Part). x ++ qs) (sym (list_nil level start))) r

joined : (n level start : ℕ) (a b : List ℕ) (qs : List Part) → length a ≤ n → Accepted (read_of 13 start a) → Rest (start + length a) b qs
    → Rest start (a ++ b) (list_of 13 level start a ++ qs)
joined zero level start [] b qs h acc r = none_more level start b qs r
joined zero level start (k ∷ a) b qs h acc r = absurd (omega arith)
joined (suc n) level start [] b qs h acc r = none_more level start b qs r
joined (suc n) level start (k ∷ []) b qs h acc r = absurd (rw (read_one start k) at acc)
joined (suc n) level start (k ∷ (l ∷ rest)) b qs h acc r =
    let w = fits (ltb (length rest) l) l (length rest) _ _ refl (rw (read_more start k l rest) at acc) in
    let both = then_both (read_of k (start + 2) (take l rest)) (read_of 13 (start + (2 + l)) (drop l rest)) w.1 in
    let B : List Part = list_of 13 level (start + (2 + l)) (drop l rest) in
    let e : start + length (k ∷ (l ∷ rest)) ≡ start + (2 + l) + length (drop l rest) = omega (arith, length-drop l rest, w.0) in
    let after : Rest (start + (2 + l)) (drop l rest ++ b) (B ++ qs) =
    joined n level (start + (2 + l)) (drop l rest) b qs (omega (arith, length-drop l rest)) both.1 (same e refl refl r) in
    same refl refl (ap (λ (x : List Part). x ++ qs) (sym (list_more level start k l rest)))
    (part refl refl (omega (arith, length-append rest b, w.0)) (go (eqb k 13) refl
    (λ a x. joined n (level + 1) (start + 2) (take l rest) (drop l rest ++ b) (B ++ qs) (omega (arith, length-take l rest)) a x)
    w.0 both.0 after))
  where
    go : (t : Bool) → eqb k 13 ≡ t
        → (Accepted (read_of 13 (start + 2) (take l rest)) → Rest (start + 2 + length (take l rest)) (drop l rest ++ b) (list_of 13 level (start + (2 + l)) (drop l rest) ++ qs)
        → Rest (start + 2) (take l rest ++ (drop l rest ++ b)) (list_of 13 (level + 1) (start + 2) (take l rest) ++ (list_of 13 level (start + (2 + l)) (drop l rest) ++ qs)))
        → l ≤ length rest → Accepted (read_of k (start + 2) (take l rest))
        → Rest (start + (2 + l)) (drop l rest ++ b) (list_of 13 level (start + (2 + l)) (drop l rest) ++ qs)
        → Rest (pick t (start + 2) (start + 2 + l)) (pick t (rest ++ b) (drop l (rest ++ b)))
        ((list_of k (level + 1) (start + 2) (take l rest) ++ list_of 13 level (start + (2 + l)) (drop l rest)) ++ qs)
    go true e inner f a after =
        let k13 : k ≡ 13 = eqb-true k 13 e in
        let B : List Part = list_of 13 level (start + (2 + l)) (drop l rest) in
        let z : start + (2 + l) ≡ start + 2 + length (take l rest) = omega (arith, length-take l rest) in
        let x = inner (accepted_mid k (start + 2) (take l rest) k13 a) (same z refl refl after) in
        same refl
        (sym (append_assoc (take l rest) (drop l rest) b) ∙ ap (λ (y : List ℕ). y ++ b) (take-append-drop l rest))
        (sym (append_assoc (list_of 13 (level + 1) (start + 2) (take l rest)) B qs) ∙ ap (λ (y : List Part). (y ++ B) ++ qs) (sym (list_mid k (level + 1) (start + 2) (take l rest) k13)))
        x
    go false e inner f a after =
        let B : List Part = list_of 13 level (start + (2 + l)) (drop l rest) in
        let z : start + (2 + l) ≡ start + 2 + l = omega arith in
        same z (sym (drop-append-le l rest b f)) (ap (λ (y : List Part). (y ++ B) ++ qs) (sym (list_plain k (level + 1) (start + 2) (take l rest) (eqb-false k 13 e)))) after

-- ---- a walk over the heads of s
pub first : (s : List ℕ) → Walkable s → Rest 0 (drop 0 s) (heads s)
first s w =
    same refl (append-nil s) (append-nil (heads s)) (joined (length s) 1 0 s [] [] (omega arith) w.accepted end)

pub record Turn (s : List ℕ) (at : ℕ) (ps : List Part) : Type 0 where
  pub q : Part
  pub qs : List Part
  pub is : ps ≡ q ∷ qs
  pub starts : q.start ≡ at + 2
  pub has : q.len ≡ get_or s (at + 1) 0
  pub inside : at + 2 + get_or s (at + 1) 0 ≤ length s
  pub rest : Rest (next_head s at) (drop (next_head s at) s) qs

module _ (s : List ℕ) (at : ℕ) where
  pub turn : (ps : List Part) → Rest at (drop at s) ps → at < length s → Turn s at ps
  turn ps r h = go (drop at s) ps refl r
    where
      go : (b : List ℕ) (ps : List Part) → drop at s ≡ b → Rest at b ps → Turn s at ps
      go [] ps e r = absurd (omega (arith, length-drop at s, ap length e))
      go (k ∷ []) ps e r = elim r [ ]
      go (k ∷ (l ∷ rest)) ps e (part {q = q} {qs = qs} a f g x) =
          let z : at ≡ at + 0 = omega arith in
          let ek : get_or s at 0 ≡ k = ap (λ (j : ℕ). get_or s j 0) z ∙ sym (get_or-drop at s 0 0) ∙ ap (λ (y : List ℕ). get_or y 0 0) e in
          let el : get_or s (at + 1) 0 ≡ l = sym (get_or-drop at s 1 0) ∙ ap (λ (y : List ℕ). get_or y 1 0) e in
          let er : drop (at + 2) s ≡ rest = sym (drop-drop 2 at s) ∙ ap (drop 2) e in
          record {
            q = q;
            qs = qs;
            is = refl;
            starts = a;
            has = f ∙ sym el;
            inside = omega (arith, length-drop at s, ap length e, g, el);
            rest = on k l rest ek el er (eqb k 13) refl x;
          }
        where
          on : (k l : ℕ) (rest : List ℕ) → get_or s at 0 ≡ k → get_or s (at + 1) 0 ≡ l → drop (at + 2) s ≡ rest → (t : Bool) → eqb k 13 ≡ t → {qs : List Part}
              → Rest (pick (eqb k 13) (at + 2) (at + 2 + l)) (pick (eqb k 13) rest (drop l rest)) qs → Rest (next_head s at) (drop (next_head s at) s) qs
          on k l rest ek el er true e x = rw (ek, el, e) (same refl (sym er) refl (rw e at x))
          on k l rest ek el er false e x = rw (ek, el, e) (same refl (ap (drop l) (sym er) ∙ drop-drop l (at + 2) s) refl (rw e at x))

  pub done : (ps : List Part) → Rest at (drop at s) ps → length s ≤ at → ps ≡ []
  done ps r h = go (drop at s) ps (drop_of_length-le s h) r
    where
      go : (b : List ℕ) (ps : List Part) → b ≡ [] → Rest at b ps → ps ≡ []
      go [] ps e end = refl
      go (k ∷ b) ps e r = absurd (omega (arith, ap length e))

-- ---- the next head
pub next_mid : (s : List ℕ) (at : ℕ) → get_or s at 0 ≡ 13 → at + 2 ≡ next_head s at
next_mid s at e = rw (eq-eqb (get_or s at 0) 13 e)

pub next_plain : (s : List ℕ) (at l : ℕ) → (get_or s at 0 ≡ 13 → ⊥) → l ≡ get_or s (at + 1) 0 → at + 2 + l ≡ next_head s at
next_plain s at l e f = rw (ne_eqb (get_or s at 0) 13 e, f)

-- ---- the walk, with so many parts behind

next_bounds : (t : Bool) (at l : ℕ) → (at + 2 ≤ pick t (at + 2) (at + 2 + l)) × (pick t (at + 2) (at + 2 + l) ≤ at + 2 + l)
next_bounds true at l = (omega arith, omega arith)
next_bounds false at l = (omega arith, omega arith)

module _ (s : List ℕ) (behind at : ℕ) (r : Rest at (drop at s) (drop behind (heads s))) where
  all_behind : length s ≤ at → length (heads s) ≤ behind
  all_behind h = omega (arith, length-drop behind (heads s), ap length (done s at _ r h))

  -- while one is ahead, the walk is not at the end
  pub not_yet : behind < length (heads s) → at < length s
  not_yet h = by_cases at (length s) (λ l. l) (λ l. absurd (omega (arith, all_behind l)))

  pub headed_past : (i : ℕ) → behind ≤ i → length s ≤ at → Headed s i at
  headed_past i b h = record { none = λ h. omega (arith, all_behind h); some = λ l. absurd (omega arith) }

  module _ (h : at < length s) where
    abbrev here : Turn s at (drop behind (heads s))
    here = turn s at _ r h

    pub complete : (at + 2 + get_or s (at + 1) 0 ≤ length s) × (at + 2 ≤ next_head s at) × (next_head s at ≤ at + 2 + get_or s (at + 1) 0)
    complete = let n = next_bounds (eqb (get_or s at 0) 13) at (get_or s (at + 1) 0) in (here.inside, n.0, n.1)

    pub one_is : nth s behind ≡ here.q
    one_is =
        let z : behind ≡ behind + 0 = omega arith in
        ap (λ (j : ℕ). get_or (heads s) j blank_part) z ∙ sym (get_or-drop behind (heads s) 0 blank_part) ∙ ap (λ (ps : List Part). get_or ps 0 blank_part) here.is

    pub told : ((nth s behind).start ≡ at + 2) × ((nth s behind).len ≡ get_or s (at + 1) 0) × (behind < length (heads s))
    told = (
      ap (λ (q : Part). q.start) one_is ∙ here.starts,
      ap (λ (q : Part). q.len) one_is ∙ here.has,
      omega (arith, length-drop behind (heads s), ap length here.is),
    )

    pub onward : (m : ℕ) → m ≡ next_head s at → Rest m (drop m s) (drop (behind + 1) (heads s))
    onward m e = same (sym e) (ap (λ (j : ℕ). drop j s) (sym e)) (sym (ap (drop 1) here.is) ∙ drop-drop 1 behind (heads s)) here.rest

  pub headed : Headed s behind at
  headed = record { none = λ h. all_behind h; some = λ h. (let t = told h in (t.2, t.0, t.1)) }
