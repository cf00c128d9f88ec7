-- Cuttings of a loop.
--     one_cutting                                         no two lists of such pieces join to the same bytes
--     joined_walk, by_items_walk, follow_walk, once_follow    the items of a loop cover it
--     runs_walk                                           and the views of an item are runs of its bytes
use Prim.Native.Nat.{ℕ, suc, ◌+◌, ◌-◌, ◌≤◌, ◌<◌}
use mathlib.Core.Path.{◌≡◌, refl, sym, ap, subst, ◌∙◌}
use mathlib.Core.List.{List, [], ◌∷◌, ◌++◌, map, append-nil}
use native.Mathlib.Omega.{arith}
use native.Mathlib.Numerals.{add-one}
use lib.ListN.{length, take, drop, get_or, length-append, length-take, length-drop, take-append-drop}
use lib.Seq.{take-append_seam, drop-append_seam, drop-cons, drop-drop, drop-length, take_all}
use borrow.Author.Tests.{le-leb, lt-leb, lt-ltb, le-ltb}
use Rattle.descriptor_loop.specs.Private.{Run}
use Rattle.table.specs.Lent.{viewed}
use Rattle.table.specs.declared.View.{View}
use Rattle.upid.proofs.Laws.{by_cases}
use Rattle.upid.specs.Cover as all
use Rattle.descriptor_loop.specs.Cover.{Ends, few, over, full, Complete, joined, ByItems, none, rest, item, run_of, Follow, done, follows, lies, times}
use Rattle.descriptor_loop.specs.Items.{Listed, step_of, listed}
use Rattle.descriptor_loop.specs.Place.{views_of}
use Rattle.descriptor_loop.proofs.Lists.{Walked, stop, step, at_end}
use Rattle.descriptor_loop.proofs.Places.{all_into}
use Rattle.descriptor_loop.proofs.Steps.{Stands, ends, goes, forward, within, views_between, clause}

-- ---- no two cuttings

head_of : {a b : ℕ} {s t : List ℕ} → a ∷ s ≡ b ∷ t → a ≡ b
head_of e = cc

tail_of : {a b : ℕ} {s t : List ℕ} → a ∷ s ≡ b ∷ t → s ≡ t
tail_of e = cc

front : (p q s t : List ℕ) → length p ≡ length q → p ++ s ≡ q ++ t → p ≡ q
front p q s t l e = sym (take-append_seam p s) ∙ rw (e, l) (take-append_seam q t)

back : (p q s t : List ℕ) → length p ≡ length q → p ++ s ≡ q ++ t → s ≡ t
back p q s t l e = sym (drop-append_seam p s) ∙ rw (e, l) (drop-append_seam q t)

length_complete : {p : List ℕ} {n : ℕ} (w : Complete p n) → length p ≡ length w.body + 2
length_complete w = omega (arith, ap length w.is)

-- a piece, and what follows it, byte by byte
opened : {p : List ℕ} {n : ℕ} (w : Complete p n) (s : List ℕ) → p ++ s ≡ w.tag ∷ (length w.body ∷ (w.body ++ s))
opened w s = ap (λ (l : List ℕ). l ++ s) w.is

same_length : {p q : List ℕ} {n m : ℕ} (v : Complete p n) (w : Complete q m) (s t : List ℕ) → p ++ s ≡ q ++ t → length p ≡ length q
same_length v w s t e = omega (arith, length_complete v, length_complete w, head_of (tail_of (sym (opened v s) ∙ e ∙ opened w t)))

-- no ending rule applies where a whole item stands
clash : (tag : ℕ) (body s : List ℕ) → length body ≤ 254 → 6 ≤ length body + 2 + length s → Ends (tag ∷ (length body ∷ (body ++ s))) → ⊥
clash tag body s h six (few a b) = omega (arith, length-append body s)
clash tag body s h six (over a b) = omega (arith, length-append body s)
clash tag body s h six (full a b) = omega arith

no_ending : {r p : List ℕ} (s : List ℕ) → Ends r → Complete p (length s) → r ≡ p ++ s → ⊥
no_ending s x w e = clash w.tag w.body s w.short (omega (arith, length_complete w, w.left)) (subst Ends (e ∙ opened w s) x)

some : {r : List ℕ} → Ends r → 1 ≤ length r
some (few a b) = a
some (over a b) = omega arith
some (full a b) = omega arith

none_is : {qs : List (List ℕ)} → ByItems qs → [] ≡ joined qs → [] ≡ qs
unfolding joined
none_is none e = refl
none_is (rest {r = r} x) e = absurd (omega (arith, some x, ap length e, length-append r []))
none_is (item {p = q} {ps = qs} w g) e = absurd (omega (arith, w.left, ap length e, length-append q (joined qs)))

rest_is : {r : List ℕ} {qs : List (List ℕ)} → Ends r → ByItems qs → r ≡ joined qs → r ∷ [] ≡ qs
unfolding joined
rest_is x none e = absurd (omega (arith, some x, ap length e))
rest_is x (rest {r = t} y) e = ap (λ (l : List ℕ). l ∷ []) (e ∙ append-nil t)
rest_is x (item {ps = qs} w g) e = absurd (no_ending (joined qs) x w e)

pub one_cutting : {ps qs : List (List ℕ)} → ByItems ps → ByItems qs → joined ps ≡ joined qs → ps ≡ qs
unfolding joined
one_cutting none g e = none_is g e
one_cutting (rest {r = r} x) g e = rest_is x g (sym (append-nil r) ∙ e)
one_cutting (item v f) none e = sym (none_is (item v f) (sym e))
one_cutting (item v f) (rest {r = r} x) e = sym (rest_is x (item v f) (sym (append-nil r) ∙ sym e))
one_cutting (item {p = p} {ps = ps} v f) (item {p = q} {ps = qs} w g) e =
    let l : length p ≡ length q = same_length v w (joined ps) (joined qs) e in
    let h : p ≡ q = front p q (joined ps) (joined qs) l e in
    let t : ps ≡ qs = one_cutting f g (back p q (joined ps) (joined qs) l e) in
    rw (h, t)

-- ---- the pieces of a loop

seam : (loop : List ℕ) (offset next : ℕ) → offset < next → take (next - offset) (drop offset loop) ++ drop next loop ≡ drop offset loop
seam loop offset next h =
    let e : offset + (next - offset) ≡ next = omega arith in
    let d : drop (next - offset) (drop offset loop) ≡ drop next loop = drop-drop (next - offset) offset loop ∙ ap (λ (k : ℕ). drop k loop) e in
    ap (λ (l : List ℕ). take (next - offset) (drop offset loop) ++ l) (sym d) ∙ take-append-drop (next - offset) (drop offset loop)

pub joined_walk : {loop : List ℕ} {offset : ℕ} {xs : List Listed} → Walked loop offset xs → joined (map (run_of loop) xs) ≡ drop offset loop
unfolding joined
joined_walk {loop} stop = sym (drop-length loop)
joined_walk {loop} (step {offset = offset} {next = next} inside e t w) = rw (joined_walk w, e) (seam loop offset next (forward inside t))

-- the head of two bytes
two : (s : List ℕ) (at : ℕ) → at + 2 ≤ length s → drop at s ≡ get_or s at 0 ∷ (get_or s (at + 1) 0 ∷ drop (at + 2) s)
two s at h =
    let h1 : at < length s = omega arith in
    let h2 : suc at < length s = omega arith in
    let e : at + 2 ≡ suc (suc at) = omega arith in
    rw (drop-cons s at 0 h1, drop-cons s (suc at) 0 h2, add-one, e)

stands_complete : {loop : List ℕ} {offset L : ℕ} → Stands loop offset L → (after : ℕ) → after ≡ length loop - (offset + (L + 2)) → Complete (take (L + 2) (drop offset loop)) after
stands_complete {loop} {offset} {L} s after h =
    let body : List ℕ = take L (drop (offset + 2) loop) in
    let size : length body ≡ L = omega (arith, length-take L (drop (offset + 2) loop), length-drop (offset + 2) loop, s.there) in
    let overall : length (take (L + 2) (drop offset loop)) ≡ L + 2 = omega (arith, length-take (L + 2) (drop offset loop), length-drop offset loop, s.there) in
    let n : L + 2 ≡ suc (suc L) = omega arith in
    record {
      tag = get_or loop offset 0;
      body = body;
      is = rw (n, two loop offset (omega (arith, s.six)), size, ← s.is);
      short = omega (arith, size, s.right);
      left = omega (arith, overall, h, s.six, s.there);
    }

pub by_items_walk : {loop : List ℕ} {offset : ℕ} {xs : List Listed} → Walked loop offset xs → ByItems (map (run_of loop) xs)
by_items_walk stop = none
by_items_walk {loop} (step {offset = offset} inside e (ends x) w) =
    let all_left : take (length loop - offset) (drop offset loop) ≡ drop offset loop = take_all (length loop - offset) (drop offset loop) (omega (arith, length-drop offset loop)) in
    rw (e, all_left, at_end w refl) (rest x)
by_items_walk {loop} (step {offset = offset} {xs = xs} inside e (goes L s) w) =
    let n : offset + (L + 2) - offset ≡ L + 2 = omega arith in
    let after : length (joined (map (run_of loop) xs)) ≡ length loop - (offset + (L + 2)) = ap length (joined_walk w) ∙ length-drop (offset + (L + 2)) loop in
    rw (e, n) (item (stands_complete s (length (joined (map (run_of loop) xs))) after) (by_items_walk w))

pub follow_walk : {loop : List ℕ} {offset : ℕ} {xs : List Listed} → Walked loop offset xs → Follow offset (length loop) xs
follow_walk stop = done
follow_walk {loop} (step {offset = offset} {next = next} {xs = xs} inside e t w) =
    let f : offset < next = forward inside t in
    let n : offset + ((step_of loop offset).next - offset) ≡ next = rw e (omega arith) in
    let after : Follow (offset + ((step_of loop offset).next - offset)) (length loop) xs = rw n (follow_walk w) in
    follows refl after

-- ---- each byte lies in exactly one item

not_yet : {at end : ℕ} {xs : List Listed} (i : ℕ) → Follow at end xs → i < at → times i xs ≡ 0
unfolding times lies
not_yet i done h = refl
not_yet i (follows {x = x} e f) h =
    let a : i < x.offset = omega arith in
    let z = not_yet i f (omega arith) in
    rw (lt-leb _ _ a, z)

pub once_follow : {at end : ℕ} {xs : List Listed} (i : ℕ) → Follow at end xs → at ≤ i → i < end → times i xs ≡ 1
unfolding times lies
once_follow i done l h = absurd (omega arith)
once_follow i (follows {x = x} e f) l h =
    let a : x.offset ≤ i = omega arith in
    by_cases i (x.offset + x.used)
    (λ b. let z = not_yet i f (omega arith) in rw (le-leb _ _ a, lt-ltb _ _ b, z))
    (λ b. let z = once_follow i f (omega arith) h in rw (le-leb _ _ a, le-ltb _ _ b, z))

-- ---- the views of an item

run_is : (loop : List ℕ) (v : View) → v.at + v.len ≤ length loop → viewed loop v ≡ take v.len (drop v.at loop)
unfolding viewed
run_is loop v h = rw (le-leb _ _ h)

pub runs_walk : {loop : List ℕ} {offset : ℕ} {xs : List Listed} → Walked loop offset xs → all.All (λ (x : Listed). all.All (Run loop x) (views_of x.step.item)) xs
runs_walk stop = all.none
runs_walk {loop} (step {offset = offset} inside e t w) =
    all.more {x = listed loop offset}
    (all_into (λ v b.
    record {
      behind = b.0;
      before = omega (arith, b.1, e, forward inside t);
      bytes = run_is loop v (omega (arith, b.1, e, within t));
    })
    (views_between (clause loop offset)))
    (runs_walk w)
