-- The stores, one behind the other, as one.
--     over             a store over what was stored
--     front_stored     all up to the UPID: a copy, and what is mended in it
--     all_stored       what stands in the target in the end
use Prim.Native.Nat.{ℕ, zero, suc, ◌+◌, ◌*◌, ◌-◌, ◌/◌, ◌%◌, ◌<◌, ◌≤◌}
use mathlib.Core.List.{List, [], ◌∷◌, ◌++◌, append_assoc}
use mathlib.Core.Path.{◌≡◌, refl, ap, ap₂, sym, ◌∙◌}
use native.Mathlib.Nat.{div-one}
use native.Mathlib.Omega.{arith}
use lib.ListN.{length, take, drop, get_or, set, length-append, length-drop}
use lib.Seq.{length-take-le, take_at, drop_at, take-suc, take-add, drop-drop}
use Rattle.crc.specs.Crc.{crc_of, crc_bytes_of}
use Rattle.relabel_joined.specs.Relabel.{type_then}
use Rattle.table.proofs.Bits.{length_big_endian}
use Rattle.table.proofs.Lists.{append_nil}
use Rattle.table.proofs.Stores.{stored_fits, stored_append, stored_nil, stored_behind, length_stored}
use Rattle.table.specs.Bits.{big_endian}
use Rattle.table.specs.Lent.{stored}
use Rattle.relabel.specs.Private.{run, old_size, Lies, Takes, head_of, item_of, up_to_upid, back_of, body_of, cut_of, sealed}
use Rattle.relabel.specs.declared.Place.{Place}

-- ---- runs of bytes

pub length_run : (s : List ℕ) (at n : ℕ) → at + n ≤ length s → length (run s at n) ≡ n
length_run s at n h = length-take-le n (drop at s) (omega (arith, length-drop at s))

-- ---- one store behind another, and one before another

pub step : (t u later b c : List ℕ) (at here : ℕ) → u ≡ stored t at b → here ≡ at + length b → at + length b + length c ≤ length t → later ≡ stored u here c → later ≡ stored t at (b ++ c)
step t u later b c at here e h fits f =
    f ∙ ap₂ (λ (x : List ℕ) (i : ℕ). stored x i c) e h ∙ stored_append t at b c fits

pub before : (t b c : List ℕ) (at : ℕ) → length b ≡ at → at + length c ≤ length t → stored (stored t at c) 0 b ≡ stored t 0 (b ++ c)
before t b c at e fits =
    let u : List ℕ = stored t at c in
    let f : u ≡ take at t ++ (c ++ drop (at + length c) t) = stored_fits t at c fits ∙ append_assoc (take at t) c (drop (at + length c) t) in
    let l : length (take at t) ≡ at = length-take-le at t (omega arith) in
    let d : drop at u ≡ c ++ drop (at + length c) t = ap (drop at) f ∙ drop_at (take at t) (c ++ drop (at + length c) t) at l in
    let n : 0 + length (b ++ c) ≡ at + length c = omega (arith, length-append b c) in
    let z : 0 + length b ≡ at = omega arith in
    stored_fits u 0 b (omega (arith, length_stored t at c))
    ∙ ap (λ (x : List ℕ). b ++ x) (ap (λ (i : ℕ). drop i u) z ∙ d)
    ∙ sym (append_assoc b c (drop (at + length c) t))
    ∙ sym (stored_fits t 0 (b ++ c) (omega arith) ∙ ap (λ (i : ℕ). (b ++ c) ++ drop i t) n)

-- a store over what was stored
pub over : (t a b c d : List ℕ) (at : ℕ) → length a ≡ at → length d ≡ length b → length (a ++ (b ++ c)) ≤ length t → stored (stored t 0 (a ++ (b ++ c))) at d ≡ stored t 0 (a ++ (d ++ c))
over t a b c d at ea ed fits =
    let X : List ℕ = a ++ (b ++ c) in
    let Y : List ℕ = a ++ (d ++ c) in
    let u : List ℕ = stored t 0 X in
    let R : List ℕ = drop (0 + length X) t in
    let lX : length X ≡ length a + (length b + length c) = omega (arith, length-append a (b ++ c), length-append b c) in
    let lY : length Y ≡ length X = omega (arith, length-append a (d ++ c), length-append d c) in
    let e : u ≡ X ++ R = stored_fits t 0 X (omega arith) in
    let e₁ : u ≡ a ++ (b ++ (c ++ R)) = e ∙ append_assoc a (b ++ c) R ∙ ap (λ (l : List ℕ). a ++ l) (append_assoc b c R) in
    let e₂ : u ≡ (a ++ b) ++ (c ++ R) = e₁ ∙ sym (append_assoc a b (c ++ R)) in
    let f : take at u ≡ a = ap (take at) e₁ ∙ take_at a (b ++ (c ++ R)) at ea in
    let g : drop (at + length d) u ≡ c ++ R = ap (drop (at + length d)) e₂ ∙ drop_at (a ++ b) (c ++ R) (at + length d) (omega (arith, length-append a b)) in
    let z : 0 + length X ≡ 0 + length Y = omega arith in
    let w : (a ++ d) ++ (c ++ R) ≡ Y ++ R = simp append_assoc in
    stored_fits u at d (omega (arith, length_stored t 0 X))
    ∙ ap₂ (λ (x y : List ℕ). x ++ d ++ y) f g ∙ w
    ∙ ap (λ (i : ℕ). Y ++ drop i t) z
    ∙ sym (stored_fits t 0 Y (omega arith))

-- one byte, and two
pub one_stored : (t : List ℕ) (at x : ℕ) → at < length t → set t at x ≡ stored t at (x ∷ [])
one_stored t at x h = ap (λ (l : List ℕ). set l at x) (sym (stored_nil t at)) ∙ behind_nil
  where
    behind_nil : set (stored t at []) at x ≡ stored t at (x ∷ [])
    behind_nil = let z : at ≡ at + 0 = omega arith in ap (λ (i : ℕ). set (stored t at []) i x) z ∙ stored_behind t at x [] (omega arith)

pub two_stored : (t t₁ t₂ : List ℕ) (at v : ℕ) → v < 65536 → at + 2 ≤ length t → t₁ ≡ stored t at (v / 256 ∷ []) → t₂ ≡ stored t₁ (at + 1) (v % 256 ∷ []) → t₂ ≡ stored t at (big_endian 2 v)
two_stored t t₁ t₂ at v small fits e₁ e₂ =
    let x : v / 256 ≡ v / 256 % 256 = omega arith in
    let y : v % 256 ≡ v / 1 % 256 = omega arith in
    step t t₁ t₂ (v / 256 ∷ []) (v % 256 ∷ []) at (at + 1) e₁ refl (omega arith) e₂
    ∙ ap₂ (λ (a b : ℕ). stored t at (a ∷ (b ∷ []))) x y

-- ---- all up to the UPID

-- a run, cut in two
cut : (s : List ℕ) (a m n : ℕ) (b : ℕ) → a + m ≡ b → run s a (m + n) ≡ run s a m ++ run s b n
cut s a m n b e = take-add m n (drop a s) ∙ ap (λ (l : List ℕ). run s a m ++ take n l) (drop-drop m a s ∙ ap (λ (i : ℕ). drop i s) e)

joined : (A B C D : List ℕ) → A ++ (B ++ (C ++ D)) ≡ (A ++ (B ++ C)) ++ D
joined A B C D = simp append_assoc

all_joined : (A B C D E F G H : List ℕ) → (((A ++ (B ++ C)) ++ (D ++ E)) ++ (F ++ G)) ++ (H ++ []) ≡ (A ++ (B ++ (C ++ D))) ++ (E ++ (F ++ (G ++ H)))
all_joined A B C D E F G H = simp (append_assoc, append_nil)

sizes : (A B C D E F G H : List ℕ) → length (A ++ (B ++ (C ++ (D ++ (E ++ (F ++ (G ++ H))))))) ≡ length A + (length B + (length C + (length D + (length E + (length F + (length G + length H))))))
sizes A B C D E F G H = simp length-append

-- a copy of what stands before the place h + 2, with two bytes at 1, two before l, one at i + 1 and two at h mended
module _ (s : List ℕ) (k l i h c e g : ℕ) (ek : 3 + c ≡ k) (el : k + 2 ≡ l) (ei : l + e ≡ i + 1) (eh : i + 2 + g ≡ h) (fits : h + 2 ≤ length s) where
  abbrev one : List ℕ
  one = get_or s 0 0 ∷ []

  pieces : run s 0 (h + 2) ≡ one ++ (run s 1 2 ++ (run s 3 c ++ (run s k 2 ++ (run s l e ++ (run s (i + 1) 1 ++ (run s (i + 2) g ++ run s h 2))))))
  pieces =
      let n : h + 2 ≡ 1 + (2 + (c + (2 + (e + (1 + (g + 2)))))) = omega arith in
      let x : i + 1 + 1 ≡ i + 2 = omega arith in
      ap (run s 0) n ∙ cut s 0 1 (2 + (c + (2 + (e + (1 + (g + 2)))))) 1 refl
      ∙ ap₂ (λ (u v : List ℕ). u ++ v) (take-suc s 0 0 (omega arith)) (cut s 1 2 (c + (2 + (e + (1 + (g + 2))))) 3 refl
      ∙ ap (λ (u : List ℕ). run s 1 2 ++ u) (cut s 3 c (2 + (e + (1 + (g + 2)))) k ek
      ∙ ap (λ (u : List ℕ). run s 3 c ++ u) (cut s k 2 (e + (1 + (g + 2))) l el
      ∙ ap (λ (u : List ℕ). run s k 2 ++ u) (cut s l e (1 + (g + 2)) (i + 1) ei
      ∙ ap (λ (u : List ℕ). run s l e ++ u) (cut s (i + 1) 1 (g + 2) (i + 2) x
      ∙ ap (λ (u : List ℕ). run s (i + 1) 1 ++ u) (cut s (i + 2) g 2 h eh))))))

  mended : (t t₁ t₂ t₃ t₄ t₅ : List ℕ) (v w len z : ℕ) → t₁ ≡ stored t 0 (run s 0 (h + 2)) → t₂ ≡ stored t₁ 1 (big_endian 2 v) → t₃ ≡ stored t₂ k (big_endian 2 w)
      → t₄ ≡ stored t₃ (i + 1) (len ∷ []) → t₅ ≡ stored t₄ h (big_endian 2 z) → h + 2 ≤ length t
      → t₅ ≡ stored t 0 ((get_or s 0 0 ∷ (big_endian 2 v ++ (run s 3 c ++ big_endian 2 w))) ++ (run s l e ++ (len ∷ (run s (i + 2) g ++ big_endian 2 z))))
  mended t t₁ t₂ t₃ t₄ t₅ v w len z e₁ e₂ e₃ e₄ e₅ room =
      let B : List ℕ = run s 1 2 in
      let C : List ℕ = run s 3 c in
      let D : List ℕ = run s k 2 in
      let E : List ℕ = run s l e in
      let F : List ℕ = run s (i + 1) 1 in
      let G : List ℕ = run s (i + 2) g in
      let H : List ℕ = run s h 2 in
      let lB : length B ≡ 2 = length_run s 1 2 (omega arith) in
      let lC : length C ≡ c = length_run s 3 c (omega arith) in
      let lD : length D ≡ 2 = length_run s k 2 (omega arith) in
      let lE : length E ≡ e = length_run s l e (omega arith) in
      let lF : length F ≡ 1 = length_run s (i + 1) 1 (omega arith) in
      let lG : length G ≡ g = length_run s (i + 2) g (omega arith) in
      let lH : length H ≡ 2 = length_run s h 2 (omega arith) in
      let Q : List ℕ = big_endian 2 v in
      let W : List ℕ = big_endian 2 w in
      let L : List ℕ = len ∷ [] in
      let K : List ℕ = big_endian 2 z in
      -- section_length
      let f₂ : t₂ ≡ stored t 0 (one ++ (Q ++ (C ++ (D ++ (E ++ (F ++ (G ++ H))))))) =
      e₂ ∙ ap (λ (u : List ℕ). stored u 1 Q) (e₁ ∙ ap (stored t 0) pieces)
      ∙ over t one B (C ++ (D ++ (E ++ (F ++ (G ++ H))))) Q 1 refl (sym lB) (omega (arith, sizes one B C D E F G H)) in
      -- the loop's length
      let a₃ : List ℕ = one ++ (Q ++ C) in
      let g₃ : one ++ (Q ++ (C ++ (D ++ (E ++ (F ++ (G ++ H)))))) ≡ a₃ ++ (D ++ (E ++ (F ++ (G ++ H)))) = joined one Q C (D ++ (E ++ (F ++ (G ++ H)))) in
      let f₃ : t₃ ≡ stored t 0 (a₃ ++ (W ++ (E ++ (F ++ (G ++ H))))) =
      e₃ ∙ ap (λ (u : List ℕ). stored u k W) (f₂ ∙ ap (stored t 0) g₃)
      ∙ over t a₃ D (E ++ (F ++ (G ++ H))) W k (omega (arith, length-append Q C)) (sym lD) (omega (arith, ap length (sym g₃), sizes one Q C D E F G H)) in
      -- the item's
      let a₄ : List ℕ = a₃ ++ (W ++ E) in
      let g₄ : a₃ ++ (W ++ (E ++ (F ++ (G ++ H)))) ≡ a₄ ++ (F ++ (G ++ H)) = joined a₃ W E (F ++ (G ++ H)) in
      let h₄ : one ++ (Q ++ (C ++ (W ++ (E ++ (F ++ (G ++ H)))))) ≡ a₄ ++ (F ++ (G ++ H)) = joined one Q C (W ++ (E ++ (F ++ (G ++ H)))) ∙ g₄ in
      let f₄ : t₄ ≡ stored t 0 (a₄ ++ (L ++ (G ++ H))) =
      e₄ ∙ ap (λ (u : List ℕ). stored u (i + 1) L) (f₃ ∙ ap (stored t 0) g₄)
      ∙ over t a₄ F (G ++ H) L (i + 1) (omega (arith, length-append a₃ (W ++ E), length-append W E, length-append Q C)) (sym lF) (omega (arith, ap length (sym h₄), sizes one Q C W E F G H)) in
      -- the UPID's head
      let a₅ : List ℕ = a₄ ++ (L ++ G) in
      let g₅ : a₄ ++ (L ++ (G ++ H)) ≡ a₅ ++ (H ++ []) = joined a₄ L G H ∙ ap (λ (u : List ℕ). a₅ ++ u) (sym (append_nil H)) in
      let h₅ : one ++ (Q ++ (C ++ (W ++ (E ++ (L ++ (G ++ H)))))) ≡ a₅ ++ (H ++ []) = joined one Q C (W ++ (E ++ (L ++ (G ++ H)))) ∙ joined a₃ W E (L ++ (G ++ H)) ∙ g₅ in
      let n₅ : length a₅ ≡ h = omega (arith, length-append a₄ (L ++ G), length-append a₃ (W ++ E), length-append W E, length-append Q C) in
      let f₅ : t₅ ≡ stored t 0 (a₅ ++ (K ++ [])) =
      e₅ ∙ ap (λ (u : List ℕ). stored u h K) (f₄ ∙ ap (stored t 0) g₅)
      ∙ over t a₅ H [] K h n₅ (sym lH) (omega (arith, ap length (sym h₅), sizes one Q C W E L G H)) in
      let r : a₅ ++ (K ++ []) ≡ (get_or s 0 0 ∷ (Q ++ (C ++ W))) ++ (E ++ (len ∷ (G ++ K))) = all_joined one Q C W E L G K in
      f₅ ∙ ap (stored t 0) r

module _ (s : List ℕ) (p : Place) (n : ℕ) (lies : Lies s p) where
  pub size_head : length (head_of s p n) ≡ p.list
  unfolding head_of
  size_head =
      let a = length_run s 3 (p.list - 2 - 3) (omega (arith, lies.list, lies.item, lies.head, lies.upid, lies.end)) in
      let v : ℕ = get_or s 1 0 / 16 * 4096 + (length s - old_size p + n - 3) in
      let w : ℕ = p.len - old_size p + n in
      omega (
        arith,
        length-append (big_endian 2 v) (run s 3 (p.list - 2 - 3) ++ big_endian 2 w),
        length-append (run s 3 (p.list - 2 - 3)) (big_endian 2 w),
        length_big_endian 2 v,
        length_big_endian 2 w,
        a,
        lies.list,
      )

  pub size_item : (k : ℕ) → length (item_of s p k n) ≡ p.head + 2 - p.list
  unfolding item_of
  size_item k =
      let a = length_run s p.list (p.item + 1 - p.list) (omega (arith, lies.item, lies.head, lies.upid, lies.end)) in
      let b = length_run s (p.item + 2) (p.head - (p.item + 2)) (omega (arith, lies.head, lies.upid, lies.end)) in
      let L : ℕ = get_or s (p.item + 1) 0 - old_size p + n in
      omega (
        arith,
        length-append (run s p.list (p.item + 1 - p.list)) (L ∷ (run s (p.item + 2) (p.head - (p.item + 2)) ++ big_endian 2 (k * 256 + n))),
        length-append (run s (p.item + 2) (p.head - (p.item + 2))) (big_endian 2 (k * 256 + n)),
        length_big_endian 2 (k * 256 + n),
        a,
        b,
        lies.item,
        lies.head,
      )

  pub front_stored : (t t₁ t₂ t₃ t₄ t₅ : List ℕ) (k y f v w x len z : ℕ) → y ≡ get_or s 1 0 → f ≡ length s - old_size p + n - 3 → v ≡ y / 16 * 4096 + f → w ≡ p.len - old_size p + n
      → x ≡ get_or s (p.item + 1) 0 → len ≡ x - old_size p + n → z ≡ k * 256 + n → t₁ ≡ stored t 0 (take (p.head + 2 - 0) (drop 0 s)) → t₂ ≡ stored t₁ 1 (big_endian 2 v)
      → t₃ ≡ stored t₂ (p.list - 2) (big_endian 2 w) → t₄ ≡ stored t₃ (p.item + 1) (len ∷ []) → t₅ ≡ stored t₄ p.head (big_endian 2 z) → p.head + 2 ≤ length t
      → t₅ ≡ stored t 0 (up_to_upid s p k n)
  unfolding head_of item_of
  front_stored t t₁ t₂ t₃ t₄ t₅ k y f v w x len z ey ef ev ew ex el ez e₁ e₂ e₃ e₄ e₅ room =
      let m = places p.list p.item p.head lies.list lies.item lies.head in
      let fits : p.head + 2 ≤ length s = omega (arith, lies.upid, lies.end) in
      let none : p.head + 2 - 0 ≡ p.head + 2 = omega arith in
      mended s (p.list - 2) p.list p.item p.head (p.list - 2 - 3) (p.item + 1 - p.list) (p.head - (p.item + 2)) m.0 m.1 m.2 m.3 fits t t₁ t₂ t₃ t₄ t₅ v w len z
      (e₁ ∙ ap (λ (j : ℕ). stored t 0 (run s 0 j)) none) e₂ e₃ e₄ e₅ room
      ∙ rw (ev, ey, ef, ew, el, ex, ez)
    where
      places : (l i h : ℕ) → 16 ≤ l → l ≤ i → i + 6 ≤ h → (3 + (l - 2 - 3) ≡ l - 2) × (l - 2 + 2 ≡ l) × (l + (i + 1 - l) ≡ i + 1) × (i + 2 + (h - (i + 2)) ≡ h)
      places l i h a b c = (omega arith, omega arith, omega arith, omega arith)

pub takes_small : (s : List ℕ) (p : Place) (n : ℕ) → Takes s p n → n ≤ 254
takes_small s p n t = omega (arith, t.item)

-- ---- all of them

module _ (s : List ℕ) (p : Place) (k : ℕ) (b : List ℕ) (lies : Lies s p) where
  n : ℕ
  n = length b

  pub size_front : length (up_to_upid s p k (length b)) ≡ p.head + 2
  size_front =
      omega (arith, length-append (head_of s p (length b)) (item_of s p k (length b)), size_head s p (length b) lies, size_item s p (length b) lies k, lies.list, lies.item, lies.head)

  size_back : length (back_of s p) ≡ length s - 4 - p.end
  size_back = length_run s p.end (length s - 4 - p.end) (omega (arith, lies.end))

  pub size_body : length (body_of s p k b) ≡ p.head + 2 + length b + (length s - 4 - p.end)
  unfolding body_of
  size_body = omega (arith, length-append (up_to_upid s p k (length b)) (b ++ back_of s p), length-append b (back_of s p), size_front, size_back)

  pub size_cut : length (cut_of s p k b) ≡ length s - old_size p + length b
  unfolding cut_of
  size_cut = omega (arith, length-append (body_of s p k b) (crc_bytes_of (body_of s p k b)), size_body, lies.upid, lies.end)

  crc_number : (m : List ℕ) → big_endian 4 (crc_of m) ≡ crc_bytes_of m
  crc_number m = rw (div-one (crc_of m))

  pub all_stored : (t t₁ t₂ t₃ : List ℕ) → length s - old_size p + length b ≤ length t → t₁ ≡ stored t (p.head + 2) b → t₂ ≡ stored t₁ 0 (up_to_upid s p k (length b))
      → t₃ ≡ sealed s p (length b) t₂ → t₃ ≡ stored t 0 (cut_of s p k b)
  unfolding sealed body_of cut_of
  all_stored t t₁ t₂ t₃ room e₁ e₂ e₃ =
      let F : List ℕ = up_to_upid s p k (length b) in
      let B : List ℕ = body_of s p k b in
      let at : ℕ = p.head + 2 + length b in
      let end : ℕ = at + (length s - 4 - p.end) in
      let r : at + (length s - 4 - p.end) + 4 ≤ length t = omega (arith, lies.upid, lies.end) in
      let l₁ : length t₁ ≡ length t = ap length e₁ ∙ length_stored t (p.head + 2) b in
      let g₂ : t₂ ≡ stored t 0 (F ++ b) = e₂ ∙ ap (λ (u : List ℕ). stored u 0 F) e₁ ∙ before t F b (p.head + 2) size_front (omega arith) in
      let lF : length (F ++ b) ≡ at = omega (arith, length-append F b, size_front) in
      let u : List ℕ = stored t₂ at (back_of s p) in
      let fu : u ≡ stored t 0 B =
      step t t₂ u (F ++ b) (back_of s p) 0 at g₂ (omega arith) (omega (arith, size_back)) refl ∙ ap (stored t 0) (append_assoc F b (back_of s p)) in
      let w : take end u ≡ B =
      ap (take end) (fu ∙ stored_fits t 0 B (omega (arith, size_body))) ∙ take_at B (drop (0 + length B) t) end size_body in
      e₃ ∙ step t u _ B (big_endian 4 (crc_of (take end u))) 0 end fu (omega (arith, size_body)) (omega (arith, size_body)) refl
      ∙ ap (λ (m : List ℕ). stored t 0 (B ++ big_endian 4 (crc_of m))) w
      ∙ ap (λ (m : List ℕ). stored t 0 (B ++ m)) (crc_number B)

-- ---- the last two stores, and the type of the UPID

pub back_stored : (s : List ℕ) (p : Place) (n : ℕ) (t t₁ t₂ : List ℕ) (crc last : ℕ) → last ≡ p.head + 2 + n + (length s - 4 - p.end)
    → t₁ ≡ stored t (p.head + 2 + n) (take (length s - 4 - p.end) (drop p.end s)) → crc ≡ crc_of (take (last - 0) (drop 0 t₁)) → t₂ ≡ stored t₁ last (big_endian 4 crc)
    → t₂ ≡ sealed s p n t
unfolding sealed
back_stored s p n t t₁ t₂ crc last el e₁ ec e₂ =
    let z : last - 0 ≡ last = omega arith in
    e₂ ∙ rw (ec, z, e₁, el)

pub type_more : (part upid_type_number k : ℕ) → (part ≡ 0 → ⊥) → upid_type_number ≡ type_then part upid_type_number k
type_more zero upid_type_number k h = absurd (h refl)
type_more (suc i) upid_type_number k h = refl
