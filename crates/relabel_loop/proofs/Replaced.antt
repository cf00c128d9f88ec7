-- One item of a loop replaced: the others stay.
use Prim.Native.Nat.{ℕ, zero, suc, ◌+◌, ◌-◌, ◌≤◌, ◌<◌}
use mathlib.Core.List.{List, [], ◌∷◌, ◌++◌, map, map-append, append_assoc}
use mathlib.Core.Path.{◌≡◌, refl, ap, ap₂, sym, subst, ◌∙◌}
use native.Mathlib.Nat.{zero-add}
use native.Mathlib.Omega.{arith}
use lib.ListN.{length, take, drop, length-append, take-append-drop, length-map}
use lib.Seq.{take-append-add, drop-append-add, drop-append_seam, length-take-le, drop-length}
use Rattle.upid.proofs.Laws.{by_cases}
use Rattle.descriptor_loop.specs.Items.{step_of, Listed, listed, items_of}
use Rattle.descriptor_loop.specs.declared.Step.{Step}
use Rattle.descriptor_loop.proofs.Steps.{Turn, ends, goes, Stands, turn}
use Rattle.relabel_loop.specs.Loop.{moved_listed, behind_item, with_item, Piece, OthersStay}
use Rattle.relabel_loop.proofs.Moves.{listed_twice, map_twice}
use Rattle.relabel_loop.proofs.Pieces.{step_of_small, step_of_complete, step_piece, items_first, items_empty, items_piece, still}

-- ---- a list that is a map, split

pub record Split (f : Listed → Listed) (zs us : List Listed) (b : Listed) (cs : List Listed) : Type 0 where
  pub lead : List Listed
  pub one : Listed
  pub tail : List Listed
  pub is : zs ≡ lead ++ (one ∷ tail)
  pub lead_is : map f lead ≡ us
  pub one_is : f one ≡ b
  pub tail_is : map f tail ≡ cs

head_of : {a b : Listed} {s t : List Listed} → a ∷ s ≡ b ∷ t → a ≡ b
head_of e = cc

tail_of : {a b : Listed} {s t : List Listed} → a ∷ s ≡ b ∷ t → s ≡ t
tail_of e = cc

no_items : (us : List Listed) (b : Listed) (cs : List Listed) → [] ≡ us ++ (b ∷ cs) → ⊥
no_items us b cs e = omega (arith, ap length e, length-append us (b ∷ cs))

split : (f : Listed → Listed) (zs us : List Listed) (b : Listed) (cs : List Listed) → map f zs ≡ us ++ (b ∷ cs) → Split f zs us b cs
split f [] us b cs e = absurd (no_items us b cs e)
split f (z ∷ zs) [] b cs e = record { lead = []; one = z; tail = zs; is = refl; lead_is = refl; one_is = head_of e; tail_is = tail_of e }
split f (z ∷ zs) (a ∷ us) b cs e =
    let x : Split f zs us b cs = split f zs us b cs (tail_of e) in
    record {
      lead = z ∷ x.lead;
      one = x.one;
      tail = x.tail;
      is = ap (λ (l : List Listed). z ∷ l) x.is;
      lead_is = ap₂ (λ (y : Listed) (l : List Listed). y ∷ l) (head_of e) x.lead_is;
      one_is = x.one_is;
      tail_is = x.tail_is;
    }

-- ---- the first item replaced

module _ (loop d : List ℕ) (fits : length loop ≤ 4076) (some : 0 < length loop) (w : Piece d) where
  abbrev next : ℕ
  next = (step_of loop 0).next

  end_is : 0 + (next - 0) ≡ next
  end_is = omega arith

  first_replaced : length (with_item loop (listed loop 0) d) ≤ 4076
      → OthersStay loop [] (listed loop 0) (map (moved_listed next) (items_of (drop next loop))) d
  first_replaced short =
      let post : List ℕ = drop (0 + (next - 0)) loop in
      record {
        old = ap (λ (k : ℕ). map (moved_listed k) (items_of (drop k loop))) (sym end_is);
        new =
            items_piece d post w short
            ∙ ap₂ (λ (x : Listed) (k : ℕ). x ∷ map (moved_listed k) (items_of post)) (still d (omega (arith, length-append d post))) (sym (zero-add (length d)));
      }

-- ---- an item after the first

module _ (tag : ℕ) (body : List ℕ) (right : length body ≤ 254) where
  abbrev p : List ℕ
  p = tag ∷ (length body ∷ body)

  module _ (s : List ℕ) (fits : length (p ++ s) ≤ 4076) (six : 6 ≤ length body + 2 + length s) where
    next_of : (step_of (p ++ s) 0).next ≡ length p
    next_of =
        by_cases (length body) 4
        (λ h. ap (λ (x : Step). x.next) (step_of_small tag body right s fits six h) ∙ omega arith)
        (λ h. ap (λ (x : Step). x.next) (step_of_complete tag body right s fits six h) ∙ omega arith)

    items_of_lem : items_of (p ++ s) ≡ listed (p ++ s) 0 ∷ map (moved_listed (length p)) (items_of s)
    items_of_lem =
        items_first (p ++ s) fits (omega arith)
        ∙ ap (λ (k : ℕ). listed (p ++ s) 0 ∷ map (moved_listed k) (items_of (drop k (p ++ s)))) next_of
        ∙ ap (λ (l : List ℕ). listed (p ++ s) 0 ∷ map (moved_listed (length p)) (items_of l)) (drop-append_seam p s)

  module _ (s : List ℕ) (x : Listed) (d : List ℕ) where
    behind_there : behind_item (p ++ s) (moved_listed (length p) x) ≡ behind_item s x
    behind_there =
        let e : length p + x.offset + x.used ≡ length p + (x.offset + x.used) = omega arith in
        ap (λ (k : ℕ). drop k (p ++ s)) e ∙ drop-append-add p s (x.offset + x.used)

    with_there : with_item (p ++ s) (moved_listed (length p) x) d ≡ p ++ with_item s x d
    with_there =
        ap₂ (λ (a b : List ℕ). a ++ (d ++ b)) (take-append-add p s x.offset) behind_there
        ∙ append_assoc p (take x.offset s) (d ++ behind_item s x)

  later : (s : List ℕ) (lead : List Listed) (x : Listed) (tail : List Listed) (d : List ℕ) → Piece d → length (p ++ s) ≤ 4076 → 6 ≤ length body + 2 + length s
      → length (p ++ with_item s x d) ≤ 4076 → OthersStay s lead x tail d
      → OthersStay (p ++ s) (listed (p ++ s) 0 ∷ map (moved_listed (length p)) lead) (moved_listed (length p) x) (map (moved_listed (length p)) tail) d
  later s lead x tail d w fits six short h =
      let n : ℕ = length p in
      let post : List ℕ = behind_item s x in
      let s2 : List ℕ = with_item s x d in
      let six2 : 6 ≤ length body + 2 + length s2 = omega (arith, length-append (take x.offset s) (d ++ post), length-append d post, ap length w.is, w.named) in
      let same : listed (p ++ s2) 0 ≡ listed (p ++ s) 0 = ap (λ (st : Step). record { offset = 0; used = st.next - 0; step = st }) (step_piece tag body right s2 s short fits six2 six) in
      let e1 : n + (x.offset + x.used) ≡ n + x.offset + x.used = omega arith in
      let e2 : n + (x.offset + length d) ≡ n + x.offset + length d = omega arith in
      let there : map (moved_listed n) (items_of s2) ≡ map (moved_listed n) lead ++ (moved_listed (n + x.offset) (listed d 0) ∷ map (moved_listed (n + x.offset + length d)) (items_of post)) =
      ap (map (moved_listed n)) h.new
      ∙ map-append (moved_listed n) lead (moved_listed x.offset (listed d 0) ∷ map (moved_listed (x.offset + length d)) (items_of post))
      ∙ ap₂ (λ (y : Listed) (ys : List Listed). map (moved_listed n) lead ++ (y ∷ ys)) (listed_twice n x.offset (listed d 0))
      (map_twice n (x.offset + length d) (items_of post) ∙ ap (λ (k : ℕ). map (moved_listed k) (items_of post)) e2) in
      record {
        old =
            ap (map (moved_listed n)) h.old ∙ map_twice n (x.offset + x.used) (items_of post)
            ∙ ap₂ (λ (k : ℕ) (l : List ℕ). map (moved_listed k) (items_of l)) e1 (sym (behind_there s x d));
        new =
            ap items_of (with_there s x d) ∙ items_of_lem s2 short six2
            ∙ ap₂ (λ (y : Listed) (ys : List Listed). y ∷ ys) same there
            ∙ ap (λ (l : List ℕ). listed (p ++ s) 0 ∷ (map (moved_listed n) lead ++ (moved_listed (n + x.offset) (listed d 0) ∷ map (moved_listed (n + x.offset + length d)) (items_of l)))) (sym (behind_there s x d));
      }

-- ---- any item

Stay : ℕ → Type 0
Stay n = (loop : List ℕ) (lead : List Listed) (x : Listed) (tail : List Listed) (d : List ℕ) → length lead ≤ n → length loop ≤ 4076 → Piece d → length (with_item loop x d) ≤ 4076
    → items_of loop ≡ lead ++ (x ∷ tail) → OthersStay loop lead x tail d

some_bytes : (loop : List ℕ) (lead : List Listed) (x : Listed) (tail : List Listed) → length loop ≤ 4076 → items_of loop ≡ lead ++ (x ∷ tail) → 0 < length loop
some_bytes loop lead x tail fits e =
    by_cases 0 (length loop) (λ h. h)
    (λ h. absurd (no_items lead x tail (sym (items_empty loop fits h) ∙ e)))

first_any : (loop : List ℕ) (x : Listed) (tail : List Listed) (d : List ℕ) → length loop ≤ 4076 → Piece d → length (with_item loop x d) ≤ 4076 → items_of loop ≡ x ∷ tail → OthersStay loop [] x tail d
first_any loop x tail d fits w short e =
    let some : 0 < length loop = some_bytes loop [] x tail fits e in
    let f : x ∷ tail ≡ listed loop 0 ∷ map (moved_listed (step_of loop 0).next) (items_of (drop (step_of loop 0).next loop)) = sym e ∙ items_first loop fits some in
    subst (λ (ts : List Listed). OthersStay loop [] x ts d) (sym (tail_of f))
    (subst (λ (y : Listed). length (with_item loop y d) ≤ 4076 → OthersStay loop [] y (map (moved_listed (step_of loop 0).next) (items_of (drop (step_of loop 0).next loop))) d) (sym (head_of f))
    (first_replaced loop d fits some w) short)

later_any : (n : ℕ) → Stay n → (tag : ℕ) (body : List ℕ) (right : length body ≤ 254) (s : List ℕ) (y : Listed) (lead : List Listed) (x : Listed) (tail : List Listed) (d : List ℕ) → length lead ≤ n
    → length (p tag body right ++ s) ≤ 4076 → 6 ≤ length body + 2 + length s → Piece d → length (with_item (p tag body right ++ s) x d) ≤ 4076
    → items_of (p tag body right ++ s) ≡ y ∷ (lead ++ (x ∷ tail)) → OthersStay (p tag body right ++ s) (y ∷ lead) x tail d
unfolding Stay
later_any n again tag body right s y lead x tail d hn fits six w short e =
    let q : List ℕ = p tag body right in
    let f : y ∷ (lead ++ (x ∷ tail)) ≡ listed (q ++ s) 0 ∷ map (moved_listed (length q)) (items_of s) = sym e ∙ items_of_lem tag body right s fits six in
    let z : Split (moved_listed (length q)) (items_of s) lead x tail = split (moved_listed (length q)) (items_of s) lead x tail (sym (tail_of f)) in
    let short2 : length (with_item (q ++ s) (moved_listed (length q) z.one) d) ≤ 4076 = subst (λ (u : Listed). length (with_item (q ++ s) u d) ≤ 4076) (sym z.one_is) short in
    let short3 : length (q ++ with_item s z.one d) ≤ 4076 = subst (λ (l : List ℕ). length l ≤ 4076) (with_there tag body right s z.one d) short2 in
    let m : length z.lead ≤ n = omega (arith, ap length z.lead_is, length-map z.lead (moved_listed (length q))) in
    let h : OthersStay s z.lead z.one z.tail d = again s z.lead z.one z.tail d m (omega (arith, length-append q s)) w (omega (arith, length-append q (with_item s z.one d))) z.is in
    let g : OthersStay (q ++ s) (listed (q ++ s) 0 ∷ map (moved_listed (length q)) z.lead) (moved_listed (length q) z.one) (map (moved_listed (length q)) z.tail) d =
    later tag body right s z.lead z.one z.tail d w fits six short3 h in
    subst (λ (u : Listed). OthersStay (q ++ s) (u ∷ lead) x tail d) (sym (head_of f))
    (subst (λ (us : List Listed). OthersStay (q ++ s) (listed (q ++ s) 0 ∷ us) x tail d) z.lead_is
    (subst (λ (u : Listed). OthersStay (q ++ s) (listed (q ++ s) 0 ∷ map (moved_listed (length q)) z.lead) u tail d) z.one_is
    (subst (λ (us : List Listed). OthersStay (q ++ s) (listed (q ++ s) 0 ∷ map (moved_listed (length q)) z.lead) (moved_listed (length q) z.one) us d) z.tail_is g)))

-- the first item of a loop that has more than one
pub record First (loop : List ℕ) : Type 0 where
  pub tag : ℕ
  pub body : List ℕ
  pub after : List ℕ
  pub right : length body ≤ 254
  pub is : (tag ∷ (length body ∷ body)) ++ after ≡ loop

first_stands : (loop : List ℕ) (L : ℕ) → Stands loop 0 L → First loop
first_stands [] L s = absurd (omega (arith, s.six))
first_stands (a ∷ []) L s = absurd (omega (arith, s.six))
first_stands (a ∷ (b ∷ r)) L s =
    let l : length (take L r) ≡ L = length-take-le L r (omega (arith, s.there)) in
    let e : L ≡ b = s.is in
    record {
      tag = a;
      body = take L r;
      after = drop L r;
      right = omega (arith, l, s.right);
      is = ap (λ (k : ℕ). a ∷ (k ∷ (take L r ++ drop L r))) (l ∙ e) ∙ ap (λ (t : List ℕ). a ∷ (b ∷ t)) (take-append-drop L r);
    }

-- where more items follow, the first is no ending refusal: a whole item stands there
stands_first : (loop : List ℕ) {next : ℕ} (y : Listed) (lead : List Listed) (x : Listed) (tail : List Listed) → length loop ≤ 4076 → 0 < length loop
    → items_of loop ≡ y ∷ (lead ++ (x ∷ tail)) → (step_of loop 0).next ≡ next → Turn loop 0 next → (L : ℕ) × Stands loop 0 L
stands_first loop y lead x tail fits some e f (ends t) =
    let g : items_of (drop (step_of loop 0).next loop) ≡ [] =
    ap (λ (k : ℕ). items_of (drop k loop)) f ∙ ap items_of (drop-length loop) ∙ items_empty [] (omega arith) (omega arith) in
    let h : map (moved_listed (step_of loop 0).next) (items_of (drop (step_of loop 0).next loop)) ≡ [] = ap (map (moved_listed (step_of loop 0).next)) g in
    absurd (no_items lead x tail (sym (tail_of (sym e ∙ items_first loop fits some) ∙ h)))
stands_first loop y lead x tail fits some e f (goes L s) = (L, s)

in_first : (n : ℕ) → Stay n → (loop : List ℕ) (f : First loop) (y : Listed) (lead : List Listed) (x : Listed) (tail : List Listed) (d : List ℕ) → length lead ≤ n
    → length loop ≤ 4076 → 6 ≤ length loop → Piece d → length (with_item loop x d) ≤ 4076 → items_of loop ≡ y ∷ (lead ++ (x ∷ tail)) → OthersStay loop (y ∷ lead) x tail d
in_first n again loop f y lead x tail d hn fits six w short e =
    let q : List ℕ = f.tag ∷ (length f.body ∷ f.body) in
    let back : loop ≡ q ++ f.after = sym f.is in
    let six2 : 6 ≤ length f.body + 2 + length f.after = omega (arith, ap length back, length-append q f.after) in
    subst (λ (l : List ℕ). OthersStay l (y ∷ lead) x tail d) f.is
    (later_any n again f.tag f.body f.right f.after y lead x tail d hn
    (subst (λ (l : List ℕ). length l ≤ 4076) back fits) six2 w
    (subst (λ (l : List ℕ). length (with_item l x d) ≤ 4076) back short)
    (subst (λ (l : List ℕ). items_of l ≡ y ∷ (lead ++ (x ∷ tail))) back e))

stay_none : (loop : List ℕ) (lead : List Listed) (x : Listed) (tail : List Listed) (d : List ℕ) → length lead ≤ 0 → length loop ≤ 4076 → Piece d → length (with_item loop x d) ≤ 4076
    → items_of loop ≡ lead ++ (x ∷ tail) → OthersStay loop lead x tail d
stay_none loop [] x tail d hn fits w short e = first_any loop x tail d fits w short e
stay_none loop (y ∷ lead) x tail d hn fits w short e = absurd (omega arith)

stay_more : (n : ℕ) → Stay n → (loop : List ℕ) (lead : List Listed) (x : Listed) (tail : List Listed) (d : List ℕ) → length lead ≤ suc n → length loop ≤ 4076 → Piece d
    → length (with_item loop x d) ≤ 4076 → items_of loop ≡ lead ++ (x ∷ tail) → OthersStay loop lead x tail d
stay_more n again loop [] x tail d hn fits w short e = first_any loop x tail d fits w short e
stay_more n again loop (y ∷ lead) x tail d hn fits w short e =
    let some : 0 < length loop = some_bytes loop (y ∷ lead) x tail fits e in
    let z = stands_first loop y lead x tail fits some e refl (turn loop 0 fits some) in
    in_first n again loop (first_stands loop z.0 z.1) y lead x tail d (omega arith) fits (omega (arith, z.1.six)) w short e

stay : (n : ℕ) → Stay n
unfolding Stay
stay zero = stay_none
stay (suc n) = stay_more n (stay n)

pub others_stay : (loop : List ℕ) (lead : List Listed) (x : Listed) (tail : List Listed) (d : List ℕ) → length loop ≤ 4076 → Piece d → length (with_item loop x d) ≤ 4076
    → items_of loop ≡ lead ++ (x ∷ tail) → OthersStay loop lead x tail d
unfolding Stay
others_stay loop lead x tail d = stay (length lead) loop lead x tail d (omega arith)
