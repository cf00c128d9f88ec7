-- What is answered, in the words of specs/Answered.antt.
use Prim.Native.Nat.{ℕ, zero, suc, ◌+◌, ◌-◌, ◌<◌, ◌≤◌}
use mathlib.Core.Bool.{Bool, true, false, not, ◌&&◌, ◌||◌}
use mathlib.Core.List.{List, [], ◌∷◌}
use mathlib.Core.Path.{◌≡◌, refl, ap, ap₂, sym, subst, ◌∙◌}
use native.Mathlib.Omega.{arith}
use borrow.Author.Tests.{le-leb, lt-leb, lt-ltb, le-ltb, eqb-true, leb-false}
use lib.Dec.{eqb, leb, ltb}
use lib.ListN.{length, get_or}
use Rattle.bit_stores.specs.Written.{answer_of}
use Rattle.descriptor_loop.proofs.Lists.{walked}
use Rattle.descriptor_loop.specs.Items.{step_of, Listed, items_of}
use Rattle.descriptor_loop.specs.declared.Step.{Step}
use Rattle.relabel.proofs.Cuts.{spotted, pay_size, section_size, loop_there, loop_size}
use Rattle.relabel.proofs.Mades.{Framing, framing}
use Rattle.relabel.specs.Private.{Spotted}
use Rattle.relabel.specs.Relabel.{payload_in, payload_then, section_then, fitting, loop_made, relabel_made}
use Rattle.relabel_found.proofs.Actives.{ActiveAt, active_at_lem, hole_at, byte_in, type_in_lem, upid_in_lem, size_in_lem}
use Rattle.relabel_found.specs.Found.{begins, is_active, found, type_in, size_in, upid_in}
use Rattle.relabel_laws.proofs.Results.{accepted_of}
use Rattle.relabel_upid.proofs.Answers.{done, own_short, has_parts, taken_accepted}
use Rattle.upid.proofs.Answers.{parts_of_mid}
use Rattle.relabel_upid.specs.Relabel.{instead, part_at, replaced_in, taken, top_made, part_made, upid_made}
use Rattle.section.specs.Section.{command_length, loop_length, loop_bytes, section_of, number_of}
use Rattle.section.specs.declared.Section.{Section}
use Rattle.table.specs.Bits.{pick}
use Rattle.table.specs.Writing.{made, refused}
use Rattle.theorems_reader.proofs.Sections.{each_item}
use Rattle.theorems_reader.proofs.Theorems.{refusals_1_to_11_in_order}
use Rattle.upid.proofs.Laws.{by_cases}
use Rattle.upid.proofs.Walks.{check_mid}
use Rattle.upid.specs.Cover.{All, bytes_of}
use Rattle.upid.specs.Cover.All.{none, more}
use Rattle.upid.specs.Private.{Accepted}
use Rattle.upid.specs.Upid.{check_of, read_of, upid_of, parts_in, list_of}
use Rattle.upid.specs.declared.Part.{Part}
use Rattle.theorems_relabel.specs.Answered.{no_active, no_part, unfit, size_then, in_accepted, answered}
use Rattle.theorems_relabel.specs.Replaced.{Request, run_of, upid_for, type_for}
use Rattle.std.proofs.Common.{Ok, Err, Result}

-- ---- the item

no_active_lem : (loop : List ℕ) (offset : ℕ) (xs : List Listed) → All (λ (y : Listed). y.step ≡ step_of loop y.offset) xs
    → no_active offset xs ≡ not (begins xs offset && is_active (step_of loop offset).item)
unfolding no_active begins
no_active_lem loop offset [] none = refl
no_active_lem loop offset (y ∷ ys) (more h hs) = go (eqb y.offset offset) refl (no_active_lem loop offset ys hs)
  where
    go : (b : Bool) → eqb y.offset offset ≡ b → no_active offset ys ≡ not (begins ys offset && is_active (step_of loop offset).item)
        → pick b (not (is_active y.step.item)) (no_active offset ys) ≡ not ((b || begins ys offset) && is_active (step_of loop offset).item)
    go true e rest = ap (λ (z : Step). not (is_active z.item)) (h ∙ ap (step_of loop) (eqb-true y.offset offset e))
    go false e rest = rest

found_is : (loop : List ℕ) (offset : ℕ) → not (begins (items_of loop) offset && is_active (step_of loop offset).item) ≡ not (found loop offset)
unfolding found
found_is loop offset = refl

is_taken : (k : ℕ) → taken (Ok k) ≡ true
unfolding taken
is_taken k = refl

-- ---- the sizes: the UPID's n bytes become b, of which r are those of the identifier that is named, and m those of the new one

module _ (sec : List ℕ) (lenpay L S n b r m T : ℕ) (ep : lenpay ≡ L - 4 - n + b) (es : length sec ≡ S - n + b) (eb : b ≡ n - r + m) (rn : r ≤ n) (nL : n + 6 ≤ L) (nS : n ≤ S) where
  item_is : L - r + m ≡ lenpay + 4
  item_is = omega arith

  section_is : S - r + m ≡ length sec
  section_is = omega arith

  fit_answer : (target : List ℕ) → length target ≡ T
      → answer_of (pick (leb lenpay 250 && leb (length sec) 4096) (made sec) (refused 34)) target
      ≡ pick (ltb 254 (L - r + m) || ltb 4096 (S - r + m)) (Err 34) (pick (ltb T (S - r + m)) (Err 36) (Ok (S - r + m)))
  unfolding answer_of
  fit_answer target et =
      by_cases 250 lenpay
      (λ h. rw (lt-leb lenpay 250 h, lt-ltb 254 (L - r + m) (omega (arith, item_is))))
      (λ h.
      by_cases 4096 (length sec)
      (λ g. rw (le-leb lenpay 250 h, lt-leb (length sec) 4096 g, le-ltb 254 (L - r + m) (omega (arith, item_is)), section_is, lt-ltb 4096 (length sec) g))
      (λ g.
      by_cases T (length sec)
      (λ f. rw (le-leb lenpay 250 h, le-leb (length sec) 4096 g, le-ltb 254 (L - r + m) (omega (arith, item_is)), section_is, le-ltb 4096 (length sec) g, et, lt-leb (length sec) T f, lt-ltb T (length sec) f))
      (λ f. rw (le-leb lenpay 250 h, le-leb (length sec) 4096 g, le-ltb 254 (L - r + m) (omega (arith, item_is)), section_is, le-ltb 4096 (length sec) g, et, le-leb (length sec) T f, le-ltb T (length sec) f))))

-- ---- the UPID

-- what is answered from 34 on
abbrev sized : Request → ℕ → Result ℕ ℕ
sized q room =
    pick (ltb 254 (size_then q (get_or (loop_bytes q.section) (q.offset + 1) 0)) || ltb 4096 (size_then q (length q.section))) (Err 34)
    (pick (ltb room (size_then q (length q.section))) (Err 36) (Ok (size_then q (length q.section))))

abbrev ordered : Request → ℕ → Result ℕ ℕ
ordered q room =
    pick (no_part (type_for q) (upid_for q) q.part) (Err 41)
    (pick (ltb 255 (size_then q (length (upid_for q)))) (Err 32)
    (pick (unfit q.part q.upid_type q.bytes) (Err 33) (sized q room)))

module _ (s : List ℕ) (offset k : ℕ) (new target : List ℕ) (at : Spotted s offset) (x : ActiveAt (loop_bytes s) offset) where
  abbrev top : List ℕ
  top = upid_in (payload_in s offset)

  abbrev upid_type_number : ℕ
  upid_type_number = type_in (payload_in s offset)

  abbrev asked : ℕ → Request
  asked part = record { section = s; offset = offset; part = part; upid_type = k; bytes = new }

  made_answer : (part : ℕ) (b : List ℕ) → length b ≡ size_then (asked part) (length top) → length (run_of top part) ≤ length top → length top ≡ size_in (payload_in s offset)
      → answer_of (fitting s offset part k (made b)) target ≡ sized (asked part) (length target)
  unfolding fitting
  made_answer part b eb rn et =
      let L : ℕ = get_or (loop_bytes s) (offset + 1) 0 in
      fit_answer (section_then s offset part k b) (length (payload_then s offset part k b)) L (length s) (size_in (payload_in s offset)) (length b) (length (run_of top part)) (length new) (length target)
      (pay_size s offset at x.next part k b) (section_size s offset at x.next part k b) (eb ∙ ap (λ (n : ℕ). n - length (run_of top part) + length new) et)
      (subst (λ (n : ℕ). length (run_of top part) ≤ n) et rn) (omega (arith, at.upid)) (omega (arith, at.upid, at.there, at.room)) target refl

  module _ (et : length top ≡ size_in (payload_in s offset)) (fine : taken (check_of upid_type_number top) ≡ true) where
    top_answer : answer_of (fitting s offset 0 k (top_made upid_type_number top k new)) target ≡ ordered (asked 0) (length target)
    unfolding top_made no_part unfit fitting answer_of
    top_answer =
        let z : length top - length top + length new ≡ length new = omega arith in
        rw (fine, z) (go (eqb (length top) 0) (ltb 255 (length new)) (eqb (length new) 0 || not (taken (read_of k 0 new))))
      where
        go : (t u v : Bool) → answer_of (fitting s offset 0 k (pick (t || false) (refused 41) (pick u (refused 32) (pick v (refused 33) (made new))))) target
            ≡ pick t (Err 41) (pick u (Err 32) (pick v (Err 33) (sized (asked 0) (length target))))
        go true u v = refl
        go false true v = refl
        go false false true = refl
        go false false false = made_answer 0 new (omega arith) (omega arith) et

    module _ (i : ℕ) where
      abbrev ps : List Part
      ps = parts_in (upid_of upid_type_number top)

      abbrev p : Part
      p = part_at ps i

      abbrev then : ℕ
      then = instead p (length new) (length top)

      -- the part that is there: its bytes lie in the UPID, and the UPID's size then
      record There : Type 0 where
        pub size : length (run_of top (suc i)) ≡ p.len
        pub inside : p.len ≤ length top
        pub grows : taken (read_of k 0 new) ≡ true → length (replaced_in top ps i k new) ≡ then

      there : i < length ps → There
      there h =
          let hp = has_parts upid_type_number top i h in
          let a : Accepted (check_of 13 top) = subst (λ (j : ℕ). Accepted (check_of j top)) hp.0 hp.1 in
          let is : ps ≡ list_of 13 1 0 top = ap (λ (j : ℕ). parts_in (upid_of j top)) hp.0 ∙ parts_of_mid top a in
          let h₁ : i < length (list_of 13 1 0 top) = subst (λ (l : List Part). i < length l) is h in
          let o = own_short top i (check_mid top a) h₁ in
          let r : run_of top (suc i) ≡ bytes_of top p = ap (λ (j : ℕ). bytes_of top (part_at (parts_in (upid_of j top)) i)) (sym hp.0) in
          record {
            size = ap length r ∙ subst (λ (l : List Part). length (bytes_of top (part_at l i)) ≡ (part_at l i).len) (sym is) o.1;
            inside = subst (λ (l : List Part). (part_at l i).len ≤ length top) (sym is) o.0;
            grows = λ t.
                let d = done top i (record { upid_type = k; payload = new }) (check_mid top a) h₁ (taken_accepted _ t) in
                subst (λ (l : List Part). length (replaced_in top l i k new) ≡ instead (part_at l i) (length new) (length top)) (sym is) (ap length d.1.is ∙ d.1.size);
          }

      after_there : There → size_then (asked (suc i)) (length top) ≡ then → (u v : Bool) → taken (read_of k 0 new) ≡ v
          → answer_of (fitting s offset (suc i) k (pick u (refused 32) (pick (not v) (refused 33) (made (replaced_in top ps i k new))))) target
          ≡ pick u (Err 32) (pick (not v) (Err 33) (sized (asked (suc i)) (length target)))
      unfolding fitting answer_of
      after_there w z true v ev = refl
      after_there w z false false ev = refl
      after_there w z false true ev = made_answer (suc i) (replaced_in top ps i k new) (w.grows ev ∙ sym z) (omega (arith, w.size, w.inside)) et

      by_place : (t : Bool) → leb (length ps) i ≡ t
          → answer_of (fitting s offset (suc i) k (pick t (refused 41) (pick (ltb 255 then) (refused 32) (pick (not (taken (read_of k 0 new))) (refused 33) (made (replaced_in top ps i k new)))))) target
          ≡ pick t (Err 41) (pick (ltb 255 (size_then (asked (suc i)) (length top))) (Err 32) (pick (not (taken (read_of k 0 new))) (Err 33) (sized (asked (suc i)) (length target))))
      unfolding fitting answer_of
      by_place true e = refl
      by_place false e =
          let w = there (leb-false _ _ e) in
          let z : size_then (asked (suc i)) (length top) ≡ then = ap (λ (n : ℕ). length top - n + length new) w.size in
          after_there w z (ltb 255 then) (taken (read_of k 0 new)) refl
          ∙ ap (λ (n : ℕ). pick (ltb 255 n) (Err 32) (pick (not (taken (read_of k 0 new))) (Err 33) (sized (asked (suc i)) (length target)))) (sym z)

      part_answer : answer_of (fitting s offset (suc i) k (part_made upid_type_number top i k new)) target ≡ ordered (asked (suc i)) (length target)
      unfolding part_made no_part unfit
      part_answer = by_place (leb (length ps) i) refl

    upid_answer_lem : (part : ℕ) → answer_of (fitting s offset part k (upid_made upid_type_number top part k new)) target ≡ ordered (asked part) (length target)
    unfolding upid_made
    upid_answer_lem zero = top_answer
    upid_answer_lem (suc i) = part_answer i

-- ---- the section

module _ (q : Request) (target : List ℕ) (bytes : (j : ℕ) → get_or q.section j 0 < 256) where
  abbrev s : List ℕ
  s = q.section

  abbrev loop : List ℕ
  loop = loop_bytes s

  in_loop : (x : Section) → section_of s ≡ Ok x → answer_of (loop_made s q.offset q.part q.upid_type q.bytes) target ≡ in_accepted q (length target)
  unfolding loop_made in_accepted answer_of
  in_loop x e =
      let f = framing s x e in
      let fits : length loop ≤ 4076 = omega (arith, loop_size s q.offset bytes f.fits f.short, f.fits, f.short) in
      let n : no_active q.offset (items_of loop) ≡ not (found loop q.offset) = no_active_lem loop q.offset (items_of loop) (each_item (λ o inside. refl) (walked loop fits)) ∙ found_is loop q.offset in
      rw n (go f (found loop q.offset) refl)
    where
      go : Framing s x → (b : Bool) → found loop q.offset ≡ b
          → answer_of (pick b (fitting s q.offset q.part q.upid_type (upid_made (type_for q) (upid_for q) q.part q.upid_type q.bytes)) (refused 41)) target
          ≡ pick (not b) (Err 41) (ordered q (length target))
      go f false ef = refl
      go f true ef =
          let at = spotted s q.offset bytes f.fits f.short ef in
          let x = active_at_lem loop q.offset ef in
          let byte_of : (j : ℕ) → get_or loop j 0 < 256 = λ j. subst (λ (l : List ℕ). get_or l j 0 < 256) (sym (loop_there s f.fits)) (byte_in s (16 + command_length s) (loop_length s) bytes j) in
          let h = hole_at loop q.offset byte_of x in
          let ek = type_in_lem (payload_in s q.offset) _ _ h in
          let eu = upid_in_lem (payload_in s q.offset) _ _ h in
          let et : length (upid_for q) ≡ size_in (payload_in s q.offset) = ap length (sym eu) ∙ size_in_lem (payload_in s q.offset) _ _ h in
          let fine : check_of (type_for q) (upid_for q) ≡ Ok h.reported = ap₂ check_of (sym ek) (sym eu) ∙ h.fine in
          upid_answer_lem s q.offset q.upid_type q.bytes target at x et (ap taken fine ∙ is_taken h.reported) q.part

  pub answers : answer_of (relabel_made s q.offset q.part q.upid_type q.bytes) target ≡ answered q (length target)
  unfolding relabel_made answered answer_of
  answers = rw (← refusals_1_to_11_in_order s) (go (eqb (number_of (section_of s)) 0) refl)
    where
      go : (b : Bool) → eqb (number_of (section_of s)) 0 ≡ b
          → answer_of (pick b (loop_made s q.offset q.part q.upid_type q.bytes) (refused (number_of (section_of s)))) target ≡ pick b (in_accepted q (length target)) (Err (number_of (section_of s)))
      go false e = refl
      go true e = let x = accepted_of (section_of s) e in in_loop x.0 x.1
