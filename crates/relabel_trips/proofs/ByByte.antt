-- The same, byte by byte, of the two sections themselves.
--     by_byte     from the cutting
use Prim.Native.Nat.{ℕ, ◌+◌, ◌-◌, ◌<◌}
use mathlib.Core.List.{List, ◌∷◌, ◌++◌, append_assoc}
use mathlib.Core.Path.{◌≡◌, refl, ap, ap₂, sym, subst, ◌∙◌}
use native.Mathlib.Omega.{arith}
use lib.ListN.{length, take, drop, get_or, length-append, get_or-append}
use lib.Seq.{take_at, drop_at, get_or-append_seam, get_or-append-add, drop-append-add, take-append_seam}
use Rattle.crc.specs.Crc.{crc_bytes_of}
use Rattle.relabel_trips.specs.Cutting.{head_at, with_crc, CutAt, ByByte}
use Rattle.relabel_trips.specs.Named.{type_at, identifier_at}

-- ---- a head of two bytes, an identifier, what stands after it, and the CRC, behind what stands before

module _ (F : List ℕ) (k : ℕ) (b after : List ℕ) where
  abbrev body : List ℕ
  body = F ++ (k ∷ (length b ∷ (b ++ after)))

  abbrev crc : List ℕ
  crc = crc_bytes_of body

  all_is : with_crc body ≡ F ++ (k ∷ (length b ∷ (b ++ (after ++ crc))))
  all_is = along F k (length b) b after crc
    where
      along : (F : List ℕ) (k l : ℕ) (b after c : List ℕ) → (F ++ (k ∷ (l ∷ (b ++ after)))) ++ c ≡ F ++ (k ∷ (l ∷ (b ++ (after ++ c))))
      along F k l b after c = simp append_assoc

  body_size : length body ≡ length F + 2 + length b + length after
  body_size = omega (arith, length-append F (k ∷ (length b ∷ (b ++ after))), length-append b after)

  pub all_size : length (with_crc body) ≡ length F + 2 + length b + length after + 4
  all_size = omega (arith, length-append body crc, body_size)

  pub prior_byte : (j : ℕ) → j < length F → get_or (with_crc body) j 0 ≡ get_or F j 0
  prior_byte j h = ap (λ (l : List ℕ). get_or l j 0) all_is ∙ get_or-append F (k ∷ (length b ∷ (b ++ (after ++ crc)))) 0 j h

  pub type_is_byte : get_or (with_crc body) (length F) 0 ≡ k
  type_is_byte = ap (λ (l : List ℕ). get_or l (length F) 0) all_is ∙ get_or-append_seam F k (length b ∷ (b ++ (after ++ crc))) 0

  pub length_byte : get_or (with_crc body) (length F + 1) 0 ≡ length b
  length_byte = ap (λ (l : List ℕ). get_or l (length F + 1) 0) all_is ∙ get_or-append-add F (k ∷ (length b ∷ (b ++ (after ++ crc)))) 1 0

  pub run_is : take (length b) (drop (length F + 2) (with_crc body)) ≡ b
  run_is =
      ap (λ (l : List ℕ). take (length b) (drop (length F + 2) l)) all_is
      ∙ ap (take (length b)) (drop-append-add F (k ∷ (length b ∷ (b ++ (after ++ crc)))) 2) ∙ take-append_seam b (after ++ crc)

  behind_is : drop (length F + 2 + length b) (with_crc body) ≡ after ++ crc
  behind_is =
      let z : length F + 2 + length b ≡ length (F ++ (k ∷ (length b ∷ b))) = omega (arith, length-append F (k ∷ (length b ∷ b))) in
      let y : with_crc body ≡ (F ++ (k ∷ (length b ∷ b))) ++ (after ++ crc) = all_is ∙ sym (append_assoc F (k ∷ (length b ∷ b)) (after ++ crc)) in
      ap₂ drop z y ∙ drop_at (F ++ (k ∷ (length b ∷ b))) (after ++ crc) (length (F ++ (k ∷ (length b ∷ b)))) refl

  pub after_is : take (length after) (drop (length F + 2 + length b) (with_crc body)) ≡ after
  after_is = ap (take (length after)) behind_is ∙ take-append_seam after crc

  pub crc_is : (n : ℕ) → length (with_crc body) ≡ n + 4 → drop n (with_crc body) ≡ crc_bytes_of (take n (with_crc body))
  crc_is n e =
      let z : length body ≡ n = omega (arith, length-append body crc) in
      drop_at body crc n z ∙ ap crc_bytes_of (sym (take_at body crc n z))

pub by_byte : (s : List ℕ) (offset part k : ℕ) (new r : List ℕ) → CutAt s offset part k new r → ByByte s offset part k new r
by_byte s offset part k new r c =
    let F : List ℕ = c.before in
    let G : List ℕ = c.mended in
    let b : List ℕ = identifier_at s offset part in
    let k₀ : ℕ = type_at s offset part in
    let at : ℕ = head_at s offset part in
    let after : List ℕ = c.after in
    let n : length s ≡ at + 2 + length b + length after + 4 = ap length c.old ∙ all_size F k₀ b after ∙ ap (λ (m : ℕ). m + 2 + length b + length after + 4) c.place in
    let m : length r ≡ at + 2 + length new + length after + 4 = ap length c.then ∙ all_size G k new after ∙ ap (λ (m : ℕ). m + 2 + length new + length after + 4) c.size in
    let rest : length s - 4 - (at + 2 + length b) ≡ length after = omega arith in
    record {
      long = (omega arith, omega arith);
      before =
          λ j h g.
          ap (λ (l : List ℕ). get_or l j 0) c.then ∙ prior_byte G k new after j (omega (arith, c.size)) ∙ c.stays j g
          ∙ sym (ap (λ (l : List ℕ). get_or l j 0) c.old ∙ prior_byte F k₀ b after j (omega (arith, c.place)));
      upid_type = ap₂ (λ (l : List ℕ) (i : ℕ). get_or l i 0) c.then (sym c.size) ∙ type_is_byte G k new after;
      counted = ap₂ (λ (l : List ℕ) (i : ℕ). get_or l (i + 1) 0) c.then (sym c.size) ∙ length_byte G k new after;
      run = ap₂ (λ (l : List ℕ) (i : ℕ). take (length new) (drop (i + 2) l)) c.then (sym c.size) ∙ run_is G k new after;
      after =
          ap (λ (i : ℕ). take i (drop (at + 2 + length new) r)) rest
          ∙ ap₂ (λ (l : List ℕ) (i : ℕ). take (length after) (drop (i + 2 + length new) l)) c.then (sym c.size) ∙ after_is G k new after
          ∙ sym (ap (λ (i : ℕ). take i (drop (at + 2 + length b) s)) rest
          ∙ ap₂ (λ (l : List ℕ) (i : ℕ). take (length after) (drop (i + 2 + length b) l)) c.old (sym c.place) ∙ after_is F k₀ b after);
      crc = subst (λ (l : List ℕ). drop (length r - 4) l ≡ crc_bytes_of (take (length r - 4) l)) (sym c.then) (crc_is G k new after (length r - 4) (sym (ap length c.then) ∙ omega arith));
    }
