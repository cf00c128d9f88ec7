-- The section and the relabelled section, cut at the identifier.
--     agree-..    two lists that agree but at some places, piece by piece
--     cutting     the cutting
use Prim.Native.Nat.{ℕ, zero, suc, ◌+◌, ◌*◌, ◌-◌, ◌/◌, ◌%◌, ◌≤◌, ◌<◌}
use mathlib.Core.List.{List, [], ◌∷◌, ◌++◌, map, append_assoc}
use mathlib.Core.Path.{◌≡◌, refl, ap, ap₂, sym, subst, ◌∙◌}
use native.Mathlib.Omega.{arith}
use lib.ListN.{length, take, drop, get_or, length-append, length-drop, get_or-append}
use lib.Seq.{length-take-le, take-add, get_or-append-add}
use Rattle.crc.proofs.Laws.{crc_last}
use Rattle.crc.specs.Crc.{crc_bytes_of}
use Rattle.descriptor.specs.Descriptor.{cuei}
use Rattle.descriptor_loop.specs.Items.{listed}
use Rattle.relabel.proofs.Mades.{Framing, framing}
use Rattle.relabel.specs.Relabel.{payload_in, relabel_made}
use Rattle.relabel_found.specs.Found.{fore_in, type_in, upid_in, post_in}
use Rattle.relabel_joined.specs.Relabel.{type_then}
use Rattle.relabel_laws.specs.Result.{Result}
use Rattle.relabel_loop.specs.Item.{segmentation_item}
use Rattle.relabel_loop.specs.Loop.{behind_item, with_item}
use Rattle.relabel_payload.specs.Payload.{payload, upid_head}
use Rattle.relabel_section.specs.Frame.{header_and_command, spare_of, rest_with, body_with}
use Rattle.section.specs.Section.{command_length, loop_length, loop_bytes}
use Rattle.table.proofs.Bits.{length_big_endian}
use Rattle.table.specs.Bits.{big_endian}
use Rattle.table.specs.Writing.{made}
use Rattle.upid.proofs.Laws.{by_cases}
use Rattle.upid.proofs.Tree.{all_map}
use Rattle.upid.specs.Cover.{All, none, more}
use Rattle.relabel_trips.specs.Cutting.{upid_place, lengths_within, length_bytes, NotIn, with_crc, CutAt}
use Rattle.relabel_trips.specs.Named.{type_at, identifier_at}
use Rattle.relabel_trips.proofs.Frames as frames
use Rattle.relabel_trips.proofs.Frames.{body_from, body_as, run_three, rest_is, checked, loop_same, loop_long, high_same}
use Rattle.relabel_trips.proofs.Loops.{A-long, own_item_lem}
use Rattle.relabel_trips.proofs.Trips as trips
use Rattle.relabel_trips.proofs.UpidCuts.{UpidCut, upid_cut}

-- ---- two lists that agree but at some places

record Agree (ls : List ℕ) (base : ℕ) (xs ys : List ℕ) : Type 0 where
  size : length xs ≡ length ys
  same : (j : ℕ) → NotIn ls (base + j) → get_or xs j 0 ≡ get_or ys j 0

agree_same : (ls : List ℕ) (base : ℕ) (xs : List ℕ) → Agree ls base xs xs
agree_same ls base xs = record { size = refl; same = λ j h. refl }

agree_append : {ls : List ℕ} {base next : ℕ} {xs ys : List ℕ} (us vs : List ℕ) → Agree ls base xs ys → base + length xs ≡ next → Agree ls next us vs → Agree ls base (xs ++ us) (ys ++ vs)
agree_append {ls} {base} {next} {xs} {ys} us vs a n b =
    record {
      size = omega (arith, length-append xs us, length-append ys vs, a.size, b.size);
      same = λ j h. by_cases j (length xs)
          (λ less. get_or-append xs us 0 j less ∙ a.same j h ∙ sym (get_or-append ys vs 0 j (omega (arith, a.size))))
          (λ over.
          let m : ℕ = j - length xs in
          let ex : j ≡ length xs + m = omega arith in
          let ey : j ≡ length ys + m = omega (arith, a.size) in
          let z : base + j ≡ next + m = omega arith in
          ap (λ (i : ℕ). get_or (xs ++ us) i 0) ex ∙ get_or-append-add xs us m 0
          ∙ b.same m (subst (λ (i : ℕ). NotIn ls i) z h)
          ∙ sym (ap (λ (i : ℕ). get_or (ys ++ vs) i 0) ey ∙ get_or-append-add ys vs m 0));
    }

all_tail : {A : Type 0} {P : A → Type 0} {x : A} {xs : List A} → All P (x ∷ xs) → All P xs
all_tail (more h hs) = hs

all_head : {A : Type 0} {P : A → Type 0} {x : A} {xs : List A} → All P (x ∷ xs) → P x
all_head (more h hs) = h

all_unmap : {P : ℕ → Type 0} (f : ℕ → ℕ) (xs : List ℕ) → All P (map f xs) → All (λ (x : ℕ). P (f x)) xs
all_unmap f [] h = none
all_unmap f (x ∷ xs) (more h hs) = more {x = x} h (all_unmap f xs hs)

all_remap : {P : ℕ → Type 0} (f : ℕ → ℕ) (xs : List ℕ) → All (λ (x : ℕ). P (f x)) xs → All P (map f xs)
all_remap f [] h = none
all_remap f (x ∷ xs) (more h hs) = more h (all_remap f xs hs)

-- the pieces in which lengths stand

module _ (a : ℕ) (ls : List ℕ) where
  agree_three : (b c d e : ℕ) → Agree (1 ∷ (2 ∷ ls)) 0 (a ∷ (b ∷ (c ∷ []))) (a ∷ (d ∷ (e ∷ [])))
  agree_three b c d e = record { size = refl; same = go }
    where
      go : (j : ℕ) → NotIn (1 ∷ (2 ∷ ls)) (0 + j) → get_or (a ∷ (b ∷ (c ∷ []))) j 0 ≡ get_or (a ∷ (d ∷ (e ∷ []))) j 0
      go zero h = refl
      go (suc zero) (more h hs) = absurd (h refl)
      go (suc (suc zero)) (more h (more g gs)) = absurd (g refl)
      go (suc (suc (suc j))) h = refl

  agree_two : (base b c d e : ℕ) → (NotIn ls (base + 0) → ⊥) → (NotIn ls (base + 1) → ⊥) → Agree ls base (b ∷ (c ∷ [])) (d ∷ (e ∷ []))
  agree_two base b c d e first second = record { size = refl; same = go }
    where
      go : (j : ℕ) → NotIn ls (base + j) → get_or (b ∷ (c ∷ [])) j 0 ≡ get_or (d ∷ (e ∷ [])) j 0
      go zero h = absurd (first h)
      go (suc zero) h = absurd (second h)
      go (suc (suc j)) h = refl

  agree_item : (base l m : ℕ) (rest : List ℕ) → (NotIn ls (base + 1) → ⊥) → Agree ls base (a ∷ (l ∷ rest)) (a ∷ (m ∷ rest))
  agree_item base l m rest second = record { size = refl; same = go }
    where
      go : (j : ℕ) → NotIn ls (base + j) → get_or (a ∷ (l ∷ rest)) j 0 ≡ get_or (a ∷ (m ∷ rest)) j 0
      go zero h = refl
      go (suc zero) h = absurd (second h)
      go (suc (suc j)) h = refl

-- ---- the pieces, put together

abbrev priors : List ℕ → List ℕ → List ℕ → List ℕ → ℕ → List ℕ → List ℕ
priors h fo tw X len named = h ++ (fo ++ (tw ++ (X ++ (2 ∷ (len ∷ named)))))

glue : (h fo tw X cu fi be sp u po : List ℕ) (len : ℕ)
    → h ++ (fo ++ (tw ++ ((X ++ ((2 ∷ (len ∷ (cu ++ (fi ++ (u ++ po))))) ++ be)) ++ sp))) ≡ priors h fo tw X len (cu ++ fi) ++ (u ++ (po ++ (be ++ sp)))
glue h fo tw X cu fi be sp u po len = simp append_assoc

glue_cut : (F f : List ℕ) (x y : ℕ) (b r after : List ℕ) → F ++ ((f ++ (x ∷ (y ∷ (b ++ r)))) ++ after) ≡ (F ++ f) ++ (x ∷ (y ∷ (b ++ (r ++ after))))
glue_cut F f x y b r after = simp append_assoc

priors_size : (h fo tw X named : List ℕ) (len : ℕ) → length (priors h fo tw X len named) ≡ length h + (length fo + (length tw + (length X + (2 + length named))))
priors_size h fo tw X named len =
    omega (
      arith,
      length-append h (fo ++ (tw ++ (X ++ (2 ∷ (len ∷ named))))),
      length-append fo (tw ++ (X ++ (2 ∷ (len ∷ named)))),
      length-append tw (X ++ (2 ∷ (len ∷ named))),
      length-append X (2 ∷ (len ∷ named)),
    )

-- the item's length in them
priors_length : (h fo tw X named also : List ℕ) (len at : ℕ) → at ≡ length h + (length fo + (length tw + (length X + 1))) → get_or (priors h fo tw X len named ++ also) at 0 ≡ len
priors_length h fo tw X named also len at e =
    let rest : List ℕ = 2 ∷ (len ∷ (named ++ also)) in
    let z : priors h fo tw X len named ++ also ≡ h ++ (fo ++ (tw ++ (X ++ rest))) = simp append_assoc in
    ap₂ (λ (l : List ℕ) (i : ℕ). get_or l i 0) z e
    ∙ get_or-append-add h (fo ++ (tw ++ (X ++ rest))) (length fo + (length tw + (length X + 1))) 0
    ∙ get_or-append-add fo (tw ++ (X ++ rest)) (length tw + (length X + 1)) 0
    ∙ get_or-append-add tw (X ++ rest) (length X + 1) 0
    ∙ get_or-append-add X rest 1 0

-- a byte of f
cut_byte : (s F f rest : List ℕ) (at j : ℕ) → s ≡ (F ++ f) ++ rest → at ≡ length F → j < length f → get_or s (at + j) 0 ≡ get_or f j 0
cut_byte s F f rest at j e n h =
    ap₂ (λ (l : List ℕ) (i : ℕ). get_or l (i + j) 0) (e ∙ append_assoc F f rest) n
    ∙ get_or-append-add F (f ++ rest) j 0 ∙ get_or-append f rest 0 j h

module _ (s : List ℕ) (offset part k : ℕ) (new r : List ℕ) (bytes : (j : ℕ) → get_or s j 0 < 256) (byte : k < 256) (e : relabel_made s offset part k new ≡ made r) where
  t : Result s offset part k new r
  t = trips.t s offset part k new r bytes byte e

  abbrev old : List ℕ
  old = payload_in s offset

  abbrev loop : List ℕ
  loop = loop_bytes s

  abbrev c : ℕ
  c = command_length s

  u : UpidCut (type_in old) (upid_in old) part k new t.upid
  u = upid_cut (type_in old) (upid_in old) part k new t.upid t.made_of

  abbrev b₀ : List ℕ
  b₀ = identifier_at s offset part

  abbrev K : ℕ
  K = type_then part (type_in old) k

  abbrev pay_then : List ℕ
  pay_then = payload (fore_in old) (post_in old) K t.upid

  abbrev loop_then : List ℕ
  loop_then = with_item loop (listed loop offset) (segmentation_item pay_then)

  abbrev behind : List ℕ
  behind = behind_item loop (listed loop offset)

  abbrev X : List ℕ
  X = take offset loop

  fr : Framing s t.old
  fr = framing s t.old t.accepted

  -- ---- what stands before the UPID's head

  named : List ℕ
  named = cuei ++ fore_in old

  F₀ : List ℕ
  F₀ = priors (take 3 s) (header_and_command s) (big_endian 2 (length loop)) X (length (cuei ++ old)) named

  n : ℕ
  n = length (rest_with s loop_then) + 4

  three : List ℕ
  three = get_or s 0 0 ∷ ((get_or s 1 0 / 16 * 16 + n / 256) ∷ (n % 256 ∷ []))

  F₁ : List ℕ
  F₁ = priors three (header_and_command s) (big_endian 2 (length loop_then)) X (length (cuei ++ pay_then)) named

  after : List ℕ
  after = u.rest ++ (post_in old ++ (behind ++ spare_of s))

  -- ---- the sections

  old_body : take (length s - 4) s ≡ F₀ ++ ((type_in old ∷ (length (upid_in old) ∷ upid_in old)) ++ (post_in old ++ (behind ++ spare_of s)))
  unfolding F₀ named
  old_body =
      let all : length s - 4 ≡ 3 + (length s - 7) = omega (arith, fr.fits) in
      let item : loop ≡ X ++ ((2 ∷ (length (cuei ++ old) ∷ (cuei ++ (fore_in old ++ ((type_in old ∷ (length (upid_in old) ∷ upid_in old)) ++ post_in old))))) ++ behind) =
      sym (own_item_lem loop offset t.there) ∙ ap (λ (l : List ℕ). X ++ ((2 ∷ (length (cuei ++ old) ∷ (cuei ++ l))) ++ behind)) t.cut in
      ap (λ (m : ℕ). take m s) all ∙ take-add 3 (length s - 7) s
      ∙ ap (λ (l : List ℕ). take 3 s ++ l) (sym (rest_is s t.old t.accepted bytes))
      ∙ ap (λ (l : List ℕ). take 3 s ++ (header_and_command s ++ (big_endian 2 (length loop) ++ (l ++ spare_of s)))) item
      ∙ glue (take 3 s) (header_and_command s) (big_endian 2 (length loop)) X cuei (fore_in old) behind (spare_of s) (type_in old ∷ (length (upid_in old) ∷ upid_in old)) (post_in old) (length (cuei ++ old))

  old_is : s ≡ with_crc ((F₀ ++ u.prior) ++ (type_at s offset part ∷ (length b₀ ∷ (b₀ ++ after))))
  unfolding after
  old_is =
      crc_last s (length s - 4) (omega (arith, fr.fits)) bytes (checked s t.old t.accepted bytes)
      ∙ ap with_crc (old_body ∙ ap (λ (l : List ℕ). F₀ ++ (l ++ (post_in old ++ (behind ++ spare_of s)))) u.old
      ∙ glue_cut F₀ u.prior (type_at s offset part) (length b₀) b₀ u.rest (post_in old ++ (behind ++ spare_of s)))

  new_body : body_with s loop_then ≡ F₁ ++ ((K ∷ (length t.upid ∷ t.upid)) ++ (post_in old ++ (behind ++ spare_of s)))
  unfolding F₁ three n named
  new_body =
      body_as s loop_then
      ∙ glue (get_or s 0 0 ∷ ((get_or s 1 0 / 16 * 16 + (length (rest_with s loop_then) + 4) / 256) ∷ ((length (rest_with s loop_then) + 4) % 256 ∷ []))) (header_and_command s) (big_endian 2 (length loop_then)) X cuei (fore_in old) behind (spare_of s)
      (K ∷ (length t.upid ∷ t.upid)) (post_in old) (length (cuei ++ pay_then))

  new_is : r ≡ with_crc ((F₁ ++ u.fixed) ++ (k ∷ (length new ∷ (new ++ after))))
  unfolding after
  new_is =
      t.is ∙ frames.closed s loop_then
      ∙ ap with_crc (new_body ∙ ap (λ (l : List ℕ). F₁ ++ (l ++ (post_in old ++ (behind ++ spare_of s)))) u.then
      ∙ glue_cut F₁ u.fixed k (length new) new u.rest (post_in old ++ (behind ++ spare_of s)))

  -- ---- lengths

  three_is : take 3 s ≡ get_or s 0 0 ∷ (get_or s 1 0 ∷ (get_or s 2 0 ∷ []))
  three_is = run_three s (omega (arith, fr.fits))

  fore_long : length (header_and_command s) ≡ 11 + c
  fore_long = length-take-le (11 + c) (drop 3 s) (omega (arith, length-drop 3 s, fr.fits))

  X-long : length X ≡ offset
  X-long = A-long loop offset t.there

  named_long : length named ≡ 4 + upid_head old
  unfolding named
  named_long = length-append cuei (fore_in old) ∙ ap (λ (m : ℕ). 4 + m) (length-take-le (upid_head old) old (omega (arith, t.complete)))

  F₀-long : length F₀ ≡ upid_place s offset
  unfolding F₀
  F₀-long =
      omega (
        arith,
        priors_size (take 3 s) (header_and_command s) (big_endian 2 (length loop)) X named (length (cuei ++ old)),
        ap length three_is,
        fore_long,
        length_big_endian 2 (length loop),
        X-long,
        named_long,
      )

  F₁-long : length F₁ ≡ upid_place s offset
  unfolding F₁ three
  F₁-long =
      omega (
        arith,
        priors_size three (header_and_command s) (big_endian 2 (length loop_then)) X named (length (cuei ++ pay_then)),
        fore_long,
        length_big_endian 2 (length loop_then),
        X-long,
        named_long,
      )

  item_then_lem : length (cuei ++ pay_then) ≡ length (cuei ++ old) - length b₀ + length new
  item_then_lem =
      omega (
        arith,
        length-append cuei pay_then,
        length-append cuei old,
        ap length t.cut,
        length-append (fore_in old) (K ∷ (length t.upid ∷ (t.upid ++ post_in old))),
        length-append (fore_in old) (type_in old ∷ (length (upid_in old) ∷ (upid_in old ++ post_in old))),
        length-append t.upid (post_in old),
        length-append (upid_in old) (post_in old),
        u.fits,
        u.long,
      )

  loop_then_lem : loop_length r ≡ loop_length s - length b₀ + length new
  unfolding t
  loop_then_lem =
      let x : loop_length r ≡ length loop_then = ap loop_length t.is ∙ loop_same s loop_then t.old t.accepted (trips.fits s offset part k new r bytes byte e) in
      omega (
        arith,
        x,
        loop_long s t.old t.accepted bytes,
        ap length (own_item_lem loop offset t.there),
        length-append X (segmentation_item pay_then ++ behind),
        length-append X (segmentation_item old ++ behind),
        length-append (segmentation_item pay_then) behind,
        length-append (segmentation_item old) behind,
        item_then_lem,
        item_counts,
      )
    where
      item_counts : length b₀ ≤ length (cuei ++ old)
      item_counts =
          omega (
            arith,
            length-append cuei old,
            ap length t.cut,
            length-append (fore_in old) (type_in old ∷ (length (upid_in old) ∷ (upid_in old ++ post_in old))),
            length-append (upid_in old) (post_in old),
            u.fits,
          )

  -- ---- byte by byte

  abbrev ls : List ℕ
  ls = length_bytes s offset part

  agree_prior : Agree ls 0 F₁ F₀
  unfolding F₁ F₀ three
  agree_prior =
      subst (λ (l : List ℕ). Agree ls 0 F₁ (priors l (header_and_command s) (big_endian 2 (length loop)) X (length (cuei ++ old)) named)) (sym three_is)
      (agree_append _ _ (agree_three (get_or s 0 0) _ _ _ _ _) (let z : 0 + 3 ≡ 3 = omega arith in z)
      (agree_append _ _ (agree_same ls 3 (header_and_command s)) (let z : 3 + length (header_and_command s) ≡ 14 + c = omega (arith, fore_long) in z)
      (agree_append _ _ (agree_two 0 ls (14 + c) _ _ _ _ (λ h. all_head (all_tail (all_tail h)) (omega arith)) (λ h. all_head (all_tail (all_tail (all_tail h))) (omega arith))) (let z : 14 + c + 2 ≡ 16 + c = omega arith in z)
      (agree_append _ _ (agree_same ls (16 + c) X) (let z : 16 + c + length X ≡ 16 + c + offset = omega (arith, X-long) in z)
      (agree_item 2 ls (16 + c + offset) _ _ named (λ h. all_head (all_tail (all_tail (all_tail (all_tail h)))) (omega arith)))))))

  agree_upid : Agree ls (upid_place s offset) u.fixed u.prior
  agree_upid =
      record {
        size = u.size;
        same = λ j h. u.stays j
            (all_map (λ at g. λ z. g (ap (λ (i : ℕ). upid_place s offset + i) z))
            (all_unmap (λ (i : ℕ). upid_place s offset + i) (lengths_within (type_in old) (upid_in old) part) (all_tail (all_tail (all_tail (all_tail (all_tail h)))))));
      }

  agree_all : Agree ls 0 (F₁ ++ u.fixed) (F₀ ++ u.prior)
  agree_all = agree_append u.fixed u.prior agree_prior (let z : 0 + length F₁ ≡ upid_place s offset = omega (arith, F₁-long) in z) agree_upid

  abbrev Counts : ℕ → Type 0
  Counts at = get_or r at 0 ≡ get_or s at 0 - length b₀ + length new

  -- the rest of either section, behind what stands before the identifier
  old_rest : List ℕ
  old_rest = (type_at s offset part ∷ (length b₀ ∷ (b₀ ++ after))) ++ crc_bytes_of ((F₀ ++ u.prior) ++ (type_at s offset part ∷ (length b₀ ∷ (b₀ ++ after))))

  new_rest : List ℕ
  new_rest = (k ∷ (length new ∷ (new ++ after))) ++ crc_bytes_of ((F₁ ++ u.fixed) ++ (k ∷ (length new ∷ (new ++ after))))

  old_split : s ≡ (F₀ ++ u.prior) ++ old_rest
  unfolding old_rest
  old_split = old_is ∙ append_assoc (F₀ ++ u.prior) (type_at s offset part ∷ (length b₀ ∷ (b₀ ++ after))) (crc_bytes_of ((F₀ ++ u.prior) ++ (type_at s offset part ∷ (length b₀ ∷ (b₀ ++ after)))))

  new_split : r ≡ (F₁ ++ u.fixed) ++ new_rest
  unfolding new_rest
  new_split = new_is ∙ append_assoc (F₁ ++ u.fixed) (k ∷ (length new ∷ (new ++ after))) (crc_bytes_of ((F₁ ++ u.fixed) ++ (k ∷ (length new ∷ (new ++ after)))))

  item_counts : Counts (16 + c + offset + 1)
  unfolding F₀ F₁ three
  item_counts =
      let x : get_or s (16 + c + offset + 1) 0 ≡ length (cuei ++ old) =
      ap (λ (l : List ℕ). get_or l (16 + c + offset + 1) 0) (old_split ∙ append_assoc F₀ u.prior old_rest)
      ∙ priors_length (take 3 s) (header_and_command s) (big_endian 2 (length loop)) X named (u.prior ++ old_rest) (length (cuei ++ old)) (16 + c + offset + 1)
      (omega (arith, ap length three_is, fore_long, length_big_endian 2 (length loop), X-long)) in
      let y : get_or r (16 + c + offset + 1) 0 ≡ length (cuei ++ pay_then) =
      ap (λ (l : List ℕ). get_or l (16 + c + offset + 1) 0) (new_split ∙ append_assoc F₁ u.fixed new_rest)
      ∙ priors_length three (header_and_command s) (big_endian 2 (length loop_then)) X named (u.fixed ++ new_rest) (length (cuei ++ pay_then)) (16 + c + offset + 1)
      (omega (arith, fore_long, length_big_endian 2 (length loop_then), X-long)) in
      y ∙ item_then_lem ∙ ap (λ (m : ℕ). m - length b₀ + length new) (sym x)

  upid_counts : (j : ℕ) → (j < length u.prior) × (get_or u.fixed j 0 ≡ get_or u.prior j 0 - length b₀ + length new) → Counts (upid_place s offset + j)
  upid_counts j h =
      cut_byte r F₁ u.fixed new_rest (upid_place s offset) j new_split (sym F₁-long) (omega (arith, h.0, u.size))
      ∙ h.1
      ∙ ap (λ (m : ℕ). m - length b₀ + length new) (sym (cut_byte s F₀ u.prior old_rest (upid_place s offset) j old_split (sym F₀-long) h.0))

  pub cutting : CutAt s offset part k new r
  unfolding t
  cutting =
      record {
        before = F₀ ++ u.prior;
        mended = F₁ ++ u.fixed;
        after = after;
        old = old_is;
        then = new_is;
        place = omega (arith, length-append F₀ u.prior, F₀-long, u.place);
        size = omega (arith, length-append F₁ u.fixed, F₁-long, u.size, u.place);
        stays = λ j h. agree_all.same j (subst (λ (i : ℕ). NotIn ls i) (let z : j ≡ 0 + j = omega arith in z) h);
        right = trips.is_right s offset part k new r bytes byte e;
        bits = ap (λ (l : List ℕ). get_or l 1 0 / 16) t.is ∙ high_same s loop_then t.old t.accepted (trips.fits s offset part k new r bytes byte e);
        loop = loop_then_lem;
        lengths =
            more {x = 16 + c + offset + 1} item_counts
            (all_remap {P = Counts} (λ (j : ℕ). upid_place s offset + j) (lengths_within (type_in old) (upid_in old) part) (all_map (λ j h. upid_counts j h) u.lengths));
      }
