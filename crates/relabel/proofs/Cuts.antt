-- The section then, by places: the definition's section is the one that is stored.
--     spotted_at    an item that is spotted, by places of the section; so is one that is found (`spotted`)
--     lies          the places lie in their order
--     cut_is        the section then is `cut_of` of its place
use Prim.Native.Nat.{ℕ, zero, suc, ◌+◌, ◌*◌, ◌-◌, ◌/◌, ◌%◌, ◌<◌, ◌≤◌}
use mathlib.Core.Bool.{true}
use mathlib.Core.List.{List, [], ◌∷◌, ◌++◌, append_assoc}
use mathlib.Core.Path.{◌≡◌, ap, ap₂, sym, subst, ◌∙◌}
use native.Mathlib.Omega.{arith}
use borrow.Author.Tests.{le-leb}
use lib.ListN.{length, take, drop, get_or, length-append, length-drop}
use lib.Seq.{length-take-le, take-nil, take-take, drop-drop, take-add, take-suc, get_or-take, get_or-drop}
use Rattle.crc.specs.Crc.{crc_bytes_of}
use Rattle.descriptor.specs.Descriptor.{cuei}
use Rattle.descriptor_loop.specs.Items.{step_of, listed}
use Rattle.relabel_found.proofs.Actives.{byte_in}
use Rattle.relabel_found.proofs.Spots.{whole_is, spot_is, spots_found}
use Rattle.relabel_found.specs.Found.{found, fore_in, type_in, size_in, upid_in, post_in, spots}
use Rattle.relabel_joined.specs.Relabel.{type_then, item_then}
use Rattle.relabel_loop.specs.Loop.{behind_item, with_item}
use Rattle.relabel_payload.specs.Payload.{upid_head}
use Rattle.relabel_section.specs.Frame.{header_and_command, spare_of, rest_with, body_with, section_with}
use Rattle.section.specs.Section.{command_length, loop_length, loop_place, loop_bytes}
use Rattle.table.proofs.Bits.{length_big_endian}
use Rattle.table.specs.Bits.{big_endian}
use Rattle.table.specs.Lent.{viewed}
use Rattle.relabel.specs.Relabel.{payload_in, payload_then, section_then}
use Rattle.relabel.specs.Private.{run, old_size, Lies, Takes, head_of, item_of, back_of, body_of, cut_of, Spotted, head_in, place_in}
use Rattle.relabel.specs.declared.Place.{Place}

-- ---- runs of a run

pub run_take : (s : List ℕ) (a n m : ℕ) → m ≤ n → take m (run s a n) ≡ run s a m
run_take s a n m h = take-take m n (drop a s) h

drop_take : (m n : ℕ) (l : List ℕ) → drop m (take n l) ≡ take (n - m) (drop m l)
drop_take zero n l = ap (λ (k : ℕ). take k l) (let z : n ≡ n - 0 = omega arith in z)
drop_take (suc m) zero l = ap (λ (k : ℕ). take k (drop (suc m) l)) (let z : 0 ≡ 0 - suc m = omega arith in z)
drop_take (suc m) (suc n) [] = sym (take-nil (suc n - suc m))
drop_take (suc m) (suc n) (x ∷ l) = drop_take m n l ∙ ap (λ (k : ℕ). take k (drop m l)) (let z : n - m ≡ suc n - suc m = omega arith in z)

pub run_drop : (s : List ℕ) (a n m : ℕ) → drop m (run s a n) ≡ run s (a + m) (n - m)
run_drop s a n m = drop_take m n (drop a s) ∙ ap (take (n - m)) (drop-drop m a s)

pub run_run : (s : List ℕ) (a n m w : ℕ) → m + w ≤ n → take w (drop m (run s a n)) ≡ run s (a + m) w
run_run s a n m w h = ap (take w) (run_drop s a n m) ∙ take-take w (n - m) (drop (a + m) s) (omega arith)

pub run_join : (s : List ℕ) (a m n : ℕ) → run s a m ++ run s (a + m) n ≡ run s a (m + n)
run_join s a m n = sym (take-add m n (drop a s) ∙ ap (λ (l : List ℕ). take m (drop a s) ++ take n l) (drop-drop m a s))

pub run_byte : (s : List ℕ) (a n i : ℕ) → i < n → get_or (run s a n) i 0 ≡ get_or s (a + i) 0
run_byte s a n i h = get_or-take n (drop a s) i 0 h ∙ get_or-drop a s i 0

-- ---- section_length behind four bits, and a UPID's head

length_in : (b n : ℕ) → b < 256 → n < 4096 → big_endian 2 (b / 16 * 4096 + n) ≡ (b / 16 * 16 + n / 256) ∷ (n % 256 ∷ [])
length_in b n hb hn =
    let q : ℕ = b / 16 in
    let hq : q < 16 = omega arith in
    let y : (q * 4096 + n) / 256 % 256 ≡ q * 16 + n / 256 = omega arith in
    let z : (q * 4096 + n) / 1 % 256 ≡ n % 256 = omega arith in
    ap₂ (λ (u : ℕ) (l : List ℕ). u ∷ l) y (ap (λ (u : ℕ). u ∷ []) z)

two : (k n : ℕ) → k < 256 → n < 256 → big_endian 2 (k * 256 + n) ≡ k ∷ (n ∷ [])
two k n hk hn =
    let x : (k * 256 + n) / 256 % 256 ≡ k = omega arith in
    let y : (k * 256 + n) / 1 % 256 ≡ n = omega arith in
    ap₂ (λ (u : ℕ) (l : List ℕ). u ∷ l) x (ap (λ (u : ℕ). u ∷ []) y)

-- ---- what is left over, in three parts

less : (x a z : ℕ) → x ≡ a + z → x - z ≡ a
less x a z e = omega arith

left_of : (S C l o L q n a b d : ℕ) → L ≡ a + (q + 6 + n) → l ≡ b + (o + (L + 2)) → S ≡ d + (20 + C + l) → S - 4 - (16 + C + o + 6 + q + 2 + n) ≡ a + (b + d)
left_of S C l o L q n a b d eL el eS = omega arith

parts_of_lem : (S C l o L q n a b d : ℕ) → L ≡ a + (q + 6 + n) → l ≡ b + (o + (L + 2)) → S ≡ d + (20 + C + l)
    → S - 4 - (16 + C + o + 6 + q + 2 + n) ≡ L - 4 - (q + 2 + n) + (l - (o + (L + 2)) + (S - 20 - C - l))
parts_of_lem S C l o L q n a b d eL el eS =
    let u : L - 4 - (q + 2 + n) ≡ a = omega (arith, eL) in
    let v : l - (o + (L + 2)) ≡ b = less l b (o + (L + 2)) el in
    let w : S - 20 - C - l ≡ d = omega (arith, eS) in
    left_of S C l o L q n a b d eL el eS ∙ sym (ap₂ (λ (x y : ℕ). x + y) u (ap₂ (λ (x y : ℕ). x + y) v w))

parts_all : (S C l o L q n : ℕ) → 20 + C + l ≤ S → o + (L + 2) ≤ l → q + 6 + n ≤ L
    → S - 4 - (16 + C + o + 6 + q + 2 + n) ≡ L - 4 - (q + 2 + n) + (l - (o + (L + 2)) + (S - 20 - C - l))
parts_all S C l o L q n hS hl hL =
    let a : ℕ = L - (q + 6 + n) in
    let b : ℕ = l - (o + (L + 2)) in
    let d : ℕ = S - (20 + C + l) in
    parts_of_lem S C l o L q n a b d (more L (q + 6 + n) hL) (more l (o + (L + 2)) hl) (more S (20 + C + l) hS)
  where
    more : (x z : ℕ) → z ≤ x → x ≡ x - z + z
    more x z h = omega arith

upid_ends : (C o q n : ℕ) → 16 + C + o + 6 + (q + 2 + n) ≡ 16 + C + o + 6 + q + 2 + n
upid_ends C o q n = omega arith

item_ends : (C o L q n : ℕ) → q + 6 + n ≤ L → 16 + C + (o + (L + 2)) ≡ 16 + C + o + 6 + q + 2 + n + (L - 4 - (q + 2 + n))
item_ends C o L q n h = omega arith

loop_ends : (C o L l e : ℕ) → 16 + C + (o + (L + 2)) ≡ e → o + (L + 2) ≤ l → e + (l - (o + (L + 2))) ≡ 16 + C + l
loop_ends C o L l e f h = omega arith

-- ---- the pieces, put together

glue : (h fo tw X cu fi b po be sp : List ℕ) (tag len K m : ℕ)
    → h ++ (fo ++ (tw ++ ((X ++ ((tag ∷ (len ∷ (cu ++ (fi ++ (K ∷ (m ∷ (b ++ po))))))) ++ be)) ++ sp)))
    ≡ ((h ++ (fo ++ tw)) ++ ((X ++ (tag ∷ [])) ++ (len ∷ ((cu ++ fi) ++ (K ∷ (m ∷ [])))))) ++ (b ++ (po ++ (be ++ sp)))
glue h fo tw X cu fi b po be sp tag len K m = simp append_assoc

pub loop_there : (s : List ℕ) → 20 + command_length s + loop_length s ≤ length s → loop_bytes s ≡ run s (16 + command_length s) (loop_length s)
unfolding viewed loop_place
loop_there s room =
    let h : 16 + command_length s + loop_length s ≤ length s = omega arith in
    rw (le-leb (16 + command_length s + loop_length s) (length s) h)

-- ---- the item, by places of the section

module _ (s : List ℕ) (offset : ℕ) (bytes : (k : ℕ) → get_or s k 0 < 256) (room : 20 + command_length s + loop_length s ≤ length s) (short : length s ≤ 4096) where
  loop_run : loop_bytes s ≡ run s (16 + command_length s) (loop_length s)
  loop_run = loop_there s room

  pub loop_size : length (loop_bytes s) ≡ loop_length s
  loop_size = ap length loop_run ∙ length-take-le (loop_length s) (drop (16 + command_length s) s) (omega (arith, length-drop (16 + command_length s) s))

  pub loop_byte : (k : ℕ) → get_or (loop_bytes s) k 0 < 256
  loop_byte k = subst (λ (l : List ℕ). get_or l k 0 < 256) (sym loop_run) (byte_in s (16 + command_length s) (loop_length s) bytes k)

  pub spotted_at : spots (loop_bytes s) offset ≡ true → Spotted s offset
  spotted_at e =
      let x = spot_is (loop_bytes s) offset e in
      let L : ℕ = get_or (loop_bytes s) (offset + 1) 0 in
      let pay : List ℕ = payload_in s offset in
      let t = x.titled in
      let there : offset + (L + 2) ≤ loop_length s = subst (λ (n : ℕ). offset + (L + 2) ≤ n) loop_size t.there in
      let n : length pay ≡ L - 4 =
      length-take-le (L - 4) (drop (offset + 6) (loop_bytes s)) (omega (arith, length-drop (offset + 6) (loop_bytes s), loop_size, t.long)) in
      record { room = room; short = short; there = there; right = t.right; upid = omega (arith, n, (whole_is pay x.complete).behind, t.long) }

  pub spotted : found (loop_bytes s) offset ≡ true → Spotted s offset
  spotted e = spotted_at (spots_found (loop_bytes s) offset loop_byte e)

-- ---- what stands at the places

module _ (s : List ℕ) (offset : ℕ) (at : Spotted s offset) where
  abbrev c : ℕ
  c = 16 + command_length s

  abbrev L : ℕ
  L = get_or (loop_bytes s) (offset + 1) 0

  abbrev pay : List ℕ
  pay = payload_in s offset

  abbrev q : ℕ
  q = upid_head pay

  abbrev n : ℕ
  n = size_in pay

  abbrev p : Place
  p = place_in s offset

  loop_is_lem : loop_bytes s ≡ run s c (loop_length s)
  loop_is_lem = loop_there s at.room

  loop_long : length (loop_bytes s) ≡ loop_length s
  loop_long = ap length loop_is_lem ∙ length-take-le (loop_length s) (drop c s) (omega (arith, length-drop c s, at.room))

  pub own_is : get_or s (c + offset + 1) 0 ≡ L
  own_is =
      sym (ap (λ (l : List ℕ). get_or l (offset + 1) 0) loop_is_lem ∙ run_byte s c (loop_length s) (offset + 1) (omega (arith, at.there, at.upid))
      ∙ ap (λ (i : ℕ). get_or s i 0) (let z : c + (offset + 1) ≡ c + offset + 1 = omega arith in z))

  pub pay_is : pay ≡ run s (c + offset + 6) (L - 4)
  pay_is =
      ap (λ (l : List ℕ). take (L - 4) (drop (offset + 6) l)) loop_is_lem ∙ run_run s c (loop_length s) (offset + 6) (L - 4) (omega (arith, at.there, at.upid))
      ∙ ap (λ (i : ℕ). run s i (L - 4)) (let z : c + (offset + 6) ≡ c + offset + 6 = omega arith in z)

  pay_byte : (i : ℕ) → i < L - 4 → get_or pay i 0 ≡ get_or s (c + offset + 6 + i) 0
  pay_byte i h = ap (λ (l : List ℕ). get_or l i 0) pay_is ∙ run_byte s (c + offset + 6) (L - 4) i h

  pub type_is : get_or s p.head 0 ≡ type_in pay
  type_is = sym (pay_byte q (omega (arith, at.upid)))

  pub size_is : get_or s (p.head + 1) 0 ≡ n
  size_is = sym (pay_byte (q + 1) (omega (arith, at.upid)) ∙ ap (λ (i : ℕ). get_or s i 0) (let z : c + offset + 6 + (q + 1) ≡ p.head + 1 = omega arith in z))

  pub old_is : old_size p ≡ n
  old_is = let z : head_in s offset + 2 + n - (head_in s offset + 2) ≡ n = omega arith in z

  pub upid_is_lem : run s (p.head + 2) (old_size p) ≡ upid_in pay
  upid_is_lem =
      ap (run s (p.head + 2)) old_is
      ∙ sym (ap (λ (l : List ℕ). take n (drop (q + 2) l)) pay_is ∙ run_run s (c + offset + 6) (L - 4) (q + 2) n (omega (arith, at.upid))
      ∙ ap (λ (i : ℕ). run s i n) (let z : c + offset + 6 + (q + 2) ≡ p.head + 2 = omega arith in z))

  pub lies : Lies s p
  unfolding upid_head
  lies =
      record {
        list = omega arith;
        item = omega arith;
        head = omega arith;
        upid = omega arith;
        end = omega (arith, at.room, at.there, at.upid);
        short = at.short;
        loop = subst (λ (m : ℕ). m ≤ loop_length s) (sym old_is) (omega (arith, at.there, at.upid));
        room = omega (arith, at.room, at.short);
        own = subst (λ (m : ℕ). m + 12 ≤ get_or s (c + offset + 1) 0) (sym old_is) (omega (arith, own_is, at.upid));
        right = omega (arith, own_is, at.right);
      }

  -- ---- the loop then, and its lengths

  module _ (next : (step_of (loop_bytes s) offset).next ≡ offset + (L + 2)) (part k : ℕ) (b : List ℕ) where
    abbrev K : ℕ
    K = type_then part (type_in pay) k

    abbrev pay_then : List ℕ
    pay_then = payload_then s offset part k b

    abbrev loop_then : List ℕ
    loop_then = with_item (loop_bytes s) (listed (loop_bytes s) offset) (item_then (fore_in pay) (post_in pay) K b)

    pay_long : length pay ≡ L - 4
    pay_long = ap length pay_is ∙ length-take-le (L - 4) (drop (c + offset + 6) s) (omega (arith, length-drop (c + offset + 6) s, at.room, at.there, at.upid))

    fore_long : length (fore_in pay) ≡ q
    fore_long = length-take-le q pay (omega (arith, pay_long, at.upid))

    post_long : length (post_in pay) ≡ L - 4 - (q + 2 + n)
    post_long = length-drop (q + 2 + n) pay ∙ ap (λ (m : ℕ). m - (q + 2 + n)) pay_long

    pub pay_size : length pay_then ≡ L - 4 - n + length b
    pay_size =
        omega (
          arith,
          length-append (fore_in pay) (K ∷ (length b ∷ (b ++ post_in pay))),
          length-append b (post_in pay),
          fore_long,
          post_long,
          at.upid,
        )

    behind_is : behind_item (loop_bytes s) (listed (loop_bytes s) offset) ≡ drop (offset + (L + 2)) (loop_bytes s)
    behind_is =
        let z : offset + ((step_of (loop_bytes s) offset).next - offset) ≡ offset + (L + 2) = omega arith in
        ap (λ (m : ℕ). drop m (loop_bytes s)) z

    item_long : length (cuei ++ pay_then) ≡ L - n + length b
    item_long = omega (arith, length-append cuei pay_then, pay_size, at.upid)

    pub loop_then_lem : length loop_then ≡ loop_length s - n + length b
    loop_then_lem =
        let d : List ℕ = item_then (fore_in pay) (post_in pay) K b in
        let be : List ℕ = behind_item (loop_bytes s) (listed (loop_bytes s) offset) in
        let f : length (take offset (loop_bytes s)) ≡ offset = length-take-le offset (loop_bytes s) (omega (arith, loop_long, at.there)) in
        let g : length be ≡ loop_length s - (offset + (L + 2)) = ap length behind_is ∙ length-drop (offset + (L + 2)) (loop_bytes s) ∙ ap (λ (m : ℕ). m - (offset + (L + 2))) loop_long in
        omega (arith, length-append (take offset (loop_bytes s)) (d ++ be), length-append d be, item_long, f, g, at.there, at.upid)

    spare_long : length (spare_of s) ≡ length s - 20 - command_length s - loop_length s
    spare_long =
        length-take-le (length s - 20 - command_length s - loop_length s) (drop (16 + command_length s + loop_length s) s) (omega (arith, length-drop (16 + command_length s + loop_length s) s, at.room))

    fore_of : length (header_and_command s) ≡ 11 + command_length s
    fore_of = length-take-le (11 + command_length s) (drop 3 s) (omega (arith, length-drop 3 s, at.room))

    rest_size : length (rest_with s loop_then) ≡ length s - n + length b - 7
    rest_size =
        omega (
          arith,
          length-append (header_and_command s) (big_endian 2 (length loop_then) ++ (loop_then ++ spare_of s)),
          length-append (big_endian 2 (length loop_then)) (loop_then ++ spare_of s),
          length-append loop_then (spare_of s),
          length_big_endian 2 (length loop_then),
          fore_of,
          spare_long,
          loop_then_lem,
          at.room,
          at.there,
          at.upid,
        )

    pub section_size : length (section_then s offset part k b) ≡ length s - n + length b
    unfolding section_with body_with
    section_size =
        omega (arith, length-append (body_with s loop_then) (crc_bytes_of (body_with s loop_then)), rest_size, at.room, at.there, at.upid)

    -- ---- and its pieces

    module _ (tag : get_or (loop_bytes s) offset 0 ≡ 2) (id : take 4 (drop (offset + 2) (loop_bytes s)) ≡ cuei) (bytes : (j : ℕ) → get_or s j 0 < 256) (upid_type_number : K < 256) (takes : Takes s p (length b)) where
      -- the item's tag behind what stands before it
      before_is : run s c (offset + 1) ≡ take offset (loop_bytes s) ++ (2 ∷ [])
      before_is =
          let z : offset + 1 ≡ suc offset = omega arith in
          let x : take (suc offset) (loop_bytes s) ≡ take offset (loop_bytes s) ++ (get_or (loop_bytes s) offset 0 ∷ []) = take-suc (loop_bytes s) offset 0 (omega (arith, loop_long, at.there)) in
          sym (run_take s c (loop_length s) (offset + 1) (omega (arith, at.there))) ∙ ap (take (offset + 1)) (sym loop_is_lem) ∙ ap (λ (m : ℕ). take m (loop_bytes s)) z ∙ x
          ∙ ap (λ (m : ℕ). take offset (loop_bytes s) ++ (m ∷ [])) tag

      named_is : run s (c + offset + 2) (4 + q) ≡ cuei ++ fore_in pay
      named_is =
          let a : run s (c + offset + 2) 4 ≡ cuei =
          ap (λ (i : ℕ). run s i 4) (let z : c + offset + 2 ≡ c + (offset + 2) = omega arith in z)
          ∙ sym (run_run s c (loop_length s) (offset + 2) 4 (omega (arith, at.there, at.upid))) ∙ ap (λ (l : List ℕ). take 4 (drop (offset + 2) l)) (sym loop_is_lem) ∙ id in
          let d : run s (c + offset + 2 + 4) q ≡ fore_in pay =
          ap (λ (i : ℕ). run s i q) (let z : c + offset + 2 + 4 ≡ c + offset + 6 = omega arith in z)
          ∙ sym (run_take s (c + offset + 6) (L - 4) q (omega (arith, at.upid))) ∙ ap (take q) (sym pay_is) in
          sym (run_join s (c + offset + 2) 4 q) ∙ ap₂ (λ (x y : List ℕ). x ++ y) a d

      back_is : back_of s p ≡ post_in pay ++ (behind_item (loop_bytes s) (listed (loop_bytes s) offset) ++ spare_of s)
      back_is =
          let e : ℕ = p.end in
          let u : ℕ = L - 4 - (q + 2 + n) in
          let v : ℕ = loop_length s - (offset + (L + 2)) in
          let w : ℕ = length s - 20 - command_length s - loop_length s in
          let all : length s - 4 - e ≡ u + (v + w) = parts_all (length s) (command_length s) (loop_length s) offset L q n at.room at.there at.upid in
          let x : run s e u ≡ post_in pay =
          sym (ap (drop (q + 2 + n)) pay_is ∙ run_drop s (c + offset + 6) (L - 4) (q + 2 + n) ∙ ap (λ (i : ℕ). run s i u) (upid_ends (command_length s) offset q n)) in
          let y : run s (e + u) v ≡ behind_item (loop_bytes s) (listed (loop_bytes s) offset) =
          sym (behind_is ∙ ap (drop (offset + (L + 2))) loop_is_lem ∙ run_drop s c (loop_length s) (offset + (L + 2))
          ∙ ap (λ (i : ℕ). run s i v) (item_ends (command_length s) offset L q n at.upid)) in
          let t : run s (e + u + v) w ≡ spare_of s = ap (λ (i : ℕ). run s i w) (loop_ends (command_length s) offset L (loop_length s) (e + u) (item_ends (command_length s) offset L q n at.upid) at.there) in
          ap (run s e) all ∙ sym (run_join s e u (v + w)) ∙ ap (λ (l : List ℕ). run s e u ++ l) (sym (run_join s (e + u) v w))
          ∙ ap₂ (λ (l m : List ℕ). l ++ m) x (ap₂ (λ (l m : List ℕ). l ++ m) y t)

      -- the numbers
      small : length b < 256
      small = omega (arith, takes.item, own_is, old_is, at.upid)

      first_is : big_endian 2 (get_or s 1 0 / 16 * 4096 + (length s - old_size p + length b - 3))
          ≡ (get_or s 1 0 / 16 * 16 + (length (rest_with s loop_then) + 4) / 256) ∷ ((length (rest_with s loop_then) + 4) % 256 ∷ [])
      first_is =
          let f : length s - old_size p + length b - 3 ≡ length (rest_with s loop_then) + 4 =
          ap (λ (m : ℕ). length s - m + length b - 3) old_is ∙ omega (arith, rest_size, at.room, at.there, at.upid) in
          let h : length (rest_with s loop_then) + 4 < 4096 = omega (arith, sym f, takes.section) in
          ap (λ (m : ℕ). big_endian 2 (get_or s 1 0 / 16 * 4096 + m)) f ∙ length_in (get_or s 1 0) (length (rest_with s loop_then) + 4) (bytes 1) h

      head_is : head_of s p (length b)
          ≡ (get_or s 0 0 ∷ ((get_or s 1 0 / 16 * 16 + (length (rest_with s loop_then) + 4) / 256) ∷ ((length (rest_with s loop_then) + 4) % 256 ∷ []))) ++ (header_and_command s ++ big_endian 2 (length loop_then))
      unfolding head_of
      head_is =
          let z : c - 2 - 3 ≡ 11 + command_length s = omega arith in
          let w : loop_length s - old_size p + length b ≡ length loop_then = ap (λ (m : ℕ). loop_length s - m + length b) old_is ∙ sym loop_then_lem in
          ap₂ (λ (x y : List ℕ). get_or s 0 0 ∷ (x ++ y)) first_is (ap₂ (λ (m v : ℕ). run s 3 m ++ big_endian 2 v) z w)

      item_is : item_of s p K (length b) ≡ (take offset (loop_bytes s) ++ (2 ∷ [])) ++ (length (cuei ++ pay_then) ∷ ((cuei ++ fore_in pay) ++ (K ∷ (length b ∷ []))))
      unfolding item_of
      item_is =
          let z : c + offset + 1 - c ≡ offset + 1 = omega arith in
          let y : p.head - (c + offset + 2) ≡ 4 + q = omega arith in
          let v : get_or s (c + offset + 1) 0 - old_size p + length b ≡ length (cuei ++ pay_then) = ap₂ (λ (l m : ℕ). l - m + length b) own_is old_is ∙ sym item_long in
          ap₂ (λ (x t : List ℕ). x ++ t) (ap (run s c) z ∙ before_is)
          (ap₂ (λ (m : ℕ) (t : List ℕ). m ∷ t) v (ap₂ (λ (x t : List ℕ). x ++ t) (ap (run s (c + offset + 2)) y ∙ named_is) (two K (length b) upid_type_number small)))

      body_is : body_with s loop_then ≡ body_of s p K b
      unfolding body_with body_of
      body_is =
          glue (get_or s 0 0 ∷ ((get_or s 1 0 / 16 * 16 + (length (rest_with s loop_then) + 4) / 256) ∷ ((length (rest_with s loop_then) + 4) % 256 ∷ []))) (header_and_command s) (big_endian 2 (length loop_then))
          (take offset (loop_bytes s)) cuei (fore_in pay) b (post_in pay) (behind_item (loop_bytes s) (listed (loop_bytes s) offset)) (spare_of s) 2 (length (cuei ++ pay_then)) K (length b)
          ∙ sym (ap₂ (λ (x y : List ℕ). x ++ (b ++ y)) (ap₂ (λ (x y : List ℕ). x ++ y) head_is item_is) back_is)

      pub cut_is : section_then s offset part k b ≡ cut_of s p K b
      unfolding section_with cut_of
      cut_is = ap (λ (l : List ℕ). l ++ crc_bytes_of l) body_is
