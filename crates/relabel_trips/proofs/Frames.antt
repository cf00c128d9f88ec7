-- A section with its own loop is the section, where its section_length was right; and of two loops put in one after the other only the second is left.
--     twice       a loop put in where another was put in
--     set_right   section_length is right in whatever a loop was put in
--     own         a section with its own loop
use Prim.Native.Nat.{ℕ, suc, ◌+◌, ◌*◌, ◌-◌, ◌/◌, ◌%◌, ◌≤◌, ◌<◌}
use mathlib.Core.Bool.{Bool, true, false, not}
use mathlib.Core.List.{List, [], ◌∷◌, ◌++◌, append_assoc}
use mathlib.Core.Path.{◌≡◌, refl, ap, ap₂, sym, ◌∙◌}
use native.Mathlib.Omega.{arith}
use borrow.Author.Tests.{eqb-true}
use lib.Dec.{eqb}
use lib.ListN.{length, take, drop, get_or, length-append, length-drop}
use lib.Seq.{length-take-le, take_at, drop_at, drop-cons, take-add}
use Rattle.crc.proofs.Laws.{crc_last}
use Rattle.crc.specs.Crc.{crc_of, crc_bytes_of}
use Rattle.relabel.proofs.Cuts.{run_join, loop_there, loop_size}
use Rattle.relabel.proofs.Mades.{Framing, framing}
use Rattle.relabel_section.proofs.Frames.{with_loop, size_with}
use Rattle.relabel_section.specs.Frame.{header_and_command, spare_of, rest_with, body_with, section_with}
use Rattle.section.proofs.Acceptance.{none_if_accepted}
use Rattle.section.proofs.Framing.{number_of, extent_is}
use Rattle.section.specs.Section.{command_length, loop_length, loop_bytes, section_of}
use Rattle.section.specs.declared.Section.{Section}
use Rattle.table.proofs.Bits.{length_big_endian}
use Rattle.table.proofs.Lists.{zero_one}
use Rattle.table.specs.Bits.{big_endian}
use Rattle.transport_packet.specs.Sections.{section_length, Right}
use Rattle.std.proofs.Common.{Ok}

abbrev run : List ℕ → ℕ → ℕ → List ℕ
run s at n = take n (drop at s)

-- three bytes and the rest, as `body_with` has them
abbrev pub body_from : ℕ → ℕ → List ℕ → List ℕ
body_from a q rest = a ∷ ((q * 16 + (length rest + 4) / 256) ∷ ((length rest + 4) % 256 ∷ rest))

pub body_as : (s loop : List ℕ) → body_with s loop ≡ body_from (get_or s 0 0) (get_or s 1 0 / 16) (rest_with s loop)
unfolding body_with
body_as s loop = refl

pub closed : (s loop : List ℕ) → section_with s loop ≡ body_with s loop ++ crc_bytes_of (body_with s loop)
unfolding section_with
closed s loop = refl

-- ---- a loop put in

module _ (s loop : List ℕ) (x : Section) (is : section_of s ≡ Ok x) (fits : length (section_with s loop) ≤ 4096) where
  r : List ℕ
  r = section_with s loop

  here : Framing s x
  here = framing s x is

  then : Framing (section_with s loop) (record { header = x.header; command = x.command; descriptors = record { at = 16 + command_length s; len = length loop }; payload = x.payload })
  then = framing (section_with s loop) _ (with_loop s loop x is fits).0

  command_same : command_length (section_with s loop) ≡ command_length s
  command_same = omega (arith, then.at)

  pub loop_same : loop_length (section_with s loop) ≡ length loop
  loop_same = sym then.len

  fore_size : length (header_and_command s) ≡ 11 + command_length s
  fore_size = length-take-le (11 + command_length s) (drop 3 s) (omega (arith, length-drop 3 s, here.fits))

  n : ℕ
  n = length (rest_with s loop) + 4

  end : List ℕ
  end = crc_bytes_of (body_with s loop)

  prior : List ℕ
  prior = get_or s 0 0 ∷ ((get_or s 1 0 / 16 * 16 + n / 256) ∷ (n % 256 ∷ (header_and_command s ++ (big_endian 2 (length loop) ++ loop))))

  prior_size : length prior ≡ 16 + command_length s + length loop
  unfolding prior
  prior_size =
      omega (arith, length-append (header_and_command s) (big_endian 2 (length loop) ++ loop), length-append (big_endian 2 (length loop)) loop, length_big_endian 2 (length loop), fore_size)

  split : section_with s loop ≡ prior ++ (spare_of s ++ end)
  unfolding prior end n section_with body_with
  split = simp append_assoc

  begin : section_with s loop ≡ get_or s 0 0 ∷ ((get_or s 1 0 / 16 * 16 + n / 256) ∷ (n % 256 ∷ (header_and_command s ++ (big_endian 2 (length loop) ++ (loop ++ (spare_of s ++ end))))))
  unfolding prior end n section_with body_with
  begin = simp append_assoc

  size_n : length (section_with s loop) ≡ 3 + n
  unfolding n section_with body_with
  size_n = length-append (body_with s loop) (crc_bytes_of (body_with s loop)) ∙ omega arith

  first_same : get_or (section_with s loop) 0 0 ≡ get_or s 0 0
  first_same = ap (λ (l : List ℕ). get_or l 0 0) begin

  second_is : get_or (section_with s loop) 1 0 ≡ get_or s 1 0 / 16 * 16 + n / 256
  second_is = ap (λ (l : List ℕ). get_or l 1 0) begin

  third_is : get_or (section_with s loop) 2 0 ≡ n % 256
  third_is = ap (λ (l : List ℕ). get_or l 2 0) begin

  pub high_same : get_or (section_with s loop) 1 0 / 16 ≡ get_or s 1 0 / 16
  high_same =
      let small : n ≤ 4093 = omega (arith, size_n, fits) in
      ap (λ (b : ℕ). b / 16) second_is ∙ quotient (get_or s 1 0 / 16) n small
    where
      quotient : (q n : ℕ) → n ≤ 4093 → (q * 16 + n / 256) / 16 ≡ q
      quotient q n h = omega arith

  pub set_right : Right (section_with s loop)
  set_right =
      let small : n ≤ 4093 = omega (arith, size_n, fits) in
      let is : section_length (section_with s loop) ≡ n = ap₂ (λ (a b : ℕ). a % 16 * 256 + b) second_is third_is ∙ number (get_or s 1 0 / 16) n small in
      record { size = omega (arith, size_n, is); short = omega (arith, is, small) }
    where
      number : (q n : ℕ) → n ≤ 4093 → (q * 16 + n / 256) % 16 * 256 + n % 256 ≡ n
      number q n h = omega arith

  fore_same : header_and_command (section_with s loop) ≡ header_and_command s
  fore_same =
      ap₂ (λ (k : ℕ) (l : List ℕ). take (11 + k) (drop 3 l)) command_same begin
      ∙ take_at (header_and_command s) (big_endian 2 (length loop) ++ (loop ++ (spare_of s ++ end))) (11 + command_length s) fore_size

  spare_same : spare_of (section_with s loop) ≡ spare_of s
  spare_same =
      let count : length (section_with s loop) - 20 - command_length (section_with s loop) - loop_length (section_with s loop) ≡ length (spare_of s) =
      omega (arith, size_with s loop x is fits, command_same, loop_same) in
      let place : 16 + command_length (section_with s loop) + loop_length (section_with s loop) ≡ length prior = omega (arith, prior_size, command_same, loop_same) in
      ap₂ (λ (a b : ℕ). take a (drop b (section_with s loop))) count place ∙ ap (λ (l : List ℕ). take (length (spare_of s)) (drop (length prior) l)) split
      ∙ ap (take (length (spare_of s))) (drop_at prior (spare_of s ++ end) (length prior) refl) ∙ take_at (spare_of s) end (length (spare_of s)) refl

  body_twice : (other : List ℕ) → body_with (section_with s loop) other ≡ body_with s other
  body_twice other =
      let rest : rest_with (section_with s loop) other ≡ rest_with s other = ap₂ (λ (a b : List ℕ). a ++ (big_endian 2 (length other) ++ (other ++ b))) fore_same spare_same in
      body_as (section_with s loop) other
      ∙ ap₂ (λ (a : ℕ) (l : List ℕ). body_from a (get_or (section_with s loop) 1 0 / 16) l) first_same rest
      ∙ ap (λ (q : ℕ). body_from (get_or s 0 0) q (rest_with s other)) high_same
      ∙ sym (body_as s other)

  pub twice : (other : List ℕ) → section_with (section_with s loop) other ≡ section_with s other
  twice other = closed (section_with s loop) other ∙ ap (λ (l : List ℕ). l ++ crc_bytes_of l) (body_twice other) ∙ sym (closed s other)

  -- it is short enough
  pub new_loop_short : length loop ≤ 4076
  new_loop_short = omega (arith, loop_same, command_same, then.fits, then.short)

-- ---- its own loop

run_two : (s : List ℕ) (a : ℕ) → a + 2 ≤ length s → run s a 2 ≡ get_or s a 0 ∷ (get_or s (a + 1) 0 ∷ [])
run_two s a h =
    let z : suc a ≡ a + 1 = omega arith in
    ap (take 2) (drop-cons s a 0 (omega arith)) ∙ ap (λ (l : List ℕ). get_or s a 0 ∷ take 1 l) (ap (λ (k : ℕ). drop k s) z ∙ drop-cons s (a + 1) 0 (omega arith))

two_of : (a b : ℕ) → a < 256 → b < 256 → big_endian 2 (a * 256 + b) ≡ a ∷ (b ∷ [])
two_of a b ha hb =
    let x : (a * 256 + b) / 256 % 256 ≡ a = omega arith in
    let y : (a * 256 + b) / 1 % 256 ≡ b = omega arith in
    ap₂ (λ (u : ℕ) (l : List ℕ). u ∷ l) x (ap (λ (u : ℕ). u ∷ []) y)

pub run_three : (s : List ℕ) → 3 ≤ length s → take 3 s ≡ get_or s 0 0 ∷ (get_or s 1 0 ∷ (get_or s 2 0 ∷ []))
run_three [] h = absurd (omega arith)
run_three (a ∷ []) h = absurd (omega arith)
run_three (a ∷ (b ∷ [])) h = absurd (omega arith)
run_three (a ∷ (b ∷ (c ∷ t))) h = refl

module _ (s : List ℕ) (x : Section) (is : section_of s ≡ Ok x) (bytes : (j : ℕ) → get_or s j 0 < 256) where
  mine : Framing s x
  mine = framing s x is

  abbrev c : ℕ
  c = command_length s

  abbrev l : ℕ
  l = loop_length s

  pub loop_long : length (loop_bytes s) ≡ loop_length s
  loop_long = loop_size s 0 bytes mine.fits mine.short

  counted : get_or s (14 + c) 0 * 256 + get_or s (14 + c + 1) 0 ≡ l
  counted =
      extent_is s c (get_or s (14 + c) 0 * 256 + get_or s (14 + c + 1) 0) refl
      (number_of s (14 + c) (get_or s (14 + c) 0) (get_or s (14 + c + 1) 0) (omega (arith, mine.fits)) refl (bytes (14 + c)) refl (bytes (14 + c + 1)))

  count_is : big_endian 2 (length (loop_bytes s)) ≡ run s (14 + c) 2
  count_is =
      ap (big_endian 2) (loop_long ∙ sym counted) ∙ two_of (get_or s (14 + c) 0) (get_or s (14 + c + 1) 0) (bytes (14 + c)) (bytes (14 + c + 1))
      ∙ sym (run_two s (14 + c) (omega (arith, mine.fits)))

  pub rest_is : rest_with s (loop_bytes s) ≡ run s 3 (length s - 7)
  rest_is =
      let w : ℕ = length s - 20 - c - l in
      let p : 3 + (11 + c) ≡ 14 + c = omega arith in
      let q : 14 + c + 2 ≡ 16 + c = omega arith in
      let all : 11 + c + (2 + (l + w)) ≡ length s - 7 = omega (arith, mine.fits) in
      ap₂ (λ (a b : List ℕ). header_and_command s ++ (a ++ (b ++ spare_of s))) count_is (loop_there s mine.fits)
      ∙ ap (λ (k : List ℕ). header_and_command s ++ (run s (14 + c) 2 ++ k)) (run_join s (16 + c) l w)
      ∙ ap (λ (k : ℕ). header_and_command s ++ (run s (14 + c) 2 ++ run s k (l + w))) (sym q)
      ∙ ap (λ (k : List ℕ). header_and_command s ++ k) (run_join s (14 + c) 2 (l + w))
      ∙ ap (λ (k : ℕ). run s 3 (11 + c) ++ run s k (2 + (l + w))) (sym p)
      ∙ run_join s 3 (11 + c) (2 + (l + w)) ∙ ap (run s 3) all

  rest_size : length (rest_with s (loop_bytes s)) ≡ length s - 7
  rest_size = ap length rest_is ∙ length-take-le (length s - 7) (drop 3 s) (omega (arith, length-drop 3 s, mine.fits))

  pub own_size : length (section_with s (loop_bytes s)) ≡ length s
  unfolding section_with body_with
  own_size = length-append (body_with s (loop_bytes s)) (crc_bytes_of (body_with s (loop_bytes s))) ∙ omega (arith, rest_size, mine.fits)

  pub checked : crc_of s ≡ 0
  checked = of (eqb (crc_of s) 0) refl (none_if_accepted s x is).1.1.1.0
    where
      of : (b : Bool) → eqb (crc_of s) 0 ≡ b → not b ≡ false → crc_of s ≡ 0
      of true e h = eqb-true (crc_of s) 0 e
      of false e h = zero_one cc

  module _ (right : Right s) where
    body_is : body_with s (loop_bytes s) ≡ take (length s - 4) s
    body_is =
        let rest : List ℕ = rest_with s (loop_bytes s) in
        let m : length rest + 4 ≡ get_or s 1 0 % 16 * 256 + get_or s 2 0 = omega (arith, rest_size, right.size, mine.fits) in
        let b : get_or s 1 0 / 16 * 16 + (length rest + 4) / 256 ≡ get_or s 1 0 = ap (λ (k : ℕ). get_or s 1 0 / 16 * 16 + k / 256) m ∙ second (get_or s 1 0) (get_or s 2 0) (bytes 2) in
        let d : (length rest + 4) % 256 ≡ get_or s 2 0 = ap (λ (k : ℕ). k % 256) m ∙ third (get_or s 1 0) (get_or s 2 0) (bytes 2) in
        let all : 3 + (length s - 7) ≡ length s - 4 = omega (arith, mine.fits) in
        body_as s (loop_bytes s)
        ∙ ap₂ (λ (u v : ℕ). get_or s 0 0 ∷ (u ∷ (v ∷ rest))) b d
        ∙ ap₂ (λ (u v : List ℕ). u ++ v) (sym (run_three s (omega (arith, mine.fits)))) rest_is
        ∙ sym (ap (λ (k : ℕ). take k s) (sym all) ∙ take-add 3 (length s - 7) s)
      where
        second : (u v : ℕ) → v < 256 → u / 16 * 16 + (u % 16 * 256 + v) / 256 ≡ u
        second u v h = omega arith

        third : (u v : ℕ) → v < 256 → (u % 16 * 256 + v) % 256 ≡ v
        third u v h = omega arith

    pub own : section_with s (loop_bytes s) ≡ s
    unfolding section_with
    own = ap (λ (k : List ℕ). k ++ crc_bytes_of k) body_is ∙ sym (crc_last s (length s - 4) (omega (arith, mine.fits)) bytes checked)
