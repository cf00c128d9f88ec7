-- The definitions at work, each row by computation.
use Prim.Native.Nat.{ℕ, ◌+◌}
use mathlib.Core.List.{List, [], ◌∷◌, ◌++◌}
use mathlib.Core.Path.{◌≡◌, refl}
use lib.ListN.{take, drop, replicate, set}
use Rattle.transport_packet.specs.declared.packet.Refusal.TheVariants.{NotAPacket, OtherPid, Scrambled, PayloadOutside, SectionLengthTooLarge}
use Rattle.transport_packet.specs.Packet.{payload_at, head_of}
use Rattle.transport_packet.specs.Sections.{next_by, cut_from}
use Rattle.transport.specs.Step.{fresh, cut_of, tells_of, step_of}
use Rattle.transport.specs.Step.Told.{refused, took}
use Rattle.transport_laws.specs.Concatenation.{payloads, unrepeated, runs_of, sections_from, sections_of, concatenation, concatenated, spans_of, spans, spanned}
use Rattle.transport_laws.specs.Runs.{given, Clean}
use Rattle.transport_laws.specs.Runs.Unrefused.{ends, goes}

-- PID 100; stuffing to the packet's end
abbrev packet : ℕ → ℕ → List ℕ → List ℕ
packet start counter payload = take 188 (71 ∷ start ∷ 100 ∷ (16 + counter) ∷ (payload ++ replicate 188 255))

-- with a pointer_field
abbrev starts : ℕ → ℕ → List ℕ → List ℕ
starts counter pointer payload = packet 64 counter (pointer ∷ payload)

abbrev continues : ℕ → List ℕ → List ℕ
continues counter payload = packet 0 counter payload

-- sections of 5, 3 and 403 bytes
abbrev A : List ℕ
A = 252 ∷ 48 ∷ 2 ∷ 1 ∷ 2 ∷ []

abbrev B : List ℕ
B = 1 ∷ 0 ∷ 0 ∷ []

abbrev C : List ℕ
C = 252 ∷ 177 ∷ 144 ∷ replicate 400 7

-- ---- what is given

module _ where
  two_in_a_packet : given 100 fresh (starts 0 0 (A ++ B) ∷ []) ≡ A ∷ B ∷ []
  unfolding given tells_of head_of payload_at cut_of cut_from next_by
  two_in_a_packet = refl

  over_three : given 100 fresh (starts 15 0 C ∷ continues 0 (drop 183 C) ∷ continues 1 (drop 367 C) ∷ []) ≡ C ∷ []
  unfolding given tells_of head_of payload_at cut_of cut_from next_by
  over_three = refl

  a_repeat : given 100 fresh (starts 15 0 C ∷ continues 0 (drop 183 C) ∷ continues 0 (drop 183 C) ∷ continues 1 (drop 367 C) ∷ []) ≡ C ∷ []
  unfolding given tells_of head_of payload_at cut_of cut_from next_by
  a_repeat = refl

  a_gap : given 100 fresh (starts 15 0 C ∷ continues 1 (drop 367 C) ∷ starts 2 1 (9 ∷ A) ∷ []) ≡ A ∷ []
  unfolding given tells_of head_of payload_at cut_of cut_from next_by
  a_gap = refl

  -- the second start cuts C short
  a_cut : given 100 fresh (starts 3 0 C ∷ starts 4 2 (7 ∷ 7 ∷ B) ∷ []) ≡ B ∷ []
  unfolding given tells_of head_of payload_at cut_of cut_from next_by
  a_cut = refl

  -- the end of one before the pointer, and the next at it; what stands behind a section without a pointer is passed over
  ends_and_begins : given 100 fresh (starts 3 0 C ∷ continues 4 (drop 183 C) ∷ starts 5 36 (drop 367 C ++ A) ∷ continues 6 B ∷ []) ≡ C ∷ A ∷ []
  unfolding given tells_of head_of payload_at cut_of cut_from next_by
  ends_and_begins = refl

  -- the first byte alone in its packet
  head_cut : given 100 fresh (starts 3 182 (replicate 182 9 ++ A) ∷ continues 4 (drop 1 A) ∷ []) ≡ A ∷ []
  unfolding given tells_of head_of payload_at cut_of cut_from next_by
  head_cut = refl

  -- ---- the same by the concatenation

  concatenated_same :
      concatenated 100 (starts 3 0 C ∷ continues 4 (drop 183 C) ∷ continues 4 (drop 183 C) ∷ starts 5 36 (drop 367 C ++ A) ∷ continues 6 B ∷ []) ≡ C ∷ A ∷ []
  unfolding payloads unrepeated runs_of sections_of sections_from head_of payload_at next_by
  concatenated_same = refl
      -- and these packets are clean

  all_clean : Clean 100 (starts 3 0 C ∷ continues 4 (drop 183 C) ∷ continues 4 (drop 183 C) ∷ starts 5 36 (drop 367 C ++ A) ∷ continues 6 B ∷ [])
  unfolding tells_of payloads unrepeated spans_of head_of payload_at cut_of cut_from next_by
  all_clean = record { unrefused = goes refl (goes refl (goes refl (goes refl (goes refl ends)))); no_gap = refl }

  -- a gap: nothing of the first span, and what the pointer of the second leads to
  spanned_same :
      concatenation (spans 100 (starts 15 0 C ∷ continues 1 (drop 367 C) ∷ starts 2 1 (9 ∷ A) ∷ [])).first ++ spanned (spans 100 (starts 15 0 C ∷ continues 1 (drop 367 C) ∷ starts 2 1 (9 ∷ A) ∷ [])).others
      ≡ A ∷ []
  unfolding payloads unrepeated spans_of spanned runs_of sections_of sections_from head_of payload_at next_by
  spanned_same = refl

-- ---- the refusals

abbrev good : List ℕ
good = starts 0 0 A

module _ where
  row_71 : step_of 100 fresh (take 187 good) ≡ refused NotAPacket
  unfolding tells_of head_of
  row_71 = refl

  row_71_sync : step_of 100 fresh (set good 0 70) ≡ refused NotAPacket
  unfolding tells_of head_of
  row_71_sync = refl

  row_72 : step_of 101 fresh good ≡ refused OtherPid
  unfolding tells_of head_of
  row_72 = refl

  row_73 : step_of 100 fresh (set good 3 80) ≡ refused Scrambled
  unfolding tells_of head_of
  row_73 = refl

  -- an adaptation field alone may fill the packet, and with a payload must leave a byte
  row_74_alone : step_of 100 fresh (set (set good 3 32) 4 184) ≡ refused PayloadOutside
  unfolding tells_of head_of payload_at
  row_74_alone = refl

  row_74_fills : step_of 100 fresh (set (set good 3 32) 4 183) ≡ took fresh []
  unfolding tells_of head_of payload_at
  row_74_fills = refl

  row_74_payload : step_of 100 fresh (set (set good 3 48) 4 183) ≡ refused PayloadOutside
  unfolding tells_of head_of payload_at
  row_74_payload = refl

  row_74_pointer : step_of 100 fresh (set good 4 183) ≡ refused PayloadOutside
  unfolding tells_of head_of payload_at
  row_74_pointer = refl

  -- the second section is too long, and the first is not given
  row_75 : step_of 100 fresh (starts 0 0 (A ++ 252 ∷ 63 ∷ 254 ∷ [])) ≡ refused SectionLengthTooLarge
  unfolding tells_of head_of payload_at cut_of cut_from next_by
  row_75 = refl

  -- a repeat is not tested for 75
  row_75_repeat : step_of 100 (record { counter = 0; under = [] }) (starts 0 0 (A ++ 252 ∷ 63 ∷ 254 ∷ [])) ≡ took (record { counter = 0; under = [] }) []
  unfolding tells_of head_of payload_at
  row_75_repeat = refl
