-- Avail, time, DTMF and reserved descriptors: what is made of them, and that it is written.
use Prim.Native.Nat.{ℕ, ◌+◌, ◌*◌, ◌/◌, ◌^◌, ◌<◌, ◌≤◌}
use mathlib.Core.Bool.{Bool, true, false, not}
use mathlib.Core.List.{List, [], ◌∷◌, ◌++◌}
use mathlib.Core.Path.{◌≡◌, refl, sym, subst, ◌∙◌}
use native.Mathlib.Omega.{arith}
use lib.Dec.{leb}
use lib.ListN.{length, take, drop, length-append, length-drop}
use lib.Seq.{length-take-le}
use borrow.Author.Tests.{not-true, not-false, lt-ltb, le-ltb, leb-true}
use Rattle.table.specs.Bits.{pick, bits_of_num, bits_of, bytes_of, AllBytes}
use Rattle.table.specs.Lent.{viewed}
use Rattle.table.specs.Table.{number, reserved, part, remaining}
use Rattle.table.specs.Writing as w
use Rattle.table.specs.Writing.{Content, bytes, count, print, Made, made, refused, make}
use Rattle.table.specs.declared.View.{View}
use Rattle.table.specs.declared.cursor.Cursor.{Cursor}
use Rattle.table.proofs.Bits.{length_num, length_bits, length_bytes_n}
use Rattle.descriptor.specs.Plain.{avail, dtmf, time, private_table}
use Rattle.descriptor.specs.declared.plain.AvailDescriptor.{AvailDescriptor}
use Rattle.descriptor.specs.declared.plain.DTMFDescriptor.{DTMFDescriptor}
use Rattle.descriptor.specs.declared.plain.TimeDescriptor.{TimeDescriptor}
use Rattle.descriptor_measure.specs.Writing.{cuei, enveloped_made, alone, writable_reserved}
use Rattle.bit_stores.specs.Pen.{Pens}
use Rattle.descriptor_writer.specs.Stores.{Writes}
use Rattle.descriptor_writer.specs.Private.{Stores, start, envelope_contents}
use Rattle.descriptor_writer.proofs.Storing.{then, number_then, put_same, put_bytes, count_then}
use Rattle.descriptor_writer.proofs.Envelopes.{writes_refused, writes_long, writes_short, writes_stored}
use Rattle.std.proofs.Common.{Ok, Err}

-- what an envelope's store says
abbrev pub Enveloped : List ℕ → ℕ → ℕ → List ℕ → List ℕ → Cursor → Type 0
Enveloped t tag len id u e = Stores t start (envelope_contents tag len id) u e × AllBytes (tag ∷ (len ∷ id)) × AllBytes t

-- a refusal of what a payload is made of
pub refuses : (tag : ℕ) (id t : List ℕ) (m : Made) (n : ℕ) → m ≡ refused n → Writes (enveloped_made tag id m) t t (Err n)
unfolding enveloped_made
refuses tag id t m n e = writes_refused (enveloped_made tag id m) t n (rw e)

-- as many bytes as the bits have
pub size_bytes : (l : List ℕ) (k : ℕ) → length l ≡ k * 8 → length (bytes_of l) ≡ k
size_bytes l k e = length_bytes_n (length l / 8) l ∙ omega arith

-- ---- avail
module _ (x : AvailDescriptor) (id eidr t : List ℕ) (a : Bool) (ea : a ≡ alone id eidr) (small : x.provider_avail_id < 2 ^ 32) where
  abbrev avail_contents : List Content
  avail_contents = w.number 32 x.provider_avail_id ∷ []

  avail_makes : make avail (alone id eidr) [] x ≡ pick a (made (bytes_of (print avail_contents))) (refused 33)
  unfolding avail number
  avail_makes = rw (← ea, lt-ltb x.provider_avail_id (2 ^ 32) small)

  avail_bits : length (print avail_contents) ≡ 4 * 8
  avail_bits = length-append (bits_of_num 32 x.provider_avail_id) [] ∙ omega (arith, length_num 32 x.provider_avail_id)

  pub avail_33 : not a ≡ true → Writes (enveloped_made 0 cuei (make avail (alone id eidr) [] x)) t t (Err 33)
  avail_33 h = refuses 0 cuei t (make avail (alone id eidr) [] x) 33 (avail_makes ∙ rw (not-true a h))

  module _ (h : not a ≡ false) where
    avail_made : make avail (alone id eidr) [] x ≡ made (bytes_of (print avail_contents))
    avail_made = avail_makes ∙ rw (not-false a h)

    pub avail_36 : length t < 10 → Writes (enveloped_made 0 cuei (make avail (alone id eidr) [] x)) t t (Err 36)
    avail_36 l = rw avail_made (writes_short 0 cuei (bytes_of (print avail_contents)) t 4 (size_bytes (print avail_contents) 4 avail_bits) (omega arith) refl l)

    pub avail_writes : (i u v : List ℕ) (e d : Cursor) (n : ℕ) → 10 ≤ length t → i ≡ cuei → Enveloped t 0 8 i u e → n ≡ x.provider_avail_id → Pens u e (bits_of_num 32 n) v d
        → Writes (enveloped_made 0 cuei (make avail (alone id eidr) [] x)) t v (Ok 10)
    avail_writes i u v e d n l ei f en p =
        let g : Enveloped t 0 8 cuei u e = subst (λ (j : List ℕ). Enveloped t 0 8 j u e) ei f in
        rw avail_made
        (writes_stored 0 cuei t 4 avail_contents avail_bits refl l g.1 g.2 v d (omega arith)
        (then t start (envelope_contents 0 8 cuei) avail_contents u e v d g.0 (put_same u e v d 32 x.provider_avail_id n en p)))

-- ---- time
module _ (x : TimeDescriptor) (id eidr t : List ℕ) (nano : x.tai_nanoseconds < 2 ^ 32) (offset : x.utc_offset < 2 ^ 16) where
  abbrev time_contents : List Content
  time_contents = w.number 48 x.tai_seconds ∷ (w.number 32 x.tai_nanoseconds ∷ (w.number 16 x.utc_offset ∷ []))

  time_bits : length (print time_contents) ≡ 12 * 8
  time_bits =
      let a = bits_of_num 48 x.tai_seconds in
      let b = bits_of_num 32 x.tai_nanoseconds in
      let c = bits_of_num 16 x.utc_offset in
      length-append a (b ++ (c ++ [])) ∙ omega (arith, length-append b (c ++ []), length-append c [], length_num 48 x.tai_seconds, length_num 32 x.tai_nanoseconds, length_num 16 x.utc_offset)

  pub time_32 : 0xffffffffffff < x.tai_seconds → Writes (enveloped_made 3 cuei (make time (alone id eidr) [] x)) t t (Err 32)
  unfolding time number
  time_32 h = refuses 3 cuei t (make time (alone id eidr) [] x) 32 (rw (le-ltb x.tai_seconds (2 ^ 48) (omega arith)))

  module _ (small : x.tai_seconds ≤ 0xffffffffffff) (a : Bool) (ea : a ≡ alone id eidr) where
    time_makes : make time (alone id eidr) [] x ≡ pick a (made (bytes_of (print time_contents))) (refused 33)
    unfolding time number
    time_makes = rw (← ea, lt-ltb x.tai_seconds (2 ^ 48) (omega arith), lt-ltb x.tai_nanoseconds (2 ^ 32) nano, lt-ltb x.utc_offset (2 ^ 16) offset)

    pub time_33 : not a ≡ true → Writes (enveloped_made 3 cuei (make time (alone id eidr) [] x)) t t (Err 33)
    time_33 h = refuses 3 cuei t (make time (alone id eidr) [] x) 33 (time_makes ∙ rw (not-true a h))

    module _ (h : not a ≡ false) where
      time_made : make time (alone id eidr) [] x ≡ made (bytes_of (print time_contents))
      time_made = time_makes ∙ rw (not-false a h)

      pub time_36 : length t < 18 → Writes (enveloped_made 3 cuei (make time (alone id eidr) [] x)) t t (Err 36)
      time_36 l = rw time_made (writes_short 3 cuei (bytes_of (print time_contents)) t 12 (size_bytes (print time_contents) 12 time_bits) (omega arith) refl l)

      pub time_writes : (i u v₁ v₂ v₃ : List ℕ) (e d₁ d₂ d₃ : Cursor) → 18 ≤ length t → i ≡ cuei → Enveloped t 3 16 i u e → Pens u e (bits_of_num 48 x.tai_seconds) v₁ d₁
          → Pens v₁ d₁ (bits_of_num 32 x.tai_nanoseconds) v₂ d₂ → Pens v₂ d₂ (bits_of_num 16 x.utc_offset) v₃ d₃
          → Writes (enveloped_made 3 cuei (make time (alone id eidr) [] x)) t v₃ (Ok 18)
      time_writes i u v₁ v₂ v₃ e d₁ d₂ d₃ l ei f p q r =
          let g : Enveloped t 3 16 cuei u e = subst (λ (j : List ℕ). Enveloped t 3 16 j u e) ei f in
          rw time_made
          (writes_stored 3 cuei t 12 time_contents time_bits refl l g.1 g.2 v₃ d₃ (omega arith)
          (then t start (envelope_contents 3 16 cuei) time_contents u e v₃ d₃ g.0
          (number_then u e v₁ d₁ v₃ d₃ _ 48 x.tai_seconds x.tai_seconds refl p
          (number_then v₁ d₁ v₂ d₂ v₃ d₃ _ 32 x.tai_nanoseconds x.tai_nanoseconds refl q (put_same v₂ d₂ v₃ d₃ 16 x.utc_offset x.utc_offset refl r)))))

-- ---- a run of lent bytes
run_length : (lent : List ℕ) (v : View) → leb (v.at + v.len) (length lent) ≡ true → length (take v.len (drop v.at lent)) ≡ v.len
run_length lent v h = length-take-le v.len (drop v.at lent) (omega (arith, length-drop v.at lent, leb-true (v.at + v.len) (length lent) h))

viewed_run : (lent : List ℕ) (v : View) → leb (v.at + v.len) (length lent) ≡ true → viewed lent v ≡ take v.len (drop v.at lent)
unfolding viewed
viewed_run lent v h = rw h

-- ---- DTMF
module _ (x : DTMFDescriptor) (id eidr lent t : List ℕ) (b : Bool) (eb : b ≡ leb (x.dtmf_chars.at + x.dtmf_chars.len) (length lent)) (preroll : x.preroll < 256) where
  abbrev chars : View
  chars = x.dtmf_chars

  abbrev dtmf_contents : List Content
  dtmf_contents = w.number 8 x.preroll ∷ (w.number 3 chars.len ∷ (w.number 5 31 ∷ (bytes (take chars.len (drop chars.at lent)) ∷ [])))

  abbrev D : Made
  D = make dtmf (alone id eidr) lent x

  pub dtmf_31 : not b ≡ true → Writes (enveloped_made 1 cuei D) t t (Err 31)
  unfolding dtmf number reserved part
  dtmf_31 h = refuses 1 cuei t D 31 (rw (← eb, not-true b h))

  module _ (h : not b ≡ false) where
    pub dtmf_32 : 7 < chars.len → Writes (enveloped_made 1 cuei D) t t (Err 32)
    unfolding dtmf number reserved part
    dtmf_32 l = refuses 1 cuei t D 32 (rw (← eb, not-false b h, lt-ltb x.preroll (2 ^ 8) preroll, le-ltb chars.len (2 ^ 3) (omega arith)))

    module _ (few : chars.len ≤ 7) (a : Bool) (ea : a ≡ alone id eidr) where
      dtmf_makes : D ≡ pick a (made (bytes_of (print dtmf_contents))) (refused 33)
      unfolding dtmf number reserved part
      dtmf_makes = rw (← ea, ← eb, not-false b h, lt-ltb x.preroll (2 ^ 8) preroll, lt-ltb chars.len (2 ^ 3) (omega arith))

      dtmf_bits : length (print dtmf_contents) ≡ (2 + chars.len) * 8
      dtmf_bits =
          let p = bits_of_num 8 x.preroll in
          let q = bits_of_num 3 chars.len in
          let r = bits_of_num 5 31 in
          let s = bits_of (take chars.len (drop chars.at lent)) in
          length-append p (q ++ (r ++ (s ++ [])))
          ∙ omega (
            arith,
            length-append q (r ++ (s ++ [])),
            length-append r (s ++ []),
            length-append s [],
            length_num 8 x.preroll,
            length_num 3 chars.len,
            length_num 5 31,
            length_bits (take chars.len (drop chars.at lent)),
            run_length lent chars (sym eb ∙ not-false b h),
          )

      pub dtmf_33 : not a ≡ true → Writes (enveloped_made 1 cuei D) t t (Err 33)
      dtmf_33 l = refuses 1 cuei t D 33 (dtmf_makes ∙ rw (not-true a l))

      module _ (l : not a ≡ false) where
        dtmf_made : D ≡ made (bytes_of (print dtmf_contents))
        dtmf_made = dtmf_makes ∙ rw (not-false a l)

        pub dtmf_36 : length t < 8 + chars.len → Writes (enveloped_made 1 cuei D) t t (Err 36)
        dtmf_36 k = rw dtmf_made (writes_short 1 cuei (bytes_of (print dtmf_contents)) t (2 + chars.len) (size_bytes (print dtmf_contents) (2 + chars.len) dtmf_bits) (omega arith) refl (omega arith))

        pub dtmf_writes : (i u v₁ v₂ v₃ v₄ run : List ℕ) (e d₁ d₂ d₃ d₄ : Cursor) (n : ℕ) → 8 + chars.len ≤ length t → i ≡ cuei → Enveloped t 1 (6 + chars.len) i u e → n ≡ x.preroll
            → Pens u e (bits_of_num 8 n) v₁ d₁ → Pens v₁ d₁ (bits_of_num 3 chars.len) v₂ d₂ → Pens v₂ d₂ (bits_of_num 5 31) v₃ d₃ → run ≡ viewed lent chars → Pens v₃ d₃ (bits_of run) v₄ d₄
            → Writes (enveloped_made 1 cuei D) t v₄ (Ok (8 + chars.len))
        dtmf_writes i u v₁ v₂ v₃ v₄ run e d₁ d₂ d₃ d₄ n k ei f en p q r er s =
            let z : 6 + chars.len ≡ 2 + chars.len + 4 = omega arith in
            let y : 8 + chars.len ≡ 2 + chars.len + 6 = omega arith in
            let g : Enveloped t 1 (2 + chars.len + 4) cuei u e = subst (λ (m : ℕ). Enveloped t 1 m cuei u e) z (subst (λ (j : List ℕ). Enveloped t 1 (6 + chars.len) j u e) ei f) in
            let o : run ≡ take chars.len (drop chars.at lent) = er ∙ viewed_run lent chars (sym eb ∙ not-false b h) in
            rw (dtmf_made, y)
            (writes_stored 1 cuei t (2 + chars.len) dtmf_contents dtmf_bits refl (omega arith) g.1 g.2 v₄ d₄ (omega arith)
            (then t start (envelope_contents 1 (2 + chars.len + 4) cuei) dtmf_contents u e v₄ d₄ g.0
            (number_then u e v₁ d₁ v₄ d₄ _ 8 x.preroll n en p
            (number_then v₁ d₁ v₂ d₂ v₄ d₄ _ 3 chars.len chars.len refl q
            (number_then v₂ d₂ v₃ d₃ v₄ d₄ _ 5 31 31 refl r (put_bytes v₃ d₃ v₄ d₄ (take chars.len (drop chars.at lent)) (rw o at s)))))))

-- ---- reserved
module _ (tag : ℕ) (v : View) (id eidr lent t : List ℕ) (b : Bool) (eb : b ≡ leb (v.at + v.len) (length lent)) (four : length id ≡ 4) where
  abbrev private_contents : List Content
  private_contents = count v.len ∷ (bytes (take v.len (drop v.at lent)) ∷ [])

  abbrev Held : Made
  Held = make private_table (writable_reserved tag id eidr) lent v

  pub reserved_31 : not b ≡ true → Writes (enveloped_made tag id Held) t t (Err 31)
  unfolding private_table remaining part
  reserved_31 h = refuses tag id t Held 31 (rw (← eb, not-true b h))

  module _ (h : not b ≡ false) (a : Bool) (ea : a ≡ writable_reserved tag id eidr) where
    reserved_makes : Held ≡ pick a (made (bytes_of (print private_contents))) (refused 33)
    unfolding private_table remaining part
    reserved_makes = rw (← ea, ← eb, not-false b h)

    reserved_bits : length (print private_contents) ≡ v.len * 8
    reserved_bits =
        let s = bits_of (take v.len (drop v.at lent)) in
        length-append s [] ∙ omega (arith, length_bits (take v.len (drop v.at lent)), run_length lent v (sym eb ∙ not-false b h))

    pub reserved_33 : not a ≡ true → Writes (enveloped_made tag id Held) t t (Err 33)
    reserved_33 l = refuses tag id t Held 33 (reserved_makes ∙ rw (not-true a l))

    module _ (l : not a ≡ false) where
      reserved_made : Held ≡ made (bytes_of (print private_contents))
      reserved_made = reserved_makes ∙ rw (not-false a l)

      size : length (bytes_of (print private_contents)) ≡ v.len
      size = size_bytes (print private_contents) v.len reserved_bits

      pub reserved_34 : 250 < v.len → Writes (enveloped_made tag id Held) t t (Err 34)
      reserved_34 k = rw reserved_made (writes_long tag id (bytes_of (print private_contents)) t v.len size k)

      module _ (few : v.len ≤ 250) where
        pub reserved_36 : length t < 6 + v.len → Writes (enveloped_made tag id Held) t t (Err 36)
        reserved_36 k = rw reserved_made (writes_short tag id (bytes_of (print private_contents)) t v.len size few four (omega arith))

        pub reserved_writes : (u v₁ run : List ℕ) (e d : Cursor) → 6 + v.len ≤ length t → Enveloped t tag (4 + v.len) id u e → run ≡ viewed lent v → Pens u e (bits_of run) v₁ d
            → Writes (enveloped_made tag id Held) t v₁ (Ok (6 + v.len))
        reserved_writes u v₁ run e d k f er s =
            let z : 4 + v.len ≡ v.len + 4 = omega arith in
            let y : 6 + v.len ≡ v.len + 6 = omega arith in
            let g : Enveloped t tag (v.len + 4) id u e = subst (λ (m : ℕ). Enveloped t tag m id u e) z f in
            let o : run ≡ take v.len (drop v.at lent) = er ∙ viewed_run lent v (sym eb ∙ not-false b h) in
            rw (reserved_made, y)
            (writes_stored tag id t v.len private_contents reserved_bits four (omega arith) g.1 g.2 v₁ d few
            (then t start (envelope_contents tag (v.len + 4) id) private_contents u e v₁ d g.0
            (count_then u e v₁ d v.len _ (put_bytes u e v₁ d (take v.len (drop v.at lent)) (rw o at s)))))
