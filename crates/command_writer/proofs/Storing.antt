-- Fields stored one behind the other.
use Prim.Native.Nat.{ℕ, zero, suc, ◌+◌, ◌*◌, ◌%◌, ◌<◌, ◌≤◌}
use mathlib.Core.Bool.{Bool, true, false}
use mathlib.Core.List.{List, [], ◌∷◌, ◌++◌, append_assoc}
use mathlib.Core.Path.{◌≡◌, refl, ap, sym, ◌∙◌}
use native.Mathlib.Numerals.{add-one}
use native.Mathlib.Omega.{arith}
use lib.ListN.{length, take, get_or, length-append}
use lib.Seq.{take-suc}
use Rattle.command.specs.Insert.{immediate, count, out_of_network}
use Rattle.command.specs.declared.components.InsertComponent.{InsertComponent}
use Rattle.command.specs.declared.insert.InsertDetail.{InsertDetail}
use Rattle.command.specs.declared.insert.SpliceInsert.{SpliceInsert}
use Rattle.splice_time.specs.declared.break_duration.SpliceDuration.{SpliceDuration}
use Rattle.command.specs.declared.insert.SpliceDetail.{SpliceDetail}
use Rattle.command.specs.declared.insert.SpliceMode.{SpliceMode}
use Rattle.splice_time.specs.declared.SpliceTime.{SpliceTime}
use Rattle.splice_time.specs.declared.SpliceTime.TheVariants.{Immediate, Unspecified, At}
use Rattle.names.specs.Flags.{network_flag, return_flag}
use Rattle.names.specs.declared.flags.NetworkIndicator.{NetworkIndicator}
use Rattle.names.specs.declared.flags.ReturnMode.{ReturnMode}
use Rattle.bit_stores.specs.Pen.{Pens}
use Rattle.bit_stores.specs.Private.{Fits}
use Rattle.bit_stores.proofs.Penned.{length_penned}
use Rattle.bit_stores.proofs.Tables.{Goes, pens_place, pens_append, pens_last, pens_same, print_beside, ink_append}
use Rattle.table.specs.Bits.{bits_of_num}
use Rattle.table.specs.Cursor.{place}
use Rattle.table.specs.Table.{flag_number}
use Rattle.table.specs.Writing.{Field, bits, number, contents}
use Rattle.table.specs.declared.cursor.Cursor.{Cursor}
use Rattle.table.proofs.Bits.{all_num}
use Rattle.table.proofs.Lists.{append_nil}
use Rattle.table.proofs.Steppings.{Settled, settled_at}
use Rattle.table.proofs.Walks.{print_bits}
use Rattle.command_measure.specs.Fields.{ink, time_fields, component_fields, list_fields, mode_fields, automatic, break_fields, tail_fields, flag_fields, immediate_in, places_of, active_fields, insert_fields}
use Rattle.command_measure.specs.Made.{counted}
use Rattle.std.proofs.Common.{Some, None, Option}

module _ (t : List ℕ) (c : Cursor) (u : List ℕ) (d : Cursor) where
  -- one number, and what stands behind it
  pub pens_next : (w v y : ℕ) (fs : List Field) → y ≡ v → Fits t c (ink (bits w v ∷ fs)) → Pens t c (bits_of_num w y) u d → Goes t c (ink (bits w v ∷ fs)) u d (ink fs)
  pens_next w v y fs e h p = pens_append t c (bits_of_num w v) u d (ink fs) (all_num w v) h (pens_same t c (bits_of_num w y) (bits_of_num w v) u d (ap (bits_of_num w) e) p)

  pub pens_end : (w v y : ℕ) → y ≡ v → Pens t c (bits_of_num w y) u d → Pens t c (ink (bits w v ∷ [])) u d
  pens_end w v y e p = pens_last t c (bits_of_num w v) u d (pens_same t c (bits_of_num w y) (bits_of_num w v) u d (ap (bits_of_num w) e) p)

  -- several fields as one number
  pub pens_all : (fs : List Field) (w y : ℕ) → ink fs ≡ ink (bits w y ∷ []) → Pens t c (bits_of_num w y) u d → Pens t c (ink fs) u d
  pens_all fs w y e p = rw e (pens_last t c (bits_of_num w y) u d p)

  -- several fields, and what stands behind them
  pub pens_fields : (fs gs : List Field) → Fits t c (ink (fs ++ gs)) → Pens t c (ink fs) u d → Goes t c (ink (fs ++ gs)) u d (ink gs)
  pens_fields fs gs h p =
      let e : ink (fs ++ gs) ≡ ink fs ++ ink gs = ink_append [] fs gs in
      rw e (pens_append t c (ink fs) u d (ink gs) (print_bits (contents [] fs)) (rw e at h) p)

  pub pens_length : (b : List ℕ) → Pens t c b u d → length u ≡ length t
  pens_length b p = ap length p.bytes ∙ length_penned t (place c) b

  -- ---- a time
  pub time_open : (x : SpliceTime) → x ≡ Unspecified → Pens t c (bits_of_num 8 127) u d → Pens t c (ink (time_fields x)) u d
  time_open x e p = rw e p

  pub time_now : (x : SpliceTime) → x ≡ Immediate → Pens t c (bits_of_num 8 127) u d → Pens t c (ink (time_fields x)) u d
  time_now x e p = rw e p

  pub time_at : (x : SpliceTime) (k : ℕ) → x ≡ At k → Pens t c (bits_of_num 40 (0xFE00000000 + k % 0x200000000)) u d → Pens t c (ink (time_fields x)) u d
  time_at x k e p = rw e (pens_all (time_fields (At k)) 40 _ (print_beside 7 33 127 k []) p)

  -- ---- a component
  pub component_now : (b : Bool) (x : InsertComponent) (y : ℕ) → b ≡ true → y ≡ x.component_tag → Pens t c (bits_of_num 8 y) u d → Pens t c (ink (component_fields b x)) u d
  component_now b x y e h p = rw e (pens_end 8 x.component_tag y h p)

  pub component_timed : (b : Bool) (x : InsertComponent) (y : ℕ) → b ≡ false → y ≡ x.component_tag → Fits t c (ink (component_fields b x)) → Pens t c (bits_of_num 8 y) u d
      → Goes t c (ink (component_fields b x)) u d (ink (time_fields x.splice_time))
  component_timed b x y e h f p =
      let g : Fits t c (ink (component_fields false x)) = rw e at f in
      rw e (pens_next 8 x.component_tag y (time_fields x.splice_time) h g p)

  -- one component more
  pub component_more : (b : Bool) (cs : List InsertComponent) (i : ℕ) (k : InsertComponent) (v : List ℕ) (z : Cursor) → i < length cs → Fits t c (ink (list_fields b (take (i + 1) cs)))
      → Pens t c (ink (list_fields b (take i cs))) u d → (Fits u d (ink (component_fields b (get_or cs i k)))) × (Pens u d (ink (component_fields b (get_or cs i k))) v z → Pens t c (ink (list_fields b (take (i + 1) cs))) v z)
  component_more b cs i k v z h f p =
      let e : list_fields b (take (i + 1) cs) ≡ list_fields b (take i cs) ++ component_fields b (get_or cs i k) =
      ap (λ (n : ℕ). list_fields b (take n cs)) (add-one i) ∙ ap (list_fields b) (take-suc cs i k h) ∙ snoc (take i cs) (get_or cs i k) in
      let g = pens_fields (list_fields b (take i cs)) (component_fields b (get_or cs i k)) (rw e at f) p in
      (g.room, λ q. rw e (g.both v z q))
    where
      assoc : (fs gs hs : List Field) → fs ++ gs ++ hs ≡ fs ++ (gs ++ hs)
      assoc fs gs hs = append_assoc fs gs hs

      snoc : (l : List InsertComponent) (x : InsertComponent) → list_fields b (l ++ (x ∷ [])) ≡ list_fields b l ++ component_fields b x
      snoc [] x = append_nil (component_fields b x)
      snoc (y ∷ l) x = ap (λ (fs : List Field). component_fields b y ++ fs) (snoc l x) ∙ sym (assoc (component_fields b y) (list_fields b l) (component_fields b x))

  -- ---- a duration, if there is one
  pub break_none : (x : Option SpliceDuration) (fs : List Field) → x ≡ None → Pens t c (ink fs) u d → Pens t c (ink (break_fields x ++ fs)) u d
  break_none x fs e p = rw e p

  pub break_goes : (x : Option SpliceDuration) (k : SpliceDuration) (fs : List Field) → x ≡ Some k → Fits t c (ink (break_fields x ++ fs)) → Pens t c (ink (break_fields (Some k))) u d
      → Goes t c (ink (break_fields x ++ fs)) u d (ink fs)
  break_goes x k fs e h p =
      let f : Fits t c (ink (break_fields (Some k) ++ fs)) = rw e at h in
      rw e (pens_fields (break_fields (Some k)) fs f p)

  -- what follows, said otherwise
  pub goes_same : (all : List ℕ) (fs gs : List Field) → fs ≡ gs → Goes t c all u d (ink fs) → Goes t c all u d (ink gs)
  goes_same all fs gs e g = rw (← e) g

  pub pens_settled : (b : List ℕ) → Fits t c b → Pens t c b u d → Settled d
  pens_settled b h p = let e = (pens_place t c b u d h p).0 in rw e (settled_at (place c + length b))

-- ---- fields side by side, as one number
flag_most : (b : Bool) → flag_number b ≤ 1
flag_most true = omega arith
flag_most false = omega arith

-- the numbers of two names are those of flags
pub network_bit : (n : NetworkIndicator) → network_flag n ≡ flag_number (out_of_network n)
network_bit NetworkIndicator.In = refl
network_bit NetworkIndicator.Out = refl

pub return_bit : (m : ReturnMode) → return_flag m ≡ flag_number (automatic m)
return_bit ReturnMode.Manual = refl
return_bit ReturnMode.Automatic = refl

pub flags_bits : (a b c d : Bool) (y : ℕ) → y ≡ flag_number a * 128 + flag_number b * 64 + flag_number c * 32 + flag_number d * 16 + 15 → ink (flag_fields a b c d) ≡ ink (bits 8 y ∷ [])
flags_bits a b c d y e =
    let x₁ = flag_number a in
    let x₂ = x₁ * 2 + flag_number b % 2 in
    let x₃ = x₂ * 2 + flag_number c % 2 in
    let x₄ = x₃ * 2 + flag_number d % 2 in
    let z : x₄ * 16 + 15 ≡ y = omega (arith, e, flag_most b, flag_most c, flag_most d) in
    print_beside 1 1 x₁ (flag_number b) (number 1 (flag_number c) ∷ number 1 (flag_number d) ∷ number 4 15 ∷ [])
    ∙ print_beside 2 1 x₂ (flag_number c) (number 1 (flag_number d) ∷ number 4 15 ∷ [])
    ∙ print_beside 3 1 x₃ (flag_number d) (number 4 15 ∷ [])
    ∙ print_beside 4 4 x₄ 15 []
    ∙ ap (λ (n : ℕ). ink (bits 8 n ∷ [])) z

pub break_bits : (k : SpliceDuration) (y : ℕ) → y ≡ flag_number (automatic k.return_mode) * 0x8000000000 + 0x7E00000000 + k.duration % 0x200000000
    → ink (break_fields (Some k)) ≡ ink (bits 40 y ∷ [])
break_bits k y e =
    let x = flag_number (automatic k.return_mode) in
    let z : (x * 64 + 63) * 0x200000000 + k.duration % 0x200000000 ≡ y = omega (arith, e) in
    print_beside 1 6 x 63 (number 33 k.duration ∷ [])
    ∙ print_beside 7 33 (x * 64 + 63) k.duration []
    ∙ ap (λ (n : ℕ). ink (bits 40 n ∷ [])) z

pub tail_bits : (id avail expected y : ℕ) → avail < 256 → expected < 256 → y ≡ id * 0x10000 + avail * 0x100 + expected → ink (tail_fields id avail expected) ≡ ink (bits 32 y ∷ [])
tail_bits id avail expected y h k e =
    let z : (id * 256 + avail % 256) * 256 + expected % 256 ≡ y = omega (arith, e) in
    print_beside 16 8 id avail (number 8 expected ∷ [])
    ∙ print_beside 24 8 (id * 256 + avail % 256) expected []
    ∙ ap (λ (n : ℕ). ink (bits 32 n ∷ [])) z

pub head_bits : (event flag kept y : ℕ) (fs : List Field) → flag ≤ 1 → y ≡ event * 256 + kept % 128 + flag * 128 → ink (bits 32 event ∷ bits 1 flag ∷ bits 7 kept ∷ fs) ≡ ink (bits 40 y ∷ fs)
head_bits event flag kept y fs h e =
    let z : (event * 2 + flag % 2) * 128 + kept % 128 ≡ y = omega (arith, e) in
    print_beside 32 1 event flag (number 7 kept ∷ contents [] fs)
    ∙ print_beside 33 7 (event * 2 + flag % 2) kept (contents [] fs)
    ∙ ap (λ (n : ℕ). ink (bits 40 n ∷ fs)) z

-- there is room for the first of two
pub fits_front : (t : List ℕ) (c : Cursor) (fs gs : List Field) → Fits t c (ink (fs ++ gs)) → Fits t c (ink fs)
fits_front t c fs gs h = omega (arith, length-append (ink fs) (ink gs), ap length (ink_append [] fs gs))

pub fits_same : (t : List ℕ) (c : Cursor) (fs gs : List Field) → fs ≡ gs → Fits t c (ink fs) → Fits t c (ink gs)
fits_same t c fs gs e h = rw (← e) h

pub break_fits : (t : List ℕ) (c : Cursor) (x : Option SpliceDuration) (k : SpliceDuration) (fs : List Field) → x ≡ Some k → Fits t c (ink (break_fields x ++ fs)) → Fits t c (ink (break_fields (Some k)))
break_fits t c x k fs e h = fits_front t c (break_fields (Some k)) fs (rw e at h)

pub tail_fits : (t : List ℕ) (c : Cursor) (x : Option SpliceDuration) (fs : List Field) → x ≡ None → Fits t c (ink (break_fields x ++ fs)) → Fits t c (ink fs)
tail_fits t c x fs e h = rw e at h

-- there is room for fewer components
pub fits_fewer : (t : List ℕ) (c : Cursor) (b : Bool) (cs : List InsertComponent) (i : ℕ) → Fits t c (ink (list_fields b cs)) → Fits t c (ink (list_fields b (take i cs)))
fits_fewer t c b cs i h = omega (arith, go cs i)
  where
    go : (cs : List InsertComponent) (i : ℕ) → length (ink (list_fields b (take i cs))) ≤ length (ink (list_fields b cs))
    go cs zero = omega arith
    go [] (suc i) = omega arith
    go (c ∷ cs) (suc i) = omega (
      arith,
      go cs i,
      length-append (ink (component_fields b c)) (ink (list_fields b cs)),
      length-append (ink (component_fields b c)) (ink (list_fields b (take i cs))),
      ap length (ink_append [] (component_fields b c) (list_fields b cs)),
      ap length (ink_append [] (component_fields b c) (list_fields b (take i cs))),
    )

-- ---- what the mode and the cancel bit decide
module _ (b : Bool) (k : SpliceMode) (cs : List InsertComponent) where
  pub mode_now : (x : SpliceTime) → k ≡ SpliceMode.Program x → b ≡ true → mode_fields b k cs ≡ []
  mode_now x e h = rw (e, h)

  pub mode_timed : (x : SpliceTime) → k ≡ SpliceMode.Program x → b ≡ false → mode_fields b k cs ≡ time_fields x
  mode_timed x e h = rw (e, h)

  pub mode_list : (n : ℕ) → k ≡ SpliceMode.Components n → mode_fields b k cs ≡ bits 8 n ∷ list_fields b cs
  mode_list n e = rw e

pub cancel_fields : (i : SpliceInsert) (places : List InsertComponent) → i.splice_detail ≡ SpliceDetail.Cancel
    → insert_fields (counted i places) ≡ bits 32 i.splice_event_id ∷ bits 1 1 ∷ bits 7 i.reserved ∷ []
cancel_fields i places e = go i.splice_event_id i.reserved i.splice_detail e
  where
    go : (event kept : ℕ) (d : SpliceDetail) → d ≡ SpliceDetail.Cancel
        → insert_fields (counted (record { splice_event_id = event; reserved = kept; splice_detail = d }) places) ≡ bits 32 event ∷ bits 1 1 ∷ bits 7 kept ∷ []
    go event kept d e = rw e

pub active_insert_lem : (i : SpliceInsert) (x : InsertDetail) (places : List InsertComponent) → i.splice_detail ≡ SpliceDetail.Insert x
    → insert_fields (counted i places) ≡ bits 32 i.splice_event_id ∷ bits 1 0 ∷ bits 7 i.reserved ∷ active_fields x (places_of x places)
active_insert_lem i x places e = go i.splice_event_id i.reserved i.splice_detail e
  where
    go : (event kept : ℕ) (d : SpliceDetail) → d ≡ SpliceDetail.Insert x
        → insert_fields (counted (record { splice_event_id = event; reserved = kept; splice_detail = d }) places) ≡ bits 32 event ∷ bits 1 0 ∷ bits 7 kept ∷ active_fields x (places_of x places)
    go event kept d e = rw e

-- that counts no component
pub none_active : (x : InsertDetail) (places : List InsertComponent) → count x.splice_mode ≡ 0 → active_fields x (places_of x places) ≡ active_fields x []
none_active x places e = ap (λ (n : ℕ). active_fields x (take n places)) e

pub none_now : (x : InsertDetail) → x.splice_mode ≡ SpliceMode.Components 0 → immediate_in x [] ≡ false
none_now x e = rw e

pub program_now : (i : InsertDetail) (t : SpliceTime) → i.splice_mode ≡ SpliceMode.Program t → immediate t ≡ immediate_in i []
program_now i t e = rw e

-- the same bits, said otherwise
pub fits_bits : (t : List ℕ) (c : Cursor) (b r : List ℕ) → b ≡ r → Fits t c b → Fits t c r
fits_bits t c b r e h = rw (← e) h

pub goes_bits : (t : List ℕ) (c : Cursor) (b r u : List ℕ) (d : Cursor) (m : List ℕ) → b ≡ r → Goes t c b u d m → Goes t c r u d m
goes_bits t c b r u d m e g = rw (← e) g

-- the event of an insert that is not cancelled, and what stands behind it
pub after_event : (t : List ℕ) (c : Cursor) (u : List ℕ) (d : Cursor) (i : SpliceInsert) (x : InsertDetail) (places : List InsertComponent) (y : ℕ) → i.splice_detail ≡ SpliceDetail.Insert x
    → y ≡ i.splice_event_id * 256 + i.reserved % 128 → Fits t c (ink (insert_fields (counted i places))) → Pens t c (bits_of_num 40 y) u d
    → (let more = active_fields x (places_of x places) in
    Goes t c (ink (bits 32 i.splice_event_id ∷ bits 1 0 ∷ bits 7 i.reserved ∷ more)) u d (ink more))
after_event t c u d i x places y is e room p =
    let more = active_fields x (places_of x places) in
    let h = fits_same t c _ _ (active_insert_lem i x places is) room in
    let k = head_bits i.splice_event_id 0 i.reserved y more (omega arith) (omega (arith, e)) in
    let g = pens_next t c u d 40 y y more refl (fits_bits t c _ _ k h) p in
    goes_bits t c _ _ u d _ (sym k) g
