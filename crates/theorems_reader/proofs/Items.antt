-- The UPIDs of an item, in the section that holds its loop.
--     found          each UPID of an item is one of its payload's, moved
--     unsplit        a run of the section that is accepted as a MID
--     mid_of         a MID of an item
--     eidr_of        an EIDR of an item
--     beside_runs    the identifier beside an item
use Prim.Native.Nat.{ℕ, ◌+◌, ◌-◌, ◌≤◌}
use mathlib.Core.List.{List, [], ◌∷◌, map}
use mathlib.Core.Path.{◌≡◌, refl, ap, sym, ◌∙◌}
use native.Mathlib.Omega.{arith}
use lib.ListN.{length, take, drop, get_or, length-take, length-drop}
use Rattle.table.specs.Bits.{bits_of}
use Rattle.table.specs.Lent.{viewed, shifted}
use Rattle.table.specs.Table.{parse}
use Rattle.table.specs.declared.View.{View}
use Rattle.upid.proofs.Theorems.{every_mid_is_covered, every_part_is_announced, every_part_has_its_mid, parts_are_in_order}
use Rattle.upid.specs.Cover.{All, none, more}
use Rattle.upid.specs.Upid as upid
use Rattle.upid.specs.Upid.{upid_of, check_of, reported_of, part_view}
use Rattle.upid.specs.declared.Part.{Part}
use Rattle.descriptor.specs.Descriptor.{reported_upid}
use Rattle.descriptor.specs.Segmentation.{segmentation}
use Rattle.descriptor.specs.Full.{beside_of, identifier_read}
use Rattle.descriptor.specs.declared.Descriptor.{Descriptor}
use Rattle.descriptor.specs.declared.segmentation.DescriptorDetail.{DescriptorDetail}
use Rattle.descriptor.specs.declared.segmentation.SegmentationUpid.{SegmentationUpid}
use Rattle.upid.proofs.Reported.{mid_is_written, eidr_is_written}
use Rattle.descriptor_loop.proofs.Places.{all_into, all_map, type_stays}
use Rattle.descriptor_loop.proofs.Steps.{Clause, long, ended, last, small, entire}
use Rattle.descriptor_loop.specs.Items.{item_at, read_at, complete_at}
use Rattle.descriptor_loop.specs.Place.{moved_upid, moved_descriptor}
use Rattle.descriptor_loop.specs.Private.{moved_detail}
use Rattle.descriptor_loop.specs.declared.Step.{Step}
use Rattle.table.proofs.Lists.{run_of_run}
use Rattle.upid.specs.Private as upid_laws
use Rattle.upid.specs.Private.{Accepted}
use Rattle.theorems_reader.specs.Identifiers.{Identifier, OneRun, in_lent, detail_upids, upids_of, upid_start, besides_of, Announced, Unsplit}
use Rattle.theorems_reader.proofs.Runs.{viewed_is, viewed_inside, length_viewed, length_run, lent_run, get_d_run}
use Rattle.theorems_reader.proofs.Upids.{upids_read, Source, sources}
use Rattle.std.proofs.Common.{Ok, Err, Some, Result}
use Rattle.upid.specs.declared.Refusal.{Refusal}

-- ---- the UPIDs of an item

detail_upids_lem : (base : ℕ) (d : DescriptorDetail) → detail_upids (moved_detail base d) ≡ map (moved_upid base) (detail_upids d)
detail_upids_lem base DescriptorDetail.Cancel = refl
detail_upids_lem base (DescriptorDetail.Active i) = refl

descriptor_upids : (base : ℕ) (d : Descriptor) → upids_of (Some (Ok (moved_descriptor base d))) ≡ map (moved_upid base) (upids_of (Some (Ok d)))
descriptor_upids base (Descriptor.Avail x) = refl
descriptor_upids base (Descriptor.Dtmf x) = refl
descriptor_upids base (Descriptor.Segmentation x) = detail_upids_lem base x.descriptor_detail
descriptor_upids base (Descriptor.Time x) = refl
descriptor_upids base (Descriptor.Reserved tag bytes) = refl

item_upids : (base : ℕ) (r : Result Descriptor Refusal) → upids_of (item_at base r) ≡ map (moved_upid base) (upids_read r)
item_upids base (Ok d) = descriptor_upids base d
item_upids base (Err r) = refl

-- the UPID u of the item between two offsets is one of its payload's, moved to the loop
pub record Found (loop : List ℕ) (offset next : ℕ) (u : SegmentationUpid) : Type 0 where
  pub source : SegmentationUpid
  pub from : Source (take (next - offset - 6) (drop (offset + 6) loop)) source
  pub is : u ≡ moved_upid (offset + 6) source
  pub six : offset + 6 ≤ next
  pub there : next ≤ length loop

pub found : {loop : List ℕ} {offset : ℕ} {s : Step} → Clause loop offset s → All (Found loop offset s.next) (upids_of s.item)
unfolding complete_at read_at
found (long h) = none
found (ended h) = none
found (last r v e) = none
found (small L s) = none
found {loop} {offset} (entire L s h) =
    let n : offset + (L + 2) - offset - 6 ≡ L - 4 = omega arith in
    rw (item_upids (offset + 6))
    (all_map (moved_upid (offset + 6))
    (all_into (λ u src. record { source = u; from = rw n src; is = refl; six = omega arith; there = s.there })
    (sources (take (L - 4) (drop (offset + 6) loop)) (get_or loop offset 0) (take 4 (drop (offset + 2) loop)))))

-- ---- a MID that is one run of the section

module _ (s : List ℕ) (i : Identifier) (r : OneRun s i) where
  announced : (p : Part) → upid_laws.Announced i.bytes p → Announced s p (in_lent i.start i.bytes (part_view p))
  announced p a =
      let n : length i.bytes ≡ i.len = length_run s i r in
      let k : i.start + (p.start - 2) ≡ i.start + p.start - 2 = omega (arith, a.behind) in
      let l : i.start + (p.start - 1) ≡ i.start + p.start - 1 = omega (arith, a.behind) in
      record {
        unbroken = lent_run s i r (part_view p) (omega (arith, n, a.inside));
        behind = omega (arith, a.behind);
        upid_type = a.upid_type ∙ ap reported_of (get_d_run s i r (p.start - 2) (omega (arith, n, a.inside, a.behind)) ∙ ap (λ (j : ℕ). get_or s j 0) k);
        len = a.len ∙ get_d_run s i r (p.start - 1) (omega (arith, n, a.inside, a.behind)) ∙ ap (λ (j : ℕ). get_or s j 0) l;
      }

  pub unsplit : check_of 13 i.bytes ≡ Ok 13 → Unsplit s i
  unfolding upid_of
  unsplit e =
      let ok : Accepted (check_of 13 i.bytes) = rw e tt in
      record {
        unbroken = r;
        accepted = e;
        parts = all_into announced (every_part_is_announced i.bytes ok);
        covered = every_mid_is_covered i.bytes ok;
        owned = every_part_has_its_mid i.bytes ok;
        ordered = parts_are_in_order i.bytes ok;
      }

-- ---- a UPID that is found in an item

-- a MID has bytes
some_bytes : (bytes : List ℕ) → check_of 13 bytes ≡ Ok 13 → 1 ≤ length bytes
unfolding check_of
some_bytes [] e = absurd (let z : ◌≡◌ {A = ℕ} 0 13 = cc in omega arith)
some_bytes (b ∷ bs) e = omega arith

mid_checked : (k : ℕ) (bytes : List ℕ) → check_of k bytes ≡ Ok 13 → check_of 13 bytes ≡ Ok 13
mid_checked k bytes e = ap (λ (j : ℕ). check_of j bytes) (sym (mid_is_written k bytes e)) ∙ e

-- the view of a MID, moved
mid_view : (base : ℕ) (u w : SegmentationUpid) → u.upid_type ≡ 13 → u ≡ reported_upid u.upid_type w.bytes → (moved_upid base u).bytes ≡ shifted base w.bytes
mid_view base u w k e =
    let z : u ≡ reported_upid 13 w.bytes = e ∙ rw k in
    rw z

module _ (loop : List ℕ) (offset next : ℕ) (six : offset + 6 ≤ next) (there : next ≤ length loop) where
  abbrev payload : List ℕ
  payload = take (next - offset - 6) (drop (offset + 6) loop)

  size : length payload ≡ next - offset - 6
  size = omega (arith, length-take (next - offset - 6) (drop (offset + 6) loop), length-drop (offset + 6) loop)

  -- a view of the payload, moved to the loop, hands back the same
  shown : (v : View) → v.at + v.len ≤ length payload → viewed loop (shifted (offset + 6) v) ≡ viewed payload v
  shown v h =
      viewed_is loop (shifted (offset + 6) v) (omega (arith, size))
      ∙ sym (viewed_is payload v h ∙ run_of_run loop (offset + 6) (next - offset - 6) v.at v.len (omega (arith, size)))

module _ (s : List ℕ) (i : Identifier) (r : OneRun s i) (offset next : ℕ) (u : SegmentationUpid) (f : Found i.bytes offset next u) where
  abbrev inner : List ℕ
  inner = payload i.bytes offset next f.six f.there

  abbrev written : SegmentationUpid
  written = f.from.written

  was : (q : ℕ) → u.upid_type ≡ q → check_of written.upid_type (viewed inner written.bytes) ≡ Ok q
  was q k = f.from.checked ∙ ap Ok (sym (type_stays (offset + 6) f.source) ∙ sym (ap (λ (u : SegmentationUpid). u.upid_type) f.is) ∙ k)

  pub mid_of : u.upid_type ≡ 13 → Unsplit s (in_lent i.start i.bytes u.bytes)
  mid_of k =
      let e : check_of 13 (viewed inner written.bytes) ≡ Ok 13 = mid_checked written.upid_type (viewed inner written.bytes) (was 13 k) in
      let h : written.bytes.at + written.bytes.len ≤ length inner = viewed_inside inner written.bytes (some_bytes _ e) in
      let n : length inner ≡ next - offset - 6 = size i.bytes offset next f.six f.there in
      let l : length i.bytes ≡ i.len = length_run s i r in
      let ks : f.source.upid_type ≡ 13 = sym (type_stays (offset + 6) f.source) ∙ sym (ap (λ (u : SegmentationUpid). u.upid_type) f.is) ∙ k in
      let v : u.bytes ≡ shifted (offset + 6) written.bytes = ap (λ (u : SegmentationUpid). u.bytes) f.is ∙ mid_view (offset + 6) f.source written ks f.from.is in
      let same : viewed i.bytes (shifted (offset + 6) written.bytes) ≡ viewed inner written.bytes = shown i.bytes offset next f.six f.there written.bytes h in
      let run : OneRun s (in_lent i.start i.bytes (shifted (offset + 6) written.bytes)) =
      lent_run s i r (shifted (offset + 6) written.bytes) (omega (arith, h, n, l, f.six, f.there)) in
      rw v (unsplit s (in_lent i.start i.bytes (shifted (offset + 6) written.bytes)) run (rw same e))

  at_start : (bytes : List ℕ) (a b : ℕ) → a ≡ b → OneRun s (record { start = i.start + (offset + 6 + b); len = 12; bytes = bytes })
      → OneRun s (record { start = i.start + (offset + 6 + a); len = 12; bytes = bytes })
  at_start bytes a b e h = rw e h

  held : (k : ℕ) (bytes : List ℕ) → k ≡ 10 → length bytes ≡ 12 → upid.eidr_of k bytes ≡ bytes
  unfolding upid.eidr_of
  held k bytes e n = rw (e, n)

  pub eidr_of_lem : u.upid_type ≡ 10
      → OneRun s (record { start = i.start + (offset + 6 + upid_start (parse segmentation (bits_of inner) 0)); len = 12; bytes = (beside_of inner).eidr })
  eidr_of_lem k =
      let e = eidr_is_written _ _ (was 10 k) in
      let h : written.bytes.at + written.bytes.len ≤ length inner = viewed_inside inner written.bytes (omega (arith, e.1)) in
      let n : length inner ≡ next - offset - 6 = size i.bytes offset next f.six f.there in
      let l : length i.bytes ≡ i.len = length_run s i r in
      let twelve : written.bytes.len ≡ 12 = sym (length_viewed inner written.bytes h) ∙ e.1 in
      let same : viewed i.bytes (shifted (offset + 6) written.bytes) ≡ viewed inner written.bytes = shown i.bytes offset next f.six f.there written.bytes h in
      let run : OneRun s (in_lent i.start i.bytes (shifted (offset + 6) written.bytes)) =
      lent_run s i r (shifted (offset + 6) written.bytes) (omega (arith, h, n, l, f.six, f.there)) in
      let is : (beside_of inner).eidr ≡ viewed i.bytes (shifted (offset + 6) written.bytes) =
      f.from.beside ∙ held written.upid_type (viewed inner written.bytes) e.0 e.1 ∙ sym same in
      at_start (beside_of inner).eidr _ written.bytes.at f.from.start
      (record { inside = omega (arith, run.inside, twelve); run = is ∙ run.run ∙ ap (λ (n : ℕ). take n (drop (i.start + (offset + 6 + written.bytes.at)) s)) twelve })

-- ---- the identifier of a reserved descriptor

module _ (s : List ℕ) (i : Identifier) (r : OneRun s i) where
  abbrev four : ℕ → List ℕ
  four offset = take 4 (drop (offset + 2) i.bytes)

  beside_read_lem : (base offset : ℕ) → offset + 6 ≤ length i.bytes → (d : Result Descriptor Refusal)
      → All (OneRun s) (besides_of i.start offset (identifier_read d (four offset)) (item_at base d))
  beside_read_lem base offset h (Ok (Descriptor.Avail x)) = none
  beside_read_lem base offset h (Ok (Descriptor.Dtmf x)) = none
  beside_read_lem base offset h (Ok (Descriptor.Segmentation x)) = none
  beside_read_lem base offset h (Ok (Descriptor.Time x)) = none
  beside_read_lem base offset h (Ok (Descriptor.Reserved tag v)) =
      let l : length i.bytes ≡ i.len = length_run s i r in
      let run : OneRun s (in_lent i.start i.bytes (record { at = offset + 2; len = 4 })) = lent_run s i r (record { at = offset + 2; len = 4 }) (omega arith) in
      more (record { inside = run.inside; run = sym (viewed_is i.bytes (record { at = offset + 2; len = 4 }) (omega arith)) ∙ run.run }) none
  beside_read_lem base offset h (Err q) = none

  pub beside_runs : {offset : ℕ} {st : Step} → Clause i.bytes offset st → All (OneRun s) (besides_of i.start offset st.identifier st.item)
  unfolding complete_at
  beside_runs (long h) = none
  beside_runs (ended h) = none
  beside_runs (last q v e) = none
  beside_runs (small L t) = none
  beside_runs {offset} (entire L t h) = beside_read_lem (offset + 6) offset t.six (read_at i.bytes offset L)
