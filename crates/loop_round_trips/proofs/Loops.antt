-- The items of a loop that is cut into canonical descriptors, written again; and descriptors that are written, joined and read.
--     written_at     what is written of an item is the piece, which is the item's run
--     every_item     what holds of each item where a piece stands holds of all
--     cut_one        loops with the same items are cut into the same descriptors
--     given_write_read     what is written of descriptors, joined, has them as its items
use Prim.Native.Nat.{ℕ, ◌+◌, ◌-◌, ◌≤◌}
use mathlib.Core.Bool.{true}
use mathlib.Core.List.{List, [], ◌∷◌, ◌++◌}
use mathlib.Core.Path.{◌≡◌, refl, ap, ap₂, sym, subst, ◌∙◌}
use native.Mathlib.Omega.{arith}
use lib.ListN.{length, take, drop, get_or}
use Rattle.table.specs.Bits.{AllBytes}
use Rattle.table.specs.Writing.{made}
use Rattle.table.specs.declared.View.{View}
use Rattle.upid.specs.Cover.{All, none, more}
use Rattle.descriptor.specs.Views.{descriptor_views}
use Rattle.descriptor.specs.Private.{read_views}
use Rattle.descriptor.specs.Full.{full_of}
use Rattle.descriptor.specs.declared.Descriptor.{Descriptor}
use Rattle.descriptor.specs.declared.full.Beside.{Beside}
use Rattle.descriptor.specs.declared.full.FullDescriptor.{FullDescriptor}
use Rattle.descriptor.proofs.Insides.{read_inside}
use Rattle.canonical_form.specs.Descriptor.{canonical_loop}
use Rattle.canonical_form.specs.Same.{bytes_of_views, Given, ItemBack, Pairs, over, pair, SameItem}
use Rattle.descriptor_measure.specs.Writing.{count_beside, descriptor_made}
use Rattle.descriptor_round_trips.specs.Making.{view_in}
use Rattle.descriptor_round_trips.specs.Trips.{full_in, ReadAs, Handed}
use Rattle.descriptor_round_trips.proofs.Alike.{SameView, NoneTold, made_told, alike_made, same_made}
use Rattle.descriptor_round_trips.proofs.Theorems.{descriptor_write_read}
use Rattle.descriptor_round_trips.proofs.FullTrips.{full_descriptor_read_write}
use Rattle.descriptor_loop.specs.Cover.{joined}
use Rattle.descriptor_loop.specs.Items.{item_at, step_of, reading_of, Listed, listed, items_of}
use Rattle.descriptor_loop.specs.Place.{moved_descriptor}
use Rattle.descriptor_loop.specs.declared.reading.Reading.{Reading}
use Rattle.loop_round_trips.specs.Loops.{WrittenAgain, given_made}
use Rattle.loop_round_trips.proofs.Pieces.{Canonical, cut_canonical, At, Items, end, item, run_is, items_cut}
use Rattle.loop_round_trips.proofs.Places.{moved_values, moved_count, moved_view, moved_bytes}
use Rattle.std.proofs.Common.{Ok, Some, Option, Result}
use Rattle.upid.specs.declared.Refusal.{Refusal}
use Rattle.descriptor_loop.specs.declared.ItemRefusal.{ItemRefusal}

-- ---- the bytes of the pieces

all_left : (t post : List ℕ) → AllBytes (t ++ post) → AllBytes t
all_left [] post a = tt
all_left (b ∷ t) post a = (a.0, all_left t post a.1)

all_right : (t post : List ℕ) → AllBytes (t ++ post) → AllBytes post
all_right [] post a = a
all_right (b ∷ t) post a = all_right t post a.1

pub all_pieces : (ts : List (List ℕ)) → AllBytes (joined ts) → All AllBytes ts
unfolding joined
all_pieces [] a = none
all_pieces (t ∷ ts) a = more (all_left t (joined ts) a) (all_pieces ts (all_right t (joined ts) a))

-- ---- an item that is read where a piece stands

module _ (loop : List ℕ) (offset : ℕ) (t : List ℕ) (a : At loop offset t) where
  pub item_is : (step_of loop offset).item ≡ item_at (offset + 6) (full_in t).read
  unfolding reading_of
  item_is = ap (λ (r : Reading). r.step.item) a.reading

  pub identifier_is : (step_of loop offset).identifier ≡ (full_in t).identifier
  unfolding reading_of
  identifier_is = ap (λ (r : Reading). r.step.identifier) a.reading

  pub beside_is : (reading_of loop offset).beside ≡ (full_in t).beside
  beside_is = ap (λ (r : Reading). r.beside) a.reading

  -- the piece is what is written of the item
  pub record Back : Type 0 where
    pub read : Descriptor
    pub is : (step_of loop offset).item ≡ Some (Ok read)
    pub writes : descriptor_made read (step_of loop offset).identifier (reading_of loop offset).beside loop ≡ made t
    pub places : count_beside read ≤ length (reading_of loop offset).beside.components
    -- the piece alone is read as the same, with its view counted from its payload's first byte
    pub own : Descriptor
    pub alone : (full_in t).read ≡ Ok own
    pub moves : read ≡ moved_descriptor (offset + 6) own
    pub view : SameView (drop 6 t) (view_in own) loop (view_in (moved_descriptor (offset + 6) own))

  pub back_at : AllBytes t → Back
  back_at all =
      let w = full_descriptor_read_write t all a.canon in
      let d : Descriptor = w.read in
      let base : ℕ = offset + 6 in
      let there : Descriptor = moved_descriptor base d in
      let id : List ℕ = (full_in t).identifier in
      let b : Beside = (full_in t).beside in
      let told = subst (λ (p : List ℕ). ((view_in d).at + (view_in d).len ≤ length p) × NoneTold d) (sym a.payload) (made_told (drop 6 t) t id b d w.places w.writes) in
      let v : SameView (drop 6 t) (view_in d) loop (view_in there) =
      subst (λ (p : List ℕ). SameView p (view_in d) loop (view_in there)) a.payload (moved_view loop base (length t - 6) a.there d told) in
      let m : descriptor_made there id b loop ≡ made t =
      alike_made (drop 6 t) loop id b b refl d there w.places (sym (moved_values base d)) v (ap (λ (n : ℕ). take n b.components) (sym (moved_count base d))) t w.writes in
      record {
        read = there;
        is = item_is ∙ ap (item_at base) (ap (λ (x : FullDescriptor). x.read) w.full);
        writes = ap₂ (λ (i : List ℕ) (c : Beside). descriptor_made there i c loop) identifier_is beside_is ∙ m;
        places = subst (λ (c : Beside). count_beside there ≤ length c.components) (sym beside_is) (omega (arith, moved_count base d, w.places));
        own = d;
        alone = ap (λ (x : FullDescriptor). x.read) w.full;
        moves = refl;
        view = v;
      }

  -- the item is what the piece was written of
  pub given_at : (g : Given) → ReadAs t g.descriptor g.identifier g.beside g.lent → ItemBack loop (listed loop offset) g
  unfolding full_of
  given_at g r =
      let d : Descriptor = r.again in
      let base : ℕ = offset + 6 in
      let there : Descriptor = moved_descriptor base d in
      let views : All (λ (v : View). v.at + v.len ≤ length (drop 6 t)) (descriptor_views d) =
      subst (λ (x : Result Descriptor Refusal). All (λ (v : View). v.at + v.len ≤ length (drop 6 t)) (read_views x)) r.reading (read_inside (get_or t 0 0) (take 4 (drop 2 t)) (drop 6 t)) in
      let inside = subst (λ (p : List ℕ). All (λ (v : View). v.at + v.len ≤ length p) (descriptor_views d)) (sym a.payload) views in
      let moves : bytes_of_views loop (descriptor_views there) ≡ bytes_of_views (drop 6 t) (descriptor_views d) =
      moved_bytes loop base (length t - 6) a.there d inside ∙ ap (λ (p : List ℕ). bytes_of_views p (descriptor_views d)) a.payload in
      record {
        again = there;
        is = item_is ∙ ap (item_at base) r.reading;
        same = record {
          values = moved_values base d ∙ r.same.values;
          bytes = moves ∙ r.same.bytes;
          identifiers = identifier_is ∙ r.same.identifiers;
          components = ap₂ (λ (n : ℕ) (c : Beside). take n c.components) (moved_count base d) beside_is ∙ r.same.components;
          eidrs = ap (λ (c : Beside). c.eidr) beside_is ∙ r.same.eidrs;
        };
      }

-- ---- all of them

module _ (loop : List ℕ) (fits : length loop ≤ 4076) where
  -- what is written of the item is the piece, which is the item's run
  pub written_at : (offset : ℕ) (t : List ℕ) → At loop offset t → AllBytes t → WrittenAgain loop (listed loop offset)
  written_at o t a h =
      let b = back_at loop o t a h in
      record { descriptor = b.read; is = b.is; writes = b.writes ∙ ap made (sym (run_is loop fits o t a)) }

  -- what holds of each item where a piece stands holds of all
  pub every_item : {P : Listed → Type 0} {offset : ℕ} {ts : List (List ℕ)} {xs : List Listed} → Items loop fits offset ts xs → All AllBytes ts
      → ((o : ℕ) (t : List ℕ) → At loop o t → AllBytes t → P (listed loop o)) → All P xs
  every_item end none f = none
  every_item (item {offset = o} {t = t} a i) (more h hs) f = more (f o t a h) (every_item i hs f)

-- ---- loops with the same items

one_read : (x y : Descriptor) (i : Option (Result Descriptor ItemRefusal)) → i ≡ Some (Ok x) → i ≡ Some (Ok y) → x ≡ y
one_read x y i e f =
    let z : Some (Ok x) ≡ Some (Ok y) = sym e ∙ f in
    cc

-- the piece is what is written of the descriptor that the item is
named : (loop : List ℕ) (offset : ℕ) (t : List ℕ) → At loop offset t → AllBytes t → (d : Descriptor) → (step_of loop offset).item ≡ Some (Ok d)
    → (descriptor_made d (step_of loop offset).identifier (reading_of loop offset).beside loop ≡ made t) × (count_beside d ≤ length (reading_of loop offset).beside.components)
named loop o t a h d e =
    let b = back_at loop o t a h in
    let z : b.read ≡ d = one_read b.read d (step_of loop o).item b.is e in (
      subst (λ (k : Descriptor). descriptor_made k (step_of loop o).identifier (reading_of loop o).beside loop ≡ made t) z b.writes,
      subst (λ (k : Descriptor). count_beside k ≤ length (reading_of loop o).beside.components) z b.places,
    )

module _ (loop other : List ℕ) (fits : length loop ≤ 4076) (fits₂ : length other ≤ 4076) where
  pub cut_one : {o₁ o₂ : ℕ} {ts us : List (List ℕ)} {xs ys : List Listed} → Items loop fits o₁ ts xs → Items other fits₂ o₂ us ys → All AllBytes ts → All AllBytes us → Pairs (SameItem loop other) xs ys → ts ≡ us
  cut_one {o₂ = o₂} (end {offset = offset}) (item {t = u} {ts = ts} {xs = xs} b j) _ _ x38 = elim x38 [ ]
  cut_one {o₂ = o₂} (item {offset = o} {t = t} {ts = ts} {xs = xs} a i) end _ _ x33 = elim x33 [ ]
  cut_one end end none none over = refl
  cut_one (item {offset = o} {t = t} a i) (item {offset = q} {t = u} b j) (more h hs) (more k ks) (pair s ss) =
      let r = s.back in
      let m = named loop o t a h r.again r.is in
      let n = named other q u b k s.that s.is in
      ap₂ (λ (p : List ℕ) (ps : List (List ℕ)). p ∷ ps)
      (same_made loop other t u r.again s.that (step_of loop o).identifier (step_of other q).identifier (reading_of loop o).beside (reading_of other q).beside m.1 n.1 r.same m.0 n.0)
      (cut_one i j hs ks ss)

-- ---- descriptors that are written, joined and read

-- each piece is read as what was handed in
abbrev Reads : List (List ℕ) → List Given → Type 0
Reads ts gs = Pairs (λ (t : List ℕ) (g : Given). ReadAs t g.descriptor g.identifier g.beside g.lent) ts gs

items_back : (loop : List ℕ) (fits : length loop ≤ 4076) {offset : ℕ} {ts : List (List ℕ)} {xs : List Listed} {gs : List Given} → Items loop fits offset ts xs → Reads ts gs → Pairs (ItemBack loop) xs gs
items_back loop fits end over = over
items_back loop fits (item {offset = o} {t = t} a i) (pair {y = g} r rs) = pair (given_at loop o t a g r) (items_back loop fits i rs)

-- descriptors that are handed in, and the bytes that are written of each
given_cut : {gs : List Given} {bs : List (List ℕ)} → All (λ (g : Given). Handed g.descriptor g.identifier g.beside g.lent) gs → Pairs (λ (g : Given) (b : List ℕ). given_made g ≡ made b) gs bs → All Canonical bs × Reads bs gs
given_cut none over = (none, over)
given_cut (more {x = g} h hs) (pair {y = t} e es) =
    let i = given_cut hs es in
    let r = descriptor_write_read g.descriptor g.identifier g.beside g.lent t h e in
    (more r.1 i.0, pair r.0 i.1)

pub given_write_read : {gs : List Given} {bs : List (List ℕ)} → All (λ (g : Given). Handed g.descriptor g.identifier g.beside g.lent) gs → length (joined bs) ≤ 4076 → Pairs (λ (g : Given) (b : List ℕ). given_made g ≡ made b) gs bs
    → (canonical_loop (joined bs) ≡ true) × Pairs (ItemBack (joined bs)) (items_of (joined bs)) gs
given_write_read {gs} {bs} hs fits es =
    let c = given_cut hs es in
    (cut_canonical c.0, items_back (joined bs) fits (items_cut (joined bs) fits c.0 refl) c.1)
