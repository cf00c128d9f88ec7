-- A segmentation descriptor, its UPID as written, as a structure: what is written of it is read again, and the other way round.
use Prim.Native.Nat.{ℕ, ◌+◌, ◌*◌, ◌-◌, ◌/◌}
use mathlib.Core.Bool.{Bool, true, false}
use mathlib.Core.List.{List, [], ◌∷◌}
use mathlib.Core.Path.{◌≡◌, refl}
use native.Mathlib.Omega.{arith}
use lib.ListN.{length}
use Rattle.names.specs.Flags.{restrictions_bits, restrictions_of}
use Rattle.names.specs.Segmentation.{writable_segmentation}
use Rattle.names.specs.declared.flags.DeviceRestrictions.{DeviceRestrictions}
use Rattle.names.proofs.Segmentations.{segmentation_laws}
use Rattle.table.specs.Table.{list}
use Rattle.table.proofs.Leading.{Leads, leads_in, leads_done, leads_number, leads_flag, leads_ones, leads_part, leads_remaining, leads_list, total}
use Rattle.table.proofs.Lists.{zero_one, and_true}
use Rattle.table.proofs.Structure as laws
use Rattle.table.proofs.Telling.{Each}
use Rattle.descriptor.specs.Segmentation.{device_of, delivery_restrictions, component, blank_component, count_of, mode, mode_size, duration, duration_size, written_upid, ListedFront, parts, front, sub_bytes, sub_segments, back, Head, head, front_of, back_of, active_from, Segmentation, segmentation, agrees, by_program, lasting, unrestricted, writable_front, writable_detail}
use Rattle.descriptor.specs.declared.back.Back.{Back}
use Rattle.descriptor.specs.declared.front.Front.{Front}
use Rattle.descriptor.specs.declared.segmentation.SegmentationComponent.{SegmentationComponent}
use Rattle.descriptor.specs.declared.segmentation.DescriptorDetail.{DescriptorDetail}
use Rattle.descriptor.specs.declared.segmentation.DescriptorDetail.TheVariants.{Cancel, Active}
use Rattle.descriptor.specs.declared.segmentation.SegmentationMode.{SegmentationMode}
use Rattle.descriptor.specs.declared.segmentation.SegmentationUpid.{SegmentationUpid}
use Rattle.descriptor.proofs.SegmentationTells.{segmentation_tells}
use Rattle.descriptor.proofs.Structures.{RoundTrips, round_trips}
use Rattle.std.proofs.Common.{Some, None, Option}
use Rattle.descriptor.specs.declared.segmentation.DeliveryRestrictions.{DeliveryRestrictions}
use Rattle.descriptor.specs.declared.segmentation.SubSegment.{SubSegment}

-- ---- each part's own fields lead to it
device_back : (d : DeviceRestrictions) → device_of (restrictions_bits d) ≡ d
unfolding device_of restrictions_of
device_back DeviceRestrictions.RestrictGroup0 = refl
device_back DeviceRestrictions.RestrictGroup1 = refl
device_back DeviceRestrictions.RestrictGroup2 = refl
device_back DeviceRestrictions.None = refl

delivery_leads : (x : Option DeliveryRestrictions) (at m : ℕ) → Leads (delivery_restrictions (unrestricted x)) x x at (at + 5) m
unfolding delivery_restrictions
delivery_leads None at m = leads_ones 5 _ _ _ at _ m (leads_done None _ _ _ _ m refl refl)
delivery_leads (Some r) at m =
    leads_flag _ _ _ _ at _ m
    (leads_flag _ _ _ _ (at + 1) _ m
    (leads_flag _ _ _ _ (at + 1 + 1) _ m
    (leads_number 2 _ _ _ _ (at + 1 + 1 + 1) _ m
    (leads_done (Some r) _ _ _ _ m (rw (device_back r.device_restrictions)) (omega arith)))))

component_leads : (x : SegmentationComponent) (at m : ℕ) → Leads component x x at (at + 48) m
unfolding component
component_leads x at m =
    leads_number 8 _ _ _ _ at _ m
    (leads_ones 7 _ _ _ (at + 8) _ m
    (leads_number 33 _ _ _ _ (at + 8 + 7) _ m
    (leads_done x _ _ _ _ m refl (omega arith))))

components_lead : (cs : List SegmentationComponent) (at m : ℕ) → Leads (list (length cs) blank_component component) cs cs at (at + length cs * 48) m
components_lead cs at m = rw (all cs) at (leads_list blank_component component (λ y. 48) cs (each cs) at m)
  where
    each : (cs : List SegmentationComponent) → Each (λ y. (at m : ℕ) → Leads component y y at (at + 48) m) cs
    each [] = tt
    each (c ∷ cs) = (component_leads c, each cs)

    all : (cs : List SegmentationComponent) → total (λ (y : SegmentationComponent). 48) cs ≡ length cs * 48
    all [] = refl
    all (c ∷ cs) = let z = all cs in omega arith

mode_leads : (k : SegmentationMode) (cs : List SegmentationComponent) (at m : ℕ) → length cs ≡ count_of k
    → Leads (mode (by_program k)) (record { mode = k; components = cs }) (record { mode = k; components = cs }) at (at + mode_size k * 8) m
unfolding mode
mode_leads SegmentationMode.Program [] at m e = leads_done (record { mode = SegmentationMode.Program; components = [] }) _ _ _ _ m refl (omega arith)
mode_leads SegmentationMode.Program (c ∷ cs) at m e = absurd (omega arith)
mode_leads (SegmentationMode.Component n) cs at m e =
    rw (← e)
    (leads_number 8 _ _ _ _ at _ m
    (leads_in (list (length cs) blank_component component) _ _ _ _ cs (at + 8) (at + 8 + length cs * 48) _ m
    (components_lead cs (at + 8) _)
    (leads_done (record { mode = SegmentationMode.Component (length cs); components = cs }) _ _ _ _ m refl (omega arith))))

duration_leads : (x : Option ℕ) (at m : ℕ) → Leads (duration (lasting x)) x x at (at + duration_size x * 8) m
unfolding duration
duration_leads None at m = leads_done None _ _ _ _ m refl (omega arith)
duration_leads (Some t) at m = leads_number 40 _ _ _ _ at _ m (leads_done (Some t) _ _ _ _ m refl (omega arith))

-- a UPID at a new place
abbrev pub upid_at : ℕ → SegmentationUpid → SegmentationUpid
upid_at at u = record { upid_type = u.upid_type; bytes = record { at = at; len = u.bytes.len } }

upid_leads : (u : SegmentationUpid) (at m : ℕ) → Leads written_upid u (upid_at ((at + 8 + 8) / 8) u) at (at + (2 + u.bytes.len) * 8) m
unfolding written_upid
upid_leads u at m =
    leads_number 8 _ _ _ _ at _ m
    (leads_number 8 _ _ _ _ (at + 8) _ m
    (leads_part u.bytes.len _ _ _ _ (at + 8 + 8) _ m
    (leads_done u _ _ _ _ m refl (omega arith))))

sub_leads : (x : Option SubSegment) (at m : ℕ) → m ≡ 0 → Leads sub_segments x x at (at + sub_bytes x * 8) m
unfolding sub_segments
sub_leads None at m e = leads_remaining _ _ _ _ at _ m (let z : 0 ≡ (at + 0 * 8 + m - at) / 8 = omega arith in z) (leads_done None _ _ _ _ m refl (omega arith))
sub_leads (Some x) at m e =
    leads_remaining _ _ _ _ at _ m (let z : 2 ≡ (at + 2 * 8 + m - at) / 8 = omega arith in z)
    (leads_number 8 _ _ _ _ at _ m
    (leads_number 8 _ _ _ _ (at + 8) _ m
    (leads_done (Some x) _ _ _ _ m refl (omega arith))))

back_leads : (x : Back) (at m : ℕ) → writable_segmentation x.segmentation_type_id ≡ true → m ≡ 0 → Leads back x x at (at + (3 + sub_bytes x.sub_segments) * 8) m
unfolding back
back_leads x at m f e =
    leads_number 8 _ _ _ _ at _ m
    (leads_number 8 _ _ _ _ (at + 8) _ m
    (leads_number 8 _ _ _ _ (at + 8 + 8) _ m
    (leads_in sub_segments _ _ _ _ x.sub_segments (at + 8 + 8 + 8) (at + 8 + 8 + 8 + sub_bytes x.sub_segments * 8) _ m
    (sub_leads x.sub_segments (at + 8 + 8 + 8) _ (omega arith))
    (leads_done x _ _ _ _ m (rw (segmentation_laws.back x.segmentation_type_id f)) (omega arith)))))

head_leads : (h : Head) (m : ℕ) → Leads head h h 0 40 m
unfolding head
head_leads h m = leads_number 32 _ _ _ _ 0 40 m (leads_flag _ _ _ _ 32 40 m (leads_ones 7 _ _ _ 33 40 m (leads_done h _ _ _ _ m refl refl)))

agreed : (a b : Bool) → agrees a b ≡ true → a ≡ b
agreed true true e = refl
agreed true false e = zero_one cc
agreed false true e = zero_one cc
agreed false false e = refl

-- where the UPID's bytes are written, and the bytes up to them
abbrev pub upid_place : Front → ℕ
upid_place f = 8 + mode_size f.segmentation_mode + duration_size f.segmentation_duration

abbrev pub front_moved : Front → Front
front_moved f = record {
  program_segmentation_flag = f.program_segmentation_flag;
  segmentation_duration_flag = f.segmentation_duration_flag;
  delivery_not_restricted_flag = f.delivery_not_restricted_flag;
  delivery_restrictions = f.delivery_restrictions;
  segmentation_mode = f.segmentation_mode;
  segmentation_duration = f.segmentation_duration;
  segmentation_upid = upid_at (upid_place f) f.segmentation_upid;
}

abbrev pub front_bytes : Front → ℕ
front_bytes f = upid_place f + f.segmentation_upid.bytes.len

module _ (x : ListedFront) (m : ℕ) (fits : length x.components ≡ count_of x.front.segmentation_mode) where
  -- with flags that agree with their parts
  parts_lead : (p l f : Bool) → p ≡ by_program x.front.segmentation_mode → l ≡ lasting x.front.segmentation_duration → f ≡ unrestricted x.front.delivery_restrictions
      → Leads (parts (by_program x.front.segmentation_mode) (lasting x.front.segmentation_duration) (unrestricted x.front.delivery_restrictions)) x (record {
        front = front_moved (record {
          program_segmentation_flag = p;
          segmentation_duration_flag = l;
          delivery_not_restricted_flag = f;
          delivery_restrictions = x.front.delivery_restrictions;
          segmentation_mode = x.front.segmentation_mode;
          segmentation_duration = x.front.segmentation_duration;
          segmentation_upid = x.front.segmentation_upid;
        });
        components = x.components;
      }) 43 (front_bytes x.front * 8) m
  unfolding parts
  parts_lead p l f ep el ef =
      let modes = mode_size x.front.segmentation_mode in
      let lasts = duration_size x.front.segmentation_duration in
      let at = 48 + modes * 8 + lasts * 8 in
      let z : (at + 8 + 8) / 8 ≡ 8 + modes + lasts = omega arith in
      rw (ep, el, ef)
      (leads_in (delivery_restrictions (unrestricted x.front.delivery_restrictions)) _ _ _ _ x.front.delivery_restrictions 43 48 _ m
      (delivery_leads x.front.delivery_restrictions 43 _)
      (leads_in (mode (by_program x.front.segmentation_mode)) _ _ _ _ (record { mode = x.front.segmentation_mode; components = x.components }) 48 (48 + modes * 8) _ m
      (mode_leads x.front.segmentation_mode x.components 48 _ fits)
      (leads_in (duration (lasting x.front.segmentation_duration)) _ _ _ _ x.front.segmentation_duration (48 + modes * 8) at _ m
      (duration_leads x.front.segmentation_duration (48 + modes * 8) _)
      (leads_in written_upid _ _ _ _ (upid_at ((at + 8 + 8) / 8) x.front.segmentation_upid) at (at + (2 + x.front.segmentation_upid.bytes.len) * 8) _ m
      (upid_leads x.front.segmentation_upid at _)
      (leads_done x _ _ _ _ m (rw z) (omega arith))))))

  front_lead : writable_front x.front ≡ true → Leads front x (record { front = front_moved x.front; components = x.components }) 40 (front_bytes x.front * 8) m
  unfolding front writable_front
  front_lead f =
      let a = and_true (agrees x.front.program_segmentation_flag (by_program x.front.segmentation_mode)) _ f in
      let b = and_true (agrees x.front.segmentation_duration_flag (lasting x.front.segmentation_duration)) _ a.1 in
      leads_flag _ _ _ _ 40 _ m
      (leads_flag _ _ _ _ 41 _ m
      (leads_flag _ _ _ _ 42 _ m
      (parts_lead x.front.program_segmentation_flag x.front.segmentation_duration_flag x.front.delivery_not_restricted_flag (agreed _ _ a.0) (agreed _ _ b.0) (agreed _ _ b.1))))

-- ---- the structure
abbrev pub detail_moved : DescriptorDetail → DescriptorDetail
detail_moved Cancel = Cancel
detail_moved (Active i) = Active (active_from (front_moved (front_of (Active i))) (upid_at (upid_place (front_of (Active i))) i.segmentation_upid) (back_of (Active i)))

abbrev pub segmentation_moved : Segmentation → Segmentation
segmentation_moved x = record {
  descriptor = record { segmentation_event_id = x.descriptor.segmentation_event_id; descriptor_detail = detail_moved x.descriptor.descriptor_detail };
  components = x.components;
}

abbrev pub detail_bytes : DescriptorDetail → ℕ
detail_bytes Cancel = 5
detail_bytes (Active i) = front_bytes (front_of (Active i)) + (3 + sub_bytes i.sub_segments)

-- as many components as the count says
abbrev pub Counted : Segmentation → Type 0
Counted x = length x.components ≡ count_of (front_of x.descriptor.descriptor_detail).segmentation_mode

segmentation_leads : (event : ℕ) (d : DescriptorDetail) (cs : List SegmentationComponent) (m : ℕ) → length cs ≡ count_of (front_of d).segmentation_mode → writable_detail d ≡ true → m ≡ 0
    → (let x : Segmentation = record { descriptor = record { segmentation_event_id = event; descriptor_detail = d }; components = cs } in
    Leads segmentation x (segmentation_moved x) 0 (detail_bytes d * 8) m)
unfolding segmentation writable_detail
segmentation_leads event Cancel [] m h f e =
    leads_in head _ _ _ _ (record { event = event; cancel = true }) 0 40 40 m (head_leads _ _) (leads_done (record { descriptor = record { segmentation_event_id = event; descriptor_detail = Cancel }; components = [] }) _ _ _ _ m refl refl)
segmentation_leads event Cancel (c ∷ cs) m h f e = absurd (omega arith)
segmentation_leads event (Active i) cs m h f e =
    let a = and_true (writable_front (front_of (Active i))) _ f in
    let x : ListedFront = record { front = front_of (Active i); components = cs } in
    leads_in head _ _ _ _ (record { event = event; cancel = false }) 0 40 _ m (head_leads _ _)
    (leads_in front _ _ _ _ (record { front = front_moved (front_of (Active i)); components = cs }) 40 (front_bytes (front_of (Active i)) * 8) _ m
    (front_lead x _ h a.0)
    (leads_in back _ _ _ _ (back_of (Active i)) (front_bytes (front_of (Active i)) * 8) (front_bytes (front_of (Active i)) * 8 + (3 + sub_bytes i.sub_segments) * 8) _ m
    (back_leads (back_of (Active i)) (front_bytes (front_of (Active i)) * 8) _ a.1 (omega arith))
    (leads_done (record { descriptor = record { segmentation_event_id = event; descriptor_detail = Active i }; components = cs }) _ _ _ _ m refl (omega arith))))

pub segmentation_ends : (x : Segmentation) (m : ℕ) → Counted x → writable_detail x.descriptor.descriptor_detail ≡ true → m ≡ 0
    → Leads segmentation x (segmentation_moved x) 0 (detail_bytes x.descriptor.descriptor_detail * 8) m
segmentation_ends x m h f e = segmentation_leads x.descriptor.segmentation_event_id x.descriptor.descriptor_detail x.components m h f e

abbrev pub segmentation_structure : laws.Structure segmentation
segmentation_structure = record {
  writable = λ x. writable_detail x.descriptor.descriptor_detail;
  size = λ x. detail_bytes x.descriptor.descriptor_detail;
  moved = segmentation_moved;
  Shape = Counted;
  After = λ m. m ≡ 0;
  none = refl;
  tells = segmentation_tells;
  ends = segmentation_ends;
}

pub segmentation_trips : RoundTrips segmentation segmentation_structure
segmentation_trips = round_trips segmentation segmentation_structure
