-- Equal readings. 01: "Equal readings means equal values and equal bytes in the views; the header's command length and type, the views' places and array places
-- past a count are left out."
use Rattle.std.specs.Prelude.{ℕ, List, map, [], ◌∷◌, ◌≡◌, take, Ok, Some}
use Rattle.table.specs.Lent.{placeless, viewed}
use Rattle.table.specs.declared.View.{View}
use Rattle.descriptor.specs.Views.{descriptor_views, with_views}
use Rattle.descriptor.specs.declared.Descriptor.{Descriptor}
use Rattle.descriptor.specs.declared.segmentation.SegmentationUpid.{SegmentationUpid}
use Rattle.descriptor.specs.declared.full.Beside.{Beside}
use Rattle.descriptor_loop.specs.Items.{reading_of, Listed, items_of}
use Rattle.command.specs.Command.{with_view, count_in, components_of}
use Rattle.command.specs.declared.SpliceCommand.{SpliceCommand}
use Rattle.section.specs.Section.{command_bytes, private_view, loop_in}
use Rattle.section.specs.declared.Section.{Section}
use Rattle.header.specs.declared.header.SpliceInfoHeader.{SpliceInfoHeader}
use Rattle.descriptor_measure.specs.Writing.{count_beside}

-- ---- descriptors

-- a UPID without its view's place, and a descriptor without its views' places: how many bytes a view has is a value, of a UPID that is held by value too
abbrev pub placeless_upid : SegmentationUpid → SegmentationUpid
placeless_upid u = record { upid_type = u.upid_type; bytes = placeless u.bytes }

abbrev pub without_places : Descriptor → Descriptor
without_places d = with_views placeless_upid placeless d

-- the bytes of each view
abbrev pub bytes_of_views : List ℕ → List View → List (List ℕ)
bytes_of_views s vs = map (viewed s) vs

-- d with its identifier and what stands beside it, whose views are of the bytes s, and e likewise of the bytes r
pub record SameReading (s : List ℕ) (d : Descriptor) (identifier : List ℕ) (beside : Beside) (r : List ℕ) (e : Descriptor) (other : List ℕ) (besides : Beside) : Type 0 where
  pub values : without_places d ≡ without_places e
  pub bytes : bytes_of_views s (descriptor_views d) ≡ bytes_of_views r (descriptor_views e)
  pub identifiers : identifier ≡ other
  pub components : take (count_beside d) beside.components ≡ take (count_beside e) besides.components
  pub eidrs : beside.eidr ≡ besides.eidr

-- ---- items of a loop

-- a descriptor that is handed in, with the bytes that its views refer to
pub record Given : Type 0 where
  pub descriptor : Descriptor
  pub identifier : List ℕ
  pub beside : Beside
  pub lent : List ℕ

-- the item x of the loop is a descriptor that is equal to what was handed in
pub record ItemBack (loop : List ℕ) (x : Listed) (g : Given) : Type 0 where
  pub again : Descriptor
  pub is : x.step.item ≡ Some (Ok again)
  pub same : SameReading loop again x.step.identifier (reading_of loop x.offset).beside g.lent g.descriptor g.identifier g.beside

-- the item x of one loop and the item y of another are descriptors with equal readings
pub record SameItem (loop other : List ℕ) (x y : Listed) : Type 0 where
  pub that : Descriptor
  pub is : y.step.item ≡ Some (Ok that)
  pub back : ItemBack loop x (record { descriptor = that; identifier = y.step.identifier; beside = (reading_of other y.offset).beside; lent = other })

-- R holds of two lists, one by one
pub data Pairs {A B : Type 0} (R : A → B → Type 0) : List A → List B → Type 0 where
  over : Pairs R [] []
  pair : {x : A} {y : B} {xs : List A} {ys : List B} → R x y → Pairs R xs ys → Pairs R (x ∷ xs) (y ∷ ys)

-- ---- sections

-- a command without its view's place
abbrev pub without_place : SpliceCommand → SpliceCommand
without_place c = with_view placeless c

-- headers: "the header's command length and type .. are left out"
pub record SameHeader (g h : SpliceInfoHeader) : Type 0 where
  pub version : g.protocol_version ≡ h.protocol_version
  pub encrypted : g.encrypted_packet ≡ h.encrypted_packet
  pub algorithm : g.encryption_algorithm ≡ h.encryption_algorithm
  pub adjustment : g.pts_adjustment ≡ h.pts_adjustment
  pub index : g.cw_index ≡ h.cw_index
  pub tiers : g.tier ≡ h.tier

-- x that is read of the bytes s, and y that is read of the bytes r
pub record SameSections (s : List ℕ) (x : Section) (r : List ℕ) (y : Section) : Type 0 where
  pub headers : SameHeader x.header y.header
  pub commands : without_place x.command ≡ without_place y.command
  -- as many as the command counts
  pub components : take (count_in x.command) (components_of (command_bytes s)) ≡ take (count_in y.command) (components_of (command_bytes r))
  pub bytes : viewed s (private_view x.command) ≡ viewed r (private_view y.command)
  -- of the loop: its items, in order
  pub items : Pairs (SameItem (loop_in s x) (loop_in r y)) (items_of (loop_in s x)) (items_of (loop_in r y))
