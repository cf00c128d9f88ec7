-- What the contracts of private functions say. No public contract cites this.
use Rattle.std.specs.Prelude.{ℕ, List, [], ◌∷◌, ◌≡◌, length, take, Result}
use Rattle.table.specs.Bits.{bytes_of}
use Rattle.table.specs.Writing.{Content, number, bytes, contents, print, refusal_in}
use Rattle.table.specs.declared.cursor.Cursor.{Cursor}
use Rattle.descriptor.specs.Segmentation.{component_count}
use Rattle.descriptor.specs.declared.segmentation.SegmentationComponent.{SegmentationComponent}
use Rattle.descriptor.specs.declared.segmentation.SegmentationDescriptor.{SegmentationDescriptor}
use Rattle.descriptor_measure.specs.Private.{components_fields}
use Rattle.descriptor_measure.specs.Writing.{cuei, enveloped_made, segmentation_made}
use Rattle.bit_stores.specs.Pen.{Pens}
use Rattle.bit_stores.specs.Private.{Fits}
use Rattle.descriptor_writer.specs.Stores.{Writes}

-- contents stored from a cursor on, where there is room for them
pub record Stores (target : List ℕ) (c : Cursor) (cs : List Content) (later : List ℕ) (next : Cursor) : Type 0 where
  pub stores : Fits target c (print cs) → Pens target c (print cs) later next

-- the target's first bit
abbrev pub start : Cursor
start = record { byte = 0; bit = 0 }

-- tag, length, identifier
abbrev pub envelope_contents : ℕ → ℕ → List ℕ → List Content
envelope_contents tag len identifier = number 8 tag ∷ (number 8 len ∷ (bytes identifier ∷ []))

-- components one behind the other, as bytes: they have no view
abbrev pub component_bytes : List SegmentationComponent → List ℕ
component_bytes cs = bytes_of (print (contents [] (components_fields cs)))

-- A segmentation descriptor that nothing of 31 to 33 refuses was written, with these bytes of its components: as the writer makes it of whatever identifier
-- and components that is.
pub record WritesTested (x : SegmentationDescriptor) (listed eidr lent target later : List ℕ) (r : Result ℕ ℕ) : Type 0 where
  pub writable : (identifier : List ℕ) (components : List SegmentationComponent) → length components ≡ 255
      → refusal_in (segmentation_made x identifier (record { components = components; eidr = eidr }) lent) ≡ 0
      → listed ≡ component_bytes (take (component_count x) components)
      → Writes (enveloped_made 2 cuei (segmentation_made x identifier (record { components = components; eidr = eidr }) lent)) target later r
