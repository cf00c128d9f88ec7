-- Rows a to g of document 01, "Worked rows", the loop of its `looplist`, and a full reading, over the public definitions.
use Prim.Native.Nat.{ℕ}
use mathlib.Core.List.{List, [], ◌∷◌, map}
use mathlib.Core.Path.{◌≡◌, refl}
use lib.ListN.{replicate}
use Rattle.table.specs.Lent.{viewed}
use Rattle.table.specs.Table.{number, bit, reserved, part, remaining, list}
use Rattle.upid.specs.Upid as upid
use Rattle.descriptor.specs.Descriptor.{descriptor_of, is_cuei, avail_of, dtmf_of, segmentation_of, active_of, active_with, reserved_of}
use Rattle.descriptor.specs.Plain.{avail, dtmf, private_table}
use Rattle.descriptor.specs.Segmentation.{blank_component, delivery_restrictions, component, mode, duration, written_upid, parts, front, sub_segments, back, head, segmentation}
use Rattle.descriptor.specs.Full.{filled, beside_in, beside_of}
use Rattle.descriptor.specs.declared.Descriptor.{Descriptor}
use Rattle.descriptor.specs.declared.Descriptor.TheVariants.{Avail, Dtmf, Reserved}
use Rattle.descriptor_loop.specs.Items.{number_of, values_of, read_at, complete_at, step_of, reading_of, Listed, items_from, items_of}
use Rattle.descriptor_loop.specs.Place.{view_of}
use Rattle.std.proofs.Common.{Ok, Err, Some, None, Option, Result}
use Rattle.descriptor_loop.specs.declared.ItemRefusal.{ItemRefusal}

-- an item in document 01's terms: offset, bytes used, and a refusal's number with its values, or a descriptor with the identifier beside it and the bytes of its view
pub data Told : Type 0 where
  ended : Told
  refused : ℕ → ℕ → ℕ → List ℕ → Told
  read : ℕ → ℕ → Descriptor → List ℕ → List ℕ → Told

abbrev pub tells : List ℕ → ℕ → ℕ → List ℕ → Option (Result Descriptor ItemRefusal) → Told
tells loop offset used id None = ended
tells loop offset used id (Some (Err r)) = refused offset used (number_of r) (values_of r)
tells loop offset used id (Some (Ok d)) = read offset used d id (viewed loop (view_of (Some (Ok d))))

abbrev pub told : List ℕ → Listed → Told
told loop x = tells loop x.offset x.used x.step.identifier x.step.item

-- "C is 43 55 45 49"
abbrev C : List ℕ → List ℕ
C rest = 0x43 ∷ 0x55 ∷ 0x45 ∷ 0x49 ∷ rest

pub record Row : Type 0 where
  pub loop : List ℕ
  pub items : List Told

unfoldable pub rows : List Row
rows =
    -- a
    record { loop = []; items = [] }
    -- b
    ∷ record { loop = 0x00 ∷ 0x04 ∷ C []; items = refused 0 6 21 (4 ∷ 0 ∷ []) ∷ [] }
    -- c
    ∷ record { loop = 0x00 ∷ 0x03 ∷ C []; items = refused 0 5 21 (6 ∷ 5 ∷ []) ∷ refused 5 1 21 (2 ∷ 0 ∷ []) ∷ [] }
    -- d
    ∷ record { loop = 9 ∷ 254 ∷ C (replicate 250 0); items = read 0 256 (Reserved 9 (record { at = 6; len = 250 })) (C []) (replicate 250 0) ∷ [] }
    -- e
    ∷ record { loop = 9 ∷ 255 ∷ C (replicate 251 0); items = refused 0 257 22 [] ∷ [] }
    -- f
    ∷ record { loop = 9 ∷ 255 ∷ C (replicate 250 0); items = refused 0 256 21 (257 ∷ 0 ∷ []) ∷ [] }
    -- g
    ∷ record {
      loop = 0x01 ∷ 0x07 ∷ C (0xB1 ∷ 0x3F ∷ 0x34 ∷ []);
      items = read 0 9 (Dtmf (record { preroll = 177; dtmf_chars = record { at = 8; len = 1 } })) (0 ∷ 0 ∷ 0 ∷ 0 ∷ []) (0x34 ∷ []) ∷ [];
    }
    -- the example of `looplist`
    ∷ record {
      loop = 0x00 ∷ 0x08 ∷ C (0x00 ∷ 0x00 ∷ 0x01 ∷ 0x35 ∷ 0x05 ∷ 0x02 ∷ 0xAA ∷ 0xBB ∷ 0x09 ∷ 0x00 ∷ 0x00 ∷ []);
      items = read 0 10 (Avail (record { provider_avail_id = 309 })) (0 ∷ 0 ∷ 0 ∷ 0 ∷ []) [] ∷ refused 10 4 21 (6 ∷ 4 ∷ []) ∷ refused 14 3 21 (2 ∷ 0 ∷ []) ∷ [];
    }
    ∷ []

pub data Hold : List Row → Type 0 where
  none : Hold []
  more : {r : Row} {rs : List Row} → map (told r.loop) (items_of r.loop) ≡ r.items → Hold rs → Hold (r ∷ rs)

pub rows_hold : Hold rows
unfolding rows items_of items_from step_of complete_at read_at number_of values_of upid.number_of upid.values_of descriptor_of is_cuei avail_of dtmf_of reserved_of avail dtmf private_table number reserved part remaining viewed
rows_hold = more refl (more refl (more refl (more refl (more refl (more refl (more refl (more refl none)))))))

-- ---- beside a segmentation descriptor: its one component, tag 5 and offset 7, then blanks; and the 12 bytes of its EIDR
pub row_beside : (reading_of (0x02 ∷ 0x22 ∷ C (0 ∷ 0 ∷ 0 ∷ 0x2A ∷ 0x7F ∷ 0x3F ∷ 1 ∷ 5 ∷ 0xFE ∷ 0 ∷ 0 ∷ 0 ∷ 7
    ∷ 0x0A ∷ 12 ∷ 1 ∷ 2 ∷ 3 ∷ 4 ∷ 5 ∷ 6 ∷ 7 ∷ 8 ∷ 9 ∷ 10 ∷ 11 ∷ 12 ∷ 0x10 ∷ 1 ∷ 1 ∷ [])) 0).beside
    ≡ record {
      components = record { component_tag = 5; pts_offset = 7 } ∷ replicate 254 blank_component;
      eidr = 1 ∷ 2 ∷ 3 ∷ 4 ∷ 5 ∷ 6 ∷ 7 ∷ 8 ∷ 9 ∷ 10 ∷ 11 ∷ 12 ∷ [];
    }
unfolding reading_of step_of complete_at read_at descriptor_of is_cuei segmentation_of active_of active_with head front parts delivery_restrictions mode component duration written_upid back sub_segments segmentation number bit reserved part remaining list viewed upid.check_of upid.read_of upid.plain_of upid.length_of upid.is_text upid.reported_of beside_of beside_in filled upid.eidr_of
row_beside = refl
