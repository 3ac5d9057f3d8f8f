-- Blobs that pages left.
use Rattle.std.specs.Prelude.{◌≡◌, ◌↔◌, ℕ, ◌<◌, ◌^◌, List, [], ◌∷◌, Option, Some, None, Contains}
use Rattle.std.specs.FinMap as finite
use Rattle.byte_maps.specs.ByteMap.{ByteMap}
use Rattle.unit_fields.specs.declared.width.Width.{Width}
use Rattle.meta_rows.specs.Prelude.{Rows}
use Rattle.row_format.specs.Prelude.{shared_key}
use Rattle.plan_rows.specs.declared.plan.SlotNo.{SlotNo}
use Rattle.plan_rows.specs.Prelude.{indexes_of, IsKeyOfSlot, IsFreed}
use Rattle.shared_blobs.specs.Blob.{Blob, blob_now, HasUnits}
use Rattle.shared_blobs.specs.declared.lowering.Lowered.{Lowered}

-- the blob of a row where pages have left these of its slots; none where they left none
abbrev pub blob_left : Width → Option (List ℕ) → List ℕ → Option Blob
blob_left w value [] = None
blob_left w value (k ∷ ks) = blob_now w value (k ∷ ks)

-- all units of these blobs have numbers that fit their field
abbrev pub HaveUnits : ByteMap Blob → Type 0
HaveUnits blobs = (key : List ℕ) (b : Blob) → finite.get blobs key ≡ Some b → HasUnits b

-- A page has left each of these slots: just their blobs are there, as they are then, and the units of the slots that no page names any more.
pub record AreLowered (w : Width) (rows : Rows) (left : List SlotNo) (lowered : Lowered) : Type 0 where
  pub of_slots : (key : List ℕ) (b : Blob) → finite.get lowered.blobs key ≡ Some b → IsKeyOfSlot left key
  pub blobs : (sbid : ℕ) → sbid < 2 ^ 64
      → finite.get lowered.blobs (shared_key sbid) ≡ blob_left w (finite.get rows (shared_key sbid)) (indexes_of sbid left)
  pub freed : (unit : ℕ) → Contains lowered.freed.items unit ↔ IsFreed w rows left unit
