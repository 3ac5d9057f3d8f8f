-- Rows and units that stand for objects in whatever a crash leaves.
use Rattle.std.specs.Prelude.{ℕ}
use Rattle.block_device.specs.Prelude.{IsClean, History, last_at}
use Rattle.object_model.specs.Prelude.{Objects}
use Rattle.meta_rows.specs.Prelude.{Rows}
use Rattle.meta_log.specs.declared.slot.Super.{Super}
use Rattle.meta_log.specs.Prelude.{width_of}
use Rattle.store_image.specs.Prelude.{NoBadRow, HasPage, ObjectsStand}

-- The rows are good, they and the bytes last written stand for the objects, and no unit on which a page stands is dirty.
pub record SoundFor (h : History) (s : Super) (rows : Rows) (objects : Objects) : Type 0 where
  pub good : NoBadRow s rows
  pub stand : ObjectsStand (width_of s) (last_at h) rows objects
  pub clean : (unit : ℕ) → HasPage (width_of s) rows unit → IsClean h.log unit
