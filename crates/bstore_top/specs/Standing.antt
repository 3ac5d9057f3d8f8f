-- What a device and a book hold where all that there was to do is done.
use Rattle.std.specs.Prelude.{◌≡◌, ◌↔◌, ℕ, List, length, Contains}
use Rattle.unit_fields.specs.Prelude.{Ascends}
use Rattle.block_device.specs.Prelude.{last, IsClean, History}
use Rattle.object_model.specs.Prelude.{Objects, replay, accepted, acked_count, entry_places, committed_places}
use Rattle.object_model.specs.declared.book.Book.{Book}
use Rattle.meta_rows.specs.Prelude.{Rows}
use Rattle.meta_log.specs.declared.slot.Super.{Super}
use Rattle.meta_log.specs.Prelude.{AreRowsOf, IsActiveSlot}
use Rattle.store_image.specs.Prelude.{IsDataUnit, IsMarked, StandsFor, StaysExact}

-- These are the data units whose bits are 0.
pub record AreUnmarked (sup : Super) (rows : Rows) (units : List ℕ) : Type 0 where
  pub ascend : Ascends units
  pub each : (unit : ℕ) → Contains units unit ↔ (IsDataUnit sup unit × ¬ IsMarked rows unit)

-- So many data units are free, by the rows that the records of the active half make.
pub record HasFree (contents : List ℕ) (free : ℕ) : Type 0 where
  pub sup : Super
  pub active : IsActiveSlot contents sup
  pub rows : Rows
  pub read : AreRowsOf contents sup rows
  pub units : List ℕ
  pub unmarked : AreUnmarked sup rows units
  pub count : free ≡ length units

-- The device stands for what these objects are after all transactions of the book that were accepted, its bitmap is as exact as that of the
-- contents in the beginning, no unit is dirty, and so many are free.
pub record IsFinished (objects : Objects) (free : ℕ) (book : Book) (h : History) : Type 0 where
  pub stands : StandsFor (last h.start h.log) (replay objects (accepted book.entries))
  pub exact : StaysExact h.start (last h.start h.log)
  pub clean : (unit : ℕ) → IsClean h.log unit
  pub has_free : HasFree (last h.start h.log) free

-- each accepted transaction is committed, those of a collection in their order, and each commit is acknowledged
pub record IsComplete (book : Book) : Type 0 where
  pub in_order : (coll : List ℕ) → entry_places coll book.entries ≡ committed_places coll book.entries book.commits
  pub acked : acked_count book.commits ≡ length book.commits
