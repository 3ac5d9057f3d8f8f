-- Prefix durability: what a crash at any cut of the device's log leaves.
use Rattle.std.specs.Prelude.{ℕ, ◌≤◌, List, length, take}
use Rattle.block_device.specs.Prelude.{last, IsClean, IsCrashImage, EachCut, History}
use Rattle.block_device.specs.declared.event.Event.{Event}
use Rattle.object_model.specs.declared.book.Book.{Book}
use Rattle.object_model.specs.Prelude.{Objects, replay, committed, HasAcked}
use Rattle.store_image.specs.Chance.{NoChanceMatch}
use Rattle.store_image.specs.Stands.{StandsFor}
use Rattle.store_image.specs.Exact.{StaysExact}

-- When the log had `base` events, no unit was dirty, and the contents stood for these objects.
pub record IsStart (base : ℕ) (h : History) (objects : Objects) : Type 0 where
  pub reached : base ≤ length h.log
  pub clean : (unit : ℕ) → IsClean (take base h.log) unit
  pub stands : StandsFor (last h.start (take base h.log)) objects

-- The image stands for the objects after the first `count` commits of the book, among which is each one acknowledged by the cut. Its bitmap is
-- as exact as that of the contents when the mount began.
pub record StandsForPrefix (base cut : ℕ) (contents : List ℕ) (objects : Objects) (book : Book) (image : List ℕ) : Type 0 where
  pub count : ℕ
  pub within : count ≤ length book.commits
  pub has_acked : HasAcked base cut book.commits count
  pub stands : StandsFor image (replay objects (committed book.entries (take count book.commits)))
  pub exact : StaysExact contents image

-- A crash after these events leaves such an image, unless something torn is valid by chance.
abbrev pub LeavesPrefix : ℕ → List ℕ → Objects → Book → List Event → Type 0
LeavesPrefix base start objects book log = (image : List ℕ) → IsCrashImage start log image → NoChanceMatch start log image
    → StandsForPrefix base (length log) (last start (take base log)) objects book image

-- Prefix durability: so it is at each cut since the log had `base` events.
abbrev pub EachCutStands : ℕ → History → Objects → Book → Type 0
EachCutStands base h objects book = EachCut base h.log (LeavesPrefix base h.start objects book)
