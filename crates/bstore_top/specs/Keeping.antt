-- What a run on a store leaves of its device and of its book, whatever happened on the way.
use Rattle.std.specs.Prelude.{◌≡◌, ℕ, ◌≤◌, false, List, length, Some, IfSome}
use Rattle.std.specs.List.{AllByRecursion}
use Rattle.block_device.specs.Prelude.{Disk, History, IsFresh}
use Rattle.object_model.specs.Prelude.{IsLegal, Objects}
use Rattle.object_model.specs.declared.book.Book.{Book}
use Rattle.object_model.specs.declared.book.Commit.{Commit}
use Rattle.store_image.specs.Prelude.{StandsFor, EachCutStands}
use Rattle.run_texts.specs.declared.work_end.WorkEnd.{WorkEnd}
use Rattle.run_texts.specs.declared.work_end.WorkEnd.TheVariants.{Done}
use Rattle.run_texts.specs.Prelude.{has_csum}
use Rattle.bstore_top.specs.Standing.{IsFinished, IsComplete}

-- each acknowledgement came when the log had at most so many events
abbrev pub AreAckedWithin : ℕ → List Commit → Type 0
AreAckedWithin events commits = AllByRecursion (λ c. IfSome c.acked_at (λ n. n ≤ events)) commits

-- Prefix durability of a run. The device tells a log that began with these contents, and each acknowledgement came at some length of it. At every
-- cut of it, whatever image the crash allows stands for the objects after the first commits of the book, among which is each one acknowledged by
-- then, unless something torn is valid by chance.
pub record IsDurableFrom (contents : List ℕ) (objects : Objects) (book : Book) (disk : Disk) : Type 0 where
  pub history : History
  pub told : disk.history ≡ Some history
  pub started : history.start ≡ contents
  pub by_now : AreAckedWithin (length history.log) book.commits
  pub cuts : EachCutStands 0 history objects book

-- so it is for whatever objects the contents of the given device stood for, where it tells them
abbrev pub StaysDurable : Disk → Book → Disk → Type 0
StaysDurable given book disk = (h : History) (objects : Objects) → given.history ≡ Some h → StandsFor h.start objects
    → IsDurableFrom h.start objects book disk

-- where the run has done all that there was to do, the device stands for just that
abbrev pub StandsAtEnd : Disk → WorkEnd → Book → Disk → Type 0
StandsAtEnd given end book disk = (free : ℕ) (h : History) (objects : Objects) → end ≡ Done free → given.history ≡ Some h
    → StandsFor h.start objects → (after : History) × (disk.history ≡ Some after) × IsFinished objects free book after

-- Each transaction that was accepted is committed and acknowledged, and a device that was given fresh stands for just what they made.
pub record LeavesAll (given : Disk) (free : ℕ) (book : Book) (disk : Disk) : Type 0 where
  pub complete : IsComplete book
  pub at_end : IsFresh given → (h : History) (objects : Objects) → given.history ≡ Some h → StandsFor h.start objects
      → (after : History) × (disk.history ≡ Some after) × IsFinished objects free book after

-- Each command has the answer that plain objects give, for those that the contents of the given device stood for where it tells them, and so no
-- reply names a bad unit; each collection's were committed in their order, and the device keeps them. Where all was done each accepted one is committed.
pub record KeepsStore (given : Disk) (end : WorkEnd) (book : Book) (disk : Disk) : Type 0 where
  pub legal : (h : History) (objects : Objects) → given.history ≡ Some h → StandsFor h.start objects → IsLegal objects book
  pub no_csum : (h : History) (objects : Objects) → given.history ≡ Some h → StandsFor h.start objects → has_csum book.entries ≡ false
  pub durable : StaysDurable given book disk
  pub at_end : StandsAtEnd given end book disk
  pub complete : (free : ℕ) → end ≡ Done free → IsComplete book
