-- What a run of `step` has done that returns 0.
use Rattle.std.specs.Prelude.{◌≡◌, ℕ, false, List, [], map, Some, IfSome}
use Rattle.std.specs.FinMap as finite
use Rattle.block_device.specs.Prelude.{Disk, History}
use Rattle.end_points.specs.Bay.{Names, BayView}
use Rattle.object_model.specs.Prelude.{Objects, IsLegal}
use Rattle.object_model.specs.declared.book.Book.{Book}
use Rattle.object_model.specs.declared.book.Entry.{Entry}
use Rattle.store_image.specs.Prelude.{StandsFor}
use Rattle.script_text.specs.declared.line.Line.{Line}
use Rattle.run_texts.specs.declared.work_end.WorkEnd.TheVariants.{Done}
use Rattle.run_texts.specs.Prelude.{Output, TookAll, has_csum, step_text}
use Rattle.bstore_top.specs.Standing.{IsFinished, IsComplete}
use Rattle.script_reading.specs.Prelude.{HaveScripts}
use Rattle.client_runs.specs.Prelude.{asks_of, AreAsked}
use Rattle.bstore_top.specs.StepRun.{RunsScripts, Seen}

-- the device tells a history, and the run has finished on it
pub record TellsFinished (objects : Objects) (free : ℕ) (book : Book) (disk : Disk) : Type 0 where
  pub history : History
  pub told : disk.history ≡ Some history
  pub legal : IsLegal objects book
  pub finished : IsFinished objects free book history

-- so it is for all objects that what stands under the device's name stands for
abbrev pub FinishesOn : List ℕ → ℕ → Book → Disk → Names → Type 0
FinishesOn dev free book disk names = (contents : List ℕ) (objects : Objects) → finite.get names.devices dev ≡ Some contents
    → StandsFor contents objects → TellsFinished objects free book disk

-- the entries are all commands of the scripts, each client's in their order
abbrev pub AreAllAsked : List (List Line) → List Entry → Type 0
AreAllAsked scripts entries = AreAsked (map asks_of scripts) entries (map (λ lines. []) scripts)

-- All commands of all scripts have their entries in the book, which is complete, and no reply names a bad unit. The run behind it says what was
-- found on the device, and that the book is legal, but for the bytes that reads gave, for all objects that the rows stand for. The text says how
-- many units are free, and where the bay tells what stands under its names the device tells that the run has finished on it.
pub record Succeeded (dev : List ℕ) (files : List (List ℕ)) (seed : ℕ) (seen : Seen) (bay : BayView) (old new : Output) : Type 0 where
  pub scripts : List (List Line)
  pub lines : HaveScripts bay.names files scripts
  pub all : AreAllAsked scripts seen.book.entries
  pub complete : IsComplete seen.book
  pub no_csum : has_csum seen.book.entries ≡ false
  pub free : ℕ
  pub printed : TookAll (step_text seen.book (Done free)) old new
  pub given : Disk
  pub disk : Disk
  pub is_disk : seen.disk ≡ Some disk
  pub ran : RunsScripts seed scripts given (Done free) seen.book disk
  pub finished : IfSome bay.names (FinishesOn dev free seen.book disk)
