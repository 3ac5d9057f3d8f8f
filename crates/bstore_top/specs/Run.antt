-- What a run does.
use Rattle.std.specs.Prelude.{◌≡◌, ◌⊎◌, ℕ, ◌<◌, ◌≤◌, List, [], Option, Some, None, IsSomeAnd, IfSome}
use Rattle.std.specs.FinMap as map
use Rattle.block_device.specs.Prelude.{Disk, Rose}
use Rattle.end_points.specs.Bay.{BayView, HandedOut}
use Rattle.end_points.specs.declared.bay.How.{How}
use Rattle.end_points.specs.declared.bay.How.TheVariants.{Make, Plain}
use Rattle.log_replay.specs.Prelude.{Told, StopsAtFault, IsLater, units_needed, HoldsEmptyStore}
use Rattle.object_model.specs.Prelude.{Objects}
use Rattle.object_model.specs.declared.book.Book.{Book}
use Rattle.store_image.specs.Prelude.{StandsFor}
use Rattle.command_words.specs.declared.command_line.CommandLine.{CommandLine}
use Rattle.command_words.specs.declared.command_line.CommandLine.TheVariants.{Mkfs, Step, Dump, Fsck}
use Rattle.run_texts.specs.declared.status.Stop.{Stop}
use Rattle.run_texts.specs.declared.status.Stop.TheVariants.{BadScript, DeviceFault, Refused, OutOfMemory, BayFault}
use Rattle.command_words.specs.CommandLine.{Spells}
use Rattle.run_texts.specs.Prelude.{end_number, mkfs_text, Output, Printed, ReportsStop, ShowedUsage}
use Rattle.bstore_top.specs.Keeping.{IsDurableFrom}
use Rattle.bstore_top.specs.StepRun.{Seen, RanStep}
use Rattle.bstore_top.specs.DumpRun.{RanDump}
use Rattle.bstore_top.specs.FsckRun.{RanFsck}

-- ---- mkfs

-- Each end of a run of `mkfs` has its cause. The counts of faults are those of the device, where there is one, and of the bay before and after.
-- Numbers that are too small are refused before the bay is asked for a device.
abbrev pub HasCause : ℕ → ℕ → Option Stop → Option ℕ → ℕ → ℕ → Type 0
HasCause half units None dev_faults bay_before bay_after = units_needed half ≤ units
HasCause half units (Some BadScript) dev_faults bay_before bay_after = ⊥
HasCause half units (Some DeviceFault) dev_faults bay_before bay_after = (units_needed half ≤ units) × IsSomeAnd dev_faults (λ n. 0 < n)
HasCause half units (Some Refused) dev_faults bay_before bay_after =
    (units < units_needed half) × (dev_faults ≡ None) × (bay_after ≡ bay_before)
HasCause half units (Some OutOfMemory) dev_faults bay_before bay_after = Unit {0}
HasCause half units (Some BayFault) dev_faults bay_before bay_after = Rose bay_before bay_after

-- where a call of the device failed, nothing was submitted after that
abbrev pub LeavesMade : Option Stop → Disk → Disk → Type 0
LeavesMade (Some DeviceFault) given disk = Told StopsAtFault given.history disk.history
LeavesMade stop given disk = Unit {0}

-- so it is of the device that the bay gave, if it gave one
abbrev pub LeavesGiven : List ℕ → ℕ → Option Stop → BayView → Option Disk → BayView → Type 0
LeavesGiven name units stop old None new = Unit {0}
LeavesGiven name units stop old (Some disk) new = (given : Disk) × (HandedOut old name (Make units) given 0 new × LeavesMade stop given disk)

-- A run of `mkfs`: its work was done or stopped for a cause, and the text of that was printed.
pub record RanMkfs (name : List ℕ) (half units status : ℕ) (seen : Seen) (bay_old bay_new : BayView) (before now : ℕ) (old new : Output) : Type 0
  where
    pub stop : Option Stop
    pub cause : HasCause half units stop seen.dev_faults before now
    pub left : LeavesGiven name units stop bay_old seen.disk bay_new
    pub printed : Printed (end_number stop) (mkfs_text half units stop) status old new

-- ---- any command

-- a run of a command line
abbrev pub Ran : CommandLine → ℕ → Seen → BayView → BayView → ℕ → ℕ → Output → Output → Type 0
Ran (Mkfs dev half units prefer) status seen bay_old bay_new before now old new =
    RanMkfs dev half units status seen bay_old bay_new before now old new
Ran (Step dev seed scripts) status seen bay_old bay_new before now old new = RanStep dev scripts seed status seen bay_old bay_new before now old new
Ran (Dump dev) status seen bay_old bay_new before now old new = RanDump dev status seen bay_old bay_new before now old new
Ran (Fsck dev) status seen bay_old bay_new before now old new = RanFsck dev status seen bay_old bay_new before now old new

-- the disk is a later state of the device that the bay gave under this name
pub record IsOfGiven (name : List ℕ) (how : How) (old : BayView) (disk : Disk) (new : BayView) : Type 0 where
  pub given : Disk
  pub handed_out : HandedOut old name how given 0 new
  pub later : IsLater given disk

-- the bay gave no device, or the one that comes back
abbrev pub ComesBack : CommandLine → BayView → Option Disk → BayView → Type 0
ComesBack line old None new = new ≡ old
ComesBack (Mkfs name half units prefer) old (Some disk) new = IsOfGiven name (Make units) old disk new
ComesBack (Step name seed scripts) old (Some disk) new = IsOfGiven name Plain old disk new
ComesBack (Dump name) old (Some disk) new = IsOfGiven name Plain old disk new
ComesBack (Fsck name) old (Some disk) new = IsOfGiven name Plain old disk new

-- of a run with these words: the bay gave no device, or the one that comes back, for the command line that they spell
abbrev pub CameBack : List (List ℕ) → BayView → Option Disk → BayView → Type 0
CameBack words old None new = new ≡ old
CameBack words old (Some disk) new = (line : CommandLine) × (Spells words line × ComesBack line old (Some disk) new)

-- Prefix durability, of a device under a name: where the bay tells its contents, and these stand for some objects, each crash since leaves the
-- objects after a front of the commits of the book.
abbrev pub CrashesLeavePrefix : List ℕ → BayView → Disk → Book → Type 0
CrashesLeavePrefix name bay disk book = IfSome bay.names (λ names. (contents : List ℕ) (objects : Objects)
    → map.get names.devices name ≡ Some contents → StandsFor contents objects → IsDurableFrom contents objects book disk)

-- so it is of the device that `step` or `dump` names, and of the book that comes back
abbrev pub EachCrashLeavesPrefix : CommandLine → BayView → Option Disk → Book → Type 0
EachCrashLeavesPrefix (Step name seed scripts) bay (Some disk) book = CrashesLeavePrefix name bay disk book
EachCrashLeavesPrefix (Dump name) bay (Some disk) book = CrashesLeavePrefix name bay disk book
EachCrashLeavesPrefix line bay disk book = Unit {0}

-- `mkfs` leaves an empty store with the numbers that were asked for
abbrev pub HasStore : CommandLine → Disk → Type 0
HasStore (Mkfs name half units prefer) disk = (disk.units ≡ units) × HoldsEmptyStore half prefer disk
HasStore (Step name seed scripts) disk = Unit {0}
HasStore (Dump name) disk = Unit {0}
HasStore (Fsck name) disk = Unit {0}

-- Words that spell none: it was printed why, or memory ran out before that was known.
abbrev pub SpellsNone : ℕ → Output → Output → Type 0
SpellsNone status old new = ShowedUsage status old new ⊎ ReportsStop OutOfMemory status old new

-- for the command line that the words spell, where they spell one
abbrev pub ForLine : List (List ℕ) → (CommandLine → Type 0) → Type 0
ForLine words P = (line : CommandLine) → Spells words line → P line

-- no script was opened, and no command of a client was made
pub record IsUnstarted {S : Type 0} (sources : List S) (book : Book) : Type 0 where
  pub no_source : sources ≡ []
  pub no_book : book ≡ record { entries = []; commits = [] }

-- only `step` opens scripts and has a book
abbrev pub LeavesBook : {S : Type 0} → CommandLine → List S → Book → Type 0
LeavesBook (Mkfs dev half units prefer) sources book = IsUnstarted sources book
LeavesBook (Step dev seed scripts) sources book = Unit {0}
LeavesBook (Dump dev) sources book = IsUnstarted sources book
LeavesBook (Fsck dev) sources book = IsUnstarted sources book

-- the words spell no `step`
abbrev pub IsNoStep : List (List ℕ) → Type 0
IsNoStep words = (dev : List ℕ) (seed : ℕ) (scripts : List (List ℕ)) → ¬ Spells words (Step dev seed scripts)

-- words that spell no `step` open no script, and have no book
abbrev pub IsBareUnlessStep : {S : Type 0} → List (List ℕ) → List S → Book → Type 0
IsBareUnlessStep words sources book = IsNoStep words → IsUnstarted sources book
