-- What a run of `step` does: it reads its scripts, mounts a store, and runs the scripts beside each other on it.
use Rattle.std.specs.Prelude.{◌≡◌, ◌⊎◌, ℕ, ◌+◌, ◌≤◌, List, [], ◌∷◌, length, map, replicate, Option, Some, None, false, true}
use Rattle.block_device.specs.Prelude.{Disk, IsSound, Rose}
use Rattle.block_device.specs.declared.device.Failed.{Failed}
use Rattle.block_device.specs.declared.device.Failed.TheVariants as failed
use Rattle.end_points.specs.Bay.{BayView, Names, HandedOut}
use Rattle.end_points.specs.declared.bay.How.TheVariants.{Plain}
use Rattle.object_model.specs.Prelude.{Objects}
use Rattle.object_model.specs.declared.book.Book.{Book}
use Rattle.unit_allocator.specs.Prelude.{Space}
use Rattle.script_text.specs.declared.line.Line.{Line}
use Rattle.store_image.specs.Prelude.{IsShape}
use Rattle.meta_store.specs.Store.{room_of}
use Rattle.store_steps.specs.Prelude.{State, Found, free_count, is_drained}
use Rattle.book_facts.specs.Prelude.{demand_of, any_no_space}
use Rattle.log_replay.specs.Prelude.{IsLater, FailsMount}
use Rattle.log_replay.specs.declared.opening.MountFail.{MountFail}
use Rattle.log_replay.specs.declared.opening.MountFail.TheVariants as fail
use Rattle.mount_replay.specs.Mounting.{IsOpenedOn, LeftUnopened, IsReapedTo}
use Rattle.read_facts.specs.Prelude.{IsLegalButBytes}
use Rattle.script_reading.specs.Prelude.{HaveScripts, AreReadWhole, FailsToRead}
use Rattle.script_reading.specs.declared.unread.Unread.{Unread}
use Rattle.script_reading.specs.declared.unread.Unread.TheVariants as unread
use Rattle.client_runs.specs.Prelude.{asks_of, at_position, AreAsked, RunsUpTo, empty_book}
use Rattle.client_runs.specs.declared.run_fail.RunFail.{RunFail}
use Rattle.client_runs.specs.declared.run_fail.RunFail.TheVariants as run
use Rattle.run_texts.specs.declared.work_end.WorkEnd.{WorkEnd}
use Rattle.run_texts.specs.declared.work_end.WorkEnd.TheVariants.{Done, BadLine, NoSuper, BadRow, NotExact, WornOut, DeviceFault, OutOfMemory, BayFault}
use Rattle.run_texts.specs.Prelude.{Output, ReportsStep}
use Rattle.bstore_top.specs.Keeping.{LeavesAll, KeepsStore}
use Rattle.bstore_top.specs.Room.{EachFullOnlyBeyond}
use Rattle.bstore_top.specs.Waiting.{HaveWaited}

-- ---- ends

-- how a run ends whose scripts weren't read
abbrev pub end_of_scripts : Unread → WorkEnd
end_of_scripts unread.Memory = OutOfMemory
end_of_scripts (unread.Line script n) = BadLine script n
end_of_scripts unread.Fault = BayFault

-- for which the bay gave no device
abbrev pub end_of_bay : Failed → WorkEnd
end_of_bay failed.Memory = OutOfMemory
end_of_bay failed.Fault = BayFault

-- that mounted nothing
abbrev pub end_of_mount : MountFail → WorkEnd
end_of_mount fail.Memory = OutOfMemory
end_of_mount fail.NoSuper = NoSuper
end_of_mount (fail.BadRow key) = BadRow key
end_of_mount (fail.NotExact unit) = NotExact unit
end_of_mount (fail.WornOut value) = WornOut
end_of_mount fail.Fault = DeviceFault

-- that ran the scripts, with so many units free
abbrev pub end_of_run : Option RunFail → ℕ → WorkEnd
end_of_run None free = Done free
end_of_run (Some run.Memory) free = OutOfMemory
end_of_run (Some run.Fault) free = DeviceFault
end_of_run (Some run.DeviceRead) free = DeviceFault

-- ---- the run

-- The units that the commands of a script ask for together at most: a write asks for one for each page that it touches, zeros for one for the
-- first and the last page, and a truncate for one.
abbrev pub script_demand : List Line → ℕ
script_demand lines = demand_of (map (λ a. a.command) (asks_of lines))

-- and those of all scripts
abbrev pub scripts_demand : List (List Line) → ℕ
scripts_demand [] = 0
scripts_demand (lines ∷ scripts) = script_demand lines + scripts_demand scripts

-- Scripts were run on a store, each by a client of its own: the clients' run leads from the mounted kernel, over the device as the mount left it, to
-- the last state, whose book it is. But for the bytes that reads gave, the book is legal for all objects whose shape the rows which were found have.
-- If the scripts together ask for no more units than were free, no transaction was refused for want of units. Each entry was added by one of the drawn
-- calls that led to where the clients were, and tells of want of room in the log only where its transaction and those accepted by the calls before
-- it together need more than there was room for at the mount. A command behind a `wait` came once the accepted transactions of its client before it
-- were acknowledged.
pub record RunsScripts (seed : ℕ) (scripts : List (List Line)) (given : Disk) (end : WorkEnd) (book : Book) (disk : Disk) : Type 0 where
  pub found : Found
  pub space : Space
  pub start : Disk
  pub first : State
  pub mounted : IsOpenedOn given found space start first
  pub fail : Option RunFail
  pub last : State
  pub left : Disk
  pub ran : RunsUpTo fail seed scripts first start last left
  pub ended : end ≡ end_of_run fail (free_count last.space)
  pub closed : State
  pub reaped : IsReapedTo last left closed disk
  pub book_is : book ≡ closed.book
  pub entries : AreAsked (map asks_of scripts) book.entries ran.reached.clients
  pub legal : (objects : Objects) → IsShape found.rows objects → IsLegalButBytes objects book
  pub within : scripts_demand scripts ≤ free_count first.space → any_no_space book.entries ≡ false
  pub drawn : book.entries ≡ ran.reached.state.book.entries
  pub room : EachFullOnlyBeyond (room_of first.log) 0 (at_position seed (map asks_of scripts) first start) ran.leads.calls ran.reached ran.leads.run
  pub waited : HaveWaited scripts book

-- ---- the whole

-- what is seen at the end: of the device where the bay gave one, and the counts of faults of the sources
pub record Seen : Type 0 where
  pub disk : Option Disk
  pub dev_faults : Option ℕ
  pub source_faults : List ℕ
  pub book : Book

abbrev pub seen : Option Disk → Option ℕ → List ℕ → Book → Seen
seen disk dev_faults source_faults book = record { disk = disk; dev_faults = dev_faults; source_faults = source_faults; book = book }

-- all scripts were read, and then the bay failed to give the device
pub record FailsToOpen (names : Option Names) (files : List (List ℕ)) (source_faults : List ℕ) (before now : ℕ) : Type 0 where
  pub scripts : List (List Line)
  pub lines : HaveScripts names files scripts
  pub sources : source_faults ≡ replicate (length files) 0
  pub rose : Rose before now

-- Why no device was opened: memory ran out, a script has a bad line, or the source of a script or the bay has failed. The scripts read until then
-- have lines, and of those none has failed.
abbrev pub FailsBefore : WorkEnd → Option Names → List (List ℕ) → List ℕ → ℕ → ℕ → Type 0
FailsBefore (BadLine script n) names files source_faults before now = FailsToRead (unread.Line script n) names files source_faults before now
FailsBefore OutOfMemory names files source_faults before now = Unit {0}
FailsBefore BayFault names files source_faults before now =
    FailsToRead unread.Fault names files source_faults before now ⊎ FailsToOpen names files source_faults before now
FailsBefore end names files source_faults before now = ⊥

-- Why the device that was opened wasn't mounted. The counts are those of its faults.
abbrev pub FailsToMount : WorkEnd → Disk → ℕ → ℕ → Type 0
FailsToMount NoSuper given before now = FailsMount fail.NoSuper given before now
FailsToMount (BadRow key) given before now = FailsMount (fail.BadRow key) given before now
FailsToMount (NotExact unit) given before now = FailsMount (fail.NotExact unit) given before now
FailsToMount WornOut given before now = (value : ℕ) × FailsMount (fail.WornOut value) given before now
FailsToMount DeviceFault given before now = Rose before now
FailsToMount OutOfMemory given before now = Unit {0}
FailsToMount end given before now = ⊥

-- a device fault is counted
abbrev pub HasCounted : WorkEnd → ℕ → ℕ → Type 0
HasCounted DeviceFault before now = Rose before now
HasCounted end before now = Unit {0}

-- A mount that refuses what the device holds leaves it as it was given; one that the device or memory failed may have begun to write zeros behind
-- the records of the store that it found, and has written nothing else.
abbrev pub LeftByMount : WorkEnd → Disk → Disk → Type 0
LeftByMount DeviceFault given disk = IsLater given disk × LeftUnopened given disk
LeftByMount OutOfMemory given disk = IsLater given disk × LeftUnopened given disk
LeftByMount end given disk = disk ≡ given

-- no step is ready, and no submission has ended badly
abbrev pub HasDrained : State → Disk → Type 0
HasDrained s d = (is_drained d.depth s ≡ true) × (s.down ≡ None)

-- The scripts were run. Where the kernel had nothing left to do in the end, all that was accepted is kept, also where a read was lost before.
pub record RunsAndKeeps (seed : ℕ) (scripts : List (List Line)) (given : Disk) (end : WorkEnd) (book : Book) (disk : Disk) : Type 0 where
  pub ran : RunsScripts seed scripts given end book disk
  pub drained : HasDrained ran.last ran.left → LeavesAll given (free_count ran.last.space) book disk

-- the device wasn't mounted, and the book is empty; or the scripts were run on it
abbrev pub WorksOn : ℕ → List (List Line) → Disk → ℕ → WorkEnd → Book → Disk → ℕ → Type 0
WorksOn seed scripts given before end book disk now =
    (FailsToMount end given before now × (book ≡ empty_book) × LeftByMount end given disk)
    ⊎ (HasCounted end before now × RunsAndKeeps seed scripts given end book disk)

-- no device was opened
pub record EndsUnopened (files : List (List ℕ)) (end : WorkEnd) (seen : Seen) (names : Option Names) (before now : ℕ) : Type 0 where
  pub no_disk : seen.disk ≡ None
  pub no_book : seen.book ≡ empty_book
  pub cause : FailsBefore end names files seen.source_faults before now

-- the scripts were read and the device opened, and it comes back
pub record EndsOpened (dev : List ℕ) (files : List (List ℕ)) (seed : ℕ) (end : WorkEnd) (seen : Seen) (old new : BayView) (before now : ℕ)
    : Type 0 where
  pub scripts : List (List Line)
  pub lines : HaveScripts old.names files scripts
  pub read : AreReadWhole (length files) seen.source_faults before now
  pub given : Disk
  pub handed_out : HandedOut old dev Plain given 0 new
  pub sound : IsSound given
  pub disk : Disk
  pub is_disk : seen.disk ≡ Some disk
  pub faults : ℕ
  pub are_faults : seen.dev_faults ≡ Some faults
  pub works : WorksOn seed scripts given 0 end seen.book disk faults
  pub keeps : KeepsStore given end seen.book disk

-- how far a run came
abbrev pub IsStepDone : List ℕ → List (List ℕ) → ℕ → WorkEnd → Seen → BayView → BayView → ℕ → ℕ → Type 0
IsStepDone dev files seed end seen bay_old bay_new before now =
    EndsUnopened files end seen bay_old.names before now ⊎ EndsOpened dev files seed end seen bay_old bay_new before now

-- A run of `step`: how far it came, and the text of that.
pub record RanStep (dev : List ℕ) (files : List (List ℕ)) (seed status : ℕ) (seen : Seen) (bay_old bay_new : BayView) (before now : ℕ)
    (old new : Output) : Type 0 where
  pub end : WorkEnd
  pub course : IsStepDone dev files seed end seen bay_old bay_new before now
  pub printed : ReportsStep seen.book end status old new
