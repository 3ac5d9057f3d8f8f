-- Parts of a run of `dump`, and what each has printed.
use Rattle.std.specs.Prelude.{◌≡◌, ℕ, Bool, true, false, List, [], ◌∷◌, Result, Ok, Err, OnOk}
use Rattle.unit_fields.specs.declared.width.Width.{Width}
use Rattle.block_device.specs.Prelude.{Disk, IsSound, IsFresh}
use Rattle.end_points.specs.Bay.{BayView}
use Rattle.meta_rows.specs.Prelude.{Rows}
use Rattle.read_facts.specs.declared.view.CollView.{CollView}
use Rattle.read_facts.specs.Prelude.{IsHeldAt, no_memory, IsViewed, IsWhole, WalksTo, WalksAll}
use Rattle.store_kernel.specs.declared.unanswered.WalkFail.{WalkFail}
use Rattle.store_kernel.specs.declared.unanswered.WalkFail.TheVariants as walk
use Rattle.run_texts.specs.declared.work_end.WorkEnd.{WorkEnd}
use Rattle.run_texts.specs.declared.work_end.WorkEnd.TheVariants.{Done, DeviceFault, OutOfMemory, SinkFault}
use Rattle.run_texts.specs.Prelude.{Output, DumpSoFar, AddsWalk}
use Rattle.bstore_top.specs.StepRun.{Seen}
use Rattle.bstore_top.specs.DumpRun.{DumpsOn, ShowsObjects, IsDumpDone}

-- a walk of a kernel that isn't down can fail so
abbrev pub IsOfUp : WalkFail → Type 0
IsOfUp (walk.Down ticket) = ⊥
IsOfUp walk.DeviceRead = Unit {0}
IsOfUp walk.Memory = Unit {0}

-- how a run ends whose walk ended so, and whose sink has failed by then, or not
abbrev pub end_of_walk : Result (Unit {0}) WalkFail → Bool → ℕ → WorkEnd
end_of_walk (Ok done) true free = SinkFault
end_of_walk (Ok done) false free = Done free
end_of_walk (Err (walk.Down ticket)) failed free = DeviceFault
end_of_walk (Err walk.DeviceRead) failed free = DeviceFault
end_of_walk (Err walk.Memory) failed free = OutOfMemory

-- A walk that ended well, whose sink hasn't failed, came to its end.
abbrev pub AtEnd : Result (Unit {0}) WalkFail → Bool → Type 0 → Type 0
AtEnd result failed Whole = OnOk result (failed ≡ false → Whole)

-- Objects of a collection were walked over from the first one on, all of them where the walk came to its end, and its lines and theirs were printed.
pub record PrintsColl (w : Width) (d : Disk) (rows : Rows) (coll : List ℕ) (result : Result (Unit {0}) WalkFail) (before after : DumpSoFar)
    (old new : Output) : Type 0 where
  pub view : CollView
  pub of_coll : view.coll ≡ coll
  pub viewed : IsViewed w no_memory (IsHeldAt d) rows view
  pub whole : AtEnd result after.text.failed (IsWhole w no_memory (IsHeldAt d) rows view)
  pub printed : AddsWalk (view ∷ []) before after old new

-- so were collections
pub record PrintsWalk (w : Width) (d : Disk) (rows : Rows) (result : Result (Unit {0}) WalkFail) (before after : DumpSoFar) (old new : Output)
    : Type 0 where
  pub colls : List CollView
  pub walked : WalksTo w no_memory (IsHeldAt d) rows colls
  pub all : AtEnd result after.text.failed (WalksAll w no_memory (IsHeldAt d) rows colls)
  pub printed : AddsWalk colls before after old new

-- the lines of what was seen on a device were printed
pub record PrintsDump (given : Disk) (first : ℕ) (end : WorkEnd) (disk : Disk) (now : ℕ) (before after : DumpSoFar) (old new : Output) : Type 0 where
  pub colls : List CollView
  pub dumps : DumpsOn given first end colls disk now
  pub shows : IsSound given → IsFresh given → ShowsObjects given end colls
  pub printed : AddsWalk colls before after old new
  pub cut : end ≡ SinkFault → after.text.failed ≡ true

-- and of what a run has seen
pub record PrintsDone (dev : List ℕ) (end : WorkEnd) (seen : Seen) (bay_old bay_new : BayView) (first now : ℕ) (before after : DumpSoFar)
    (old new : Output) : Type 0 where
  pub colls : List CollView
  pub course : IsDumpDone dev end colls seen bay_old bay_new first now
  pub printed : AddsWalk colls before after old new
  pub cut : end ≡ SinkFault → after.text.failed ≡ true
