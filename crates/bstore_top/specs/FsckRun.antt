-- What a run of `fsck` does: it looks through a store, and leaves the device as it was.
use Rattle.std.specs.Prelude.{◌≡◌, ◌⊎◌, ℕ, ◌<◌, List, [], length, Some, None, Result, Ok, Err}
use Rattle.block_device.specs.Prelude.{Disk, IsSound, Rose}
use Rattle.end_points.specs.Bay.{BayView, HandedOut}
use Rattle.end_points.specs.declared.bay.How.TheVariants.{Plain}
use Rattle.findings.specs.declared.finding.Finding.{Finding}
use Rattle.fsck_check.specs.declared.fail.FsckFail.{FsckFail}
use Rattle.fsck_check.specs.declared.fail.FsckFail.TheVariants as fail
use Rattle.fsck_check.specs.Checking.{FoundAll, FailsFsck}
use Rattle.run_texts.specs.declared.work_end.WorkEnd.{WorkEnd}
use Rattle.run_texts.specs.declared.work_end.WorkEnd.TheVariants.{NoSuper, DeviceFault, OutOfMemory}
use Rattle.run_texts.specs.Prelude.{Output, ReportsFsck}
use Rattle.client_runs.specs.Prelude.{empty_book}
use Rattle.bstore_top.specs.StepRun.{Seen}
use Rattle.bstore_top.specs.DumpRun.{FailsUnopened}

-- how a run ends that looked through no store
abbrev pub end_of_fsck : FsckFail → WorkEnd
end_of_fsck fail.Memory = OutOfMemory
end_of_fsck fail.NoSuper = NoSuper
end_of_fsck fail.Fault = DeviceFault

-- Of the device that was opened: these are all findings, or it holds no store, or a read failed, or memory ran out. The counts are those of its
-- faults.
abbrev pub LooksThrough : Disk → ℕ → Result (List Finding) WorkEnd → ℕ → Type 0
LooksThrough given before (Ok found) now = FoundAll given found
LooksThrough given before (Err NoSuper) now = FailsFsck fail.NoSuper given before now
LooksThrough given before (Err DeviceFault) now = Rose before now
LooksThrough given before (Err OutOfMemory) now = Unit {0}
LooksThrough given before (Err end) now = ⊥

-- no device was opened: memory ran out, or the count of the bay rose
pub record FsckUnopened (ended : Result (List Finding) WorkEnd) (seen : Seen) (before now : ℕ) : Type 0 where
  pub no_disk : seen.disk ≡ None
  pub end : WorkEnd
  pub ended_so : ended ≡ Err end
  pub cause : FailsUnopened end before now

-- the device was opened and looked through, and comes back as it was given
pub record FsckOpened (dev : List ℕ) (ended : Result (List Finding) WorkEnd) (seen : Seen) (old new : BayView) : Type 0 where
  pub given : Disk
  pub handed_out : HandedOut old dev Plain given 0 new
  pub sound : IsSound given
  pub is_disk : seen.disk ≡ Some given
  pub faults : ℕ
  pub are_faults : seen.dev_faults ≡ Some faults
  pub looked : LooksThrough given 0 ended faults

-- how far a run came
abbrev pub IsFsckDone : List ℕ → Result (List Finding) WorkEnd → Seen → BayView → BayView → ℕ → ℕ → Type 0
IsFsckDone dev ended seen bay_old bay_new before now = FsckUnopened ended seen before now ⊎ FsckOpened dev ended seen bay_old bay_new

-- A run of `fsck`: how far it came, and the text of that. Its book is empty, and it opens no script.
pub record RanFsck (dev : List ℕ) (status : ℕ) (seen : Seen) (bay_old bay_new : BayView) (before now : ℕ) (old new : Output) : Type 0 where
  pub ended : Result (List Finding) WorkEnd
  pub no_book : seen.book ≡ empty_book
  pub no_source : seen.source_faults ≡ []
  pub course : IsFsckDone dev ended seen bay_old bay_new before now
  pub printed : ReportsFsck ended status old new

-- something was found, or the device holds no store
abbrev pub TellsBad : Result (List Finding) WorkEnd → Type 0
TellsBad (Ok found) = 0 < length found
TellsBad (Err end) = end ≡ NoSuper
