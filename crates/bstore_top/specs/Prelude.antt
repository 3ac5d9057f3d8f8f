-- What other crates and the proofs cite, passed on from one place.
pub use Rattle.bstore_top.specs.Standing.{AreUnmarked, HasFree, IsFinished, IsComplete}
pub use Rattle.bstore_top.specs.Keeping.{AreAckedWithin, IsDurableFrom, StaysDurable, LeavesAll, KeepsStore}
pub use Rattle.bstore_top.specs.Waiting.{is_among_first, HasWaited, next_of, IsBehindWait, EachHasWaited, HaveWaited}
pub use Rattle.bstore_top.specs.Room.{need_of_call, FullOnlyBeyond, EachFullOnlyBeyond}
pub use Rattle.bstore_top.specs.StepRun.{end_of_scripts, end_of_bay, end_of_mount, end_of_run, script_demand, scripts_demand, RunsScripts, Seen, seen, FailsToOpen, FailsBefore, FailsToMount, HasCounted, LeftByMount, HasDrained, RunsAndKeeps, WorksOn, EndsOpened, IsStepDone, RanStep}
pub use Rattle.bstore_top.specs.DumpRun.{Walked, WalksStore, DumpsOn, Shows, ShowsObjects, FailsUnopened, DumpsOpened, IsDumpDone, RanDump, Dumped}
pub use Rattle.bstore_top.specs.Dumping.{IsOfUp, end_of_walk, AtEnd, PrintsColl, PrintsWalk, PrintsDump, PrintsDone}
pub use Rattle.bstore_top.specs.FsckRun.{end_of_fsck, LooksThrough, FsckUnopened, FsckOpened, IsFsckDone, RanFsck, TellsBad}
pub use Rattle.bstore_top.specs.Finished.{FinishesOn, AreAllAsked, Succeeded}
pub use Rattle.bstore_top.specs.GoodStart.{HasGoodStore, IsScriptUnder, IsGoodStart, IsGoodStore, IsExactStore, HasNoFault}
pub use Rattle.bstore_top.specs.Told.{IsToldOk, HoldsCommit, EachImageHolds, ToldOkIsThere}
pub use Rattle.bstore_top.specs.Run.{EachCrashLeavesPrefix}
