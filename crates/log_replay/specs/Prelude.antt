-- What other crates and the proofs cite, passed on from one place.
pub use Rattle.log_replay.specs.Calls.{IsOnly, Ended, after_call, with_call, Called, Told, GoesOn, GoesOnBy, IsNoBadEnd, GoesOnWell, GoesOnToBadEnd, StopsAtFault, IsLater}
pub use Rattle.log_replay.specs.Zeroing.{EachWriteIsDone, IsZero, IsRunAtFront, UnitRun, AreRuns, run_events, WroteRuns, IsZeroing, ZeroesOnly, WasZeroed}
pub use Rattle.log_replay.specs.Stale.{AreStale, UnitsAscend, IsNotZero, AddsStale, AreNotZero}
pub use Rattle.log_replay.specs.NewSuper.{new_super, units_needed}
pub use Rattle.log_replay.specs.Cleared.{IsAllClean, WasCleared, WasMade}
pub use Rattle.log_replay.specs.Clearing.{unit_events, IsFirstPart, flushed_runs, AreClearing, IsFirstStale, AreParts, IsUnitCleared, IsFirstCleared, AreOthersCleared, IsCleared, ClearsSoFar}
pub use Rattle.log_replay.specs.Replaying.{IsReplay}
pub use Rattle.log_replay.specs.Gathering.{rows_so_far, is_bitmap_key, AreBits, AreOthers, IsParted, first_word}
pub use Rattle.log_replay.specs.Made.{IsEmptyStore, HoldsEmptyStore}
pub use Rattle.log_replay.specs.Opening.{IsAbout, HasNoSuper, newer_of, IsFoundIn, HasBlob, IsLastBlob, IsNextBlob, first, behind, HasLowNumbers, IsWornOut, AreUnmarkedIdle, AreUnmarkedFree, IsMountRefused, IsUnopenable, IsUnfound, FailsMount, SubmitsNothing}
pub use Rattle.log_replay.specs.HalfReading.{HasPiece, AreUnitsFrom, bytes_not_passed, IsReader, IsUnread, Skips, ReadsOn, HasNoRecord, HoldsRecord, MayStand, AddsUnits, HasStale, HasReplayed, IsHalfRead}
pub use Rattle.log_replay.specs.OtherHalf.{AreZeroOutside, AreRunsOn, gathers, AreGathered, EndsLast, AddsUnit, AddsPiece, GathersBelow}
pub use Rattle.log_replay.specs.FoundOn.{as_found, first_behind, half_end, rest_of, AreStaleOf, IsFoundOn, IsJudged, IsLogCleared, ClearsLog}
