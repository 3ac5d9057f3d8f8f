-- What other crates and the proofs cite, passed on from one place.
pub use Rattle.block_device.specs.Log.{after_event, last, WritesUnit, WritesNothing, IsFlushAfter, IsStable, IsClean, IsDirty, IsCrashImage, HasNoBadDone, IsAnsweredOnce, EachCut}
pub use Rattle.block_device.specs.Tests.{first_place, covers, writes_unit, is_flush, is_good_done, has_good_done, is_stable, first_unstable, is_dirty}
pub use Rattle.block_device.specs.Disk.{History, Flight, Disk, IsFresh, history_after, flight_of, find_flight, without, IsApart, IsNotInFlight, IsSound, Submitted, Reaped, Waited, HasRead, IsQuiet, Rose, Continues}
pub use Rattle.block_device.specs.Facts.{with_event, last_at, SurelyHolds, IsPending, IsCovered, IsSubmission, EachWriteIsAnswered, QuietAt, IsUntouched, EventFits}
pub use Rattle.block_device.specs.Image.{reaches, held_after_event, held_from, landed_unit, torn_unit, IsTornImage, IsWholeEvent, IsWholeLog}
unfoldable pub use Rattle.block_device.specs.Image.{noise}
pub use Rattle.block_device.specs.Laying.{IsLastGoodFlush, is_laid, mark, laid_unit, IsPut}
pub use Rattle.block_device.specs.Fails.{counted}
pub use Rattle.block_device.specs.Pending.{flight, lowered, others, TicketsAscend, AreOpen, IsUnanswered, AnswersMatch, IsPatient, IsFirstReady, WasTaken, NoneWasReady}
pub use Rattle.block_device.specs.Memory.{MemoryDisk, disk_of, fresh_memory, IsMemoryDisk}
pub use Rattle.block_device.specs.MemoryInside.{memory_disk}
