-- What other crates and the proofs cite, passed on from one place.
pub use Rattle.flight_facts.specs.Stages.{Stage, by_one, by_pieces, job_of, IsUnsent, IsEnded, IsOnWay, AreInTurn, stage_work, stages_work}
pub use Rattle.flight_facts.specs.Flights.{AreFlights, IsAllGiven, batch_pieces, batch_stages, IsBatchOpen, IsBatchFar, switch_stages, IsSwitchFar}
pub use Rattle.flight_facts.specs.Jobs.{units_of_job, units_flying, IsPartGiven, AreInPlace, is_of_batch, is_of_switch, flying_for, IsNone, TouchesGiven, AnyByRecursion, IsWriteOf, TouchesOnly, IsGivenPiece, IsInRuns, IsGivenRun, TouchesOnlyOf, IsOfJob, AreOfJobs, IsNoTarget, FlightsMatch}
pub use Rattle.flight_facts.specs.Records.{FitsRecord}
pub use Rattle.flight_facts.specs.Work.{check_most, work_of, sum_work, batch_work, switch_work, check_due, work_left, measure, entry_work, budget}
pub use Rattle.flight_facts.specs.Checks.{HasCheckRoom}
pub use Rattle.flight_facts.specs.Known.{AreFlightsKnown}
pub use Rattle.flight_facts.specs.Leaves.{DeviceGoes, rests, submits, takes_end, gives_none, BookStep, book_same, book_commits, book_acks}
