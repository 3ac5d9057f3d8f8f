-- What other crates and the proofs cite, passed on from one place, with what they cite of flights beside it.
pub use Rattle.flight_facts.specs.Prelude.{IsAllGiven, is_of_batch, is_of_switch, flying_for, IsBatchFar, IsSwitchFar, measure, BookStep, book_same, book_commits, book_acks}
pub use Rattle.run_facts.specs.Space.{IsSpaceOf, AreRowsKept}
pub use Rattle.run_facts.specs.Room.{HasRoom, AcksAre, IsBookKept}
pub use Rattle.run_facts.specs.Kept.{IsAlwaysKept, IsKeptUp, IsKept, IsOpenable}
