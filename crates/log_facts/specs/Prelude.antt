-- What other crates and the proofs cite, passed on from one place.
pub use Rattle.log_facts.specs.Flushing.{FlushState, not_sent, sent, flushed, IsFlushed, WritesNoneOf}
pub use Rattle.log_facts.specs.SlotFacts.{IsOlderSlot, SlotsStand}
pub use Rattle.log_facts.specs.HalfFacts.{IsSpellable, AreSpellable, begun_count, IsSurelyZero, ActiveHalfStands}
pub use Rattle.log_facts.specs.CrashRows.{HasBegunRecord, LeavesRows}
pub use Rattle.log_facts.specs.Soundness.{SoundFor}
pub use Rattle.log_facts.specs.FoundHalf.{RecordsStand, EndsInZeros}
pub use Rattle.log_facts.specs.Checkpoints.{OtherHalfRests, CheckpointStands, NextSlotStands, LeavesEither}
