-- What other crates and the proofs cite, passed on from one place.
pub use Rattle.switch_facts.specs.OtherPart.{SlotPhase, unwritten, written, CheckPart, OtherPart, begun_check, switched_part}
pub use Rattle.switch_facts.specs.OtherGoes.{IsElsewhere, GivesRun, IsLeftToWrite, IsNothingLeft, OtherGoes}
pub use Rattle.switch_facts.specs.OtherKnown.{IsWrittenOut, IsSlotKnown, IsCheckKnown, OtherIsKnown, with_any, IsFitting}
pub use Rattle.switch_facts.specs.Pieces.{LiesInHalf, IsPieceOf, AreApart}
