-- What other crates and the proofs cite, passed on from one place.
pub use Rattle.script_reading.specs.Scripts.{IsTextUnder, HasScript, HasBadLine, HaveScripts, AreReadWhole, HaveFront, FailsToRead}
pub use Rattle.script_reading.specs.Scripts.{HasBadScript, SourceFaults, BayFaults, HasFault}
