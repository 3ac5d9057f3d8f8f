-- What other crates and the proofs cite, passed on from one place.
pub use Rattle.plan_proofs.specs.Maps.{IsOther}
