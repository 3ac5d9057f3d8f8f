-- What other crates and the proofs cite, passed on from one place.
pub use Rattle.write_buffers.specs.Buffers.{memory_in, AreNotIn}
