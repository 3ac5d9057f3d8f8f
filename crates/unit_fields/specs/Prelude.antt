-- What other crates and the proofs cite, passed on from one place.
pub use Rattle.unit_fields.specs.Names.{IsName, head_suffix, coll_name, IsCollName}
pub use Rattle.unit_fields.specs.Fields.{IsTooShort, ReadsNumber, ReadsBytes}
pub use Rattle.unit_fields.specs.UnitSet.{Ascends, IsPlaceOf, IsGapFor, IsAboveLast}
pub use Rattle.unit_fields.specs.Widths.{bytes_of}
