-- What other crates cite, passed on from one place.
pub use Rattle.row_changes.specs.Seen.{ChangeMap, value_seen, IsChanged, DropsRange, IsDifferenceBy}
