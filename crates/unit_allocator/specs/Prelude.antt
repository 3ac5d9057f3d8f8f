-- What other crates and the proofs cite, passed on from one place.
pub use Rattle.unit_allocator.specs.Words.{bit, HasNoBitBetween, HasNoBitFrom, IsFirstBitFrom, IsSummary}
pub use Rattle.unit_allocator.specs.Units.{Space, idle_and_unheld, IsWithin, is_idle, holds_of, is_free, taken_one, given_one, taken, given, held, unheld, units_of_run, units_of, no_idle_units, freed_from, IsLowestFree, OthersStay}
unfoldable pub use Rattle.unit_allocator.specs.Units.{free_units}
pub use Rattle.unit_allocator.specs.Sound.{IsSoundSpace}
pub use Rattle.unit_allocator.specs.Fields.{count_or_none, AreSound, IsWithout}
unfoldable pub use Rattle.unit_allocator.specs.Fields.{flags, hold_count, hold_counts}
