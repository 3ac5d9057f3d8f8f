-- The lemmas that other crates cite, passed on from one place.
pub use Rattle.byte_maps.proofs.Laws.{same, after_insert, after_remove, insert-remove, insert_same}
pub use Rattle.byte_maps.proofs.Places.{same_bytes, both_first, both_second, below_more, find_below, without, Stands, Lacks, comparisons_rise, found, absent, sorted_put, put_is_insert, sorted_without, without_is_remove, none_is_empty}
pub use Rattle.byte_maps.proofs.Sums.{total-insert}
pub use Rattle.byte_maps.proofs.UnitLemmas.{length-overlaid, piece_of_front, unit_at-part, unit_at-laid_before, unit_at-laid_inside, unit_at-laid_behind, unit_at-whole, length-unit_at, length-units_from, length-zeros, unit_at-zeros, unit_at-units_from, units_from-units_from, units_from-join, unit_at-append_front, unit_at-append_back, length-in_units}
