-- What other crates and the proofs cite, passed on from one place.
pub use Rattle.meta_rows.specs.Rows.{Rows, xor_bytes, all_zero, row, with_row, row_after, rows_after, rows_of_records, key_of, LeaveAlone}
pub use Rattle.meta_rows.specs.Spelling.{key_bytes, value_bytes, op_bytes, ops_bytes, IsKey, FitsRowOp, AllFit}
pub use Rattle.meta_rows.specs.Table.{rows_size, is_from_to, rows_from_to, AllBelow, NoneBelow, StartsAt, IsLastBelow, EndsAt, value_left, with_left, list_size, with_value, entries_after, left_at, come_at, GrowsBy}
pub use Rattle.meta_rows.specs.Chunks.{Entry, joined, first_order, IsKeyPlace, IsPastLast, beyond_parts, crowd, NoneEmpty, NoneLonger, AllEmpty, BelongsIn, IsChunked, HasSpares, IsMadeReady, IsSplit, IsRearranged, IsPlace, rows_before}
pub use Rattle.meta_rows.specs.Filling.{Rises, held_rows, held_value, row_left, rows_of, gap, HasSpace, IsShaped, IsAppended, IsFilling, HoldsKey, NotBelow, Awaits}
pub use Rattle.meta_rows.specs.Merging.{FirstNotBelow, TakesBelow, ops_left, IsMerging, Goes}
pub use Rattle.meta_rows.specs.Reading.{IsValue, BeginsWithNo, ReadsFront, SpellOps}
pub use Rattle.meta_rows.specs.Sets.{sets_of, row_sets, RowsFit}
pub use Rattle.meta_rows.specs.Cursors.{bytes_before, rows_on, StandsIn, TakesLast, StopsAt, BeginsReached, SkipsTo, part_with, HasCome}
pub use Rattle.meta_rows.specs.OpCursors.{ops_before}
