-- The lemmas that other crates cite, passed on from one place.
pub use Rattle.row_format.proofs.KeyLemmas.{same_head, first_zero, same_place, same_coll, coll_no_object, same_onode, same_shard, onode_no_shard, bitmap_no_coll, bitmap_no_object}
pub use Rattle.row_format.proofs.ExtentReading.{some_size, bytes_less, length-csums, extents-same, extent_front}
pub use Rattle.row_format.proofs.ThingLemmas.{onode_again, shard_again, attribute_again, header_again, pair_again, shared_again}
pub use Rattle.row_format.proofs.RowLemmas.{reads_row, same_row}
pub use Rattle.row_format.proofs.KindLemmas.{under_coll, under_onode, under_shard, under_attribute, under_header, under_pair, under_bitmap, IsOnode, IsShard, IsAttribute, IsHeader, IsPair, begins_o, begins_a, begins_m, begins_b, RowCase, of_coll, of_onode, of_shard, of_other, row_case, is_shard_or_none}
