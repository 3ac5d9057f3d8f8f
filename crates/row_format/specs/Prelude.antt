-- What other crates and the proofs cite, passed on from one place.
pub use Rattle.row_format.specs.Keys.{object_key, coll_key, onode_key, shard_key, attr_key, header_key, omap_key, deferred_key, shared_key, bitmap_key}
pub use Rattle.row_format.specs.Csums.{csum_bytes, FitsCsum}
unfoldable pub use Rattle.row_format.specs.Csums.{csum_in}
pub use Rattle.row_format.specs.Extents.{Body, private, shared, Extent, page_count, page_end, body_bytes, extent_bytes, FitsBody, FitsExtent, ExtentsAscend, BeginsAt, Place, own, slot, place_in, place_of, NamesBlob}
pub use Rattle.row_format.specs.Blobs.{Slot, slot_bytes, FitsSlot, slot_in, slots_in}
unfoldable pub use Rattle.row_format.specs.Blobs.{slots_read}
pub use Rattle.row_format.specs.Bits.{bit_row, bit_in, bit_rows}
pub use Rattle.row_format.specs.Things.{a_collection, an_onode, a_shard, an_attribute, an_omap_header, an_omap_pair, a_deferred_write, a_shared_blob, a_bitmap_row, name_in, behind_name, object_thing, thing_of}
pub use Rattle.row_format.specs.ExtentReading.{csums_in, size_in, body_in, extent_in, extents_by}
unfoldable pub use Rattle.row_format.specs.ExtentReading.{first_in, count_in, is_shared_in, unit_in, sbid_in, slot_number_in, extents_read}
pub use Rattle.row_format.specs.Row.{Row, collection, onode, shard, attribute, omap_header, omap_pair, blob, bitmap, row_key, row_value, FitsOnode, FitsShard, FitsNamed, FitsHeader, FitsBlob, FitsBitmap, FitsRow, row_thing, IsOfSameThing, row_of, ShardRow, as_row, no_shard, shard_in}
