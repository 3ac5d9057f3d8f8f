-- What other crates and the proofs cite, passed on from one place.
pub use Rattle.page_lookup.specs.Found.{place_found, EndBehind, LeavesOut, BeginsBy, IsNumbered, HasNumber, FindPagesOf}
pub use Rattle.page_lookup.specs.Bytes.{csums_in, size_in, body_in, extent_in}
unfoldable pub use Rattle.page_lookup.specs.Bytes.{csum_in, first_in, count_in, is_shared_in, unit_in, sbid_in, slot_number_in, extents_read, rows_read}
pub use Rattle.page_lookup.specs.Heads.{start_in, IsHeadOf, size_from, head_size, HasPlace, place_from, IsSlotOf, IsUnitOf}
