-- The lemmas that other crates cite, passed on from one place.
pub use Rattle.page_edits.proofs.Lists.{In, in_contains, all_of, all_at, in_filter, of_filter, filter_ascends, in_range, of_range, range_ascends}
pub use Rattle.page_edits.proofs.PageRanges.{IsTouched, IsApart, touched_or_apart, in_touched, of_touched, covered, in_part, is_covered}
pub use Rattle.page_edits.proofs.PageBytes.{zero_there, page_byte, page_length, no_pages, same_pages, resized_length, resized_byte, over_none, over_low, over_piece, over_high, over_length, page_overwritten, page_grown, page_cut}
pub use Rattle.page_edits.proofs.PagesPut.{in_or_not, HasTaking}
pub use Rattle.page_edits.proofs.Entries.{entry_found, entry_in, where_are}
pub use Rattle.page_edits.proofs.DraftedPages.{kept_touched, kept_same, kept_was, was_put, numbered, stays_both_apart}
pub use Rattle.page_edits.proofs.EditSizes.{size_within, ends}
pub use Rattle.page_edits.proofs.Counts.{few_units, units_within, units_of_payload}
pub use Rattle.page_edits.proofs.DraftedBytes.{whole_then, others_then}
pub use Rattle.page_edits.proofs.OperationBytes.{length_after, operation_holds}
pub use Rattle.page_edits.proofs.UnitContents.{operation_made, more_made, can_more, can_both}
