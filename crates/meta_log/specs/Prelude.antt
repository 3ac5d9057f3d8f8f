-- What other crates and the proofs cite, passed on from one place.
pub use Rattle.meta_log.specs.Slots.{magic, version_bytes, super_field_bytes, super_front, super_fields, with_sum, IsSummed, super_bytes, IsSuper, IsSlotOf, IsValidSlot, IsActiveSlot, active_unit, other_slot, other_unit, next_super, data_unit, width_of}
pub use Rattle.meta_log.specs.Records.{head_of, record_head, record_bytes, record_units, unit_count, BeginsWithRecord, BeginsWithRecords, AreRecords, active_half, AreRowsOf}
pub use Rattle.meta_log.specs.Pieces.{piece_count, given_from, piece_first, piece_units, body_before, LiesInRecord, IsInPiece}
pub use Rattle.meta_log.specs.Sealed.{Sealed, IsSealable, sealed_units, piece_bytes, BeginAt, IsCutInto, IsSpelled}
pub use Rattle.meta_log.specs.Scanning.{parts_bytes, BeginsWithParts, IsCut, IsAtFront, BeginsNoRecord, TakesUnits, units_of_records}
pub use Rattle.meta_log.specs.RowsRecords.{TableRecord, coded_rows, sealed_of, body_summed}
pub use Rattle.meta_log.specs.CheckRecords.{records_units, target_unit, one_record, check_records, check_units}
pub use Rattle.meta_log.specs.CheckRuns.{in_run, in_runs, AreRunsFrom, front_run, record_runs, cut_run, zero_runs, check_runs, IsZeroRun}
