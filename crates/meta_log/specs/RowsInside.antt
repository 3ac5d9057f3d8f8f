-- What is kept of the record of a table's rows, and what holds of it.
use Rattle.std.specs.Prelude.{◌≡◌, ◌+◌, ◌++◌, length, take}
use Rattle.crc32c_csum.specs.Prelude.{all_ones, remainder}
use Rattle.meta_rows.specs.Prelude.{Rows, ops_bytes, row_sets, bytes_before}
use Rattle.meta_log.specs.Records.{record_head, unit_count}
use Rattle.meta_log.specs.Pieces.{given_from, body_before}
use Rattle.meta_log.specs.Sealed.{IsSealable}
use Rattle.meta_log.specs.RowsRecords.{body_summed}
use Rattle.meta_log.specs.declared.rows_record.Progress.{Progress}

-- The record of these rows. The bytes of the body behind `front` were given; those before `summed` are in the checksum.
pub record IsRecordOf (rows : Rows) (r : Progress) : Type 0 where
  pub sealable : IsSealable r.number (row_sets rows)
  pub count : r.count ≡ length (row_sets rows)
  pub size : r.size ≡ length (ops_bytes (row_sets rows))
  pub units : r.units ≡ unit_count r.number (row_sets rows)
  pub front : bytes_before rows r.front ≡ body_before r.size (given_from r.units r.given)
  pub summed : bytes_before rows r.summed ≡ body_summed r.size r.given
  pub digest : r.digest ≡ remainder all_ones (record_head r.number (row_sets rows) ++ take (body_summed r.size r.given) (ops_bytes (row_sets rows)))

-- the same record, of which one piece more was given
pub record IsOneOn (old new : Progress) : Type 0 where
  pub number : new.number ≡ old.number
  pub units : new.units ≡ old.units
  pub given : new.given ≡ old.given + 1
