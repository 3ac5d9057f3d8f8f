-- The records of a checkpoint of rows, the units that they take, and what the half is to hold that they go to.
use Rattle.std.specs.Prelude.{ℕ, ◌+◌, nat_lt, List, [], ◌∷◌, ◌++◌, if◌then◌else◌}
use Rattle.byte_maps.specs.Units.{unit_at, zeros}
use Rattle.meta_rows.specs.declared.row_op.RowOp.{RowOp}
use Rattle.meta_rows.specs.Prelude.{Rows, row_sets}
use Rattle.meta_log.specs.Records.{record_units}
use Rattle.meta_log.specs.Scanning.{units_of_records}

-- records of consecutive numbers from this one on, one behind the other
abbrev pub records_units : ℕ → List (List RowOp) → List ℕ
records_units number [] = []
records_units number (ops ∷ more) = record_units number ops ++ records_units (number + 1) more

-- unit k of a half that has these records in its first `tail` units and is zero behind them
abbrev pub target_unit : ℕ → ℕ → List (List RowOp) → ℕ → List ℕ
target_unit tail first recs k = if nat_lt k tail then unit_at k (records_units first recs) else zeros 4096

-- operations as one record; none make none
abbrev pub one_record : List RowOp → List (List RowOp)
one_record [] = []
one_record (op ∷ ops) = (op ∷ ops) ∷ []

-- a checkpoint's records: the operations that set each row as one, and none where there are no rows
abbrev pub check_records : Rows → List (List RowOp)
check_records rows = one_record (row_sets rows)

-- how many units they take
abbrev pub check_units : ℕ → Rows → ℕ
check_units number rows = units_of_records number (check_records rows)
