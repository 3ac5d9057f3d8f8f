-- How long rows are as one record, beside the log that has them.
use Rattle.std.specs.Prelude.{ℕ, zero, suc, ◌+◌, ◌≤◌}
use Rattle.byte_maps.specs.Units.{units_for}
use Rattle.meta_rows.specs.Prelude.{Rows, rows_size}
use Rattle.meta_log.specs.Prelude.{unit_count}
use Rattle.store_steps.specs.Intents.{Intent}
use Rattle.store_steps.specs.Parts.{RowsPart}

-- how many units a record takes whose operations are so many bytes; where there are none there is no record
abbrev pub body_units : ℕ → ℕ
body_units zero = 0
body_units (suc more) = units_for (24 + suc more)

-- how many units the one record takes that sets each of these rows
abbrev pub rows_units : Rows → ℕ
rows_units rows = body_units (rows_size rows)

-- its record takes no more units than it has reserved, whatever its number is
abbrev pub NeedsEnough : Intent → Type 0
NeedsEnough x = (number : ℕ) → unit_count number x.ops ≤ x.need

-- The committed rows as one record take no more units than the records of the log do, and the submitted ones no more than the
-- committed ones and what is reserved.
pub record AreRowsWithin (p : RowsPart) : Type 0 where
  pub committed : rows_units p.rows ≤ p.tail
  pub submitted : rows_units p.submitted ≤ rows_units p.rows + p.reserved
