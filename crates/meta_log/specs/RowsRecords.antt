-- The record that sets each row of a table, while its pieces are made: what its caller sees, and where its parts lie.
use Rattle.std.specs.Prelude.{ℕ, ◌*◌, min}
use Rattle.std.specs.FinMap as map
use Rattle.std.specs.Coded.{Coded, coded_ℕ, coded_list}
use Rattle.meta_rows.specs.Prelude.{Rows, row_sets}
use Rattle.meta_log.specs.Sealed.{Sealed}

-- the rows that the record sets, its number, and how many of its pieces were given
pub record TableRecord : Type 0 where
  pub rows : Rows
  pub number : ℕ
  pub given : ℕ

abbrev pub coded_rows : Coded Rows
coded_rows = map.code (coded_list coded_ℕ) (coded_list coded_ℕ)

-- the record as one of operations
abbrev pub sealed_of : TableRecord → Sealed
sealed_of r = record { number = r.number; ops = row_sets r.rows }

-- how many bytes of the body, of so many, the checksum goes over once so many pieces were given
abbrev pub body_summed : ℕ → ℕ → ℕ
body_summed size given = min size (262144 * given)
