-- What is known of a log as a mount finds it: its records, and nothing of what is behind them.
use Rattle.std.specs.Prelude.{◌≡◌, ℕ, ◌+◌, ◌<◌, ◌≤◌, List, length}
use Rattle.std.specs.FinMap as map
use Rattle.byte_maps.specs.Units.{unit_at, zeros, IsUnits}
use Rattle.block_device.specs.Prelude.{History, last_at, SurelyHolds}
use Rattle.meta_rows.specs.declared.row_op.RowOp.{RowOp}
use Rattle.meta_rows.specs.Prelude.{Rows, rows_of_records}
use Rattle.meta_log.specs.declared.slot.Super.{Super}
use Rattle.meta_log.specs.Prelude.{active_unit, records_units}
use Rattle.log_facts.specs.HalfFacts.{AreSpellable}

-- The records `recs` make the rows, and stand in the first `tail` units of the active half, stable; of what is behind them nothing is said.
pub record RecordsStand (h : History) (s : Super) (rows : Rows) (tail number : ℕ) (recs : List (List RowOp)) : Type 0 where
  pub made : rows ≡ rows_of_records map.empty recs
  pub next : number ≡ s.first + length recs
  pub spellable : AreSpellable s.first recs
  pub whole : IsUnits tail (records_units s.first recs)
  pub room : tail ≤ s.half
  pub front : (k : ℕ) → k < tail → SurelyHolds h (active_unit s + k) (λ unit. unit ≡ unit_at k (records_units s.first recs))

-- no record follows them: the unit behind the last was written with zeros last, if there is one
abbrev pub EndsInZeros : History → Super → ℕ → Type 0
EndsInZeros h s tail = tail < s.half → last_at h (active_unit s + tail) ≡ zeros 4096
