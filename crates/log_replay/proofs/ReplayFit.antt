-- The rows that valid records make have a spelling.
use Rattle.std.proofs.Common.{ℕ, ◌+◌, List, [], ◌∷◌, sym, subst}
use Rattle.std.specs.FinMap as map
use Rattle.meta_rows.specs.declared.row_op.RowOp.{RowOp}
use Rattle.meta_rows.specs.Prelude.{Rows, rows_after, rows_of_records, RowsFit}
use Rattle.meta_rows.proofs.FitLemmas.{fit_still, fit_none}
use Rattle.meta_log.specs.Prelude.{AreRecords}
use Rattle.log_replay.specs.Prelude.{IsReplay}

records_fit : (rows : Rows) (records : List (List RowOp)) (number : ℕ) (bytes : List ℕ) → RowsFit rows → AreRecords records number bytes
    → RowsFit (rows_of_records rows records)
records_fit rows [] number bytes fit are = fit
records_fit rows (ops ∷ more) number bytes fit are =
    records_fit (rows_after rows ops) more (number + 1) are.0 (fit_still rows ops fit are.1.fit) are.2

pub replay_fit : (half : List ℕ) (first : ℕ) (rows : Rows) (tail number : ℕ) → IsReplay half first rows tail number → RowsFit rows
replay_fit half first rows tail number replay = subst RowsFit (sym replay.made) (records_fit map.empty replay.records first half fit_none replay.stand)
