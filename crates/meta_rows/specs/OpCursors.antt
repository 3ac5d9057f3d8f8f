-- Places in the spelling of operations.
use Rattle.std.specs.Prelude.{ℕ, ◌+◌, List, length, take}
use Rattle.meta_rows.specs.Spelling.{ops_bytes}
use Rattle.meta_rows.specs.declared.row_op.RowOp.{RowOp}
use Rattle.meta_rows.specs.declared.op_cursor.OpCursor.{OpCursor}

-- how many bytes lie before the cursor: those of the operations before it, and those that it passed behind them
abbrev pub ops_before : List RowOp → OpCursor → ℕ
ops_before ops at = length (ops_bytes (take at.ops ops)) + at.passed
