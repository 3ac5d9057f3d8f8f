use Rattle.std.proofs.Common.{◌≡◌, ℕ, List, [], Some, None, drop}
use Rattle.std.specs.FinMap as map
use Rattle.meta_rows.specs.Prelude.{rows_from_to}
use Rattle.store_image.specs.Prelude.{IsGoodRow}
use Rattle.row_check.specs.Bad.{Knows}
use Rattle.row_check.proofs.Walk.{InFirst}
use Rattle.row_check.proofs.bad.find_bad_row.Given as goal

abbrev pub invariant-loop-key : goal.invariant-loop-key
invariant-loop-key l = record {
  can_next : (goal.iterator-loop-key).can_next l.key-iterator;
  finite : (goal.iterator-loop-key).is_finite l.key-iterator;
  at : ℕ;
  left : l.key-iterator ≡ drop at (rows_from_to l.fn.rows.rows [] None);
  knows : Knows l.fn.sup l.fn.rows.rows (InFirst (rows_from_to l.fn.rows.rows [] None) at) l.passed;
  good : (n w : List ℕ) → InFirst (rows_from_to l.fn.rows.rows [] None) at n → map.get l.fn.rows.rows n ≡ Some w → IsGoodRow l.fn.sup l.fn.rows.rows n w;
}
