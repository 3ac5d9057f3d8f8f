use Rattle.std.proofs.Common.{◌≡◌, ◌+◌, ◌≤◌, List, ◌++◌}
use Rattle.meta_rows.specs.Prelude.{AllFit, Entry, list_size, sets_of}
use Rattle.meta_rows.proofs.row_cursor.row_behind.Given as goal

abbrev pub invariant-loop-row : goal.invariant-loop-row
invariant-loop-row l = record {
  can_next : (goal.iterator-loop-row).can_next l.row-iterator;
  finite : (goal.iterator-loop-row).is_finite l.row-iterator;
  fit : AllFit (sets_of l.row-iterator);
  passed : List Entry;
  rows : l.fn.rows ≡ passed ++ l.row-iterator;
  size : list_size passed + l.left ≡ l.fn.count;
  most : l.left ≤ list_size l.row-iterator;
}
