use Rattle.std.proofs.Common.{◌≡◌, ◌+◌, ◌<◌, ◌≤◌, List, ◌++◌, length}
use Rattle.meta_rows.specs.Prelude.{AllFit, Entry, list_size, sets_of}
use Rattle.meta_rows.proofs.row_cursor.row_before.Given as goal

abbrev pub invariant-rows : goal.invariant-rows
invariant-rows l = record {
  fit : AllFit (sets_of l.front);
  back : List Entry;
  rows : l.fn.rows ≡ l.front ++ back;
  size : list_size l.front + l.fn.count ≡ list_size l.fn.rows + l.left;
  some : 0 < l.left;
  most : l.left ≤ list_size l.front;
}

abbrev pub decreases-rows : goal.decreases-rows
decreases-rows l = length l.front
