use Rattle.std.proofs.Common.{◌≡◌, take, drop}
use Rattle.meta_rows.specs.Prelude.{ops_bytes, AllFit, sets_of, part_with}
use Rattle.meta_rows.proofs.row_cursor.part_of.Given as goal

abbrev pub invariant-loop-row : goal.invariant-loop-row
invariant-loop-row l = record {
  can_next : (goal.iterator-loop-row).can_next l.row-iterator;
  finite : (goal.iterator-loop-row).is_finite l.row-iterator;
  fit : AllFit (sets_of l.row-iterator);
  part : part_with l.part (ops_bytes (sets_of l.row-iterator)) ≡ take l.fn.count (drop l.fn.skip (ops_bytes (sets_of l.fn.rows)));
}
