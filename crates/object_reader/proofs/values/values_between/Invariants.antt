use Rattle.std.proofs.Common.{◌≡◌, ◌++◌, length, map, Some}
use Rattle.std.specs.List.{AllByRecursion}
use Rattle.meta_rows.specs.Prelude.{rows_from_to}
use Rattle.object_reader.specs.ValueRows.{value_behind, IsNamedBehind}
use Rattle.object_reader.proofs.values.values_between.Given as goal

abbrev pub invariant-loop-key : goal.invariant-loop-key
invariant-loop-key l = record {
  can_next : (goal.iterator-loop-key).can_next l.key-iterator;
  finite : (goal.iterator-loop-key).is_finite l.key-iterator;
  named : AllByRecursion (IsNamedBehind (length l.first)) l.key-iterator;
  values : l.values ++ map (value_behind (length l.first)) l.key-iterator
      ≡ map (value_behind (length l.first)) (rows_from_to l.rows.rows l.first (Some l.end));
}
