use Rattle.std.proofs.Common.{◌≡◌, Some, not}
use Rattle.std.specs.FinMap as map
use Rattle.byte_maps.specs.ByteMap.{in_range}
use Rattle.meta_rows.specs.Prelude.{rows_from_to}
use Rattle.row_changes.specs.Log.{logged}
use Rattle.row_changes.proofs.Logs.{gone}
use Rattle.row_changes.proofs.row_changes.RowChanges.drop_range.Given as goal

abbrev pub invariant-loop-key : goal.invariant-loop-key
invariant-loop-key l = record {
  can_next : (goal.iterator-loop-key).can_next l.key-iterator;
  finite : (goal.iterator-loop-key).is_finite l.key-iterator;
  goes : logged l.self (gone l.key-iterator)
      ≡ logged (map.retain_keys l.fn.self (λ k. not (in_range l.fn.first l.fn.end k))) (gone (rows_from_to l.fn.rows.rows l.fn.first (Some l.fn.end)));
}
