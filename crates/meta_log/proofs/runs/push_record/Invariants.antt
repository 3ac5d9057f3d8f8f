use Rattle.std.proofs.Common.{◌≡◌, ◌++◌, ◌≤◌}
use Rattle.meta_log.specs.Prelude.{piece_count, record_runs}
use Rattle.meta_log.proofs.runs.push_record.Given as goal

abbrev pub invariant-loop-left : goal.invariant-loop-left
invariant-loop-left l = record {
  pushed : l.runs.items ++ record_runs l.units l.left ≡ l.fn.runs.items ++ record_runs l.units (piece_count l.units);
  most : l.left ≤ piece_count l.units;
}

abbrev pub decreases-loop-left : goal.decreases-loop-left
decreases-loop-left l = l.left
