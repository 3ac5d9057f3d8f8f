use Rattle.std.proofs.Common.{◌≡◌, ◌++◌, ◌+◌}
use Rattle.meta_log.specs.Prelude.{cut_run}
use Rattle.meta_log.proofs.runs.push_cut.Given as goal

abbrev pub invariant-loop-left : goal.invariant-loop-left
invariant-loop-left l = record {
  pushed : l.runs.items ++ cut_run l.left l.next l.left ≡ l.fn.runs.items ++ cut_run l.count l.first l.count;
  end : l.next + l.left ≡ l.first + l.count;
}

abbrev pub decreases-loop-left : goal.decreases-loop-left
decreases-loop-left l = l.left
