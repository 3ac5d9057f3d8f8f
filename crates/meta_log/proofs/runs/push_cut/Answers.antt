use Rattle.std.proofs.Common.{arith}
use Rattle.meta_log.proofs.RunLemmas.{one_pushed, cut_begins}
use Rattle.meta_log.proofs.runs.push_cut.Goals as goal

pub loop-left-preserved : goal.loop-left-preserved
loop-left-preserved c = record {
  pushed = one_pushed _ _ _ _ _ _ c.in_ok-push.ensures.items
      (cut_begins c.loop-left.left c.loop-left.next c.min-count.result c.loop-left-test.true c.min-count.ensures) c.loop-left.invariant.pushed;
  end = omega (arith, c.loop-left.invariant.end, c.min-count.ensures);
}
