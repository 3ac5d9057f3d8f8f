use Rattle.std.proofs.Common.{◌-◌, arith}
use Rattle.meta_log.proofs.RunLemmas.{one_pushed, record_begins}
use Rattle.meta_log.proofs.runs.push_record.Goals as goal

pub loop-left-preserved : goal.loop-left-preserved
loop-left-preserved c = record {
  pushed = one_pushed _ _ _ _ _ _ c.in_ok-push.ensures.items (record_begins c.args.units c.loop-left.left (c.loop-left.left - 1) _ _
      (omega (arith, c.loop-left-test.true)) (omega arith) c.min.ensures) c.loop-left.invariant.pushed;
  most = omega (arith, c.loop-left.invariant.most);
}
