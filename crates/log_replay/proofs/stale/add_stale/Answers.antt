use Rattle.log_replay.proofs.StaleLemmas.{added_stale, added_zero}
use Rattle.log_replay.proofs.stale.add_stale.Goals as goal
use Rattle.log_replay.proofs.stale.add_stale.Goals.{then-not-is_zero_unit+in_ok-push, else-not-is_zero_unit}

pub loop-k-preserved : goal.loop-k-preserved
loop-k-preserved c =
    let at = c.args.at in
    let bytes = c.args.bytes.now in
    let old = c.args.stale.now.items in elim c.if-not-is_zero_unit.branch [
      | then-not-is_zero_unit+in_ok-push w ↦ added_stale at c.loop-k.k bytes old c.loop-k.stale.items _ (rw w.stale-is w.in_ok-push.ensures.items) (λ is. absurd (let yes = c.is_zero_unit.ensures.1 is in let no = w.if-not-is_zero_unit.true in cc)) c.loop-k.invariant
      | else-not-is_zero_unit w ↦ rw w.stale-is (added_zero at c.loop-k.k bytes old c.loop-k.stale.items (c.is_zero_unit.ensures.0 w.if-not-is_zero_unit.false) c.loop-k.invariant)
    ]
