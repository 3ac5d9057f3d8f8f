use Rattle.std.proofs.Common.{false, get_or}
use Rattle.block_device.proofs.Pendings.{lower_more}
use Rattle.block_device.specs.declared.pending.Pending.{Pending}
use Rattle.block_device.proofs.pending.lower_lags.Goals as goal

pub loop-p-preserved : goal.loop-p-preserved
loop-p-preserved c =
    let d : Pending = record { ticket = 0; first = 0; bytes = 0; ok = false; lag = 0 } in
    let q : Pending = get_or c.loop-p.pending c.loop-p.p-index d in
    lower_more c.args.pending.now c.loop-p.pending c.loop-p.p-index d (record { ticket = q.ticket; first = q.first; bytes = q.bytes; ok = q.ok; lag = c.saturating_sub-p.result })
    c.loop-p-test.true c.loop-p.invariant (λ j. record { ticket = q.ticket; first = q.first; bytes = q.bytes; ok = q.ok; lag = c.saturating_sub-p.ensures j })
