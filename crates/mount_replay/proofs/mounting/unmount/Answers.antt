use Rattle.std.proofs.Common.{subst, sym}
use Rattle.mount_replay.specs.Mounting.{IsReapedTo}
use Rattle.mount_replay.proofs.mounting.unmount.Goals as goal

pub returns-clause-reaped : goal.returns-clause-reaped
returns-clause-reaped g c =
    let disk = g.D.Device.disk in
    let first = c.args.kernel in
    let last = c.reap_all.new.kernel in
    (last.state, (subst (λ d. IsReapedTo first.state (disk first.device) last.state d) (sym c.close.ensures.disk) c.reap_all.ensures.reaped, c.close.ensures.book))
