use Rattle.std.proofs.Common.{arith}
use Rattle.mount_replay.proofs.MountingLemmas.{reaped_none, reaped_more, one_reap}
use Rattle.mount_replay.proofs.mounting.reap_all.Goals as goal

pub reaping-init : goal.reaping-init
reaping-init g c = (reaped_none c.args.kernel.now.state (g.D.Device.disk c.args.kernel.now.device), omega arith)

pub reaping-preserved : goal.reaping-preserved
reaping-preserved g c =
    let disk = g.D.Device.disk in
    let old = c.args.kernel.now in
    let mid = c.reaping.kernel in
    let new = c.reap.new.kernel in (
      reaped_more old.state (disk old.device) mid.state (disk mid.device) new.state (disk new.device) c.reaping.invariant.0
          (c.is_flying.ensures.flies c.reaping-test.true) c.reap.ensures.call c.reap.ensures.sound,
      omega (arith, c.reaping.invariant.1, c.reap.ensures.faults),
    )

pub reaping-smaller : goal.reaping-smaller
reaping-smaller g c =
    let disk = g.D.Device.disk in
    let mid = c.reaping.kernel in
    let new = c.reap.new.kernel in
    let one = one_reap mid.state (disk mid.device) new.state (disk new.device) (c.is_flying.ensures.flies c.reaping-test.true) c.reap.ensures.call in
    one.fewer
