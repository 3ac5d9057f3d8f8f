use Rattle.std.proofs.Common.{◌+◌, subst}
use Rattle.block_device.specs.Prelude.{Disk}
use Rattle.log_replay.specs.Prelude.{HasStale}
use Rattle.log_replay.proofs.HalfLemmas.{new_again, half_was_read}
use Rattle.log_replay.proofs.replaying.read_half.Goals as goal

pub replay-requires-clause-begin : goal.replay-requires-clause-begin
replay-requires-clause-begin g c = new_again c.new-half.result c.args.first (c.args.first + c.args.count) c.new-half.ensures

pub returns-clause-read : goal.returns-clause-read
returns-clause-read g c =
    let d = g.D.Device.disk c.args.dev.now in
    let half = c.replay.new.half in
    half_was_read d c.new-half.result half c.args.first c.args.count c.args.number c.in_ok-log.log c.in_ok-stale.stale.items c.requires.sound
    c.requires.inside c.new-half.ensures c.in_ok-log.ensures.replayed
    (subst (λ (e : Disk). HasStale e half c.in_ok-stale.stale.items) c.replay.ensures.same c.in_ok-stale.ensures.stale)
