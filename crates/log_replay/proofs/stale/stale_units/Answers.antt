use Rattle.log_replay.proofs.StaleLemmas.{slots_below, are_stale}
use Rattle.log_replay.proofs.stale.stale_units.Goals as goal

pub add_stale_between-requires-clause-before : goal.add_stale_between-requires-clause-before
add_stale_between-requires-clause-before g c = slots_below c.in-Ok.stale.items c.in-Ok.ensures

pub returns-clause-stale : goal.returns-clause-stale
returns-clause-stale g c =
    are_stale (g.D.Device.disk c.args.dev.now) c.args.below c.in-Ok.stale.items _ c.in-Ok.ensures c.requires.slots c.in_ok-add_stale_between.ensures.stale
