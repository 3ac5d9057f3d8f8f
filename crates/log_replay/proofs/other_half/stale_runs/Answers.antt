use Rattle.log_replay.proofs.OtherHalfLemmas.{runs_on}
use Rattle.log_replay.proofs.other_half.stale_runs.Goals as goal

pub returns-clause-runs : goal.returns-clause-runs
returns-clause-runs g c =
    runs_on (g.D.Device.disk c.args.dev.now) c.args.first c.args.count c.gather.new.runs c.end_last.new.self c.in_ok-gather.ensures.gathered
    c.in_ok-gather.ensures.about c.in-Ok.ensures
