use Rattle.log_replay.specs.Prelude.{as_found}
use Rattle.log_replay.proofs.JudgeLemmas.{judged}
use Rattle.log_replay.proofs.judging.judge.Goals as goal

pub returns-in-Ok-clause-judged : goal.returns-in-Ok-clause-judged
returns-in-Ok-clause-judged c =
    let known = c.in_ok-marked.ensures in
    let made = c.in-Ok.ensures in
    judged (as_found c.args.found.now) c.in_ok-marked.marked c.in-Ok.space c.requires known.good known.marked c.in_default.ensures made.units
    made.free made.unheld
