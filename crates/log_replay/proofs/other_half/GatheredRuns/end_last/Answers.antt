use Rattle.log_replay.proofs.OtherHalfLemmas.{last_ended}
use Rattle.log_replay.proofs.other_half.GatheredRuns.end_last.Goals as goal

pub returns-in_ok-push : goal.returns-in_ok-push
returns-in_ok-push c = last_ended c.args.self.now _ c.in_ok-push.ensures.items c.requires c.if-self-gt0.true
