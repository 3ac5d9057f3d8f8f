use Rattle.std.proofs.Common.{refl}
use Rattle.log_replay.proofs.OtherHalfLemmas.{added_new}
use Rattle.log_replay.proofs.other_half.GatheredRuns.add.Goals as goal

pub returns : goal.returns
returns c = added_new c.args.k c.args.self.now c.end_last.new.self _ c.requires.gathered c.in_ok-end_last.ensures refl refl
