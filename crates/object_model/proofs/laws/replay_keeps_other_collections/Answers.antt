use Rattle.object_model.proofs.Replays.{replay-other}
use Rattle.object_model.proofs.laws.replay_keeps_other_collections.Goals as goal

pub returns : goal.returns
returns c = replay-other
