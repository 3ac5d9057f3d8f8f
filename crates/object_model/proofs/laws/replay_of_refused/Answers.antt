use Rattle.object_model.proofs.Replays.{replay-refused}
use Rattle.object_model.proofs.laws.replay_of_refused.Goals as goal

pub returns : goal.returns
returns c = replay-refused
