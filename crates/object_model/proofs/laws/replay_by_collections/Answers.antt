use Rattle.object_model.proofs.Replays.{replay-by_collections}
use Rattle.object_model.proofs.laws.replay_by_collections.Goals as goal

pub returns : goal.returns
returns c = replay-by_collections
