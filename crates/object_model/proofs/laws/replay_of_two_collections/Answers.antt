use Rattle.object_model.proofs.Replays.{replay-swapped}
use Rattle.object_model.proofs.laws.replay_of_two_collections.Goals as goal

pub returns : goal.returns
returns c = replay-swapped
