use Rattle.object_model.proofs.Replays.{replay-append}
use Rattle.object_model.proofs.laws.replay_of_two_lists.Goals as goal

pub returns : goal.returns
returns c = replay-append
