use Rattle.extent_shards.proofs.Cutting.{all_in_one}
use Rattle.extent_shards.proofs.laws.a_split_without_bound.Goals as goal

pub returns : goal.returns
returns c = all_in_one
