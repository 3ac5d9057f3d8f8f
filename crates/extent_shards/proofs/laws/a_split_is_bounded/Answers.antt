use Rattle.extent_shards.proofs.Joins.{shards_bounded}
use Rattle.extent_shards.proofs.laws.a_split_is_bounded.Goals as goal

pub returns : goal.returns
returns c = shards_bounded
