use Rattle.extent_shards.proofs.Joins.{shards_back, join_of_split, join_one_more}
use Rattle.extent_shards.proofs.laws.a_split_is_joined.Goals as goal

pub returns : goal.returns
returns c = record { extents = shards_back; pages = join_of_split; more = join_one_more }
