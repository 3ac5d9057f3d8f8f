use Rattle.extent_shards.proofs.Openings.{split_rises}
use Rattle.extent_shards.proofs.laws.a_split_rises.Goals as goal

pub returns : goal.returns
returns c = split_rises
