use Rattle.std.proofs.Common.{Some, refl}
use Rattle.extent_shards.proofs.Cutting.{shard_begins}
use Rattle.extent_shards.proofs.pushing.push_shard.Goals as goal

pub returns : goal.returns
returns c =
    shard_begins c.args.width (Some c.args.bound) c.args.pages.now _ c.index-pages-0.result c.args.out.now.items c.push_front.new.out.items
    c.in_ok-count.ensures refl
