use Rattle.std.proofs.Common.{rules}
use Rattle.page_lookup.proofs.Fronts.{slot_is}
use Rattle.page_lookup.proofs.shard.slot_in.Goals as goal

pub returns : goal.returns
returns c = slot_is c.args.fields.now c.u64.new.self c.u16.new.self c.in_ok-sbid.sbid c.in_ok-index.index (search rules) (search rules)
