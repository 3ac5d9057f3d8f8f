use Rattle.std.proofs.Common.{drop, arith}
use Rattle.std.proofs.lemmas.List.{take_all, length-drop}
use Rattle.page_lookup.proofs.shard.behind.Goals as goal

pub returns : goal.returns
returns c = take_all _ (drop c.args.count c.args.bytes.now) (omega (arith, length-drop c.args.count c.args.bytes.now))
