use Rattle.std.proofs.lemmas.Bool.{leb-true}
use Rattle.page_lookup.proofs.Fronts.{begins_in}
use Rattle.page_lookup.proofs.shard.begins_by.Goals as goal

pub returns-in-Some : goal.returns-in-Some
returns-in-Some c is =
    begins_in c.args.width c.args.bytes.now c.in-Some.head c.args.page c.in-Some.ensures.some (leb-true c.in-Some.head.first c.args.page is)
