use Rattle.std.proofs.Common.{rules}
use Rattle.page_lookup.proofs.Fronts.{done_as}
use Rattle.page_lookup.proofs.shard.is_done.Goals as goal

pub returns : goal.returns
returns c =
    let both = done_as c.args.width c.args.bytes.now c.head_in.result c.head_in.ensures.none c.head_in.ensures.some in
    (λ t. both.0 (search rules), λ e. let none = both.1 e in search rules)
