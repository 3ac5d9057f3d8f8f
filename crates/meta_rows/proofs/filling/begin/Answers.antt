use Rattle.std.proofs.Common.{arith}
use Rattle.meta_rows.proofs.FillLemmas.{begun}
use Rattle.meta_rows.proofs.filling.begin.Goals as goal

pub returns : goal.returns
returns c = begun c.args.row c.args.into.now _ c.in-Some.chunk c.push.new.self c.requires.shaped c.requires.filled c.in-Some.ensures.items c.push.ensures c.push_reserved.ensures.items
    c.push_reserved.ensures.len (omega (arith, c.in-Some.ensures.len)) c.push_reserved.ensures.capacity c.in-Some.ensures.capacity
