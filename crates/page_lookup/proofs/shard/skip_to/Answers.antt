use Rattle.std.proofs.Common.{rules}
use Rattle.page_lookup.specs.Prelude.{extents_read}
use Rattle.page_lookup.proofs.Fronts.{none_read, ends_behind, none_behind, size_within, left_out}
use Rattle.page_lookup.proofs.shard.skip_to.Goals as goal

pub returns-then-from-clause-reaches : goal.returns-then-from-clause-reaches
returns-then-from-clause-reaches c =
    ends_behind c.args.width c.extents.left.now c.in-Some.head c.args.page c.in-Some.ensures.some (search rules)

pub behind-left-requires : goal.behind-left-requires
behind-left-requires c =
    let within = size_within c.args.width c.extents.left.now c.in-Some.head c.in-Some.ensures.some in
    search rules

pub extents-preserved : goal.extents-preserved
extents-preserved c =
    left_out c.args.width c.extents.left.now c.behind-left.result.now
    (extents_read c.args.width c.args.bytes.now) c.in-Some.head c.args.page c.in-Some.ensures.some (search rules)
    (search rules) c.extents.invariant

pub returns-clause-reaches : goal.returns-clause-reaches
returns-clause-reaches c =
    none_behind c.args.width c.extents.left.now c.args.page (none_read c.args.width c.extents.left.now (search rules))
