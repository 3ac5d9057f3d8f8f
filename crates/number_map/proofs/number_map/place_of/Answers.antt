use Rattle.std.proofs.Common.{Ok, Err, arith, ap, sym, ◌∙◌, zero-add}
use Rattle.number_map.proofs.Search.{there_at, not_at, above}
use Rattle.number_map.proofs.number_map.place_of.Goals as goal
use Rattle.number_map.proofs.number_map.place_of.Goals.{else-at-entries-via-then-at-entries+else-entries-at, else-at-entries-via-else-at-entries}

pub returns-then-entries-at : goal.returns-then-entries-at
returns-then-entries-at g c = ap Ok (sym (zero-add c.below-at.result)) ∙ there_at c.args.key c.args.entries.now 0 c.below-at.result c.index-entries-at.result c.below-at.ensures.front c.if-at-entries.true c.if-entries-at.true

pub returns-else-at-entries : goal.returns-else-at-entries
returns-else-at-entries g c = ap Err (sym (zero-add c.below-at.result)) ∙ elim c.else-at-entries.branch [
  | else-at-entries-via-then-at-entries+else-entries-at w ↦ not_at c.args.key c.args.entries.now 0 c.below-at.result c.below-at.ensures.front c.below-at.ensures.within (above c.args.key c.args.entries.now c.below-at.result w.index-entries-at.result c.below-at.ensures.back w.if-entries-at.false)
  | else-at-entries-via-else-at-entries w ↦ not_at c.args.key c.args.entries.now 0 c.below-at.result c.below-at.ensures.front c.below-at.ensures.within (λ d lt. absurd (omega (arith, lt)))
]
