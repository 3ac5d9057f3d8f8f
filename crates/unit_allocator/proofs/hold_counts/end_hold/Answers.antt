use Rattle.std.proofs.Common.{◌≡◌, ◌-◌, ap, ◌∙◌, arith}
use Rattle.unit_allocator.specs.Prelude.{hold_count}
use Rattle.unit_allocator.proofs.Fields.{insert_here, insert_there, remove_here, remove_there, held_has_entry, false_true}
use Rattle.unit_allocator.proofs.hold_counts.end_hold.Goals as goal

pub returns-then-left-eq0-clause-here : goal.returns-then-left-eq0-clause-here
returns-then-left-eq0-clause-here c =
    let none : 0 ≡ hold_count c.args.holds.now c.args.at - 1 = omega (arith, c.if-left-eq0.true, c.count_at-left.ensures) in
    ap (λ m. hold_count m c.args.at) c.take-last.ensures.taken ∙ remove_here c.args.holds.now c.args.at ∙ none

pub returns-then-left-eq0-clause-elsewhere : goal.returns-then-left-eq0-clause-elsewhere
returns-then-left-eq0-clause-elsewhere c = λ q apart.
    ap (λ m. hold_count m q) c.take-last.ensures.taken ∙ remove_there c.args.holds.now c.args.at q apart

pub unreachable-requires : goal.unreachable-requires
unreachable-requires c = false_true (c.in-Err.ensures.overwrites (held_has_entry c.args.holds.now c.args.at c.requires))

pub returns-clause-here : goal.returns-clause-here
returns-clause-here c =
    ap (λ m. hold_count m c.args.at) c.in-Ok.ensures.ok ∙ insert_here c.args.holds.now c.args.at (c.count_at-left.result - 1)
    ∙ ap (λ n. n - 1) c.count_at-left.ensures

pub returns-clause-elsewhere : goal.returns-clause-elsewhere
returns-clause-elsewhere c = λ q apart.
    ap (λ m. hold_count m q) c.in-Ok.ensures.ok ∙ insert_there c.args.holds.now c.args.at (c.count_at-left.result - 1) q apart
