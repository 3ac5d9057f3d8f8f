use Rattle.std.proofs.Common.{◌+◌, ap, ◌∙◌}
use Rattle.unit_allocator.specs.Prelude.{hold_count}
use Rattle.unit_allocator.proofs.Fields.{insert_here, insert_there}
use Rattle.unit_allocator.proofs.hold_counts.add_hold.Goals as goal

pub returns-clause-here : goal.returns-clause-here
returns-clause-here c =
    ap (λ m. hold_count m c.args.at) c.in_ok-insert.ensures.ok ∙ insert_here c.args.holds.now c.args.at c.in_ok-more.more
    ∙ c.in_ok-more.ensures ∙ ap (λ n. n + 1) c.count_at.ensures

pub returns-clause-elsewhere : goal.returns-clause-elsewhere
returns-clause-elsewhere c = λ q apart.
    ap (λ m. hold_count m q) c.in_ok-insert.ensures.ok ∙ insert_there c.args.holds.now c.args.at c.in_ok-more.more q apart
