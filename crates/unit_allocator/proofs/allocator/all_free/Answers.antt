use Rattle.std.proofs.Common.{sym, ap, subst, ◌∙◌}
use Rattle.std.specs.FinMap as finite
use Rattle.unit_allocator.specs.Prelude.{hold_counts, AreSound}
use Rattle.unit_allocator.proofs.Fields.{all_free_sound, all_flags, no_counts}
use Rattle.unit_allocator.proofs.allocator.all_free.Goals as goal

pub invariant_of-result : goal.invariant_of-result
invariant_of-result c =
    subst (λ m. AreSound c.args.first c.args.count c.in_ok-idle.idle.items m c.in_ok-bits.bits c.args.count 0) (sym c.new-holds.ensures)
    (subst (λ ws. AreSound c.args.first c.args.count c.in_ok-idle.idle.items finite.empty ws c.args.count 0) (sym c.in_ok-bits.ensures)
    (all_free_sound c.args.first c.args.count c.in_ok-idle.idle.items c.in_ok-words.words.items c.requires c.in_ok-idle.ensures.len
    c.in_ok-words.ensures.len c.in_ok-idle.ensures.bits c.in_ok-words.ensures.bits))

pub returns-clause-idle : goal.returns-clause-idle
returns-clause-idle c = all_flags c.in_ok-idle.idle.items c.args.count c.in_ok-idle.ensures.bits

pub returns-clause-holds : goal.returns-clause-holds
returns-clause-holds c = ap (λ m. hold_counts m c.args.count) c.new-holds.ensures ∙ no_counts c.args.count
