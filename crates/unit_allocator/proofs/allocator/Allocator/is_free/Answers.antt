use Rattle.std.proofs.Common.{◌-◌, ap, ◌∙◌}
use Rattle.unit_allocator.specs.Prelude.{is_free, idle_and_unheld, flags, hold_counts}
use Rattle.unit_allocator.proofs.allocator.Allocator.is_free.Goals as goal

pub returns : goal.returns
returns c =
    c.test.ensures
    ∙ c.self.invariant.sound.bits (c.number.result - c.self.inside.first)
    ∙ ap (λ u. idle_and_unheld (flags c.self.inside.idle.items c.self.inside.count) (hold_counts c.self.inside.holds c.self.inside.count)
    (u - c.self.inside.first)) c.number.ensures
    ∙ ap (λ s. is_free s c.args.unit) c.self.view_is
