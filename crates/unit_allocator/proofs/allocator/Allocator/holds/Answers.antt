use Rattle.std.proofs.Common.{◌-◌, ap, ◌∙◌}
use Rattle.unit_allocator.specs.Prelude.{flags, hold_count, hold_counts}
use Rattle.unit_allocator.proofs.Fields.{place_within, holds_are}
use Rattle.unit_allocator.proofs.allocator.Allocator.holds.Goals as goal

pub returns : goal.returns
returns c =
    let lt =
    place_within c.self.inside.first c.self.inside.count c.self.inside.idle.items (hold_counts c.self.inside.holds c.self.inside.count)
    c.args.self.now c.self.view_is c.requires in
    let count =
    holds_are c.self.inside.first c.self.inside.count (flags c.self.inside.idle.items c.self.inside.count) c.self.inside.holds
    c.args.self.now c.args.unit c.self.view_is lt in
    c.count_at.ensures ∙ ap (λ u. hold_count c.self.inside.holds (u - c.self.inside.first)) c.number.ensures ∙ count
