use Rattle.std.proofs.Common.{◌∙◌}
use Rattle.unit_allocator.specs.Prelude.{holds_of, flags, hold_counts}
use Rattle.unit_allocator.proofs.Fields.{place_within, holds_are, zero_test}
use Rattle.unit_allocator.proofs.allocator.Allocator.is_unheld.Goals as goal

pub returns : goal.returns
returns c =
    let lt =
    place_within c.self.inside.first c.self.inside.count c.self.inside.idle.items (hold_counts c.self.inside.holds c.self.inside.count)
    c.args.self.now c.self.view_is c.requires in
    let count =
    holds_are c.self.inside.first c.self.inside.count (flags c.self.inside.idle.items c.self.inside.count) c.self.inside.holds
    c.args.self.now c.args.unit c.self.view_is lt in
    zero_test c.count_at.result (holds_of c.args.self.now c.args.unit) (c.count_at.ensures ∙ count)
