use Rattle.std.proofs.Common.{◌-◌, false, ap, ◌∙◌}
use Rattle.unit_allocator.specs.Prelude.{is_free, hold_counts}
use Rattle.unit_allocator.proofs.Fields.{place_within, idle_within, take_fields, view_flagged}
use Rattle.unit_allocator.proofs.allocator.Allocator.take_one.Goals as goal

pub clear-requires : goal.clear-requires
clear-requires c =
    let lt =
    place_within c.self.inside.first c.self.inside.count c.self.inside.idle.items (hold_counts c.self.inside.holds c.self.inside.count)
    c.args.self.now c.self.view_is c.requires.within in
    idle_within c.self.invariant (c.args.unit - c.self.inside.first) lt

pub overflow_sub-self : goal.overflow_sub-self
overflow_sub-self c =
    let lt =
    place_within c.self.inside.first c.self.inside.count c.self.inside.idle.items (hold_counts c.self.inside.holds c.self.inside.count)
    c.args.self.now c.self.view_is c.requires.within in
    (take_fields c.self.invariant (c.args.unit - c.self.inside.first) lt c.clear.new.words.items c.clear-2.new.self c.clear.ensures.len
    c.clear.ensures.here c.clear.ensures.elsewhere c.clear-2.ensures.len (c.self.invariant.sound.bits (c.args.unit - c.self.inside.first) ∙ ap
    (λ s. is_free s c.args.unit) c.self.view_is ∙ c.requires.free) c.clear-2.ensures.here c.clear-2.ensures.elsewhere).some

pub invariant_of-self : goal.invariant_of-self
invariant_of-self c =
    let lt =
    place_within c.self.inside.first c.self.inside.count c.self.inside.idle.items (hold_counts c.self.inside.holds c.self.inside.count)
    c.args.self.now c.self.view_is c.requires.within in
    (take_fields c.self.invariant (c.args.unit - c.self.inside.first) lt c.clear.new.words.items c.clear-2.new.self c.clear.ensures.len
    c.clear.ensures.here c.clear.ensures.elsewhere c.clear-2.ensures.len (c.self.invariant.sound.bits (c.args.unit - c.self.inside.first) ∙ ap
    (λ s. is_free s c.args.unit) c.self.view_is ∙ c.requires.free) c.clear-2.ensures.here c.clear-2.ensures.elsewhere).sound

pub returns : goal.returns
returns c =
    view_flagged c.self.inside.first c.self.inside.count c.self.inside.idle.items c.clear.new.words.items (hold_counts c.self.inside.holds
    c.self.inside.count) c.args.self.now c.args.unit false c.self.view_is c.clear.ensures.here c.clear.ensures.elsewhere
