use Rattle.std.proofs.Common.{◌+◌, ◌-◌, ap, sym, ◌∙◌}
use Rattle.unit_allocator.specs.Prelude.{holds_of, flags, hold_counts}
use Rattle.unit_allocator.proofs.Fields.{place_within, hold_fields, hold_again, holds_are, view_counted}
use Rattle.unit_allocator.proofs.allocator.Allocator.hold_one.Goals as goal

pub overflow_sub-self : goal.overflow_sub-self
overflow_sub-self c =
    let lt =
    place_within c.self.inside.first c.self.inside.count c.self.inside.idle.items (hold_counts c.self.inside.holds c.self.inside.count)
    c.args.self.now c.self.view_is c.requires in
    (hold_fields c.self.invariant (c.args.unit - c.self.inside.first) lt c.add_hold.new.holds c.clear.new.self c.in_ok-add_hold.ensures.here
    c.in_ok-add_hold.ensures.elsewhere c.clear.ensures.len (sym c.test.ensures ∙ c.if-test.true) c.clear.ensures.here
    c.clear.ensures.elsewhere).some

pub invariant_of-self-then-test : goal.invariant_of-self-then-test
invariant_of-self-then-test c =
    let lt =
    place_within c.self.inside.first c.self.inside.count c.self.inside.idle.items (hold_counts c.self.inside.holds c.self.inside.count)
    c.args.self.now c.self.view_is c.requires in
    (hold_fields c.self.invariant (c.args.unit - c.self.inside.first) lt c.add_hold.new.holds c.clear.new.self c.in_ok-add_hold.ensures.here
    c.in_ok-add_hold.ensures.elsewhere c.clear.ensures.len (sym c.test.ensures ∙ c.if-test.true) c.clear.ensures.here
    c.clear.ensures.elsewhere).sound

pub invariant_of-self-else-test : goal.invariant_of-self-else-test
invariant_of-self-else-test c =
    let lt =
    place_within c.self.inside.first c.self.inside.count c.self.inside.idle.items (hold_counts c.self.inside.holds c.self.inside.count)
    c.args.self.now c.self.view_is c.requires in
    hold_again c.self.invariant (c.args.unit - c.self.inside.first) lt c.add_hold.new.holds c.in_ok-add_hold.ensures.here
    c.in_ok-add_hold.ensures.elsewhere (sym c.test.ensures ∙ c.if-test.false)

pub returns-then-test-clause-ok : goal.returns-then-test-clause-ok
returns-then-test-clause-ok c =
    let lt =
    place_within c.self.inside.first c.self.inside.count c.self.inside.idle.items (hold_counts c.self.inside.holds c.self.inside.count)
    c.args.self.now c.self.view_is c.requires in
    let count =
    holds_are c.self.inside.first c.self.inside.count (flags c.self.inside.idle.items c.self.inside.count) c.self.inside.holds
    c.args.self.now c.args.unit c.self.view_is lt in
    view_counted c.self.inside.first c.self.inside.count (flags c.self.inside.idle.items c.self.inside.count) c.self.inside.holds
    c.add_hold.new.holds c.args.self.now c.args.unit (holds_of c.args.self.now c.args.unit + 1) c.self.view_is (c.in_ok-add_hold.ensures.here ∙
    ap (λ n. n + 1) count) c.in_ok-add_hold.ensures.elsewhere

pub returns-else-test-clause-ok : goal.returns-else-test-clause-ok
returns-else-test-clause-ok c =
    let lt =
    place_within c.self.inside.first c.self.inside.count c.self.inside.idle.items (hold_counts c.self.inside.holds c.self.inside.count)
    c.args.self.now c.self.view_is c.requires in
    let count =
    holds_are c.self.inside.first c.self.inside.count (flags c.self.inside.idle.items c.self.inside.count) c.self.inside.holds
    c.args.self.now c.args.unit c.self.view_is lt in
    view_counted c.self.inside.first c.self.inside.count (flags c.self.inside.idle.items c.self.inside.count) c.self.inside.holds
    c.add_hold.new.holds c.args.self.now c.args.unit (holds_of c.args.self.now c.args.unit + 1) c.self.view_is (c.in_ok-add_hold.ensures.here ∙
    ap (λ n. n + 1) count) c.in_ok-add_hold.ensures.elsewhere
