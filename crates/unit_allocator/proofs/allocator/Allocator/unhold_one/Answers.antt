use Rattle.std.proofs.Common.{◌-◌, ◌<◌, ap, sym, subst, ◌∙◌, arith, rules}
use Rattle.unit_allocator.specs.Prelude.{bit, holds_of, flags, hold_counts}
use Rattle.unit_allocator.proofs.Fields.{place_within, unhold_fields, unhold_still_held, unhold_not_idle, holds_are, view_counted}
use Rattle.unit_allocator.proofs.allocator.Allocator.unhold_one.Goals as goal
use Rattle.unit_allocator.proofs.allocator.Allocator.unhold_one.Goals.{else-left-eq0-via-then-left-eq0+else-test, else-left-eq0-via-else-left-eq0}

pub end_hold-left-requires : goal.end_hold-left-requires
end_hold-left-requires c =
    let lt =
    place_within c.self.inside.first c.self.inside.count c.self.inside.idle.items (hold_counts c.self.inside.holds c.self.inside.count)
    c.args.self.now c.self.view_is c.requires.within in
    let count =
    holds_are c.self.inside.first c.self.inside.count (flags c.self.inside.idle.items c.self.inside.count) c.self.inside.holds
    c.args.self.now c.args.unit c.self.view_is lt in
    subst (λ n. 0 < n) (sym count) c.requires.held

pub overflow_add-self : goal.overflow_add-self
overflow_add-self c =
    let lt =
    place_within c.self.inside.first c.self.inside.count c.self.inside.idle.items (hold_counts c.self.inside.holds c.self.inside.count)
    c.args.self.now c.self.view_is c.requires.within in
    search (
      rules,
      (unhold_fields c.self.invariant (c.args.unit - c.self.inside.first) lt c.end_hold-left.new.holds c.mark_free.new.bits
          ((c.end_hold-left.ensures.here ∙ sym c.end_hold-left.ensures.left) ∙ c.if-left-eq0.true) c.end_hold-left.ensures.elsewhere (subst (λ v. 0 <
          holds_of v c.args.unit) (sym c.self.view_is) c.requires.held) (sym (c.test.ensures ∙ ap (λ ws. bit ws (c.args.unit - c.self.inside.first))
          c.deref.ensures.value) ∙ c.if-test.true) c.mark_free.ensures.len c.mark_free.ensures.here c.mark_free.ensures.elsewhere c.mark_free.new.low
          c.mark_free.ensures.not_above_old c.mark_free.ensures.not_above).fits,
    )

pub invariant_of-self : goal.invariant_of-self
invariant_of-self c =
    let lt =
    place_within c.self.inside.first c.self.inside.count c.self.inside.idle.items (hold_counts c.self.inside.holds c.self.inside.count)
    c.args.self.now c.self.view_is c.requires.within in
    (unhold_fields c.self.invariant (c.args.unit - c.self.inside.first) lt c.end_hold-left.new.holds c.mark_free.new.bits
    ((c.end_hold-left.ensures.here ∙ sym c.end_hold-left.ensures.left) ∙ c.if-left-eq0.true) c.end_hold-left.ensures.elsewhere (subst (λ v. 0 <
    holds_of v c.args.unit) (sym c.self.view_is) c.requires.held) (sym (c.test.ensures ∙ ap (λ ws. bit ws (c.args.unit - c.self.inside.first))
    c.deref.ensures.value) ∙ c.if-test.true) c.mark_free.ensures.len c.mark_free.ensures.here c.mark_free.ensures.elsewhere c.mark_free.new.low
    c.mark_free.ensures.not_above_old c.mark_free.ensures.not_above).sound

pub invariant_of-self-else-test : goal.invariant_of-self-else-test
invariant_of-self-else-test c =
    let lt =
    place_within c.self.inside.first c.self.inside.count c.self.inside.idle.items (hold_counts c.self.inside.holds c.self.inside.count)
    c.args.self.now c.self.view_is c.requires.within in
    unhold_not_idle c.self.invariant (c.args.unit - c.self.inside.first) lt c.end_hold-left.new.holds c.end_hold-left.result
    (c.end_hold-left.ensures.here ∙ sym c.end_hold-left.ensures.left) c.end_hold-left.ensures.elsewhere (sym (c.test.ensures ∙ ap (λ ws. bit ws
    (c.args.unit - c.self.inside.first)) c.deref.ensures.value) ∙ c.if-test.false)

pub invariant_of-self-else-left-eq0 : goal.invariant_of-self-else-left-eq0
invariant_of-self-else-left-eq0 c =
    let lt =
    place_within c.self.inside.first c.self.inside.count c.self.inside.idle.items (hold_counts c.self.inside.holds c.self.inside.count)
    c.args.self.now c.self.view_is c.requires.within in
    unhold_still_held c.self.invariant (c.args.unit - c.self.inside.first) lt c.end_hold-left.new.holds c.end_hold-left.result
    (c.end_hold-left.ensures.here ∙ sym c.end_hold-left.ensures.left) c.end_hold-left.ensures.elsewhere (omega (arith, c.if-left-eq0.false))
    (subst (λ v. 0 < holds_of v c.args.unit) (sym c.self.view_is) c.requires.held)

pub returns-then-test : goal.returns-then-test
returns-then-test c =
    let lt =
    place_within c.self.inside.first c.self.inside.count c.self.inside.idle.items (hold_counts c.self.inside.holds c.self.inside.count)
    c.args.self.now c.self.view_is c.requires.within in
    let count =
    holds_are c.self.inside.first c.self.inside.count (flags c.self.inside.idle.items c.self.inside.count) c.self.inside.holds
    c.args.self.now c.args.unit c.self.view_is lt in
    view_counted c.self.inside.first c.self.inside.count (flags c.self.inside.idle.items c.self.inside.count) c.self.inside.holds
    c.end_hold-left.new.holds c.args.self.now c.args.unit (holds_of c.args.self.now c.args.unit - 1) c.self.view_is
    (c.end_hold-left.ensures.here ∙ ap (λ n. n - 1) count) c.end_hold-left.ensures.elsewhere

pub returns-else-left-eq0 : goal.returns-else-left-eq0
returns-else-left-eq0 c =
    let lt =
    place_within c.self.inside.first c.self.inside.count c.self.inside.idle.items (hold_counts c.self.inside.holds c.self.inside.count)
    c.args.self.now c.self.view_is c.requires.within in
    let count =
    holds_are c.self.inside.first c.self.inside.count (flags c.self.inside.idle.items c.self.inside.count) c.self.inside.holds
    c.args.self.now c.args.unit c.self.view_is lt in
    let is =
    view_counted c.self.inside.first c.self.inside.count (flags c.self.inside.idle.items c.self.inside.count) c.self.inside.holds
    c.end_hold-left.new.holds c.args.self.now c.args.unit (holds_of c.args.self.now c.args.unit - 1) c.self.view_is
    (c.end_hold-left.ensures.here ∙ ap (λ n. n - 1) count) c.end_hold-left.ensures.elsewhere in
    elim c.else-left-eq0.branch [
      | else-left-eq0-via-then-left-eq0+else-test w ↦ w.self-is ∙ is
      | else-left-eq0-via-else-left-eq0 w ↦ w.self-is ∙ is
    ]
