use Rattle.std.proofs.Common.{◌≡◌, ◌-◌, ◌<◌, true, ap, sym, subst, ◌∙◌, rules}
use Rattle.unit_allocator.specs.Prelude.{is_free, holds_of, hold_counts}
use Rattle.unit_allocator.proofs.Fields.{place_within, idle_within, give_fields, give_held, held_by_test, view_flagged}
use Rattle.unit_allocator.proofs.allocator.Allocator.give_one.Goals as goal

pub set-requires : goal.set-requires
set-requires c =
    let lt =
    place_within c.self.inside.first c.self.inside.count c.self.inside.idle.items (hold_counts c.self.inside.holds c.self.inside.count)
    c.args.self.now c.self.view_is c.requires.within in
    idle_within c.self.invariant (c.args.unit - c.self.inside.first) lt

pub overflow_add-self : goal.overflow_add-self
overflow_add-self c =
    let lt =
    place_within c.self.inside.first c.self.inside.count c.self.inside.idle.items (hold_counts c.self.inside.holds c.self.inside.count)
    c.args.self.now c.self.view_is c.requires.within in
    search (
      rules,
      (give_fields c.self.invariant (c.args.unit - c.self.inside.first) lt c.set.new.words.items c.mark_free.new.bits
          c.set.ensures.len c.set.ensures.here c.set.ensures.elsewhere c.mark_free.ensures.len (ap (λ s. is_free s c.args.unit) c.self.view_is ∙
          c.requires.taken) (subst (λ v. holds_of v c.args.unit ≡ 0) (sym c.self.view_is) (c.is_unheld-unheld.ensures.0 c.if-unheld.true))
          c.mark_free.ensures.here c.mark_free.ensures.elsewhere c.mark_free.new.low c.mark_free.ensures.not_above_old
          c.mark_free.ensures.not_above).fits,
    )

pub invariant_of-self : goal.invariant_of-self
invariant_of-self c =
    let lt =
    place_within c.self.inside.first c.self.inside.count c.self.inside.idle.items (hold_counts c.self.inside.holds c.self.inside.count)
    c.args.self.now c.self.view_is c.requires.within in
    (give_fields c.self.invariant (c.args.unit - c.self.inside.first) lt c.set.new.words.items c.mark_free.new.bits c.set.ensures.len
    c.set.ensures.here c.set.ensures.elsewhere c.mark_free.ensures.len (ap (λ s. is_free s c.args.unit) c.self.view_is ∙ c.requires.taken)
    (subst (λ v. holds_of v c.args.unit ≡ 0) (sym c.self.view_is) (c.is_unheld-unheld.ensures.0 c.if-unheld.true)) c.mark_free.ensures.here
    c.mark_free.ensures.elsewhere c.mark_free.new.low c.mark_free.ensures.not_above_old c.mark_free.ensures.not_above).sound

pub invariant_of-self-else-unheld : goal.invariant_of-self-else-unheld
invariant_of-self-else-unheld c =
    let lt =
    place_within c.self.inside.first c.self.inside.count c.self.inside.idle.items (hold_counts c.self.inside.holds c.self.inside.count)
    c.args.self.now c.self.view_is c.requires.within in
    give_held c.self.invariant (c.args.unit - c.self.inside.first) lt c.set.new.words.items c.set.ensures.len c.set.ensures.here
    c.set.ensures.elsewhere (subst (λ v. 0 < holds_of v c.args.unit) (sym c.self.view_is) (held_by_test c.is_unheld-unheld.result (holds_of
    c.args.self.now c.args.unit) c.is_unheld-unheld.ensures c.if-unheld.false))

pub returns-then-unheld : goal.returns-then-unheld
returns-then-unheld c =
    view_flagged c.self.inside.first c.self.inside.count c.self.inside.idle.items c.set.new.words.items (hold_counts c.self.inside.holds
    c.self.inside.count) c.args.self.now c.args.unit true c.self.view_is c.set.ensures.here c.set.ensures.elsewhere

pub returns-else-unheld : goal.returns-else-unheld
returns-else-unheld c =
    view_flagged c.self.inside.first c.self.inside.count c.self.inside.idle.items c.set.new.words.items (hold_counts c.self.inside.holds
    c.self.inside.count) c.args.self.now c.args.unit true c.self.view_is c.set.ensures.here c.set.ensures.elsewhere
