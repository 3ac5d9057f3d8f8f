use Rattle.std.proofs.Common.{◌≡◌, ◌+◌, ◌≤◌, length, ℕ, List, Option, subst, sym, ap, refl, ◌∙◌}
use Rattle.std.specs.Prelude.{IfSome}
use Rattle.std.specs.Map.{values_of, set_value}
use Rattle.std.specs.BTreeMap.{BTreeMap, is_at}
use Rattle.std.specs.Ordering.{nat_cmp}
use Rattle.store_steps.specs.declared.context.Context.{Context}
use Rattle.store_steps.specs.Prelude.{with_context, given_more}
use Rattle.waiting_contexts.specs.declared.place_map.PlaceMap.TheInside.{Inside}
use Rattle.waiting_contexts.specs.Places.{AreByPlace, context_at}
use Rattle.waiting_contexts.proofs.PlaceLemmas.{lookup_is_context, set_is_change, by_place_set, none_there}
use Rattle.waiting_contexts.proofs.AtPlace.{left_there, none_left}
use Rattle.waiting_contexts.proofs.place_map.PlaceMap.submitted.Goals as goal
use Rattle.waiting_contexts.proofs.place_map.PlaceMap.submitted.Goals.{in-Some, in-None}

pub submitted-requires : goal.submitted-requires
submitted-requires c =
    let P : Option Context → Type 0 = λ o. IfSome o (λ x. x.given + c.args.count ≤ length x.fresh) in
    subst P
    (sym (ap (context_at c.args.place) c.self.view_is) ∙ sym (lookup_is_context 0 c.args.place c.self.inside.contexts.entries c.self.invariant) ∙ sym c.in-Some.ensures.value)
    c.requires

pub invariant_of-self : goal.invariant_of-self
invariant_of-self c = elim c.match-get_mut.branch [
  | in-Some w ↦
      subst (λ (es : List (ℕ × Context)). AreByPlace 0 es)
      (sym (ap (λ (i : Inside). i.contexts.entries) w.self-inside-is ∙ (c.get_mut.follows.holds w.submitted.new.self).0))
      (by_place_set 0 c.args.place c.self.inside.contexts.entries w.in-Some.context.now w.submitted.new.self c.self.invariant (sym w.in-Some.ensures.value)
      (ap (λ (x : Context). x.place) w.submitted.ensures))
  | in-None w ↦
      subst (λ (es : List (ℕ × Context)). AreByPlace 0 es)
      (sym (ap (λ (i : Inside). i.contexts.entries) w.self-inside-is ∙ ap (λ (m : BTreeMap ℕ Context). m.entries) c.get_mut.follows.holds-at-none))
      c.self.invariant
]

pub returns-clause-given : goal.returns-clause-given
returns-clause-given c =
    let es = c.self.inside.contexts.entries in
    elim c.match-get_mut.branch [
      | in-Some w ↦
          ap (λ (i : Inside). values_of i.contexts.entries) w.self-inside-is
          ∙ ap values_of (c.get_mut.follows.holds w.submitted.new.self).0
          ∙ ap (λ (y : Context). values_of (set_value (is_at (nat_cmp c.args.place)) es y)) w.submitted.ensures
          ∙ set_is_change 0 c.args.place (given_more c.args.count) es w.in-Some.context.now c.self.invariant (sym w.in-Some.ensures.value)
          ∙ ap (with_context c.args.place (given_more c.args.count)) c.self.view_is
      | in-None w ↦
          ap (λ (i : Inside). values_of i.contexts.entries) w.self-inside-is
          ∙ ap (λ (m : BTreeMap ℕ Context). values_of m.entries) c.get_mut.follows.holds-at-none
          ∙ none_there 0 c.args.place (given_more c.args.count) es c.self.invariant (sym w.in-None.ensures.value)
          ∙ ap (with_context c.args.place (given_more c.args.count)) c.self.view_is
    ]

pub returns-clause-left : goal.returns-clause-left
returns-clause-left c =
    let ys = values_of c.match-get_mut.self-inside.contexts.entries in
    let at : context_at c.args.place (values_of c.self.inside.contexts.entries) ≡ context_at c.args.place c.args.self.now = ap (context_at c.args.place) c.self.view_is in
    let found = sym (lookup_is_context 0 c.args.place c.self.inside.contexts.entries c.self.invariant) in
    elim c.match-get_mut.branch [
      | in-Some w ↦
          left_there c.args.place (given_more c.args.count) (λ z. refl) c.args.self.now ys (returns-clause-given c) w.in-Some.context.now w.submitted.new.self c.match-get_mut.result
          (sym at ∙ found ∙ sym w.in-Some.ensures.value) w.submitted.ensures (w.result-is ∙ w.has_unsent.ensures)
      | in-None w ↦
          none_left c.args.place (given_more c.args.count) (λ z. refl) c.args.self.now ys (returns-clause-given c) c.match-get_mut.result
          (sym at ∙ found ∙ sym w.in-None.ensures.value) w.result-is
    ]
