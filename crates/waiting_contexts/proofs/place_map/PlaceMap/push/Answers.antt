use Rattle.std.proofs.Common.{ℕ, List, [], ◌∷◌, ◌++◌, subst, ap, refl, ◌∙◌, sym, arith}
use Rattle.std.specs.Map.{values_of}
use Rattle.std.specs.BTreeMap.{insert_entry}
use Rattle.std.specs.Ordering.{nat_cmp}
use Rattle.store_steps.specs.declared.context.Context.{Context}
use Rattle.waiting_contexts.specs.Places.{AreByPlace, IsAboveAll}
use Rattle.waiting_contexts.proofs.PlaceLemmas.{insert_is_push, by_place_push, values_push}
use Rattle.waiting_contexts.proofs.place_map.PlaceMap.push.Goals as goal

pub invariant_of-self : goal.invariant_of-self
invariant_of-self c =
    let es = c.self.inside.contexts.entries in
    let above : IsAboveAll c.args.context.place (values_of es) = rw (← c.self.view_is) at c.requires in
    subst (λ (l : List (ℕ × Context)). AreByPlace 0 l)
    (sym (c.in-Ok.ensures.entries ∙ ap (λ (p : ℕ). insert_entry nat_cmp es p c.args.context) c.place-place.ensures
    ∙ insert_is_push 0 c.args.context.place es c.args.context c.self.invariant above))
    (by_place_push 0 c.args.context.place es c.args.context c.self.invariant (omega arith) above refl)

pub returns-in-Ok-clause-ok : goal.returns-in-Ok-clause-ok
returns-in-Ok-clause-ok c =
    let es = c.self.inside.contexts.entries in
    let above : IsAboveAll c.args.context.place (values_of es) = rw (← c.self.view_is) at c.requires in
    ap values_of (c.in-Ok.ensures.entries ∙ ap (λ (p : ℕ). insert_entry nat_cmp es p c.args.context) c.place-place.ensures
    ∙ insert_is_push 0 c.args.context.place es c.args.context c.self.invariant above)
    ∙ values_push es c.args.context.place c.args.context
    ∙ ap (λ (l : List Context). l ++ c.args.context ∷ []) c.self.view_is
