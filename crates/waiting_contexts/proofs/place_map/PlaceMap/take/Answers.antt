use Rattle.std.proofs.Common.{ap, ◌∙◌}
use Rattle.store_steps.specs.Prelude.{without_context}
use Rattle.std.specs.Map.{values_of}
use Rattle.waiting_contexts.specs.Places.{context_at}
use Rattle.waiting_contexts.proofs.PlaceLemmas.{lookup_is_context, remove_is_without, by_place_remove}
use Rattle.waiting_contexts.proofs.place_map.PlaceMap.take.Goals as goal

pub invariant_of-self : goal.invariant_of-self
invariant_of-self c = rw c.remove.ensures.entries (by_place_remove 0 c.args.place c.self.inside.contexts.entries c.self.invariant)

pub returns-clause-taken : goal.returns-clause-taken
returns-clause-taken c =
    c.remove.ensures.value
    ∙ lookup_is_context 0 c.args.place c.self.inside.contexts.entries c.self.invariant
    ∙ ap (context_at c.args.place) c.self.view_is

pub returns-clause-left : goal.returns-clause-left
returns-clause-left c =
    ap values_of c.remove.ensures.entries
    ∙ remove_is_without 0 c.args.place c.self.inside.contexts.entries c.self.invariant
    ∙ ap (without_context c.args.place) c.self.view_is
