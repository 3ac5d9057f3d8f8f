use Rattle.std.proofs.Common.{ap, ◌∙◌}
use Rattle.waiting_contexts.specs.Places.{context_at}
use Rattle.waiting_contexts.proofs.PlaceLemmas.{lookup_is_context}
use Rattle.waiting_contexts.proofs.place_map.PlaceMap.get.Goals as goal

pub returns : goal.returns
returns c =
    c.get.ensures.value
    ∙ lookup_is_context 0 c.args.place c.self.inside.contexts.entries c.self.invariant
    ∙ ap (context_at c.args.place) c.self.view_is
