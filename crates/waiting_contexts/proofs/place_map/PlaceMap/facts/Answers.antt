use Rattle.std.proofs.Common.{List, subst}
use Rattle.store_steps.specs.declared.context.Context.{Context}
use Rattle.waiting_contexts.specs.Unsent.{PlacesAscend}
use Rattle.waiting_contexts.proofs.Ascending.{places_ascend}
use Rattle.waiting_contexts.proofs.place_map.PlaceMap.facts.Goals as goal

pub returns : goal.returns
returns c = subst (λ (xs : List Context). PlacesAscend 0 xs) c.self.view_is (places_ascend 0 c.self.inside.contexts.entries c.self.invariant)
