use Rattle.std.proofs.Common.{List, subst}
use Rattle.store_steps.specs.declared.context.Context.{Context}
use Rattle.waiting_contexts.specs.Unsent.{PlacesAscend}
use Rattle.waiting_contexts.proofs.NewestLemmas.{newest_ascends}
use Rattle.waiting_contexts.proofs.by_place.ByPlace.facts.Goals as goal

pub returns : goal.returns
returns c =
    subst (λ (xs : List Context). PlacesAscend 0 xs) c.self.view_is
    (newest_ascends c.self.inside.newest c.self.inside.older c.facts.ensures c.self.invariant)
