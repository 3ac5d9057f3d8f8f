use Rattle.std.proofs.Common.{ap, sym, ◌∙◌}
use Rattle.waiting_contexts.specs.Places.{context_at}
use Rattle.waiting_contexts.proofs.NewestLemmas.{is_found, older_there}
use Rattle.waiting_contexts.proofs.by_place.ByPlace.get.Goals as goal

pub returns-then-is_at : goal.returns-then-is_at
returns-then-is_at c =
    c.as_ref.ensures.value
    ∙ is_found c.args.place c.self.inside.newest c.self.inside.older c.self.invariant (sym c.is_at.ensures ∙ c.if-is_at.true)
    ∙ ap (context_at c.args.place) c.self.view_is

pub returns : goal.returns
returns c =
    c.get.ensures
    ∙ older_there c.args.place c.self.inside.newest c.self.inside.older c.args.self.now (sym c.is_at.ensures ∙ c.if-is_at.false) c.self.view_is
