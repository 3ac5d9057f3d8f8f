use Rattle.std.proofs.Common.{List, sym, subst, ◌∙◌}
use Rattle.row_format.specs.Prelude.{Extent}
use Rattle.page_lookup.specs.Prelude.{LeavesOut}
use Rattle.page_lookup.proofs.Finding.{leaves_more, found_among}
use Rattle.page_lookup.proofs.pages.ShardPages.find.Goals as goal

pub find-place-requires : goal.find-place-requires
find-place-requires c place is =
    c.requires place (sym (found_among c.args.page c.args.self.now c.rest_for-rest.result c.rest_for-rest.ensures) ∙ is)

pub invariant_of-self : goal.invariant_of-self
invariant_of-self c = (
  c.self.invariant.0,
  subst (λ (all : List Extent). LeavesOut c.args.page all c.find-place.new.self) (sym c.self.view_is)
      (leaves_more c.args.page c.args.self.now c.rest_for-rest.result c.find-place.new.self c.rest_for-rest.ensures c.find-place.ensures.left),
)

pub returns-clause-place : goal.returns-clause-place
returns-clause-place c = c.find-place.ensures.place ∙ found_among c.args.page c.args.self.now c.rest_for-rest.result c.rest_for-rest.ensures
