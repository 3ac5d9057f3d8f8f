use Rattle.std.proofs.Common.{rules}
use Rattle.object_reader.proofs.AnswerLemmas.{at_some, can_read, size_most, shows}
use Rattle.object_reader.proofs.view.view_of.Goals as goal

pub new-pages-requires-clause-numbers : goal.new-pages-requires-clause-numbers
new-pages-requires-clause-numbers g c = (at_some _ _ _ _ c.in_ok-found.ensures.found c.in-Some.is).numbers

pub sum-requires-clause-can : goal.sum-requires-clause-can
sum-requires-clause-can g c = can_read _ _ _ _ _ _ _ _ c.requires.readable (at_some _ _ _ _ c.in_ok-found.ensures.found c.in-Some.is) _ c.new-pages.ensures

pub sum-requires-clause-limit : goal.sum-requires-clause-limit
sum-requires-clause-limit g c = size_most _ _ _ _ _ _ _ _ c.requires.readable (at_some _ _ _ _ c.in_ok-found.ensures.found c.in-Some.is)

pub returns-clause-ok : goal.returns-clause-ok
returns-clause-ok g c =
    shows _ _ _ _ _ _ _ _ c.requires.readable (at_some _ _ _ _ c.in_ok-found.ensures.found c.in-Some.is) _ c.new-pages.ensures c.sum.result c.in_ok-sum.sum c.requires.is
    c.sum.ensures.good c.sum.ensures.fail c.in_ok-sum.ensures.ok c.in_ok-attrs.attrs c.in_ok-omap.omap c.in_ok-header.header
    c.in_ok-attrs.ensures c.in_ok-omap.ensures (search rules)
