use Rattle.std.proofs.Common.{T, ap, sym, subst, ◌∙◌}
use Rattle.std.specs.Ordering.{nat_cmp}
use Rattle.std.specs.FinMap as map
use Rattle.std.specs.FinMap.{is_sorted}
use Rattle.number_map.proofs.number_map.NumberMap.reserve.Goals as goal

pub invariant_of-self : goal.invariant_of-self
invariant_of-self g c = subst (λ es. T (is_sorted nat_cmp es)) (sym c.reserve.ensures.items) c.self.invariant

pub returns : goal.returns
returns g c = ap (λ es. map.from_sorted es) c.reserve.ensures.items ∙ c.self.view_is
