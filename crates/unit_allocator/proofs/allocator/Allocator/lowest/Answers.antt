use Rattle.std.proofs.Common.{◌≡◌, ◌+◌, ◌∷◌, [], map, ap, subst}
use Rattle.unit_allocator.specs.Prelude.{free_units, taken_one}
use Rattle.unit_allocator.proofs.Steps.{lowest_is, lowest_none}
use Rattle.unit_allocator.proofs.allocator.Allocator.lowest.Goals as goal

pub returns-in-Some-clause-lowest : goal.returns-in-Some-clause-lowest
returns-in-Some-clause-lowest c =
    subst (λ v. free_units v ≡ (c.self.inside.first + c.in-Some.at) ∷ free_units (taken_one v (c.self.inside.first + c.in-Some.at))) c.self.view_is
    (lowest_is c.self.invariant.sound c.in-Some.at c.in-Some.ensures.is_set c.in-Some.ensures.none_between)

pub returns-in-None-clause-lowest : goal.returns-in-None-clause-lowest
unfolding free_units
returns-in-None-clause-lowest c =
    subst (λ v. free_units v ≡ []) c.self.view_is (ap (map (λ i. c.self.inside.first + i)) (lowest_none c.self.invariant.sound c.in-None.ensures))

pub returns-in-None-clause-within : goal.returns-in-None-clause-within
returns-in-None-clause-within c = returns-in-None-clause-lowest c
