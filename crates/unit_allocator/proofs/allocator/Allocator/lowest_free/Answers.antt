use Rattle.std.proofs.Common.{◌≡◌, ◌+◌, ◌∷◌, [], ℕ, map, ap, sym, subst}
use Rattle.unit_allocator.specs.Prelude.{Space, free_units, taken_one}
use Rattle.unit_allocator.proofs.Steps.{lowest_is, lowest_none}
use Rattle.unit_allocator.proofs.allocator.Allocator.lowest_free.Goals as goal

-- the lowest free unit of a space, under another name for the unit and for the space
at_the_unit : {v s : Space} (u w : ℕ) → v ≡ s → w ≡ u → free_units v ≡ u ∷ free_units (taken_one v u) → free_units s ≡ w ∷ free_units (taken_one s w)
at_the_unit {v} {s} u w same e is =
    subst (λ (t : Space). free_units t ≡ w ∷ free_units (taken_one t w)) same (subst (λ (n : ℕ). free_units v ≡ n ∷ free_units (taken_one v n)) (sym e) is)

pub returns-in-Some-clause-lowest : goal.returns-in-Some-clause-lowest
returns-in-Some-clause-lowest c =
    at_the_unit _ _ c.self.view_is c.new.ensures
    (lowest_is c.self.invariant.sound c.in-Some.at c.in-Some.ensures.is_set c.in-Some.ensures.none_between)

pub returns-in-None-clause-lowest : goal.returns-in-None-clause-lowest
unfolding free_units
returns-in-None-clause-lowest c =
    subst (λ v. free_units v ≡ []) c.self.view_is (ap (map (λ i. c.self.inside.first + i)) (lowest_none c.self.invariant.sound c.in-None.ensures))

pub returns-in-None-clause-within : goal.returns-in-None-clause-within
returns-in-None-clause-within c = returns-in-None-clause-lowest c
