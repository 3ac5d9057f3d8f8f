use Rattle.std.proofs.Common.{ap, sym, ◌∙◌}
use Rattle.std.specs.FinSet as set
use Rattle.std.specs.Ordering.{nat_cmp}
use Rattle.unit_fields.proofs.Ascending.{contains_at, contains_gap, set_removed, set_kept, ascends_removed}
use Rattle.unit_fields.proofs.unit_set.UnitSet.remove.Goals as goal

pub invariant_of-self : goal.invariant_of-self
invariant_of-self c = rw c.remove.ensures.items (ascends_removed c.self.inside.units.items c.in-Ok.at c.self.invariant)

pub returns-in-Ok-clause-was : goal.returns-in-Ok-clause-was
returns-in-Ok-clause-was c = sym (ap (λ s. set.contains s c.args.unit) (sym c.self.view_is) ∙ contains_at c.self.inside.units.items c.args.unit c.in-Ok.at (rw c.deref.ensures.value at c.in-Ok.ensures))

pub returns-in-Ok-clause-removed : goal.returns-in-Ok-clause-removed
returns-in-Ok-clause-removed c =
    ap (λ us. set.from_list {R = nat_cmp} us) c.remove.ensures.items
    ∙ set_removed c.self.inside.units.items c.in-Ok.at c.args.unit c.self.invariant (rw c.deref.ensures.value at c.in-Ok.ensures)
    ∙ ap (λ s. set.remove s c.args.unit) c.self.view_is

pub returns-in-Err-clause-was : goal.returns-in-Err-clause-was
returns-in-Err-clause-was c = sym (ap (λ s. set.contains s c.args.unit) (sym c.self.view_is) ∙ contains_gap c.self.inside.units.items c.args.unit c.in-Err.field-0 (rw c.deref.ensures.value at c.in-Err.ensures))

pub returns-in-Err-clause-removed : goal.returns-in-Err-clause-removed
returns-in-Err-clause-removed c =
    sym c.self.view_is
    ∙ set_kept c.self.inside.units.items c.in-Err.field-0 c.args.unit (rw c.deref.ensures.value at c.in-Err.ensures)
    ∙ ap (λ s. set.remove s c.args.unit) c.self.view_is
