use Rattle.std.proofs.Common.{ap, sym, ◌∙◌}
use Rattle.std.specs.FinSet as set
use Rattle.std.specs.Ordering.{nat_cmp}
use Rattle.unit_fields.proofs.Ascending.{set_same, set_inserted, ascends_inserted}
use Rattle.unit_fields.proofs.unit_set.UnitSet.insert.Goals as goal

pub invariant_of-self-in-Err : goal.invariant_of-self-in-Err
invariant_of-self-in-Err c = rw c.in_ok-insert-in-Err.ensures.items (ascends_inserted c.self.inside.units.items c.in-Err.at c.args.unit c.self.invariant (rw c.deref.ensures.value at c.in-Err.ensures))

pub returns-in-Ok-clause-ok : goal.returns-in-Ok-clause-ok
returns-in-Ok-clause-ok c =
    sym c.self.view_is
    ∙ set_same c.self.inside.units.items c.in-Ok.field-0 c.args.unit (rw c.deref.ensures.value at c.in-Ok.ensures)
    ∙ ap (λ s. set.insert s c.args.unit) c.self.view_is

pub returns-in_ok-insert-in-Err-clause-ok : goal.returns-in_ok-insert-in-Err-clause-ok
returns-in_ok-insert-in-Err-clause-ok c =
    ap (λ us. set.from_list {R = nat_cmp} us) c.in_ok-insert-in-Err.ensures.items
    ∙ set_inserted c.self.inside.units.items c.in-Err.at c.args.unit
    ∙ ap (λ s. set.insert s c.args.unit) c.self.view_is
