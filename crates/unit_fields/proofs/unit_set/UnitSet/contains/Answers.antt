use Rattle.std.proofs.Common.{ap, ◌∙◌}
use Rattle.std.specs.FinSet as set
use Rattle.unit_fields.proofs.Ascending.{contains_found}
use Rattle.unit_fields.proofs.unit_set.UnitSet.contains.Goals as goal

pub returns : goal.returns
returns c =
    c.is_ok.ensures.value
    ∙ contains_found c.self.inside.units.items c.args.unit c.place_of.result (rw c.deref.ensures.value at c.place_of.ensures)
    ∙ ap (λ s. set.contains s c.args.unit) c.self.view_is
