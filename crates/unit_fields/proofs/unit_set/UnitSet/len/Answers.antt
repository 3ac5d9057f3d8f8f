use Rattle.std.proofs.Common.{ap, sym, ◌∙◌}
use Rattle.std.specs.FinSet as set
use Rattle.unit_fields.proofs.Ascending.{len-ascending}
use Rattle.unit_fields.proofs.unit_set.UnitSet.len.Goals as goal

pub returns : goal.returns
returns c = sym (len-ascending c.as_slice.result.now c.as_slice.ensures.ascending) ∙ ap (λ s. set.len s) c.as_slice.ensures.units
