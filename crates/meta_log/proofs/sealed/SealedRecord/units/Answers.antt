use Rattle.std.proofs.Common.{ap, ◌∙◌}
use Rattle.meta_log.specs.Prelude.{sealed_units}
use Rattle.meta_log.proofs.sealed.SealedRecord.units.Goals as goal

pub returns-clause-units : goal.returns-clause-units
returns-clause-units c = c.self.invariant.counted ∙ ap sealed_units c.self.view_is
