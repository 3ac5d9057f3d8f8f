use Rattle.std.proofs.Common.{◌++◌}
use Rattle.meta_log.proofs.slot.read_front.Goals as goal
use Rattle.meta_log.specs.Prelude.{super_field_bytes}

pub returns-in_err-read_version : goal.returns-in_err-read_version
returns-in_err-read_version c = rw c.from_residual.ensures (λ s rest. c.in_err-read_version.ensures (super_field_bytes s ++ rest))
