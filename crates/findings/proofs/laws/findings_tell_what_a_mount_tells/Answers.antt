use Rattle.std.proofs.Common.{◌≡◌}
use Rattle.findings.proofs.Causes.{first_is_least, least_is_listed, none_is_less}
use Rattle.findings.proofs.laws.findings_tell_what_a_mount_tells.Goals as goal

pub returns-clause-row : goal.returns-clause-row
returns-clause-row c s at rows key found bad good are = first_is_least s (λ unit bytes. bytes ≡ at unit) rows key found bad good are

pub returns-clause-unit : goal.returns-clause-unit
returns-clause-unit c = least_is_listed

pub returns-clause-least : goal.returns-clause-least
returns-clause-least c = none_is_less
