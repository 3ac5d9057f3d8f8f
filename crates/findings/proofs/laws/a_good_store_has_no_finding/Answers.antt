use Rattle.findings.proofs.Causes.{nothing_found}
use Rattle.findings.proofs.laws.a_good_store_has_no_finding.Goals as goal

pub returns : goal.returns
returns c s at rows objects found good stand exact are = nothing_found s at rows objects good stand exact found are
