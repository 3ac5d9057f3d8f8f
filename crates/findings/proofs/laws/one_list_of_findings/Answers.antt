use Rattle.findings.proofs.Lists.{one_list_of_findings}
use Rattle.findings.proofs.laws.one_list_of_findings.Goals as goal

pub returns : goal.returns
returns c s at rows a b p q = one_list_of_findings s rows at a b p q
