use Rattle.std.proofs.Common.{◌≡◌}
use Rattle.findings.proofs.Lists.{none_good, none_exact, none_pages}
use Rattle.findings.proofs.laws.what_no_finding_tells.Goals as goal

pub returns-clause-rows : goal.returns-clause-rows
returns-clause-rows c s at rows are = none_good s (λ unit bytes. bytes ≡ at unit) rows are

pub returns-clause-bitmap : goal.returns-clause-bitmap
returns-clause-bitmap c s at rows are = none_exact s (λ unit bytes. bytes ≡ at unit) rows are

pub returns-clause-pages : goal.returns-clause-pages
returns-clause-pages c s at rows are coll object page on is = none_pages s (λ unit bytes. bytes ≡ at unit) rows are coll object page on is
