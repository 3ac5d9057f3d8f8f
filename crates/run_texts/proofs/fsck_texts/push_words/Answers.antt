use Rattle.std.proofs.Common.{sym, ap}
use Rattle.run_texts.specs.Prelude.{finding_line}
use Rattle.run_texts.proofs.Adding.{said}
use Rattle.run_texts.proofs.fsck_texts.push_words.Goals as goal

pub returns-in-Leaked : goal.returns-in-Leaked
returns-in-Leaked g c = said (sym (ap finding_line c.in-Leaked.is)) c.push_unit.ensures

pub returns-in-Unmarked : goal.returns-in-Unmarked
returns-in-Unmarked g c = said (sym (ap finding_line c.in-Unmarked.is)) c.push_unit-in-Unmarked.ensures

pub returns-in-Doubled : goal.returns-in-Doubled
returns-in-Doubled g c = said (sym (ap finding_line c.in-Doubled.is)) c.push_unit-in-Doubled.ensures
