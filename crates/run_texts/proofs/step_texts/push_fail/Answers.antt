use Rattle.std.proofs.Common.{ap, sym}
use Rattle.run_texts.specs.declared.work_end.WorkEnd.{WorkEnd}
use Rattle.run_texts.specs.Prelude.{as_text, fail_lines}
use Rattle.run_texts.proofs.Adding.{said}
use Rattle.run_texts.proofs.step_texts.push_fail.Goals as goal

pub returns-in-WornOut : goal.returns-in-WornOut
returns-in-WornOut g c = said (ap (λ (e : WorkEnd). as_text (fail_lines c.args.bad e)) (sym c.in-WornOut.is)) c.push_no_store-in-WornOut.ensures
