use Rattle.run_texts.proofs.Adding.{from_nothing}
use Rattle.run_texts.proofs.reports.report_stop.Goals as goal

pub returns : goal.returns
returns g c = c.print_rest.ensures _ _ (from_nothing c.new-text.ensures c.push_stopped.ensures)
