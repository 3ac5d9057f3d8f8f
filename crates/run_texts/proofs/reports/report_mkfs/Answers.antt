use Rattle.run_texts.proofs.Adding.{from_nothing, with_end}
use Rattle.run_texts.proofs.reports.report_mkfs.Goals as goal

pub returns : goal.returns
returns g c = with_end c.status_of.ensures (c.print_rest.ensures _ _ (from_nothing c.new-text.ensures c.push_mkfs.ensures))
