use Rattle.run_texts.proofs.Adding.{from_nothing, with_end}
use Rattle.run_texts.proofs.reports.report_fsck.Goals as goal

pub returns : goal.returns
returns g c = with_end c.fsck_status.ensures (c.print_rest.ensures _ _ (from_nothing c.new-text.ensures c.push_fsck.ensures))
