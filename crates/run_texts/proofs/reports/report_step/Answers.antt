use Rattle.std.proofs.Common.{List, Bool, ap, ◌∙◌}
use Rattle.object_model.specs.declared.book.Entry.{Entry}
use Rattle.run_texts.specs.Prelude.{has_csum, end_status}
use Rattle.run_texts.proofs.Adding.{from_nothing, with_end}
use Rattle.run_texts.proofs.reports.report_step.Goals as goal

pub returns : goal.returns
returns g c =
    with_end (c.run_status-status.ensures ∙ ap (λ (bad : Bool). end_status bad c.args.end.now) (c.has_csum.ensures ∙ ap (λ (es : List Entry). has_csum es) c.as_slice.ensures)) (c.print_rest.ensures _ _ (from_nothing c.new-text.ensures c.push_step.ensures))
