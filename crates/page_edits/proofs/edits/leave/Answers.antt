use Rattle.std.proofs.Common.{◌∙◌}
use Rattle.page_edits.proofs.Untouched.{all_stay, none_left}
use Rattle.page_edits.proofs.edits.leave.Goals as goal

pub returns-then-end-off-clause-kept : goal.returns-then-end-off-clause-kept
returns-then-end-off-clause-kept c = all_stay c.args.off c.args.end c.args.kept.now c.if-end-off.true

pub returns-then-end-off-clause-left : goal.returns-then-end-off-clause-left
returns-then-end-off-clause-left c = c.new.ensures ∙ none_left c.args.off c.args.end c.args.kept.now c.if-end-off.true
