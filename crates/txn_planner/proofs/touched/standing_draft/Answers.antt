use Rattle.std.proofs.Common.{sym, ◌∙◌}
use Rattle.txn_planner.proofs.Firsts.{some_drafted, none_drafted}
use Rattle.txn_planner.proofs.touched.standing_draft.Goals as goal

pub returns-in-Some : goal.returns-in-Some
returns-in-Some c layout sized are = some_drafted c.in-Some.size c.args.pages c.new.result c.new.ensures layout (sym c.in-Some.is ∙ sized) are

pub returns-in-None : goal.returns-in-None
returns-in-None c layout sized are = none_drafted layout (sym c.in-None.is ∙ sized)
