use Rattle.std.proofs.Common.{ap, ◌∙◌}
use Rattle.std.specs.FinMap as map
use Rattle.row_changes.specs.Log.{logged}
use Rattle.row_changes.proofs.Logs.{pushed}
use Rattle.row_changes.proofs.row_changes.RowChanges.set.Goals as goal

pub returns-clause-ok : goal.returns-clause-ok
returns-clause-ok c = ap (logged map.empty) c.in_ok-push.ensures.items
    ∙ pushed c.self.inside.log.items (record { key = c.args.key; value = c.args.value }) c.args.self.now c.self.view_is
