use Rattle.std.proofs.Common.{ap, sym, ◌∙◌}
use Rattle.row_changes.specs.Log.{logged}
use Rattle.row_changes.proofs.Logs.{gone, range_goes}
use Rattle.row_changes.proofs.row_changes.RowChanges.drop_range.Goals as goal

pub returns : goal.returns
returns c = range_goes c.args.rows.now.rows c.args.first.now c.args.end.now c.args.self.now c.loop-key.self
    (ap (λ es. logged c.loop-key.self (gone es)) (sym c.in-None.ensures.steps.0) ∙ c.loop-key.invariant.goes)
