use Rattle.std.proofs.Common.{◌≡◌}
use Rattle.std.proofs.lemmas.Result.{IfOk-weaker}
use Rattle.std.specs.FinMap as finite
use Rattle.row_changes.specs.Seen.{IsDifferenceBy}
use Rattle.row_changes.specs.Log.{logged, ops_of, lasts}
use Rattle.row_changes.proofs.Logs.{difference_is}
use Rattle.row_changes.proofs.difference.difference_of.Goals as goal

pub returns : goal.returns
returns c =
    let rows = c.args.rows.now.rows in
    let sorted = c.in_ok-sorted.sorted.items in
    let log = c.args.log.items in
    IfOk-weaker c.put_lasts.result (λ ops. ops ≡ ops_of rows (lasts sorted)) (IsDifferenceBy rows (logged finite.empty log))
    (λ ops. difference_is rows log sorted ops c.in_ok-sorted.ensures.same c.in_ok-sorted.ensures.rise)
    c.put_lasts.ensures
