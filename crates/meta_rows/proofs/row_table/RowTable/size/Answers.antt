use Rattle.std.proofs.Common.{ap, arith}
use Rattle.meta_rows.specs.Prelude.{joined}
use Rattle.meta_rows.proofs.RowLemmas.{rows_size_is}
use Rattle.meta_rows.proofs.row_table.RowTable.size.Goals as goal

pub returns : goal.returns
returns c =
    let whole = rows_size_is c.args.self.now.rows (joined c.self.inside.all.list.items) c.self.invariant.0.order (ap (λ t. t.rows) c.self.view_is) in
    omega (arith, c.requires, whole, c.self.invariant.2)
