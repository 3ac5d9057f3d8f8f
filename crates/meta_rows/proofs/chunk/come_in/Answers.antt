use Rattle.std.proofs.Common.{arith}
use Rattle.meta_rows.proofs.ListSizes.{insert_grows}
use Rattle.meta_rows.proofs.chunk.come_in.Goals as goal

pub returns-in-Ok-clause-grows : goal.returns-in-Ok-clause-grows
returns-in-Ok-clause-grows c =
    rw c.in-Ok.ensures.items (insert_grows c.args.rows.now.items c.args.at (c.left_by-key.result.0, c.in-Some.value) c.row_size-size.result (omega (arith, c.requires.place, c.args.rows.now.ok.0))
    c.row_size-size.ensures)
