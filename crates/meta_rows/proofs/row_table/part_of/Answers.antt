use Rattle.std.proofs.Common.{sym, arith}
use Rattle.meta_rows.proofs.RangeLemmas.{range_part}
use Rattle.meta_rows.proofs.row_table.part_of.Goals as goal

pub returns-then-from-to : goal.returns-then-from-to
returns-then-from-to c = sym (range_part c.args.rows.now c.args.from c.args.to (omega (arith, c.if-from-to.true)))
