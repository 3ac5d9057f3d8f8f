use Rattle.std.proofs.Common.{arith}
use Rattle.std.proofs.lemmas.List.{take_rest}
use Rattle.meta_rows.proofs.OpCursorLemmas.{spelled_full, spelled_whole}
use Rattle.meta_rows.proofs.op_cursor.OpCursor.spelled.Goals as goal

pub returns-then-part-eq0 : goal.returns-then-part-eq0
returns-then-part-eq0 c =
    let l = c.loop-op in
    spelled_full c.args.ops.now _ c.args.self c.args.count l.op-index l.part (take_rest c.args.ops.now c.args.self.ops) l.invariant.part (omega (arith, c.if-part-eq0.true))

pub returns : goal.returns
returns c =
    let l = c.loop-op in
    spelled_whole c.args.ops.now _ c.args.self c.args.count l.op-index l.part (take_rest c.args.ops.now c.args.self.ops) l.invariant.part (omega (arith, c.loop-op-test.false, l.auto.op-index-end))
