use Rattle.std.proofs.lemmas.List.{take_rest}
use Rattle.meta_rows.proofs.OpCursorLemmas.{place_behind}
use Rattle.meta_rows.proofs.op_cursor.OpCursor.behind.Goals as goal

pub returns-then-at-size-clause-place : goal.returns-then-at-size-clause-place
returns-then-at-size-clause-place c =
    let l = c.loop-op in
    place_behind c.args.ops.now _ c.args.self l.at l.op-index c.args.count (take_rest c.args.ops.now c.args.self.ops) c.requires.within l.invariant.ops l.invariant.place

pub returns-clause-place : goal.returns-clause-place
returns-clause-place c =
    let l = c.loop-op in
    place_behind c.args.ops.now _ c.args.self l.at l.op-index c.args.count (take_rest c.args.ops.now c.args.self.ops) c.requires.within l.invariant.ops l.invariant.place
