use Rattle.std.proofs.Common.{◌++◌, [], ◌∷◌, length, ap, sym, subst, arith}
use Rattle.std.specs.Vec.Iter.{into_iter_items}
use Rattle.meta_rows.specs.Prelude.{rows_of, Goes}
use Rattle.meta_rows.proofs.MergeLemmas.{IsInOrder, part_in_order, with_none, goes_both, goes_front}
use Rattle.meta_rows.proofs.merging.Merging.take_chunk.Goals as goal

pub take_row-requires-clause-order : goal.take_row-requires-clause-order
take_row-requires-clause-order c =
    let now = rows_of c.loop-row.self.filling in
    let all = c.loop-row.invariant.goes.order [] (with_none (rows_of c.args.self.now.filling) c.args.chunk c.requires.order) in
    part_in_order now (c.in-Some.row ∷ []) (into_iter_items c.next.new.self) (subst (λ l. IsInOrder (now ++ (l ++ []))) c.in-Some.ensures.steps.0 all)

pub take_row-requires-clause-room : goal.take_row-requires-clause-room
take_row-requires-clause-room c =
    let room = c.loop-row.invariant.goes.room 1 c.requires.room in
    let long = ap length c.in-Some.ensures.steps.0 in
    omega (arith, room, long)

pub loop-row-preserved : goal.loop-row-preserved
loop-row-preserved c =
    let s = c.in-Some.ensures.steps in
    let rest = into_iter_items c.next.new.self in
    let now = c.loop-row.self in
    let new = c.take_row.new.self in
    record {
      can_next = tt;
      finite = tt;
      count = omega (arith, s.1, ap length s.0, c.loop-row.invariant.count);
      state = c.take_row.ensures.state;
      goes = goes_both c.args.chunk (into_iter_items c.loop-row.row-iterator) rest c.args.self.now now new c.loop-row.invariant.goes
          (subst (λ l. Goes l rest now new) (sym s.0) (goes_front (c.in-Some.row ∷ []) rest now new c.take_row.ensures.goes));
    }
