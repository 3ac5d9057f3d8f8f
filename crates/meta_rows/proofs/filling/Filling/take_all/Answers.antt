use Rattle.std.proofs.Common.{◌∙◌, suc, length, ap, sym, subst, arith}
use Rattle.std.specs.List.{AllByRecursion}
use Rattle.std.specs.FinMap as map
use Rattle.std.specs.Vec.Iter.{into_iter_items}
use Rattle.byte_maps.specs.ByteMap.{byte_order}
use Rattle.meta_rows.specs.Prelude.{rows_after, key_of, Rises, rows_of, HasSpace, Awaits}
use Rattle.meta_rows.proofs.PartLemmas.{after_is}
use Rattle.meta_rows.proofs.FillLemmas.{later_await}
use Rattle.meta_rows.proofs.filling.Filling.take_all.Goals as goal

pub loop-op-init : goal.loop-op-init
loop-op-init c =
    let h = c.into_iter-op-iterator.ensures.into_iter_gives in
    let f = c.args.self.now in
    record {
      can_next = tt;
      finite = tt;
      count = omega (arith, h.1, ap length h.0, c.args.ops.ok.0);
      state = c.requires.state;
      rows = ap (λ ops. rows_after (map.from_sorted {R = byte_order} (rows_of f)) ops) h.0;
      rises = subst Rises (sym h.0) c.requires.rises;
      awaits = subst (λ ops. AllByRecursion (λ op. Awaits (key_of op) f) ops) (sym h.0) c.requires.awaits;
      room = subst (λ ops. HasSpace (suc (length ops)) f.all) (sym h.0) c.requires.room;
    }

pub loop-op-preserved : goal.loop-op-preserved
loop-op-preserved c =
    let s = c.in-Some.ensures.steps in
    let op = c.in-Some.op in
    let rest = into_iter_items c.next.new.self in
    let old = c.loop-op.self in
    let new = c.take.new.self in
    let rises = subst Rises s.0 c.loop-op.invariant.rises in
    let awaits = subst (λ ops. AllByRecursion (λ op. Awaits (key_of op) old) ops) s.0 c.loop-op.invariant.awaits in
    record {
      can_next = tt;
      finite = tt;
      count = omega (arith, s.1, ap length s.0, c.loop-op.invariant.count);
      state = c.take.ensures.state;
      rows = ap (λ es. rows_after (map.from_sorted {R = byte_order} es) rest) c.take.ensures.rows
          ∙ ap (λ rows. rows_after rows rest) (after_is (rows_of old) c.loop-op.invariant.state.order op)
          ∙ ap (λ ops. rows_after (map.from_sorted {R = byte_order} (rows_of old)) ops) (sym s.0)
          ∙ c.loop-op.invariant.rows;
      rises = rises.1;
      awaits = later_await op rest old new rises awaits.1 c.take.ensures.awaits;
      room = c.take.ensures.room (suc (length rest)) (subst (λ ops. HasSpace (suc (length ops)) old.all) s.0 c.loop-op.invariant.room);
    }
