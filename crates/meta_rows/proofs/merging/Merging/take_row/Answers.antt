use Rattle.std.proofs.Common.{◌≡◌, ◌∙◌, true, [], ◌∷◌, reverse, ap, sym, subst}
use Rattle.std.specs.Ordering.{is_lt}
use Rattle.byte_maps.specs.ByteMap.{byte_order}
use Rattle.meta_rows.specs.Prelude.{key_of, FirstNotBelow}
use Rattle.meta_rows.specs.declared.merging.Merging.{Merging}
use Rattle.meta_rows.proofs.MergeLemmas.{first_awaits, merging_op, merging_row, goes_none, goes_both, goes_op, goes_row}
use Rattle.meta_rows.proofs.merging.Merging.take_row.Goals as goal

pub take-requires-clause-awaits : goal.take-requires-clause-awaits
take-requires-clause-awaits c = first_awaits c.in-Some.op (reverse c.next_below.new.ops.items) c.loop-op.self c.loop-op.invariant.state c.in-Some.ensures.0

pub loop-op-preserved : goal.loop-op-preserved
loop-op-preserved c =
    let row = c.args.row in
    let op = c.in-Some.op in
    let now = c.loop-op.self in
    let new : Merging = record { filling = c.take.new.self; ops = c.next_below.new.ops } in
    let low : is_lt (byte_order (key_of op) row.0) ≡ true = ap (λ k. is_lt (byte_order (key_of op) k)) (sym c.as_slice.ensures) ∙ c.in-Some.ensures.1 in
    record {
      state = merging_op op now new c.loop-op.invariant.state c.in-Some.ensures.0 c.take.ensures.state c.take.ensures.awaits;
      goes = goes_both (row ∷ []) (row ∷ []) (row ∷ []) c.args.self.now now new c.loop-op.invariant.goes
          (goes_op row op now new c.in-Some.ensures.0 low c.take.ensures.rows c.take.ensures.room);
    }

pub take_row-requires-clause-order : goal.take_row-requires-clause-order
take_row-requires-clause-order c = c.loop-op.invariant.goes.order [] c.requires.order

pub returns-clause-state : goal.returns-clause-state
returns-clause-state c =
    let new : Merging = record { filling = c.take_row.new.self; ops = c.next_below.new.ops } in
    merging_row c.args.row c.loop-op.self new c.loop-op.invariant.state c.in_default.ensures.0
    (subst (λ k. FirstNotBelow k (reverse c.loop-op.self.ops.items)) c.as_slice.ensures c.in_default.ensures.1) c.take_row.ensures.state c.take_row.ensures.awaits

pub returns-clause-goes : goal.returns-clause-goes
returns-clause-goes c =
    let row = c.args.row in
    let new : Merging = record { filling = c.take_row.new.self; ops = c.next_below.new.ops } in
    goes_both (row ∷ []) (row ∷ []) [] c.args.self.now c.loop-op.self new c.loop-op.invariant.goes
    (goes_row row c.loop-op.self new c.in_default.ensures.0 c.take_row.ensures.rows c.take_row.ensures.room)

pub loop-op-init : goal.loop-op-init
loop-op-init c = record { state = c.requires.state; goes = goes_none (c.args.row ∷ []) c.args.self.now }
