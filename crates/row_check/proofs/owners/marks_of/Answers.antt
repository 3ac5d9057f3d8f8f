use Rattle.std.proofs.Common.{◌+◌, [], length, None, refl, sym, subst, ◌∙◌}
use Rattle.meta_rows.specs.Prelude.{rows_from_to}
use Rattle.meta_rows.proofs.RangeLemmas.{left_more, left_none}
use Rattle.meta_log.specs.Prelude.{width_of}
use Rattle.row_check.specs.Owned.{SpellsRowWithin, AreMarkedOn}
use Rattle.row_reading.proofs.Entries.{AreRows, are_rows}
use Rattle.row_check.proofs.MarkedRows.{MarkedTo, none_marked, spells_within, row_step, all_marked}
use Rattle.row_check.proofs.owners.marks_of.Goals as goal

pub loop-key-init : goal.loop-key-init
loop-key-init c = record {
  can_next = tt;
  finite = tt;
  at = 0;
  left = c.into_iter-key-iterator.ensures.into_iter_gives ∙ c.range-key-items.ensures;
  marked = subst (MarkedTo (width_of c.args.sup.now) (rows_from_to c.args.rows.now.rows [] None) 0 c.args.sup.now.units)
      (sym c.in_ok-marks.ensures) (none_marked (width_of c.args.sup.now) (rows_from_to c.args.rows.now.rows [] None) c.args.sup.now.units);
}

pub mark_row-requires : goal.mark_row-requires
mark_row-requires c =
    let rows = c.args.rows.now.rows in
    let es = rows_from_to rows [] None in
    let are : AreRows rows es = are_rows rows es refl in
    let x = c.in-Some.field-0.now in
    let more = left_more es c.loop-key.invariant.at x c.next.new.self (sym c.loop-key.invariant.left ∙ c.in-Some.ensures.steps) in
    let key = c.as_slice.result.now in
    let value = c.as_slice-in-loop-key.result.now in
    subst (λ w. SpellsRowWithin w key value (length c.loop-key.marks.owned)) (sym c.width.ensures)
    (subst (SpellsRowWithin (width_of c.args.sup.now) key value) (sym c.loop-key.invariant.marked.has.owned)
    (spells_within c.args.sup.now rows c.requires es are c.loop-key.invariant.at x key value more.0 more.1 c.as_slice.ensures
    c.as_slice-in-loop-key.ensures))

pub loop-key-preserved : goal.loop-key-preserved
loop-key-preserved c =
    let rows = c.args.rows.now.rows in
    let es = rows_from_to rows [] None in
    let are : AreRows rows es = are_rows rows es refl in
    let at = c.loop-key.invariant.at in
    let x = c.in-Some.field-0.now in
    let more = left_more es at x c.next.new.self (sym c.loop-key.invariant.left ∙ c.in-Some.ensures.steps) in
    record {
      can_next = tt;
      finite = tt;
      at = at + 1;
      left = more.2;
      marked = row_step c.args.sup.now rows c.requires es are at x c.as_slice.result.now c.as_slice-in-loop-key.result.now more.0 more.1 c.as_slice.ensures
          c.as_slice-in-loop-key.ensures c.loop-key.marks c.mark_row.new.marks c.loop-key.invariant.marked
          (subst (λ w. AreMarkedOn w c.as_slice.result.now c.as_slice-in-loop-key.result.now c.loop-key.marks c.mark_row.new.marks) c.width.ensures
          c.in_ok-mark_row.ensures);
    }

pub returns : goal.returns
returns c =
    let rows = c.args.rows.now.rows in
    let es = rows_from_to rows [] None in
    let are : AreRows rows es = are_rows rows es refl in
    let at = c.loop-key.invariant.at in
    let all = all_marked c.args.sup.now rows c.requires es are at
    (left_none es at (sym c.loop-key.invariant.left ∙ c.in-None.ensures.steps.0)) c.args.sup.now.units c.loop-key.marks
    c.loop-key.invariant.marked in
    (all, c.loop-key.invariant.marked.has.owned, c.loop-key.invariant.marked.has.shared)
