use Rattle.std.proofs.Common.{◌+◌, [], None, refl, sym, subst, ◌∙◌}
use Rattle.unit_fields.specs.declared.width.Width.{Width}
use Rattle.meta_rows.specs.Prelude.{rows_from_to}
use Rattle.meta_rows.proofs.RangeLemmas.{left_more, left_none}
use Rattle.meta_log.specs.Prelude.{width_of}
use Rattle.row_reading.proofs.Entries.{AreRows, are_rows}
use Rattle.row_check.specs.Tallies.{RowHasPlaces, SpellsSomeRow, IsTalliedOn}
use Rattle.row_check.proofs.Counted.{start_tallied, row_places, row_spelled, row_tallied, all_tallied}
use Rattle.row_check.proofs.counts.name_rows.Goals as goal

pub loop-key-init : goal.loop-key-init
loop-key-init c =
    let rows = c.args.rows.now.rows in
    let es = rows_from_to rows [] None in
    record {
      can_next = tt;
      finite = tt;
      at = 0;
      left = c.into_iter-key-iterator.ensures.into_iter_gives ∙ c.range-key-items.ensures;
      counted = start_tallied c.args.sup.now rows c.requires.good es (are_rows rows es refl) c.args.tallies.now c.requires.unnamed;
    }

pub name_row-requires-clause-places : goal.name_row-requires-clause-places
name_row-requires-clause-places c =
    let rows = c.args.rows.now.rows in
    let es = rows_from_to rows [] None in
    let are : AreRows rows es = are_rows rows es refl in
    let x = c.in-Some.field-0.now in
    let more = left_more es c.loop-key.invariant.at x c.next.new.self (sym c.loop-key.invariant.left ∙ c.in-Some.ensures.steps) in
    let key = c.as_slice.result.now in
    let value = c.as_slice-in-loop-key.result.now in
    subst (λ (w : Width). RowHasPlaces w key value c.loop-key.tallies) (sym c.width.ensures)
    (row_places c.args.sup.now rows c.requires.good es are c.loop-key.invariant.at x key value more.0 more.1 c.as_slice.ensures c.as_slice-in-loop-key.ensures
    c.loop-key.tallies c.loop-key.invariant.counted)

pub name_row-requires-clause-spelled : goal.name_row-requires-clause-spelled
name_row-requires-clause-spelled c =
    let rows = c.args.rows.now.rows in
    let es = rows_from_to rows [] None in
    let are : AreRows rows es = are_rows rows es refl in
    let x = c.in-Some.field-0.now in
    let more = left_more es c.loop-key.invariant.at x c.next.new.self (sym c.loop-key.invariant.left ∙ c.in-Some.ensures.steps) in
    let key = c.as_slice.result.now in
    let value = c.as_slice-in-loop-key.result.now in
    subst (λ (w : Width). SpellsSomeRow w key value) (sym c.width.ensures)
    (row_spelled c.args.sup.now rows c.requires.good es are c.loop-key.invariant.at x key value more.0 more.1 c.as_slice.ensures c.as_slice-in-loop-key.ensures)

pub loop-key-preserved : goal.loop-key-preserved
loop-key-preserved c =
    let rows = c.args.rows.now.rows in
    let es = rows_from_to rows [] None in
    let are : AreRows rows es = are_rows rows es refl in
    let at = c.loop-key.invariant.at in
    let x = c.in-Some.field-0.now in
    let more = left_more es at x c.next.new.self (sym c.loop-key.invariant.left ∙ c.in-Some.ensures.steps) in
    record {
      can_next = tt;
      finite = tt;
      at = at + 1;
      left = more.2;
      counted = row_tallied c.args.sup.now rows c.requires.good es are at x c.as_slice.result.now c.as_slice-in-loop-key.result.now more.0 more.1 c.as_slice.ensures
          c.as_slice-in-loop-key.ensures c.loop-key.tallies c.loop-key.invariant.counted c.name_row.new.tallies
          (subst (λ (w : Width). IsTalliedOn w c.as_slice.result.now c.as_slice-in-loop-key.result.now c.loop-key.tallies c.name_row.new.tallies) c.width.ensures
          c.in_ok-name_row.ensures);
    }

pub returns : goal.returns
returns c =
    let rows = c.args.rows.now.rows in
    let es = rows_from_to rows [] None in
    let are : AreRows rows es = are_rows rows es refl in
    let at = c.loop-key.invariant.at in
    all_tallied c.args.sup.now rows c.requires.good es are at (left_none es at (sym c.loop-key.invariant.left ∙ c.in-None.ensures.steps.0)) c.loop-key.tallies
    c.loop-key.invariant.counted
