use Rattle.std.proofs.Common.{◌+◌, refl, sym, ◌∙◌}
use Rattle.meta_rows.proofs.RangeLemmas.{left_more, left_none}
use Rattle.bitmap_freelist.proofs.Reading.{no_rows, table_row, on_row, all_rows, table}
use Rattle.bitmap_freelist.proofs.marks.read.Goals as goal

pub loop-key-init : goal.loop-key-init
loop-key-init c = record {
  can_next = tt;
  finite = tt;
  at = 0;
  left = c.into_iter-key-iterator.ensures.into_iter_gives ∙ c.range-key-items.ensures;
  has = no_rows c.args.rows.now.rows (table c.args.rows.now.rows) c.new-units.result refl c.new-units.ensures;
}

pub insert_row-requires : goal.insert_row-requires
insert_row-requires c =
    let es = table c.args.rows.now.rows in
    let x = c.in-Some.field-0.now in
    let more = left_more es c.loop-key.invariant.at x c.next.new.self (sym c.loop-key.invariant.left ∙ c.in-Some.ensures.steps) in
    table_row c.args.rows.now.rows es c.loop-key.invariant.at x c.as_slice.result.now c.as_slice-in-loop-key.result.now c.requires refl more.0 more.1
    c.as_slice.ensures c.as_slice-in-loop-key.ensures

pub loop-key-preserved : goal.loop-key-preserved
loop-key-preserved c =
    let es = table c.args.rows.now.rows in
    let at = c.loop-key.invariant.at in
    let x = c.in-Some.field-0.now in
    let more = left_more es at x c.next.new.self (sym c.loop-key.invariant.left ∙ c.in-Some.ensures.steps) in
    record {
      can_next = tt;
      finite = tt;
      at = at + 1;
      left = more.2;
      has = on_row es es at x c.as_slice.result.now c.as_slice-in-loop-key.result.now c.loop-key.units c.insert_row.new.units more.0 more.1 c.as_slice.ensures
          c.as_slice-in-loop-key.ensures c.loop-key.invariant.has c.in_ok-insert_row.ensures;
    }

pub returns : goal.returns
returns c =
    let es = table c.args.rows.now.rows in
    all_rows c.args.rows.now.rows es c.loop-key.invariant.at c.loop-key.units c.requires refl
    (left_none es c.loop-key.invariant.at (sym c.loop-key.invariant.left ∙ c.in-None.ensures.steps.0)) c.loop-key.invariant.has
