use Rattle.std.proofs.Common.{◌+◌, [], None, refl, sym, subst, ◌∙◌, arith}
use Rattle.meta_rows.specs.Prelude.{rows_from_to}
use Rattle.meta_rows.proofs.RangeLemmas.{left_more, left_none}
use Rattle.row_reading.proofs.Entries.{AreRows, are_rows}
use Rattle.store_image.specs.Prelude.{IsGoodRow}
use Rattle.row_check.specs.declared.passed.Passed.{Passed}
use Rattle.row_check.specs.Bad.{IsLeastBad, Knows}
use Rattle.row_check.proofs.Walk.{InFirst, at_start, stands_here, step_to, step_on, good_on, first_bad, all_good}
use Rattle.row_check.proofs.bad.find_bad_row.Goals as goal

pub loop-key-init : goal.loop-key-init
loop-key-init c =
    let rows = c.args.rows.now.rows in
    let es = rows_from_to rows [] None in
    record {
      can_next = tt;
      finite = tt;
      at = 0;
      left = c.into_iter-key-iterator.ensures.into_iter_gives ∙ c.range-key-items.ensures;
      knows = subst (λ (p : Passed). Knows c.args.sup.now rows (InFirst es 0) p) (sym c.new-passed.ensures) (at_start c.args.sup.now rows es);
      good = λ n w first stands. absurd (omega (arith, first.2));
    }

pub judge_row-judged-requires-clause-knows : goal.judge_row-judged-requires-clause-knows
judge_row-judged-requires-clause-knows c =
    let s = c.args.sup.now in
    let rows = c.args.rows.now.rows in
    let es = rows_from_to rows [] None in
    let are : AreRows rows es = are_rows rows es refl in
    let at = c.loop-key.invariant.at in
    let x = c.in-Some.field-0.now in
    let more = left_more es at x c.next.new.self (sym c.loop-key.invariant.left ∙ c.in-Some.ensures.steps) in
    let key = c.as_slice.result.now in
    let value = c.as_slice-in-loop-key.result.now in
    step_to s rows es are at x key value more.0 more.1 c.as_slice.ensures c.as_slice-in-loop-key.ensures c.loop-key.passed c.loop-key.invariant.knows

pub judge_row-judged-requires-clause-stands : goal.judge_row-judged-requires-clause-stands
judge_row-judged-requires-clause-stands c =
    let s = c.args.sup.now in
    let rows = c.args.rows.now.rows in
    let es = rows_from_to rows [] None in
    let are : AreRows rows es = are_rows rows es refl in
    let at = c.loop-key.invariant.at in
    let x = c.in-Some.field-0.now in
    let more = left_more es at x c.next.new.self (sym c.loop-key.invariant.left ∙ c.in-Some.ensures.steps) in
    let key = c.as_slice.result.now in
    let value = c.as_slice-in-loop-key.result.now in
    stands_here s rows es are at x key value more.0 more.1 c.as_slice.ensures c.as_slice-in-loop-key.ensures

pub returns-then-not-good : goal.returns-then-not-good
returns-then-not-good c =
    let s = c.args.sup.now in
    let rows = c.args.rows.now.rows in
    let es = rows_from_to rows [] None in
    let are : AreRows rows es = are_rows rows es refl in
    let at = c.loop-key.invariant.at in
    let x = c.in-Some.field-0.now in
    let more = left_more es at x c.next.new.self (sym c.loop-key.invariant.left ∙ c.in-Some.ensures.steps) in
    let key = c.as_slice.result.now in
    let value = c.as_slice-in-loop-key.result.now in
    let bad : ¬ (IsGoodRow s rows key value) = λ good. let never = c.in-Ok.ensures.judged.1 good in cc in
    let least = first_bad s rows es are at x key value more.0 more.1 c.as_slice.ensures c.as_slice-in-loop-key.ensures c.loop-key.invariant.good bad in
    subst (IsLeastBad s rows) (c.as_slice.ensures ∙ sym c.as_slice-then-not-good.ensures ∙ sym c.in_ok-bad.ensures) least

pub loop-key-preserved : goal.loop-key-preserved
loop-key-preserved c =
    let s = c.args.sup.now in
    let rows = c.args.rows.now.rows in
    let es = rows_from_to rows [] None in
    let are : AreRows rows es = are_rows rows es refl in
    let at = c.loop-key.invariant.at in
    let x = c.in-Some.field-0.now in
    let more = left_more es at x c.next.new.self (sym c.loop-key.invariant.left ∙ c.in-Some.ensures.steps) in
    let key = c.as_slice.result.now in
    let value = c.as_slice-in-loop-key.result.now in
    let good : IsGoodRow s rows key value = c.in-Ok.ensures.judged.0 c.if-not-good.false in
    record {
      can_next = tt;
      finite = tt;
      at = at + 1;
      left = more.2;
      knows = step_on s rows es are at x key value more.0 more.1 c.as_slice.ensures c.as_slice-in-loop-key.ensures c.judge_row-judged.new.passed c.in-Ok.ensures.knows;
      good = good_on s rows es are at x key value more.0 more.1 c.as_slice.ensures c.as_slice-in-loop-key.ensures c.loop-key.invariant.good good;
    }

pub returns : goal.returns
returns c =
    let rows = c.args.rows.now.rows in
    let es = rows_from_to rows [] None in
    let are : AreRows rows es = are_rows rows es refl in
    let at = c.loop-key.invariant.at in
    all_good c.args.sup.now rows es are at (left_none es at (sym c.loop-key.invariant.left ∙ c.in-None.ensures.steps.0)) c.loop-key.invariant.good
