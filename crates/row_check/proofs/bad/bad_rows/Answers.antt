use Rattle.std.proofs.Common.{◌≡◌, ◌+◌, ℕ, [], ◌∷◌, ◌++◌, List, None, refl, sym, subst, ap, ◌∙◌}
use Rattle.std.specs.declared.cmp.Ordering.TheVariants.{Less}
use Rattle.byte_maps.specs.ByteMap.{byte_order}
use Rattle.meta_rows.specs.Prelude.{rows_from_to}
use Rattle.meta_rows.proofs.RangeLemmas.{left_more, left_none}
use Rattle.row_reading.proofs.Entries.{AreRows, are_rows}
use Rattle.ordered_lists.specs.Lists.{ListsAll}
use Rattle.store_image.specs.Prelude.{IsGoodRow, IsBadRow}
use Rattle.row_check.specs.declared.passed.Passed.{Passed}
use Rattle.row_check.specs.Bad.{Knows}
use Rattle.row_check.proofs.Walk.{InFirst, at_start, none_bad_yet, stands_here, step_to, step_on, one_more_bad, no_more_bad, all_bad}
use Rattle.row_check.proofs.bad.bad_rows.Goals as goal

pub loop-key-init : goal.loop-key-init
loop-key-init c =
    let rows = c.args.rows.now.rows in
    let es = rows_from_to rows [] None in
    record {
      can_next = tt;
      finite = tt;
      at = 0;
      left = c.into_iter-key-iterator.ensures.into_iter_gives ∙ c.range-key-items.ensures;
      knows = subst (λ (p : Passed). Knows c.args.sup.now rows (InFirst es 0) p) (sym c.new-passed.ensures) (at_start c.args.sup.now rows es);
      bad = subst (λ (l : List (List ℕ)). ListsAll (λ a b. byte_order a b ≡ Less) (λ n. IsBadRow c.args.sup.now rows n × InFirst es 0 n) l) (sym c.new-bad.ensures)
          (none_bad_yet c.args.sup.now rows es);
    }

pub judge_row-requires-clause-knows : goal.judge_row-requires-clause-knows
judge_row-requires-clause-knows c =
    let s = c.args.sup.now in
    let rows = c.args.rows.now.rows in
    let es = rows_from_to rows [] None in
    let are : AreRows rows es = are_rows rows es refl in
    let at = c.loop-key.invariant.at in
    let x = c.in-Some.field-0.now in
    let more = left_more es at x c.next.new.self (sym c.loop-key.invariant.left ∙ c.in-Some.ensures.steps) in
    let key = c.as_slice.result.now in
    let value = c.as_slice-in-loop-key.result.now in
    step_to s rows es are at x key value more.0 more.1 c.as_slice.ensures c.as_slice-in-loop-key.ensures c.loop-key.passed c.loop-key.invariant.knows

pub judge_row-requires-clause-stands : goal.judge_row-requires-clause-stands
judge_row-requires-clause-stands c =
    let s = c.args.sup.now in
    let rows = c.args.rows.now.rows in
    let es = rows_from_to rows [] None in
    let are : AreRows rows es = are_rows rows es refl in
    let at = c.loop-key.invariant.at in
    let x = c.in-Some.field-0.now in
    let more = left_more es at x c.next.new.self (sym c.loop-key.invariant.left ∙ c.in-Some.ensures.steps) in
    let key = c.as_slice.result.now in
    let value = c.as_slice-in-loop-key.result.now in
    stands_here s rows es are at x key value more.0 more.1 c.as_slice.ensures c.as_slice-in-loop-key.ensures

pub loop-key-preserved-in_ok-push : goal.loop-key-preserved-in_ok-push
loop-key-preserved-in_ok-push c =
    let s = c.args.sup.now in
    let rows = c.args.rows.now.rows in
    let es = rows_from_to rows [] None in
    let are : AreRows rows es = are_rows rows es refl in
    let at = c.loop-key.invariant.at in
    let x = c.in-Some.field-0.now in
    let more = left_more es at x c.next.new.self (sym c.loop-key.invariant.left ∙ c.in-Some.ensures.steps) in
    let key = c.as_slice.result.now in
    let value = c.as_slice-in-loop-key.result.now in
    let bad : ¬ (IsGoodRow s rows key value) = λ good. let never = c.in_ok-good.ensures.judged.1 good in cc in
    let same : c.in_ok-from_slice.field-0 ≡ key = c.in_ok-from_slice.ensures ∙ c.as_slice-then-not-good.ensures ∙ sym c.as_slice.ensures in
    let list : c.push.new.self ≡ c.loop-key.bad ++ key ∷ [] = c.in_ok-push.ensures.ok ∙ ap (λ (k : List ℕ). c.loop-key.bad ++ k ∷ []) same in
    record {
      can_next = tt;
      finite = tt;
      at = at + 1;
      left = more.2;
      knows = step_on s rows es are at x key value more.0 more.1 c.as_slice.ensures c.as_slice-in-loop-key.ensures c.judge_row.new.passed c.in_ok-good.ensures.knows;
      bad = subst (λ (l : List (List ℕ)). ListsAll (λ a b. byte_order a b ≡ Less) (λ n. IsBadRow s rows n × InFirst es (at + 1) n) l) (sym list)
          (one_more_bad s rows es are at x key value more.0 more.1 c.as_slice.ensures c.as_slice-in-loop-key.ensures c.loop-key.bad c.loop-key.invariant.bad bad);
    }

pub loop-key-preserved : goal.loop-key-preserved
loop-key-preserved c =
    let s = c.args.sup.now in
    let rows = c.args.rows.now.rows in
    let es = rows_from_to rows [] None in
    let are : AreRows rows es = are_rows rows es refl in
    let at = c.loop-key.invariant.at in
    let x = c.in-Some.field-0.now in
    let more = left_more es at x c.next.new.self (sym c.loop-key.invariant.left ∙ c.in-Some.ensures.steps) in
    let key = c.as_slice.result.now in
    let value = c.as_slice-in-loop-key.result.now in
    let good : IsGoodRow s rows key value = c.in_ok-good.ensures.judged.0 c.if-not-good.false in
    record {
      can_next = tt;
      finite = tt;
      at = at + 1;
      left = more.2;
      knows = step_on s rows es are at x key value more.0 more.1 c.as_slice.ensures c.as_slice-in-loop-key.ensures c.judge_row.new.passed c.in_ok-good.ensures.knows;
      bad = no_more_bad s rows es are at x key value more.0 more.1 c.as_slice.ensures c.as_slice-in-loop-key.ensures c.loop-key.bad c.loop-key.invariant.bad good;
    }

pub returns : goal.returns
returns c =
    let rows = c.args.rows.now.rows in
    let es = rows_from_to rows [] None in
    let are : AreRows rows es = are_rows rows es refl in
    let at = c.loop-key.invariant.at in
    all_bad c.args.sup.now rows es are at (left_none es at (sym c.loop-key.invariant.left ∙ c.in-None.ensures.steps.0)) c.loop-key.bad c.loop-key.invariant.bad
