use Rattle.std.proofs.Common.{◌≡◌, ◌+◌, ◌∷◌, [], ◌++◌, List, take, take_all, subst, sym, ap, ◌∙◌, arith}
use Rattle.std.proofs.lemmas.List.{take_more}
use Rattle.row_format.specs.Prelude.{Extent}
use Rattle.row_check.specs.Bad.{IsEndOf}
use Rattle.row_check.proofs.Ends.{end_more}
use Rattle.row_check.proofs.passed.end_of.Goals as goal

pub loop-extent-preserved : goal.loop-extent-preserved
loop-extent-preserved c =
    let es = c.args.extents.now in
    let at = c.loop-extent.extent-index in
    let e = c.extent-item.result in
    let list : take at es ++ e ∷ [] ≡ take (at + 1) es =
    ap (λ (x : Extent). take at es ++ x ∷ []) c.extent-item.is ∙ sym (take_more es at e c.loop-extent-test.true) in
    subst (λ (l : List Extent). IsEndOf l c.max-end.result) list
    (end_more (take at es) e c.loop-extent.end c.max-end.result c.loop-extent.invariant
    (λ page. (λ le. (omega (arith, c.max-end.ensures, c.page_behind.ensures, le), omega (arith, c.max-end.ensures, le)), λ both. omega (arith, c.max-end.ensures, c.page_behind.ensures, both.0, both.1))))

pub returns : goal.returns
returns c =
    subst (λ (l : List Extent). IsEndOf l c.loop-extent.end) (take_all c.loop-extent.extent-index c.args.extents.now c.loop-extent-test.false) c.loop-extent.invariant
