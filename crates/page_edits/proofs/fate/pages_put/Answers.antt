use Rattle.std.proofs.Common.{◌≡◌, ℕ, suc, ◌+◌, ◌-◌, ◌≤◌, [], ◌∷◌, ◌++◌, sym, ap, ◌∙◌, arith}
use Rattle.std.specs.List.{range_with_len}
use Rattle.page_edits.proofs.ReachedPages.{range_last, all_put}
use Rattle.page_edits.proofs.fate.pages_put.Goals as goal

pub loop-page-preserved : goal.loop-page-preserved
loop-page-preserved c =
    let start : ℕ = c.pages_touched-touched.result.start in
    let page : ℕ = c.loop-page.page in
    let from : c.pages_touched-touched.result.start ≤ c.loop-page.page = c.loop-page.invariant.from in
    let next : suc (page - start) ≡ page + 1 - start = omega arith in
    let last : start + (page - start) ≡ page = omega arith in
    record {
      from = omega arith;
      pages = c.in_ok-push.ensures.ok
          ∙ ap (λ l. l ++ page ∷ []) c.loop-page.invariant.pages
          ∙ ap (λ n. range_with_len start (page - start) ++ n ∷ []) (sym last)
          ∙ sym (range_last start (page - start))
          ∙ ap (range_with_len start) next;
    }

pub returns : goal.returns
returns c =
    let start : ℕ = c.pages_touched-touched.result.start in
    let end : ℕ = c.pages_touched-touched.result.end in
    let last : c.loop-page.page - start ≡ end - start = omega (arith, c.pages_touched-touched.ensures.order) in
    c.loop-page.invariant.pages
    ∙ ap (range_with_len start) last
    ∙ c.pages_touched-touched.ensures.pages
    ∙ all_put c.args.span.now c.args.draft.now c.if-span.false
