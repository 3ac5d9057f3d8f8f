use Rattle.std.proofs.Common.{◌≡◌, ◌+◌, ◌-◌, ◌*◌, ℕ, List, take, drop, ap, ◌∙◌, arith}
use Rattle.std.specs.List.{slice_range}
use Rattle.plan_drafts.specs.Edits.{page_after}
use Rattle.page_edits.proofs.Patches.{shared_is}
use Rattle.page_edits.proofs.Results.{all_ok}
use Rattle.page_edits.proofs.page_bytes.page_shared.Goals as goal

pub returns : goal.returns
returns c =
    let off = c.args.off in
    let bytes = c.args.bytes.now in
    let page = c.args.page in
    let at : ℕ = c.page_start.result - off in
    let at_is : at ≡ 4096 * page - off = ap (λ n. n - off) c.page_start.ensures in
    let size : at + 4096 - at ≡ 4096 = omega arith in
    all_ok
    (λ (new : List ℕ). new ≡ slice_range bytes at (at + 4096))
    (λ (new : List ℕ). (old : List ℕ) → new ≡ page_after off bytes page old)
    c.slice.result
    (λ new is old. is ∙ ap (λ n. take n (drop at bytes)) size ∙ shared_is off bytes page old at at_is c.requires.from c.requires.to)
    c.slice.ensures.ok
