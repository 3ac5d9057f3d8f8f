use Rattle.std.proofs.Common.{ℕ, Bool, [], ◌∷◌, ◌++◌, ap, ◌∙◌, arith}
use Rattle.std.specs.Prelude.{filter}
use Rattle.std.specs.Option.{option_to_list}
use Rattle.plan_drafts.specs.Edits.{gets_bytes}
use Rattle.page_edits.specs.Ranges.{fate_on}
use Rattle.page_edits.proofs.Fates.{gets_none}
use Rattle.page_edits.proofs.ReachedPages.{ends_pass, inner_whole}
use Rattle.page_edits.proofs.fate.ends_put.Goals as goal

pub returns : goal.returns
returns c =
    let span = c.args.span.now in
    let draft = c.args.draft.now in
    let gets : ℕ → Bool = λ page. gets_bytes (fate_on c.args.span.now c.args.draft.now page) in
    let t = c.pages_touched-touched.result in
    let first = c.page_put-first.result in
    ap (λ l. l ++ option_to_list c.page_put.result) c.page_put-first.ensures
    ∙ ap (λ l. filter gets (t.start ∷ []) ++ l) c.page_put.ensures
    ∙ ends_pass gets t.start t.end (omega arith) (λ k from to. gets_none span.off span.end span.clears draft k c.requires.clears
    (inner_whole span.off span.end k (omega (arith, from)) (omega (arith, to))))
    ∙ ap (filter gets) c.pages_touched-touched.ensures.pages
