use Rattle.std.proofs.Common.{◌≡◌, ℕ, not, OnOk, sym, ap, subst, ◌∙◌}
use Rattle.std.specs.Prelude.{◌&&◌}
use Rattle.std.specs.FinMap as finite
use Rattle.number_map.specs.NumberMap.{NumberMap}
use Rattle.plan_drafts.specs.Edits.{covers_whole}
use Rattle.page_edits.proofs.Untouched.{none_retained}
use Rattle.page_edits.proofs.edits.clear.Goals as goal

pub returns-else-span : goal.returns-else-span
returns-else-span c =
    let puts : NumberMap ℕ = c.args.puts.now in
    let span = c.args.span.now in
    sym (ap (λ b. finite.retain_keys puts (λ page. not (b && covers_whole span.off span.end page))) c.if-span.false ∙ none_retained puts)

pub returns-then-span : goal.returns-then-span
returns-then-span c =
    let puts : NumberMap ℕ = c.args.puts.now in
    let new : NumberMap ℕ = c.clear_whole.new.puts in
    let span = c.args.span.now in
    subst (λ b. OnOk c.clear_whole.result (new ≡ finite.retain_keys puts (λ page. not (b && covers_whole span.off span.end page)))) (sym c.if-span.true)
    c.clear_whole.ensures
