use Rattle.std.proofs.Common.{Some, ap, sym, ◌∙◌, rules}
use Rattle.page_sources.specs.Found.{unit_with, IsFoundOn}
use Rattle.page_sources.proofs.parts.run_from.Goals as goal

pub returns-then-free-eq0-clause-run : goal.returns-then-free-eq0-clause-run
returns-then-free-eq0-clause-run c =
    let csum = c.on.inside.csum in
    let found : IsFoundOn c.args.pages.now c.args.first c.number-at.result csum =
    sym c.in-Some.ensures.unit ∙ ap (λ on. Some on) (sym c.on.view_is ∙ ap (λ u. unit_with u csum) (sym c.number-at.ensures)) in
    ((csum, found), search rules)
