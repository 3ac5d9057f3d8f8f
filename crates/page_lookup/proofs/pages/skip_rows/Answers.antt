use Rattle.std.proofs.Common.{List, ℕ, subst, rules}
use Rattle.page_lookup.specs.Prelude.{extents_read, BeginsBy}
use Rattle.page_lookup.proofs.Rows.{rows_left}
use Rattle.page_lookup.proofs.pages.skip_rows.Goals as goal

pub returns : goal.returns
returns c =
    rows_left c.args.width c.args.page _
    (λ value reached. subst (λ (v : List ℕ). BeginsBy c.args.page (extents_read c.args.width v)) reached.shows
    (let says = reached.says in search (says, rules)))
    c.args.rows.now c.skip_to.new.self c.requires c.skip_to.ensures
