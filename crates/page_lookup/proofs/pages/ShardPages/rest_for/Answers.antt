use Rattle.std.proofs.Common.{List, ap, sym, subst, ◌∙◌}
use Rattle.row_format.specs.Prelude.{Extent}
use Rattle.page_lookup.specs.Prelude.{rows_read, LeavesOut}
use Rattle.page_lookup.proofs.Finding.{leaves_none, leaves_later}
use Rattle.page_lookup.proofs.pages.ShardPages.rest_for.Goals as goal

pub returns-then-page-self : goal.returns-then-page-self
returns-then-page-self c =
    subst (LeavesOut c.args.page c.args.self.now) (sym (c.new.ensures ∙ ap (rows_read c.self.inside.width) c.again.ensures ∙ c.self.view_is))
    (leaves_none c.args.page c.args.self.now)

pub returns-else-page-self : goal.returns-else-page-self
returns-else-page-self c =
    subst (LeavesOut c.args.page c.args.self.now) (sym c.again-else-page-self.ensures)
    (subst (λ (all : List Extent). LeavesOut c.args.page all c.self.inside.rest) c.self.view_is
    (leaves_later c.self.inside.from c.args.page (rows_read c.self.inside.width c.self.inside.rows) c.self.inside.rest c.if-page-self.false c.self.invariant.1))
