use Rattle.std.proofs.Common.{◌≡◌, ◌++◌, [], List, ap, sym, ◌∙◌}
use Rattle.std.proofs.lemmas.Result.{on_ok_weaker}
use Rattle.meta_rows.specs.Prelude.{Rows, rows_after}
use Rattle.meta_rows.specs.declared.row_op.RowOp.{RowOp}
use Rattle.meta_rows.proofs.Folds.{rows_after-append}
use Rattle.log_replay.specs.Prelude.{rows_so_far}
use Rattle.log_replay.proofs.gathering.Gathered.apply_many_others.Goals as goal

pub returns-clause-same : goal.returns-clause-same
returns-clause-same c =
    let old = c.args.self.now in
    let now = c.apply_presorted.new.rows.rows in
    let bits = old.bits.items in
    let none : c.replace-others.new.dest.items ≡ [] = ap (λ v. v.items) c.replace-others.ensures.after ∙ c.new.ensures.items in
    let waiting : c.replace-others.result.items ≡ old.others.items = ap (λ v. v.items) c.replace-others.ensures.value in
    on_ok_weaker {P = now ≡ rows_after old.rows.rows c.replace-others.result.items}
    {Q = rows_after now (c.replace-others.new.dest.items ++ bits) ≡ rows_so_far old} c.apply_presorted.result
    (λ made. ap (λ (l : List RowOp). rows_after now (l ++ bits)) none
    ∙ ap (λ (m : Rows). rows_after m bits) (made ∙ ap (rows_after old.rows.rows) waiting)
    ∙ sym (rows_after-append old.rows.rows old.others.items bits))
    c.apply_presorted.ensures
