use Rattle.std.proofs.Common.{◌≡◌, ◌++◌, [], List, ap, ◌∙◌, append-nil}
use Rattle.meta_rows.specs.Prelude.{Rows, rows_after}
use Rattle.meta_rows.specs.declared.row_op.RowOp.{RowOp}
use Rattle.log_replay.proofs.GatherLemmas.{bits_first}
use Rattle.log_replay.proofs.gathering.Gathered.apply_bits.Goals as goal

pub returns-clause-same : goal.returns-clause-same
returns-clause-same c =
    let old = c.args.self.now in
    let now = c.apply.new.self.rows in
    let others = old.others.items in
    let ops = c.replace-bits.result.items in
    let none : c.replace-bits.new.dest.items ≡ [] = ap (λ v. v.items) c.replace-bits.ensures.after ∙ c.in_ok-with_capacity.ensures.items in
    let waiting : ops ≡ old.bits.items = ap (λ v. v.items) c.replace-bits.ensures.value in
    let made : now ≡ rows_after old.rows.rows ops = c.apply.ensures.rows ∙ ap (λ (m : Rows). rows_after m ops) c.reserve.ensures.rows in
    ap (λ (l : List RowOp). rows_after now (others ++ l)) none
    ∙ ap (rows_after now) (append-nil others)
    ∙ ap (λ (m : Rows). rows_after m others) (made ∙ ap (rows_after old.rows.rows) waiting)
    ∙ bits_first old.rows.rows others old.bits.items c.requires.0 c.requires.1
