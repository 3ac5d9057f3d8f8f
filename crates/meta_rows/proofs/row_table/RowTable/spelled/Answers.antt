use Rattle.std.proofs.Common.{◌∙◌, List, take, drop, ap, sym, subst}
use Rattle.std.proofs.lemmas.Result.{IfOk-weaker}
use Rattle.meta_rows.specs.Prelude.{AllFit, Entry, ops_bytes, sets_of}
use Rattle.meta_rows.proofs.CursorLemmas.{fit_on, bytes_behind}
use Rattle.meta_rows.proofs.row_table.RowTable.spelled.Goals as goal

pub part_of-requires : goal.part_of-requires
part_of-requires c =
    subst (λ (es : List Entry). AllFit (sets_of es)) (sym c.rows_on.ensures) (fit_on c.args.self.now.rows c.args.from.now.key c.requires)

pub returns : goal.returns
returns c =
    let rows = c.args.self.now.rows in
    let from = c.args.from.now in
    IfOk-weaker c.part_of.result _ _ (λ bytes is.
    is ∙ ap (λ (es : List Entry). take c.args.count (drop from.passed (ops_bytes (sets_of es)))) c.rows_on.ensures
    ∙ ap (take c.args.count) (bytes_behind rows from.key from.passed)) c.part_of.ensures
