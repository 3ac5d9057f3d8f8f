use Rattle.std.proofs.Common.{◌+◌, [], List, ◌∙◌, ap, ap₂, sym, subst, arith}
use Rattle.std.proofs.lemmas.Result.{IfOk-weaker}
use Rattle.meta_rows.specs.Prelude.{AllFit, Entry, StandsIn, list_size, rows_from_to, sets_of}
use Rattle.meta_rows.proofs.CursorLemmas.{fit_on, sizes, place_on}
use Rattle.meta_rows.proofs.row_table.RowTable.behind.Goals as goal

pub row_behind-requires-clause-fit : goal.row_behind-requires-clause-fit
row_behind-requires-clause-fit c =
    subst (λ (es : List Entry). AllFit (sets_of es)) (sym c.rows_on.ensures) (fit_on c.args.self.now.rows c.args.from.now.key c.requires.fit)

pub row_behind-requires-clause-most : goal.row_behind-requires-clause-most
row_behind-requires-clause-most c =
    omega (arith, c.requires.most, ap list_size c.rows_on.ensures, sizes c.args.self.now.rows c.args.from.now.key)

pub returns-in-Some : goal.returns-in-Some
returns-in-Some c =
    let rows = c.args.self.now.rows in
    let from = c.args.from.now in
    let key = c.in-Some.key.now in
    let passed = c.in-Some.passed in
    let there = subst (λ (es : List Entry). StandsIn es key passed (from.passed + c.args.count)) c.rows_on.ensures c.in-Some.ensures in
    let before = place_on rows from.key key passed (from.passed + c.args.count) there in
    IfOk-weaker c.in_row.result _ _ (λ at is.
    let same = ap₂ (λ k p. list_size (rows_from_to rows [] k) + p) is.0 is.1 ∙ before in
    omega (arith, same)) c.in_row.ensures

pub returns-in-None : goal.returns-in-None
returns-in-None c =
    let rows = c.args.self.now.rows in
    omega (arith, c.end.ensures rows, c.in-None.ensures, ap list_size c.rows_on.ensures, sizes rows c.args.from.now.key)
