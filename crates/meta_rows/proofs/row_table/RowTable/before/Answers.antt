use Rattle.std.proofs.Common.{◌≡◌, ◌+◌, ◌-◌, [], List, ◌∙◌, ap₂, sym, subst, arith}
use Rattle.std.proofs.lemmas.Result.{IfOk-weaker}
use Rattle.meta_rows.specs.Prelude.{AllFit, Entry, StandsIn, list_size, rows_from_to, sets_of}
use Rattle.meta_rows.proofs.CursorLemmas.{fit_below, place_below}
use Rattle.meta_rows.proofs.row_table.RowTable.before.Goals as goal

pub row_before-passed-requires-clause-fit : goal.row_before-passed-requires-clause-fit
row_before-passed-requires-clause-fit c =
    subst (λ (es : List Entry). AllFit (sets_of es)) (sym c.rows_below.ensures) (fit_below c.args.self.now.rows c.args.from.now.key c.requires.fit)

pub returns : goal.returns
returns c =
    let rows = c.args.self.now.rows in
    let from = c.args.from.now in
    let below = rows_from_to rows [] from.key in
    let place = list_size below - (c.args.count - from.passed) in
    let key = c.row_before-passed.result.0.now in
    let passed = c.row_before-passed.result.1 in
    let there : StandsIn below key passed place =
    subst (λ (es : List Entry). StandsIn es key passed (list_size es - (c.args.count - from.passed))) c.rows_below.ensures c.row_before-passed.ensures in
    let before = place_below rows from.key key passed place there in
    IfOk-weaker c.in_row.result _ _ (λ at is.
    let same : list_size (rows_from_to rows [] at.key) + at.passed ≡ place = ap₂ (λ k p. list_size (rows_from_to rows [] k) + p) is.0 is.1 ∙ before in
    omega (arith, same, c.requires.most, c.if-count-from.false)) c.in_row.ensures
