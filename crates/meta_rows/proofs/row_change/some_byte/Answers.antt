use Rattle.std.proofs.Common.{ap, sym, ◌∙◌, cond, None, Some}
use Rattle.meta_rows.proofs.XorLemmas.{zeros_or_not}
use Rattle.meta_rows.proofs.row_change.some_byte.Goals as goal

pub returns-then-is_all_zero : goal.returns-then-is_all_zero
returns-then-is_all_zero c =
    let test = zeros_or_not c.args.value c.as_slice.result.now c.is_all_zero.result c.as_slice.ensures c.is_all_zero.ensures in
    ap (λ b. cond b None (Some c.args.value)) (sym c.if-is_all_zero.true ∙ test)

pub returns-else-is_all_zero : goal.returns-else-is_all_zero
returns-else-is_all_zero c =
    let test = zeros_or_not c.args.value c.as_slice.result.now c.is_all_zero.result c.as_slice.ensures c.is_all_zero.ensures in
    ap (λ b. cond b None (Some c.args.value)) (sym c.if-is_all_zero.false ∙ test)
