use Rattle.std.proofs.Common.{◌≡◌, ◌+◌, ◌/◌, ◌∙◌, true, false, refl, ap, sym, arith}
use Rattle.meta_rows.proofs.SetLemmas.{row_sets_size}
use Rattle.meta_store.proofs.CheckLemmas.{no_units, units_by_size}
use Rattle.meta_store.proofs.check.units_of_rows.Goals as goal

pub returns-then-is_empty : goal.returns-then-is_empty
returns-then-is_empty c number = sym (no_units number c.args.rows.now.rows (c.if-is_empty.ensures.0 refl))

pub size-requires : goal.size-requires
size-requires c = omega (arith, c.requires, row_sets_size c.args.rows.now.rows)

pub units_of_body-requires : goal.units_of_body-requires
units_of_body-requires c = omega (arith, c.requires, c.size.ensures, row_sets_size c.args.rows.now.rows)

pub overflow_cast-result : goal.overflow_cast-result
overflow_cast-result c = omega (arith, c.requires, c.units_of_body.ensures, c.size.ensures, row_sets_size c.args.rows.now.rows)

pub returns : goal.returns
returns c number =
    c.units_of_body.ensures ∙ ap (λ n. (24 + n + 4095) / 4096) c.size.ensures
    ∙ sym (units_by_size number c.args.rows.now.rows (λ none. let f : false ≡ true = c.if-is_empty.ensures.1 none in cc))
