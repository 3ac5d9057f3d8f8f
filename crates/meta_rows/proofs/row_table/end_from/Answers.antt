use Rattle.std.proofs.Common.{◌≡◌, ◌+◌, get_or, sym, subst}
use Rattle.std.specs.Option.{option_copied}
use Rattle.meta_rows.specs.Prelude.{EndsAt, joined, rows_before}
use Rattle.meta_rows.proofs.TableLemmas.{ends_behind}
use Rattle.meta_rows.proofs.row_table.end_from.Goals as goal

pub returns-then-ends_behind-clause-ends : goal.returns-then-ends_behind-clause-ends
returns-then-ends_behind-clause-ends c =
    let chunks = c.args.chunks.now in
    let from = c.args.from in
    let here = subst (λ rows. rows ≡ get_or chunks from.0 rows) (sym c.rows.ensures) c.index-chunks-from.is in
    subst (λ end. EndsAt (option_copied end) (joined chunks) (rows_before chunks (from.0, from.1 + 1))) (sym c.in-Some.is)
    (ends_behind c.in-Some.key.now chunks from.0 from.1 c.rows.result.now c.requires.from.0 here (c.ends_behind.ensures c.if-ends_behind.true) c.requires.order)
