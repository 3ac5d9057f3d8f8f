use Rattle.std.proofs.Common.{◌≡◌, ◌-◌, length, get_or, sym, subst}
use Rattle.std.specs.Option.{option_copied}
use Rattle.meta_rows.specs.Prelude.{EndsAt, joined, rows_before}
use Rattle.meta_rows.proofs.TableLemmas.{ends_last}
use Rattle.meta_rows.proofs.row_table.end_of.Goals as goal

pub returns-in-None-clause-ends : goal.returns-in-None-clause-ends
returns-in-None-clause-ends c =
    let chunks = c.args.chunks.now in
    let here = subst (λ rows. rows ≡ get_or chunks (length chunks - 1) rows) (sym c.rows.ensures) c.index-chunks-last.is in
    subst (λ end. EndsAt (option_copied end) (joined chunks) (rows_before chunks (length chunks - 1, length c.rows.result.now))) (sym c.in-None.is)
    (ends_last chunks c.rows.result.now c.requires.some here)
