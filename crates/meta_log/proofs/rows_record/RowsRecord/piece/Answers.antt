use Rattle.std.proofs.Common.{◌∙◌, ap}
use Rattle.meta_rows.specs.Prelude.{Rows, row_sets}
use Rattle.meta_log.specs.Prelude.{TableRecord, piece_bytes}
use Rattle.meta_log.proofs.rows_record.RowsRecord.piece.Goals as goal

pub returns-clause-bytes : goal.returns-clause-bytes
returns-clause-bytes c =
    let kept = c.self.inside.progress in
    c.in_ok-first.ensures.bytes
    ∙ ap (λ (rows : Rows). piece_bytes (record { number = kept.number; ops = row_sets rows }) kept.given) c.requires.same
    ∙ ap (λ (r : TableRecord). piece_bytes (record { number = r.number; ops = row_sets c.args.self.now.rows }) r.given) c.self.view_is
