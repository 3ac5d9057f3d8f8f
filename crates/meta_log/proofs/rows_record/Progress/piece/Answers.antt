use Rattle.std.proofs.Common.{◌≡◌, ◌-◌, ◌∙◌, min, ap, ap₂}
use Rattle.byte_maps.specs.Units.{units_from}
use Rattle.meta_rows.specs.Prelude.{row_sets}
use Rattle.meta_log.specs.Prelude.{record_units, unit_count, piece_first, piece_units}
use Rattle.meta_log.proofs.rows_record.Progress.piece.Goals as goal

pub returns-clause-bytes : goal.returns-clause-bytes
returns-clause-bytes c =
    let r = c.args.self.now in
    let ops = row_sets c.args.rows.now.rows in
    let units = c.requires.record.units in
    let first : c.first-first.result ≡ piece_first (unit_count r.number ops) r.given = c.first-first.ensures ∙ ap (λ u. piece_first u r.given) units in
    let count : c.min-count.result ≡ piece_units (unit_count r.number ops) r.given =
    c.min-count.ensures ∙ ap (λ f. min 64 (r.units - f)) c.first-first.ensures ∙ ap (λ u. piece_units u r.given) units in
    c.in_ok-bytes.ensures
    ∙ ap (λ n. units_from c.first-first.result c.min-count.result (record_units n ops)) c.in_ok-then.ensures.on.number
    ∙ ap₂ (λ a b. units_from a b (record_units r.number ops)) first count
