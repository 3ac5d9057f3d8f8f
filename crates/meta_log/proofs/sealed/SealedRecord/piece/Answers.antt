use Rattle.std.proofs.Common.{◌≡◌, ◌-◌, ◌*◌, ◌≤◌, List, ap, ap₂, ◌∙◌, arith}
use Rattle.byte_maps.specs.Units.{units_from}
use Rattle.meta_rows.specs.declared.row_op.RowOp.{RowOp}
use Rattle.meta_log.specs.Prelude.{piece_first, piece_units, record_units, sealed_units}
use Rattle.meta_log.proofs.PieceLemmas.{lies}
use Rattle.meta_log.proofs.SealLemmas.{only_piece}
use Rattle.meta_log.proofs.RowsLemmas.{filled}
use Rattle.meta_log.proofs.sealed.SealedRecord.piece.Goals as goal

pub returns-then-units-le-PIECE_UNITS-clause-bytes : goal.returns-then-units-le-PIECE_UNITS-clause-bytes
returns-then-units-le-PIECE_UNITS-clause-bytes c =
    let made = c.args.self.now in
    let few : sealed_units made ≤ 64 = omega (arith, c.units-units.ensures.units, c.if-units-le-PIECE_UNITS.true) in
    c.in_ok-spelled.ensures ∙ ap (λ (ops : List RowOp). record_units c.self.inside.number ops) c.deref.ensures.value
    ∙ ap (λ m. record_units m.number m.ops) c.self.view_is ∙ only_piece made c.args.k few c.requires

pub returns-clause-bytes : goal.returns-clause-bytes
returns-clause-bytes c =
    let made = c.args.self.now in
    let first : 64 * (c.pieces.result - 1 - c.args.k) ≡ piece_first (sealed_units made) c.args.k = omega (arith, c.pieces.ensures) in
    let count : c.min-count.result ≡ piece_units (sealed_units made) c.args.k = omega (
      arith,
      c.pieces.ensures,
      c.units-units.ensures.units,
      c.min-count.ensures,
    ) in
    let l = lies (sealed_units made) c.args.k c.requires in
    filled made.number made.ops (64 * (c.pieces.result - 1 - c.args.k)) c.min-count.result (c.min-count.result * 4096) c.in_ok-bytes.bytes.len
    c.in_ok-bytes.bytes.items c.resize.new.self.items (omega (arith, count, l.some)) (omega (arith, first, count, l.within)) c.in_ok-bytes.ensures (omega arith)
    c.in_ok-bytes.bytes.ok.0 c.in_ok-resize.ensures.items
    ∙ ap₂ (λ a b. units_from a b (record_units made.number made.ops)) first count
