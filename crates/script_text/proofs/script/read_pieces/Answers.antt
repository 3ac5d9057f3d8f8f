use Rattle.std.proofs.Common.{◌≤◌, [], refl, ◌∙◌, arith}
use Rattle.script_text.proofs.Sources.{reading_more}
use Rattle.script_text.proofs.script.read_pieces.Goals as goal

pub pieces-preserved : goal.pieces-preserved
pieces-preserved g c =
    let left_of = g.S.Source.left in
    let faults = g.S.Source.faults in
    let read = c.in_ok-n.ensures.took in
    let few : c.in_ok-n.n ≤ c.pieces.left = omega (arith, read.few, c.min.ensures) in (
      reading_more (left_of c.args.source.now) (left_of c.pieces.source) (left_of c.next_piece.new.source) c.pieces.reader c.take.new.self c.pieces.left c.min.result
          c.in_ok-n.n [] c.next_piece.new.piece.items
          c.as_slice.result.now c.pieces.invariant.0 refl read few c.as_slice.ensures.value c.in_ok-take.ensures.takes
          c.in_ok-take.ensures.count,
      c.in_ok-n.ensures.kept (λ never. cc) ∙ c.pieces.invariant.1,
    )
