use Rattle.std.proofs.Common.{◌+◌, subst, ◌∙◌, arith}
use Rattle.block_device.specs.Prelude.{IsSound, HasRead}
use Rattle.log_replay.specs.OtherHalf.{AddsPiece}
use Rattle.log_replay.proofs.OtherHalfLemmas.{pieces_more}
use Rattle.log_replay.proofs.other_half.gather.Goals as goal

pub pieces-preserved : goal.pieces-preserved
pieces-preserved g c =
    let was = c.pieces.invariant in
    let at = c.pieces.at in
    let count = c.min-units.result in
    let bytes = c.read.new.into.items in
    let read = subst (λ d. HasRead d (c.args.first + at) count bytes) was.0 c.in_ok-read.ensures.ok in
    let same = c.read.ensures.same ∙ was.0 in
    let sound = subst IsSound same c.read.ensures.sound in
    let adds : AddsPiece at count bytes c.pieces.runs c.add_piece.new.self = rw c.deref.ensures.value at c.in-Ok.ensures in (
      same,
      omega (arith, was.1, c.read.ensures.later),
      omega (arith, c.min-units.ensures, c.pieces-test.true),
      adds.gathered,
      pieces_more (g.D.Device.disk c.args.dev.now) c.args.first at count bytes c.pieces.runs c.add_piece.new.self sound read adds was.4,
    )
