use Rattle.run_texts.proofs.Adding.{piece_added}
use Rattle.run_texts.proofs.printer.Printer.push.Goals as goal

pub pieces-preserved : goal.pieces-preserved
pieces-preserved g c = piece_added c.split_at.result.0.now c.pieces.invariant c.split_at.ensures.by_index.0 c.make_room-room.ensures.adds c.keep.ensures
