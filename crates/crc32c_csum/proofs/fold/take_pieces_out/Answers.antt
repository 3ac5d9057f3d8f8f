use Rattle.std.proofs.Common.{◌∙◌, arith}
use Rattle.crc32c_csum.specs.Prelude.{of_taken}
use Rattle.crc32c_csum.proofs.Folding.{piece_out}
use Rattle.crc32c_csum.proofs.fold.take_pieces_out.Goals as goal

pub loop-left-preserved : goal.loop-left-preserved
loop-left-preserved c = (
  piece_out 1264 (of_taken 0 c.loop-left.taken) (of_taken 0 c.move_to_front.new.taken) c.loop-left.left.now c.split_at.result.0.now c.split_at.result.1.now
      c.take_all_out.new.taken c.split_at.ensures.front c.split_at.ensures.back (omega (arith, c.loop-left-test.true)) c.take_all_out.ensures c.move_to_front.ensures
      ∙ c.loop-left.invariant.0,
  omega (arith, c.loop-left-test.true, c.split_at.ensures.back_len),
)
