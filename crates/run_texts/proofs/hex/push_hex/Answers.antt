use Rattle.run_texts.specs.Prelude.{hex_text}
use Rattle.run_texts.proofs.HexLemmas.{hex_append}
use Rattle.run_texts.proofs.Adding.{more_added}
use Rattle.run_texts.proofs.hex.push_hex.Goals as goal

pub pieces-preserved : goal.pieces-preserved
pieces-preserved g c = more_added hex_text hex_append c.split_at.result.0.now c.pieces.invariant c.split_at.ensures.by_index.0 c.push_piece.ensures
