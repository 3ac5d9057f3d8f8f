use Rattle.log_replay.proofs.OtherHalfLemmas.{piece_zero, piece_stale}
use Rattle.log_replay.proofs.other_half.GatheredRuns.add_piece.Goals as goal
use Rattle.log_replay.proofs.other_half.GatheredRuns.add_piece.Goals.{then-not-is_zero_unit+in_ok-add, else-not-is_zero_unit}

pub units-preserved : goal.units-preserved
units-preserved c =
    let at = c.args.at in
    let bytes = c.args.bytes.now in
    let old = c.args.self.now in elim c.if-not-is_zero_unit.branch [
      | then-not-is_zero_unit+in_ok-add w ↦
          rw w.self-is
          (piece_stale at c.units.k bytes old c.units.self w.add.new.self
          (λ is. absurd (let yes = c.is_zero_unit.ensures.1 is in let no = w.if-not-is_zero_unit.true in cc)) w.in_ok-add.ensures c.units.invariant)
      | else-not-is_zero_unit w ↦
          rw w.self-is (piece_zero at c.units.k bytes old c.units.self (c.is_zero_unit.ensures.0 w.if-not-is_zero_unit.false) c.units.invariant)
    ]
