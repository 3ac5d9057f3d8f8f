use Rattle.std.proofs.Common.{refl, subst, ◌∙◌, arith}
use Rattle.block_device.specs.Prelude.{Disk}
use Rattle.log_replay.specs.Prelude.{ReadsOn}
use Rattle.log_replay.proofs.HalfLemmas.{reads_none, reads_join}
use Rattle.log_replay.proofs.half_reader.HalfReader.fetch.Goals as goal

pub returns-then-self-units-clause-read : goal.returns-then-self-units-clause-read
returns-then-self-units-clause-read g c =
    reads_none (g.D.Device.disk c.args.dev.now) c.args.self.now c.args.self.now c.requires.reader refl refl refl refl

pub pieces-init : goal.pieces-init
pieces-init g c =
    let shrunk = c.shrink.ensures in (
      refl,
      omega arith,
      reads_none (g.D.Device.disk c.args.dev.now) c.args.self.now c.shrink.new.self shrunk.reader shrunk.left shrunk.places.0 shrunk.places.1 shrunk.places.2,
    )

pub pieces-preserved : goal.pieces-preserved
pieces-preserved g c =
    let was = c.pieces.invariant in
    let read = subst (λ (e : Disk). ReadsOn e c.pieces.self c.read_piece.new.self) was.0 c.in_ok-read_piece.ensures.read.0 in (
      c.read_piece.ensures.same ∙ was.0,
      omega (arith, was.1, c.read_piece.ensures.faults),
      reads_join (g.D.Device.disk c.args.dev.now) c.args.self.now c.pieces.self c.read_piece.new.self was.2 read,
    )
