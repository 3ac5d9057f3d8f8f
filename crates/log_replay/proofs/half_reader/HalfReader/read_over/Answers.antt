use Rattle.std.proofs.Common.{refl, subst, arith}
use Rattle.block_device.specs.Prelude.{IsSound}
use Rattle.log_replay.proofs.HalfLemmas.{reads_over}
use Rattle.log_replay.proofs.half_reader.HalfReader.read_over.Goals as goal

pub returns-clause-read : goal.returns-clause-read
returns-clause-read g c =
    let sound = subst IsSound c.read.ensures.same c.read.ensures.sound in (
      reads_over (g.D.Device.disk c.args.dev.now) c.args.self.now _ c.min-count.result c.read.new.into.items sound c.requires.reader
          c.in_ok-read.ensures.ok (omega arith) c.requires.over refl refl refl refl refl,
      omega arith,
    )
