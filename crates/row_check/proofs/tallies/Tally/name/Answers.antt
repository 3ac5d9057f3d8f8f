use Rattle.std.proofs.Common.{length, ap, arith}
use Rattle.row_check.specs.Tallies.{Tally}
use Rattle.row_check.proofs.Naming.{length-raised}
use Rattle.row_check.proofs.tallies.Tally.name.Goals as goal

pub name_one-requires : goal.name_one-requires
name_one-requires c = omega (
  arith,
  ap (λ (t : Tally). length t.named) c.loop-i.invariant,
  length-raised c.args.self.now.named c.args.first c.loop-i.i,
  c.requires,
  c.loop-i-test.true,
)
