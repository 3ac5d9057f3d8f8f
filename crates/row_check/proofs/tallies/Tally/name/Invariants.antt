use Rattle.std.proofs.Common.{◌≡◌}
use Rattle.row_check.specs.Tallies.{tally_raised}
use Rattle.row_check.proofs.tallies.Tally.name.Given as goal

abbrev pub invariant-loop-i : goal.invariant-loop-i
invariant-loop-i l = l.self ≡ tally_raised l.initial.self l.first l.i
