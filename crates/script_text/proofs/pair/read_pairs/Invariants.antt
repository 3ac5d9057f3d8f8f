use Rattle.std.proofs.Common.{length}
use Rattle.script_text.proofs.Lists.{PairsOn}
use Rattle.script_text.proofs.pair.read_pairs.Given as goal

abbrev pub invariant-pairs : goal.invariant-pairs
invariant-pairs l = PairsOn l.text l.pairs l.rest

abbrev pub decreases-pairs : goal.decreases-pairs
decreases-pairs l = length l.rest
