use Rattle.log_replay.proofs.StaleLemmas.{AddedSoFar}
use Rattle.log_replay.proofs.stale.add_stale.Given as goal

abbrev pub invariant-loop-k : goal.invariant-loop-k
invariant-loop-k l = AddedSoFar l.at l.k l.bytes l.initial.stale.items l.stale.items
