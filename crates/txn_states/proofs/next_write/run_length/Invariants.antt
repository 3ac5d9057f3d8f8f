use Rattle.txn_states.proofs.NextWrites.{IsRunSoFar}
use Rattle.txn_states.proofs.next_write.run_length.Given as goal

abbrev pub invariant-loop-i : goal.invariant-loop-i
invariant-loop-i l = IsRunSoFar l.fresh l.i
