use Rattle.std.proofs.Common.{drop}
use Rattle.kv_worker.proofs.BatchLemmas.{IsUsedBut}
use Rattle.kv_worker.proofs.batch.use_up.Given as goal

abbrev pub invariant-loop-one : goal.invariant-loop-one
invariant-loop-one l = IsUsedBut l.fn.queued (drop l.one-index l.fn.queued) l.fn.meta l.meta
