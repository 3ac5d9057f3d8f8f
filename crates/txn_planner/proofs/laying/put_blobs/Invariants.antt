use Rattle.std.proofs.Common.{◌≡◌, drop}
use Rattle.txn_planner.specs.Laying.{with_blobs}
use Rattle.txn_planner.proofs.laying.put_blobs.Given as goal

abbrev pub invariant-loop-entry : goal.invariant-loop-entry
invariant-loop-entry l = with_blobs l.width (drop l.entry-index l.entry-items) l.changes ≡ with_blobs l.width l.entry-items l.initial.changes
