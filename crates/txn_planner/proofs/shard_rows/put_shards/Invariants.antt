use Rattle.std.proofs.Common.{length}
use Rattle.txn_planner.specs.Laying.{AreOfRows}
use Rattle.txn_planner.proofs.Cuts.{AreLeft}
use Rattle.txn_planner.proofs.shard_rows.put_shards.Given as goal

abbrev pub invariant-shards : goal.invariant-shards
invariant-shards l = record {
  left : AreLeft l.width l.rows.rows l.coll l.object l.pages l.left l.behind l.fn.changes l.changes;
  beside : AreOfRows l.rows.rows l.beside;
}

abbrev pub decreases-shards : goal.decreases-shards
decreases-shards l = length l.left
