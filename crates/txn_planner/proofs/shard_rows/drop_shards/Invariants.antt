use Rattle.std.proofs.Common.{◌≡◌, drop}
use Rattle.txn_planner.specs.Laying.{with_first_page, without_shards}
use Rattle.txn_planner.proofs.shard_rows.drop_shards.Given as goal

abbrev pub invariant-loop-page : goal.invariant-loop-page
invariant-loop-page l = without_shards l.coll l.object (with_first_page l.first l.behind) (drop l.page-index l.pages) l.changes
    ≡ without_shards l.coll l.object (with_first_page l.first l.behind) l.pages l.fn.changes
