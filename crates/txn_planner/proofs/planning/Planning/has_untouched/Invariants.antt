use Rattle.object_rows.proofs.NamesWalk.{rows_left}
use Rattle.txn_planner.proofs.ObjectsThere.{AreLooked}
use Rattle.txn_planner.proofs.planning.Planning.has_untouched.Given as goal

-- the objects up to the last one were looked at
abbrev pub invariant-names : goal.invariant-names
invariant-names l = AreLooked l.rows.rows l.coll l.self.objects l.last

-- the rows behind the last one
abbrev pub decreases-names : goal.decreases-names
decreases-names l = rows_left l.rows.rows l.coll l.last
