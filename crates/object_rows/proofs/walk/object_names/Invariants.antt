use Rattle.object_rows.proofs.NamesWalk.{AreFirstNames, rows_left}
use Rattle.object_rows.proofs.walk.object_names.Given as goal

-- the names so far are the first ones, up to the last
abbrev pub invariant-names : goal.invariant-names
invariant-names l = AreFirstNames l.rows.rows l.coll l.names.items l.last

-- the rows behind the last one
abbrev pub decreases-names : goal.decreases-names
decreases-names l = rows_left l.rows.rows l.coll l.last
