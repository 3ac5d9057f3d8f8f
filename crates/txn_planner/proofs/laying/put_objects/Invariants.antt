use Rattle.std.proofs.Common.{◌≡◌, length}
use Rattle.std.specs.FinMap as finite
use Rattle.page_edits.specs.Writes.{held_in}
use Rattle.txn_planner.specs.Laying.{AllTakeBelow, AllNamed, with_objects}
use Rattle.txn_planner.proofs.laying.put_objects.Given as goal

abbrev pub invariant-names : goal.invariant-names
invariant-names l = record {
  named : AllNamed l.objects;
  units : AllTakeBelow (length l.units) l.objects;
  contents : AllTakeBelow (length l.contents) l.objects;
  changes : with_objects l.width l.rows.rows l.coll l.units (held_in l.contents) (finite.keys l.objects) l.objects l.changes
      ≡ with_objects l.width l.rows.rows l.coll l.units (held_in l.contents) (finite.keys l.fn.objects) l.fn.objects l.fn.changes;
}

abbrev pub decreases-names : goal.decreases-names
decreases-names l = finite.len l.objects
