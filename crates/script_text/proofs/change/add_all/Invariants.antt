use Rattle.std.proofs.Common.{◌≡◌, ◌++◌, length}
use Rattle.std.specs.Vec.Iter.{into_iter_items, into_iter_len}
use Rattle.script_text.proofs.change.add_all.Given as goal

abbrev pub invariant-ops : goal.invariant-ops
invariant-ops l = record {
  coll : l.made.coll ≡ l.initial.made.coll;
  whole : l.made.ops ++ into_iter_items l.left ≡ l.initial.made.ops ++ into_iter_items l.initial.left;
  size : length (into_iter_items l.left) ≡ into_iter_len l.left;
}

abbrev pub decreases-ops : goal.decreases-ops
decreases-ops l = into_iter_len l.left
