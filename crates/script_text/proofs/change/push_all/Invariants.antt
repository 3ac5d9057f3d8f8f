use Rattle.std.proofs.Common.{◌≡◌, ◌++◌, length}
use Rattle.std.specs.Vec.Iter.{into_iter_items, into_iter_len}
use Rattle.script_text.proofs.change.push_all.Given as goal

abbrev pub invariant-next : goal.invariant-next
invariant-next l = record {
  whole : l.ops ++ into_iter_items l.left ≡ l.initial.ops ++ into_iter_items l.initial.left;
  size : length (into_iter_items l.left) ≡ into_iter_len l.left;
}

abbrev pub decreases-next : goal.decreases-next
decreases-next l = into_iter_len l.left
