use Rattle.std.proofs.Common.{◌≡◌, ◌++◌, length}
use Rattle.std.specs.Vec.Iter.{into_iter_items, into_iter_len}
use Rattle.script_text.proofs.pair.written_out.Given as goal

abbrev pub invariant-pairs : goal.invariant-pairs
invariant-pairs l = record {
  whole : l.made ++ into_iter_items l.left ≡ into_iter_items l.initial.left;
  size : length (into_iter_items l.left) ≡ into_iter_len l.left;
}

abbrev pub decreases-pairs : goal.decreases-pairs
decreases-pairs l = into_iter_len l.left
