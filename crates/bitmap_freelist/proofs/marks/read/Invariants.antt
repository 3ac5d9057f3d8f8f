use Rattle.std.proofs.Common.{◌≡◌, ℕ, drop}
use Rattle.bitmap_freelist.proofs.Reading.{HasSoFar, table}
use Rattle.bitmap_freelist.proofs.marks.read.Given as goal

abbrev pub invariant-loop-key : goal.invariant-loop-key
invariant-loop-key l = record {
  can_next : (goal.iterator-loop-key).can_next l.key-iterator;
  finite : (goal.iterator-loop-key).is_finite l.key-iterator;
  at : ℕ;
  left : l.key-iterator ≡ drop at (table l.fn.rows.rows);
  has : HasSoFar (table l.fn.rows.rows) (drop at (table l.fn.rows.rows)) l.units;
}
