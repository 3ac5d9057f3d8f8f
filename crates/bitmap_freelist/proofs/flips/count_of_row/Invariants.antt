use Rattle.std.proofs.Common.{◌≡◌, ◌/◌, take}
use Rattle.std.specs.List.{AllByRecursion}
use Rattle.bitmap_freelist.proofs.flips.count_of_row.Given as goal

abbrev pub invariant-loop-i : goal.invariant-loop-i
invariant-loop-i l = AllByRecursion (λ u. u / 128 ≡ l.fn.row) (take l.i l.fn.units)
