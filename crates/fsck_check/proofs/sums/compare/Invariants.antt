use Rattle.std.proofs.Common.{take, length}
use Rattle.fsck_check.specs.Sums.{IsUnitIn, unit_sums_from, AddsSums}
use Rattle.fsck_check.proofs.sums.compare.Given as goal

abbrev pub invariant-loop-i : goal.invariant-loop-i
invariant-loop-i l = AddsSums (IsUnitIn l.at (length l.kept) l.bytes) (unit_sums_from l.at (take l.i l.kept)) l.initial.found l.found
