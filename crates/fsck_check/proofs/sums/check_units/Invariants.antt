use Rattle.std.proofs.Common.{◌≡◌, ◌+◌, ◌≤◌, List, ℕ, ◌++◌, length}
use Rattle.read_facts.specs.Prelude.{IsHeldAt}
use Rattle.fsck_check.specs.Sums.{unit_sums_from, AddsSums}
use Rattle.fsck_check.proofs.sums.check_units.Given as goal

abbrev pub invariant-pieces : goal.invariant-pieces
invariant-pieces g l = record {
  same : g.D.Device.disk l.dev ≡ g.D.Device.disk l.initial.dev;
  later : g.D.Device.faults l.initial.dev ≤ g.D.Device.faults l.dev;
  done : List ℕ;
  split : l.fn.csums ≡ done ++ l.left;
  at : l.at ≡ l.fn.unit + length done;
  sums : AddsSums (IsHeldAt (g.D.Device.disk l.initial.dev)) (unit_sums_from l.fn.unit done) l.initial.found l.found;
}

abbrev pub decreases-pieces : goal.decreases-pieces
decreases-pieces g l = length l.left
