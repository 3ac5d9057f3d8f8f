use Rattle.std.proofs.Common.{◌≡◌, ◌≤◌}
use Rattle.read_facts.specs.Prelude.{IsHeldAt}
use Rattle.fsck_check.specs.Sums.{slot_sums, AddsSums}
use Rattle.fsck_check.proofs.sums.check_slots.Given as goal

abbrev pub invariant-loop-i : goal.invariant-loop-i
invariant-loop-i g l = record {
  same : g.D.Device.disk l.dev ≡ g.D.Device.disk l.initial.dev;
  later : g.D.Device.faults l.initial.dev ≤ g.D.Device.faults l.dev;
  sums : AddsSums (IsHeldAt (g.D.Device.disk l.initial.dev)) (slot_sums l.fn.width l.fn.rows.rows l.fn.sbid l.fn.first l.i) l.initial.found l.found;
}
