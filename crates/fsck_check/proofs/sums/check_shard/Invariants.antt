use Rattle.std.proofs.Common.{◌≡◌, ◌≤◌, take}
use Rattle.read_facts.specs.Prelude.{IsHeldAt}
use Rattle.fsck_check.specs.Sums.{shard_places, AddsSums}
use Rattle.fsck_check.proofs.sums.check_shard.Given as goal

abbrev pub invariant-loop-extent : goal.invariant-loop-extent
invariant-loop-extent g l = record {
  same : g.D.Device.disk l.dev ≡ g.D.Device.disk l.initial.dev;
  later : g.D.Device.faults l.initial.dev ≤ g.D.Device.faults l.dev;
  sums : AddsSums (IsHeldAt (g.D.Device.disk l.initial.dev)) (shard_places l.fn.width l.fn.rows.rows (take l.extent-index l.extents)) l.initial.found l.found;
}
