use Rattle.std.proofs.Common.{subst, ◌∙◌, arith}
use Rattle.block_device.specs.Prelude.{Disk}
use Rattle.read_facts.specs.Prelude.{IsHeldAt}
use Rattle.fsck_check.specs.Sums.{extent_places, AddsSums}
use Rattle.fsck_check.proofs.Adding.{extent_more}
use Rattle.fsck_check.proofs.sums.check_shard.Goals as goal

pub loop-extent-preserved : goal.loop-extent-preserved
loop-extent-preserved g c = record {
  same = c.in_ok-check_extent.ensures.same ∙ c.loop-extent.invariant.same;
  later = omega (arith, c.in_ok-check_extent.ensures.later, c.loop-extent.invariant.later);
  sums = extent_more c.args.width c.args.rows.now.rows (IsHeldAt (g.D.Device.disk c.args.dev.now)) c.args.extents.now c.loop-extent.extent-index c.extent-item.result c.args.found.now
      c.loop-extent.found c.check_extent.new.found c.loop-extent-test.true c.extent-item.is c.loop-extent.invariant.sums
      (subst (λ (e : Disk). AddsSums (IsHeldAt e) (extent_places c.args.width c.args.rows.now.rows c.extent-item.result) c.loop-extent.found c.check_extent.new.found)
      c.loop-extent.invariant.same c.in_ok-check_extent.ensures.sums);
}
