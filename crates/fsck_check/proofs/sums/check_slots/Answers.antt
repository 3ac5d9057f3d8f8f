use Rattle.std.proofs.Common.{◌+◌, [], ◌∷◌, subst, ◌∙◌, arith}
use Rattle.block_device.specs.Prelude.{Disk}
use Rattle.read_facts.specs.Prelude.{IsHeldAt}
use Rattle.row_format.specs.Prelude.{slot}
use Rattle.plan_rows.specs.Prelude.{page_unit}
use Rattle.fsck_check.specs.Sums.{sum_at, AddsSums}
use Rattle.fsck_check.proofs.Adding.{slot_more}
use Rattle.fsck_check.proofs.sums.check_slots.Goals as goal

pub loop-i-preserved : goal.loop-i-preserved
loop-i-preserved g c =
    let w = c.args.width in
    let rows = c.args.rows.now.rows in
    let one = sum_at (page_unit w rows (slot c.args.sbid (c.args.first + c.loop-i.i))) ∷ [] in
    record {
      same = c.in_ok-check_slot.ensures.same ∙ c.loop-i.invariant.same;
      later = omega (arith, c.in_ok-check_slot.ensures.later, c.loop-i.invariant.later);
      sums = slot_more w rows (IsHeldAt (g.D.Device.disk c.args.dev.now)) c.args.sbid c.args.first c.loop-i.i c.args.found.now c.loop-i.found
          c.check_slot.new.found c.loop-i.invariant.sums
          (subst (λ (e : Disk). AddsSums (IsHeldAt e) one c.loop-i.found c.check_slot.new.found) c.loop-i.invariant.same c.in_ok-check_slot.ensures.sums);
    }
