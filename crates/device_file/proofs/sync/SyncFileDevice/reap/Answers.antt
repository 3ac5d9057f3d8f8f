use Rattle.std.proofs.Common.{◌≤◌, All, arith, ap, length, map, subst}
use Rattle.block_device.specs.Prelude.{Reaped}
use Rattle.device_file.specs.FileDisk.{FileDisk, silent}
use Rattle.device_file.specs.Sync.{flight_seen}
use Rattle.device_file.proofs.Tickets.{reaped, ascend_rest, ascend_later, first_is_least}
use Rattle.device_file.proofs.sync.SyncFileDevice.reap.Goals as goal

pub invariant_of-self-2 : goal.invariant_of-self-2
invariant_of-self-2 c =
    let s = c.self.invariant in
    let m = c.self.inside in
    let is = c.in_ok-done.ensures.some in
    record {
      units = s.units;
      few = omega (arith, s.few, ap length is);
      room = omega (arith, s.room, c.take_first.ensures.capacity);
      ascend = ascend_later m.events _ _ (omega arith) (ascend_rest m.events m.pending.items _ c.in_ok-done.done is s.ascend);
    }

pub returns-clause-done : goal.returns-clause-done
returns-clause-done c =
    let m = c.self.inside in
    let p = c.in_ok-done.done in
    let P : FileDisk → Type 0 = λ v. Reaped v.disk p.ticket p.ok (silent m.units (map flight_seen c.take_first.new.pending.items)) in
    subst P c.self.view_is (reaped m.units m.events m.pending.items _ p p.ok c.self.invariant.ascend c.in_ok-done.ensures.some)

pub returns-clause-in_order : goal.returns-clause-in_order
returns-clause-in_order c =
    let m = c.self.inside in
    let p = c.in_ok-done.done in
    let P : FileDisk → Type 0 = λ v. All (λ f. p.ticket ≤ f.ticket) v.disk.flights in
    subst P c.self.view_is (first_is_least m.units m.events m.pending.items _ p c.in_ok-done.ensures.some c.self.invariant.ascend)
