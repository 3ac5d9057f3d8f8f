use Rattle.std.proofs.Common.{refl, arith, map, subst}
use Rattle.block_device.specs.Prelude.{Submitted}
use Rattle.block_device.specs.declared.event.Event.TheVariants.{Flush}
use Rattle.device_file.specs.FileDisk.{FileDisk, silent}
use Rattle.device_file.specs.Sync.{flight_seen}
use Rattle.device_file.proofs.Tickets.{submitted, ascend_more, has_room}
use Rattle.device_file.proofs.sync.SyncFileDevice.submit_flush.Goals as goal

pub invariant_of-self : goal.invariant_of-self
invariant_of-self c =
    let s = c.self.invariant in
    let m = c.self.inside in
    let is = c.push_back_reserved.ensures.items in
    let room = has_room m.units m.fault_count m.pending.items _ c.self.view_is c.requires in
    record {
      units = s.units;
      few = omega (arith, room, c.push_back_reserved.ensures.len);
      room = omega (arith, s.room, c.push_back_reserved.ensures.capacity);
      ascend = ascend_more m.events m.pending.items _ _ is refl s.ascend;
    }

pub returns-clause-ok : goal.returns-clause-ok
returns-clause-ok c =
    let m = c.self.inside in
    let P : FileDisk → Type 0 = λ v. Submitted v.disk m.events Flush (silent m.units (map flight_seen c.push_back_reserved.new.self.items)) in
    subst P c.self.view_is (submitted m.units m.events m.pending.items _ _ Flush c.self.invariant.ascend c.push_back_reserved.ensures.items refl)
