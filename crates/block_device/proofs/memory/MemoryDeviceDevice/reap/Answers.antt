use Rattle.std.proofs.Common.{◌<◌, length, refl, ◌∙◌, ap, arith}
use Rattle.std.proofs.lemmas.Bool.Decides.{nat_tests}
use Rattle.std.proofs.lemmas.List.{length_push, length-map}
use Rattle.block_device.specs.Prelude.{lowered, memory_disk}
use Rattle.block_device.proofs.MemoryLemmas.{sound_kept, kept_none, waited_now, kept_done, reaped_now, length-taken, contents_push}
use Rattle.block_device.specs.declared.event.Event.TheVariants.{Done}
use Rattle.block_device.proofs.memory.MemoryDeviceDevice.reap.Goals as goal

pub invariant_of-self : goal.invariant_of-self
invariant_of-self c =
    let s = c.self.invariant in
    let m = c.self.inside in
    let some : 0 < length m.pending.items = grind (arith, nat_tests) in
    let was = c.in_default.ensures in
    record {
      facts = kept_none (memory_disk m) c.take_ready.new.pending.items s.facts was some;
      contents = s.contents;
      same_size = s.same_size;
      room = omega (arith, s.room, ap length was.rest, length-map m.pending.items lowered);
    }

pub returns-in_default-clause-none : goal.returns-in_default-clause-none
returns-in_default-clause-none c =
    let m = c.self.inside in
    let some : 0 < length m.pending.items = grind (arith, nat_tests) in
    waited_now (memory_disk m) c.args.self.now c.take_ready.new.pending.items c.self.view_is c.self.invariant.facts c.in_default.ensures some

pub invariant_of-self-2 : goal.invariant_of-self-2
invariant_of-self-2 c =
    let s = c.self.invariant in
    let m = c.self.inside in
    let p = c.in-Some.done in
    let event = Done p.ticket p.ok in
    let was = c.in-Some.ensures in
    record {
      facts = kept_done (memory_disk m) p _ c.take_ready.new.pending.items _ s.facts was c.push_in_room.ensures.items;
      contents = contents_push m.start.items m.contents.items m.contents.items m.log.items _ event s.contents c.push_in_room.ensures.items refl;
      same_size = s.same_size;
      room = omega (arith, s.room, c.push_in_room.ensures.room, ap length c.push_in_room.ensures.items ∙ length_push m.log.items event, length-taken m.pending.items c.take_ready.new.pending.items p (length m.log.items) s.facts.in_flight was);
    }

pub returns-clause-done : goal.returns-clause-done
returns-clause-done c =
    let m = c.self.inside in
    reaped_now (memory_disk m) c.args.self.now c.in-Some.done _ c.take_ready.new.pending.items m.fault_count c.self.view_is c.self.invariant.facts c.in-Some.ensures c.push_in_room.ensures.items

pub returns-clause-sound : goal.returns-clause-sound
returns-clause-sound c = sound_kept _ (invariant_of-self-2 c).facts

pub returns-in_default-clause-sound : goal.returns-in_default-clause-sound
returns-in_default-clause-sound c = sound_kept _ (invariant_of-self c).facts
