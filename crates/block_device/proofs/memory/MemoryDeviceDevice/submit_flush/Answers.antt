use Rattle.std.proofs.Common.{◌≡◌, ◌+◌, length, refl, ◌∙◌, ap, arith}
use Rattle.std.proofs.lemmas.List.{length_push}
use Rattle.block_device.specs.Prelude.{memory_disk}
use Rattle.block_device.proofs.MemoryLemmas.{sound_kept, kept_submit, submitted_now, contents_push, few_flights}
use Rattle.block_device.specs.declared.event.Event.TheVariants.{Flush}
use Rattle.block_device.proofs.memory.MemoryDeviceDevice.submit_flush.Goals as goal

pub invariant_of-self-2 : goal.invariant_of-self-2
invariant_of-self-2 c =
    let s = c.self.invariant in
    let m = c.self.inside in
    let log = rw c.in_ok-make_room.ensures.log at c.push_in_room-2.ensures.items in
    let pending = rw c.in_ok-make_room.ensures.pending at c.push_in_room.ensures.items in
    let place : c.len-place.result ≡ length m.log.items = omega (arith, ap length c.in_ok-make_room.ensures.log) in
    record {
      facts = kept_submit (memory_disk m) Flush _ _ _ m.writes (m.flushes + 1) s.facts (few_flights (memory_disk m) c.args.self.now c.self.view_is c.requires)
          tt (λ t o is. cc is) place c.lag_of.ensures.low (omega arith) log pending;
      contents = contents_push m.start.items m.contents.items m.contents.items m.log.items _ Flush s.contents log refl;
      same_size = s.same_size;
      room = omega (arith, c.in_ok-make_room.ensures.log_ok, c.push_in_room-2.ensures.room, ap length log ∙ length_push m.log.items Flush, ap length pending ∙ length_push m.pending.items _);
    }

pub returns-clause-ok : goal.returns-clause-ok
returns-clause-ok c =
    let s = c.self.invariant in
    let m = c.self.inside in
    let log = rw c.in_ok-make_room.ensures.log at c.push_in_room-2.ensures.items in
    let pending = rw c.in_ok-make_room.ensures.pending at c.push_in_room.ensures.items in
    let place : c.len-place.result ≡ length m.log.items = omega (arith, ap length c.in_ok-make_room.ensures.log) in
    submitted_now (memory_disk m) c.args.self.now Flush _ c.len-place.result _ _ m.writes (m.flushes + 1) c.self.view_is s.facts place refl log pending

pub returns-clause-sound : goal.returns-clause-sound
returns-clause-sound c = sound_kept _ (invariant_of-self-2 c).facts
