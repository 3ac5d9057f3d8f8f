use Rattle.std.proofs.Common.{◌≡◌, ◌+◌, ◌*◌, ◌/◌, ◌≤◌, length, ◌∙◌, ap, arith}
use Rattle.std.proofs.lemmas.List.{length_push, with_items_is}
use Rattle.std.specs.Vec.{with_items}
use Rattle.byte_maps.specs.Units.{overlaid}
use Rattle.byte_maps.proofs.Prelude.{length-overlaid}
use Rattle.block_device.specs.Prelude.{MemoryDisk, memory_disk}
use Rattle.block_device.proofs.MemoryLemmas.{sound_kept, kept_submit, submitted_now, contents_push, few_flights}
use Rattle.block_device.specs.declared.event.Event.TheVariants.{Write}
use Rattle.block_device.proofs.memory.MemoryDeviceDevice.submit_write.Goals as goal

pub invariant_of-self-2 : goal.invariant_of-self-2
invariant_of-self-2 c =
    let s = c.self.invariant in
    let m = c.self.inside in
    let made = c.make_room.ensures in
    let bytes = c.args.bytes.items in
    let event = Write c.args.at bytes in
    let log = rw (made.log, c.from_vec.ensures) at c.push_in_room-2.ensures.items in
    let pending = rw made.pending at c.push_in_room.ensures.items in
    let place : c.len-place.result ≡ length m.log.items = omega (arith, ap length made.log) in
    let units : m.units ≡ c.args.self.now.units = ap (λ (d : MemoryDisk). d.units) c.self.view_is in
    let inside : 4096 * c.args.at + length bytes ≤ length m.start.items = omega (arith, c.requires.inside, s.facts.size) in
    let fits : 4096 * c.args.at + length bytes ≤ length m.contents.items = omega (arith, inside, s.same_size) in
    let written : c.lay.new.contents ≡ overlaid c.args.at bytes m.contents.items = rw (c.deref-3.ensures.value, c.deref_mut.ensures.value) at c.lay.ensures in
    let size : length (overlaid c.args.at bytes m.contents.items) ≡ length m.contents.items = length-overlaid c.args.at bytes m.contents.items fits in
    let now : (with_items m.contents c.lay.new.contents).items ≡ overlaid c.args.at bytes m.contents.items = with_items_is m.contents c.lay.new.contents (omega (arith, ap length written, size)) ∙ written in
    record {
      facts = kept_submit (memory_disk m) event _ _ _ (m.writes + 1) m.flushes s.facts (few_flights (memory_disk m) c.args.self.now c.self.view_is c.requires.room)
          (inside, length bytes / 4096, omega (arith, c.requires.whole)) (λ t o is. cc is) place c.lag_of.ensures.low (omega arith) log pending;
      contents = contents_push m.start.items m.contents.items _ m.log.items _ event s.contents log now;
      same_size = ap length now ∙ size ∙ s.same_size;
      room = omega (arith, c.in-Ok.ensures.log_ok, c.push_in_room-2.ensures.room, ap length log ∙ length_push m.log.items event, ap length pending ∙ length_push m.pending.items _);
    }

pub returns-clause-ok : goal.returns-clause-ok
returns-clause-ok c =
    let s = c.self.invariant in
    let m = c.self.inside in
    let made = c.make_room.ensures in
    let event = Write c.args.at c.args.bytes.items in
    let log = rw (made.log, c.from_vec.ensures) at c.push_in_room-2.ensures.items in
    let pending = rw made.pending at c.push_in_room.ensures.items in
    let place : c.len-place.result ≡ length m.log.items = omega (arith, ap length made.log) in
    let size : c.len.result ≡ length c.args.bytes.items = omega arith in
    submitted_now (memory_disk m) c.args.self.now event _ c.len-place.result _ _ (m.writes + 1) m.flushes c.self.view_is s.facts place (λ i. record { ticket = c.len-place.result; first = c.args.at; bytes = size i }) log pending

pub returns-clause-sound : goal.returns-clause-sound
returns-clause-sound c = sound_kept _ (invariant_of-self-2 c).facts
