use Rattle.std.proofs.Common.{◌≡◌, ℕ, ◌+◌, ◌*◌, ◌-◌, ◌≤◌, List, length, take, drop, ◌∙◌, ap, arith}
use Rattle.byte_maps.specs.Units.{units_from}
use Rattle.block_device.specs.Prelude.{last, MemoryDisk}
use Rattle.block_device.proofs.MemoryLemmas.{read_now}
use Rattle.block_device.proofs.memory.MemoryDeviceDevice.read.Goals as goal

pub returns-clause-bytes : goal.returns-clause-bytes
unfolding units_from
returns-clause-bytes c =
    let at = c.args.at in
    let count = c.args.count in
    let read = rw (c.clear.ensures.items, c.deref-2.ensures.value) at c.in-Ok.ensures.items in
    let span : 4096 * at + 4096 * count - 4096 * at ≡ 4096 * count = omega arith in
    let now : c.self.inside.contents.items ≡ last c.args.self.now.start c.args.self.now.log = c.self.invariant.contents ∙ ap (λ (d : MemoryDisk). last d.start d.log) c.self.view_is in
    read ∙ ap (λ (n : ℕ). take n (drop (4096 * at) c.self.inside.contents.items)) span ∙ ap (λ (l : List ℕ). take (4096 * count) (drop (4096 * at) l)) now

pub returns-clause-ok : goal.returns-clause-ok
returns-clause-ok c =
    let s = c.self.invariant in
    let now : c.self.inside.contents.items ≡ last c.args.self.now.start c.args.self.now.log = s.contents ∙ ap (λ (d : MemoryDisk). last d.start d.log) c.self.view_is in
    let units = ap (λ (d : MemoryDisk). d.units) c.self.view_is in
    let inside : 4096 * (c.args.at + c.args.count) ≤ length (last c.args.self.now.start c.args.self.now.log) = omega (arith, c.requires.inside, units, s.facts.size, s.same_size, ap length now) in
    read_now c.args.self.now c.args.at c.args.count c.extend_from_slice.new.self.items (returns-clause-bytes c) inside
