use Rattle.unit_allocator.proofs.Summary.{after_set}
use Rattle.unit_allocator.proofs.indexed_bits.IndexedBits.set.Goals as goal

pub invariant_of-self : goal.invariant_of-self
invariant_of-self c =
    after_set c.self.invariant c.args.i c.set.new.words.items c.set-2.new.words.items c.set.ensures.here c.set.ensures.others c.set.ensures.len
    c.set-2.ensures.here c.set-2.ensures.elsewhere c.set-2.ensures.len
