use Rattle.std.proofs.Common.{◌+◌, ◌*◌, ◌/◌, ◌∙◌, subst}
use Rattle.unit_allocator.specs.Prelude.{HasNoBitBetween}
use Rattle.unit_allocator.proofs.OneBit.{after_word}
use Rattle.unit_allocator.proofs.indexed_bits.IndexedBits.next.Goals as goal

pub returns-in-None : goal.returns-in-None
returns-in-None c =
    after_word c.args.self.now c.args.from _
    (subst (λ ws. HasNoBitBetween ws c.args.from (64 * (c.args.from / 64 + 1))) (c.deref.ensures.value ∙ c.self.view_is) c.in-None.ensures)
    c.next_from_word.ensures
