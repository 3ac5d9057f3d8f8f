use Rattle.unit_allocator.proofs.OneBit.{after_word}
use Rattle.unit_allocator.proofs.bits.next.Goals as goal

pub returns-in-None : goal.returns-in-None
returns-in-None c = after_word c.args.words.now c.args.from _ c.in-None.ensures c.next_in_words.ensures
