use Rattle.std.proofs.Common.{◌*◌}
use Rattle.unit_allocator.specs.Prelude.{HasNoBitBetween}
use Rattle.unit_allocator.proofs.bits.next_in_words.Given as goal

abbrev pub invariant-loop-w : goal.invariant-loop-w
invariant-loop-w l = HasNoBitBetween l.words (64 * l.first) (64 * l.w)
