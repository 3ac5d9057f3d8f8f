use Rattle.std.proofs.Common.{◌*◌, ◌/◌, ◌%◌, ◌-◌, ◌^◌, set, ap}
use Rattle.unit_allocator.proofs.OneBit.{low_bits_are}
use Rattle.unit_allocator.proofs.bits.low_bits.Goals as goal

pub returns-clause-bits : goal.returns-clause-bits
returns-clause-bits c =
    low_bits_are c.args.count _ (ap (λ ws. set ws (c.args.count / 64) (1 * 2 ^ (c.args.count % 64) % 18446744073709551616 - 1)) c.in_ok-words.ensures)
