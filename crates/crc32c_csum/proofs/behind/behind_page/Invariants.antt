use Rattle.std.proofs.Common.{◌≡◌, ◌*◌, ◌^◌, ◌<◌}
use Rattle.std.specs.Prelude.{bit_xor}
use Rattle.crc32c_csum.specs.Prelude.{after_zeros}
use Rattle.crc32c_csum.proofs.behind.behind_page.Given as goal

abbrev pub invariant-loop-i : goal.invariant-loop-i
invariant-loop-i l = (bit_xor l.all (after_zeros 4096 (l.left * 2 ^ l.i)) ≡ after_zeros 4096 l.fn.r) × (l.left * 2 ^ l.i < 2 ^ 32)
