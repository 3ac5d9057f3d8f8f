use Rattle.std.proofs.Common.{◌≡◌, drop}
use Rattle.crc32c_csum.specs.Prelude.{remainder}
use Rattle.crc32c_csum.proofs.crc.after_bytes.Given as goal

abbrev pub invariant-loop-byte : goal.invariant-loop-byte
invariant-loop-byte l = remainder l.r (drop l.byte-index l.left) ≡ remainder l.fn.r l.bytes
