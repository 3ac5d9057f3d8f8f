use Rattle.std.proofs.Common.{◌≡◌, ◌*◌, take}
use Rattle.crc32c_csum.specs.Prelude.{remainder}
use Rattle.object_reader.proofs.reading.take_in.Given as goal

-- the pages so far were taken in
abbrev pub invariant-loop-i : goal.invariant-loop-i
invariant-loop-i l = l.digest ≡ remainder l.initial.digest (take (4096 * l.i) l.front)
