use Rattle.std.proofs.Common.{◌≡◌, take}
use Rattle.meta_rows.specs.Prelude.{xor_bytes}
use Rattle.meta_rows.proofs.row_change.xored_into.Given as goal

abbrev pub invariant-loop-i : goal.invariant-loop-i
invariant-loop-i l = l.bytes ≡ xor_bytes l.fn.long (take l.i l.fn.short)
