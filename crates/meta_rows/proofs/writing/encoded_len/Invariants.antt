use Rattle.std.proofs.Common.{◌≡◌, ◌<◌, ◌+◌, ◌^◌, length, drop}
use Rattle.meta_rows.specs.Prelude.{ops_bytes}
use Rattle.meta_rows.proofs.writing.encoded_len.Given as goal

abbrev pub invariant-loop-op : goal.invariant-loop-op
invariant-loop-op l = length (ops_bytes l.ops) < 2 ^ 64 → l.len + length (ops_bytes (drop l.op-index l.ops)) ≡ length (ops_bytes l.ops)
