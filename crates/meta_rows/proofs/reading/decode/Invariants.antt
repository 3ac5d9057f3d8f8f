use Rattle.std.proofs.Common.{◌≡◌, ◌++◌, length}
use Rattle.meta_rows.specs.Prelude.{ops_bytes, AllFit}
use Rattle.meta_rows.proofs.reading.decode.Given as goal

abbrev pub invariant-ops : goal.invariant-ops
invariant-ops l = (l.bytes ≡ ops_bytes l.ops.items ++ l.fields) × AllFit l.ops.items

abbrev pub decreases-ops : goal.decreases-ops
decreases-ops l = length l.fields
