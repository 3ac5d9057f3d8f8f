use Rattle.txn_codec.specs.Prelude.{ReadsBody}
use Rattle.txn_codec.proofs.txn_reading.read_body.Given as goal

abbrev pub invariant-ops : goal.invariant-ops
invariant-ops l = ReadsBody l.fn.fields l.count l._i l.transaction l.fields
