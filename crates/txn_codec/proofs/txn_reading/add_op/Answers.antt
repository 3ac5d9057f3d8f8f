use Rattle.txn_codec.proofs.FieldReading.{passed_on}
use Rattle.txn_codec.proofs.txn_reading.add_op.Goals as goal

pub returns-in_err-op : goal.returns-in_err-op
returns-in_err-op c = passed_on _ _ _ _ c.from_residual.ensures (λ is. c.in_err-op.ensures is)

pub returns-in-Ok : goal.returns-in-Ok
returns-in-Ok c = record { op = c.in_ok-op.op; read = c.in_ok-op.ensures; whole = c.in-Ok.ensures.ok }
