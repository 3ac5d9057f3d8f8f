use Rattle.txn_codec.proofs.FieldReading.{passed_on}
use Rattle.txn_codec.proofs.field_reading.read_bytes.Goals as goal

pub returns-in_err-value : goal.returns-in_err-value
returns-in_err-value c = passed_on _ _ _ _ c.from_residual.ensures (λ is. c.in_err-value.ensures is)
