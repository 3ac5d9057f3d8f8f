use Rattle.txn_codec.proofs.FieldReading.{all_read, no_names, no_op, op_read, passed_on, with_names}
use Rattle.txn_codec.proofs.op_reading.read_rm_attr.Goals as goal

pub returns-in_err-object : goal.returns-in_err-object
returns-in_err-object c = passed_on _ _ _ _ c.from_residual.ensures (λ is. no_op 9 c.args.fields.now (no_names (c.in_err-object.ensures is)))

pub returns : goal.returns
returns c = op_read _ _ _ (with_names c.in_ok-object.ensures all_read)
