use Rattle.txn_codec.proofs.FieldReading.{all_read, no_names, no_op, no_value, op_read, passed_on, past_names, with_names, with_value}
use Rattle.txn_codec.proofs.op_reading.read_set_attr.Goals as goal

pub returns-in_err-object : goal.returns-in_err-object
returns-in_err-object c = passed_on _ _ _ _ c.from_residual.ensures (λ is. no_op 8 c.args.fields.now (no_names (c.in_err-object.ensures is)))

pub returns-in-Err : goal.returns-in-Err
returns-in-Err c same = no_op 8 c.args.fields.now (past_names c.in_ok-object.ensures (no_value (c.in-Err.ensures same)))

pub returns-in-Ok : goal.returns-in-Ok
returns-in-Ok c = op_read _ _ _ (with_names c.in_ok-object.ensures (with_value c.in-Ok.ensures all_read))
