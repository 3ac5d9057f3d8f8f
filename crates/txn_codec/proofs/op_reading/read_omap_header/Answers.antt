use Rattle.txn_codec.proofs.FieldReading.{no_op, no_value, past_name}
use Rattle.txn_codec.proofs.op_reading.read_omap_header.Goals as goal

pub returns-in-Err : goal.returns-in-Err
returns-in-Err c same = no_op 17 c.args.fields.now (past_name c.in_ok-object.ensures (no_value (c.in-Err.ensures same)))
