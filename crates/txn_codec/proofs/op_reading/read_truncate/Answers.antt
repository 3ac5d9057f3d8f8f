use Rattle.std.proofs.Common.{◌∷◌}
use Rattle.txn_codec.specs.Prelude.{txn_op_bytes, FitsOp}
use Rattle.txn_codec.proofs.FieldReading.{handed_on, no_number, no_op, past_name}
use Rattle.txn_codec.proofs.op_reading.read_truncate.Goals as goal

pub returns-in_err-size : goal.returns-in_err-size
returns-in_err-size c =
    handed_on FitsOp txn_op_bytes (6 ∷ c.args.fields.now) c.read_number.new.fields c.from_residual-in_err-size.result c.in_err-size.field-0.0
    c.from_residual-in_err-size.ensures (λ is. no_op 6 c.args.fields.now (past_name c.in_ok-object.ensures (no_number (c.in_err-size.ensures is))))
