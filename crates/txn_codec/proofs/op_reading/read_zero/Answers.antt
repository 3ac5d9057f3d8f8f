use Rattle.std.proofs.Common.{◌∷◌}
use Rattle.txn_codec.specs.Prelude.{txn_op_bytes, FitsOp}
use Rattle.txn_codec.proofs.FieldReading.{all_read, handed_on, no_number, no_op, op_read, past_name, past_number, with_name, with_number}
use Rattle.txn_codec.proofs.op_reading.read_zero.Goals as goal

pub returns-in_err-off : goal.returns-in_err-off
returns-in_err-off c =
    handed_on FitsOp txn_op_bytes (5 ∷ c.args.fields.now) c.read_number.new.fields c.from_residual-in_err-off.result c.in_err-off.field-0.0
    c.from_residual-in_err-off.ensures (λ is. no_op 5 c.args.fields.now (past_name c.in_ok-object.ensures (no_number (c.in_err-off.ensures is))))

pub returns-in_err-len : goal.returns-in_err-len
returns-in_err-len c =
    handed_on FitsOp txn_op_bytes (5 ∷ c.args.fields.now) c.read_number-2.new.fields c.from_residual-in_err-len.result c.in_err-len.field-0.0
    c.from_residual-in_err-len.ensures (λ is. no_op 5 c.args.fields.now (past_name c.in_ok-object.ensures (past_number c.in_ok-off.ensures (no_number (c.in_err-len.ensures is)))))

pub returns : goal.returns
returns c =
    op_read _ _ _ (with_name c.in_ok-object.ensures (with_number c.in_ok-off.ensures (with_number c.in_ok-len.ensures all_read)))
