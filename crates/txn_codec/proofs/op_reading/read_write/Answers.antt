use Rattle.std.proofs.Common.{rules, ◌∷◌}
use Rattle.meta_rows.specs.Prelude.{IsValue, ReadsFront, value_bytes}
use Rattle.txn_codec.specs.Prelude.{txn_op_bytes, FitsOp}
use Rattle.txn_codec.proofs.FieldReading.{all_read, handed_on, no_number, no_op, no_value, op_read, past_name, past_number, with_name, with_number, with_value}
use Rattle.txn_codec.proofs.op_reading.read_write.Goals as goal

pub returns-in_err-off : goal.returns-in_err-off
returns-in_err-off c =
    handed_on FitsOp txn_op_bytes (4 ∷ c.args.fields.now) c.read_number.new.fields c.from_residual-in_err-off.result c.in_err-off.field-0.0
    c.from_residual-in_err-off.ensures (λ is. no_op 4 c.args.fields.now (past_name c.in_ok-object.ensures (no_number (c.in_err-off.ensures is))))

pub returns-in_err-read_value : goal.returns-in_err-read_value
returns-in_err-read_value c =
    handed_on FitsOp txn_op_bytes (4 ∷ c.args.fields.now) c.read_value.new.fields c.from_residual-in_err-read_value.result c.in_err-read_value.field-0.0
    c.from_residual-in_err-read_value.ensures (λ is. no_op 4 c.args.fields.now (past_name c.in_ok-object.ensures (past_number c.in_ok-off.ensures (no_value (c.in_err-read_value.ensures is)))))

pub returns : goal.returns
returns c =
    let value : ReadsFront IsValue value_bytes c.read_number.new.fields c.read_value.new.fields c.in_ok-bytes.bytes = search rules in
    op_read _ _ _ (with_name c.in_ok-object.ensures (with_number c.in_ok-off.ensures (with_value value all_read)))
