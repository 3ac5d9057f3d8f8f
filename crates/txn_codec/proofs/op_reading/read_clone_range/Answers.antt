use Rattle.std.proofs.Common.{◌∷◌}
use Rattle.txn_codec.specs.Prelude.{txn_op_bytes, FitsOp}
use Rattle.txn_codec.proofs.FieldReading.{all_read, handed_on, no_names, no_number, no_op, op_read, passed_on, past_names, past_number, with_names, with_number}
use Rattle.txn_codec.proofs.op_reading.read_clone_range.Goals as goal

pub returns-in_err-object : goal.returns-in_err-object
returns-in_err-object c = passed_on _ _ _ _ c.from_residual.ensures (λ is. no_op 12 c.args.fields.now (no_names (c.in_err-object.ensures is)))

pub returns-in_err-src : goal.returns-in_err-src
returns-in_err-src c =
    handed_on FitsOp txn_op_bytes (12 ∷ c.args.fields.now) c.read_number.new.fields c.from_residual-in_err-src.result c.in_err-src.field-0.0
    c.from_residual-in_err-src.ensures (λ is. no_op 12 c.args.fields.now (past_names c.in_ok-object.ensures (no_number (c.in_err-src.ensures is))))

pub returns-in_err-len : goal.returns-in_err-len
returns-in_err-len c =
    handed_on FitsOp txn_op_bytes (12 ∷ c.args.fields.now) c.read_number-2.new.fields c.from_residual-in_err-len.result c.in_err-len.field-0.0
    c.from_residual-in_err-len.ensures (λ is. no_op 12 c.args.fields.now (past_names c.in_ok-object.ensures (past_number c.in_ok-src.ensures (no_number (c.in_err-len.ensures is)))))

pub returns-in_err-dst : goal.returns-in_err-dst
returns-in_err-dst c =
    handed_on FitsOp txn_op_bytes (12 ∷ c.args.fields.now) c.read_number-3.new.fields c.from_residual-in_err-dst.result c.in_err-dst.field-0.0
    c.from_residual-in_err-dst.ensures (λ is. no_op 12 c.args.fields.now (past_names c.in_ok-object.ensures (past_number c.in_ok-src.ensures (past_number c.in_ok-len.ensures (no_number (c.in_err-dst.ensures is))))))

pub returns : goal.returns
returns c =
    op_read _ _ _ (with_names c.in_ok-object.ensures (with_number c.in_ok-src.ensures (with_number c.in_ok-len.ensures (with_number c.in_ok-dst.ensures all_read))))
