use Rattle.std.proofs.Common.{◌∷◌}
use Rattle.txn_codec.specs.Prelude.{txn_op_bytes, FitsOp}
use Rattle.txn_codec.proofs.FieldReading.{handed_on, no_keys, no_op, past_name}
use Rattle.txn_codec.proofs.op_reading.read_omap_rm.Goals as goal

pub returns-in_err-keys : goal.returns-in_err-keys
returns-in_err-keys c =
    handed_on FitsOp txn_op_bytes (14 ∷ c.args.fields.now) c.read_keys.new.fields c.from_residual-in_err-keys.result c.in_err-keys.field-0.0
    c.from_residual-in_err-keys.ensures (λ is. no_op 14 c.args.fields.now (past_name c.in_ok-object.ensures (no_keys (c.in_err-keys.ensures is))))
