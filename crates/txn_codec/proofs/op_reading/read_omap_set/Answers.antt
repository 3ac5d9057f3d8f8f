use Rattle.std.proofs.Common.{◌∷◌}
use Rattle.txn_codec.specs.Prelude.{txn_op_bytes, FitsOp}
use Rattle.txn_codec.proofs.FieldReading.{handed_on, no_op, no_pairs, past_name}
use Rattle.txn_codec.proofs.op_reading.read_omap_set.Goals as goal

pub returns-in_err-pairs : goal.returns-in_err-pairs
returns-in_err-pairs c =
    handed_on FitsOp txn_op_bytes (13 ∷ c.args.fields.now) c.read_pairs.new.fields c.from_residual-in_err-pairs.result c.in_err-pairs.field-0.0
    c.from_residual-in_err-pairs.ensures (λ is. no_op 13 c.args.fields.now (past_name c.in_ok-object.ensures (no_pairs (c.in_err-pairs.ensures is))))
