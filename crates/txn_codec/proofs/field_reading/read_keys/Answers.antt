use Rattle.std.proofs.Common.{arith}
use Rattle.unit_fields.specs.Prelude.{IsName}
use Rattle.txn_codec.specs.Prelude.{name_bytes, list_bytes, FitList}
use Rattle.txn_codec.proofs.Fronts.{name_free, list_missing}
use Rattle.txn_codec.proofs.FieldReading.{handed_on}
use Rattle.txn_codec.proofs.field_reading.read_keys.Goals as goal

pub returns-in_err-key : goal.returns-in_err-key
returns-in_err-key c =
    handed_on (FitList IsName) (list_bytes name_bytes) c.args.fields.now c.read_name.new.fields c.from_residual-in_err-key.result c.in_err-key.field-0.0
    c.from_residual-in_err-key.ensures
    (λ is. list_missing IsName name_bytes (name_free IsName) c.in_ok-count.count c.keys.keys.items c.args.fields.now c.read_count.new.fields c.keys.fields
    c.in_ok-count.ensures.fits c.in_ok-count.ensures.spelled (omega (arith, c.keys.invariant.0, c.keys-test.true)) c.keys.invariant.1 c.keys.invariant.2 (c.in_err-key.ensures is))
