use Rattle.std.proofs.Common.{arith}
use Rattle.txn_codec.specs.Prelude.{pair_bytes, list_bytes, FitsPair, FitList}
use Rattle.txn_codec.proofs.Fronts.{pair_free, list_missing}
use Rattle.txn_codec.proofs.FieldReading.{handed_on}
use Rattle.txn_codec.proofs.field_reading.read_pairs.Goals as goal

pub returns-in_err-pair : goal.returns-in_err-pair
returns-in_err-pair c =
    handed_on (FitList FitsPair) (list_bytes pair_bytes) c.args.fields.now c.read_pair.new.fields c.from_residual-in_err-pair.result c.in_err-pair.field-0.0
    c.from_residual-in_err-pair.ensures
    (λ is. list_missing FitsPair pair_bytes pair_free c.in_ok-count.count c.pairs.pairs.items c.args.fields.now c.read_count.new.fields c.pairs.fields
    c.in_ok-count.ensures.fits c.in_ok-count.ensures.spelled (omega (arith, c.pairs.invariant.0, c.pairs-test.true)) c.pairs.invariant.1 c.pairs.invariant.2 (c.in_err-pair.ensures is))
