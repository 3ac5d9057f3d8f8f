use Rattle.txn_codec.proofs.FieldReading.{pair_missing}
use Rattle.txn_codec.proofs.field_reading.read_pair.Goals as goal

pub returns-in-Err : goal.returns-in-Err
returns-in-Err c same = pair_missing c.args.fields.now c.read_name.new.fields c.in_ok-key.key c.in_ok-key.ensures (c.in-Err.ensures same)
