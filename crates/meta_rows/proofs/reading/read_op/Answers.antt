use Rattle.meta_rows.proofs.OpReading.{value_missing}
use Rattle.meta_rows.proofs.reading.read_op.Goals as goal

pub returns-in_default-read_value : goal.returns-in_default-read_value
returns-in_default-read_value c =
    value_missing c.in-Some.code c.args.fields.now c.u8.new.self c.read_key.new.fields c.in-Some-read_key.key.now c.in-Some.ensures
    c.in-Some-read_key.ensures c.if-code-eq-DROP.false c.in_default-read_value.ensures
