use Rattle.std.proofs.Common.{◌≢◌, [], rules}
use Rattle.meta_rows.specs.Prelude.{op_bytes, FitsRowOp, BeginsWithNo}
use Rattle.meta_rows.proofs.OpReading.{no_spelling}
use Rattle.meta_rows.proofs.reading.decode.Goals as goal

pub returns-in_default : goal.returns-in_default
returns-in_default c = λ ops spelled.
    let some : c.ops.fields ≢ [] = search rules in
    let none : BeginsWithNo FitsRowOp op_bytes c.ops.fields = search rules in
    no_spelling c.args.bytes.now c.ops.fields c.ops.ops.items ops c.ops.invariant.0 c.ops.invariant.1 some none spelled
