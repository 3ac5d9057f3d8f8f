use Rattle.std.proofs.Common.{◌≡◌, false, true}
use Rattle.row_reading.proofs.RowReading.{no_header}
use Rattle.row_reading.proofs.row.read_header.Goals as goal

pub returns-then-not-is_header : goal.returns-then-not-is_header
returns-then-not-is_header c width =
    let tested = c.if-not-is_header.ensures in
    no_header width c.args.coll c.args.object c.requires.coll c.requires.object c.args.value.now
    (λ some short. let never : false ≡ true = tested.1 (some, short) in cc)
