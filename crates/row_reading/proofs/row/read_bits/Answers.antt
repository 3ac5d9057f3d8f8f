use Rattle.std.proofs.Common.{◌≡◌, false, true}
use Rattle.row_reading.proofs.RowReading.{no_bits}
use Rattle.row_reading.proofs.row.read_bits.Goals as goal

pub returns-then-not-are_bits : goal.returns-then-not-are_bits
returns-then-not-are_bits c width =
    let tested = c.if-not-are_bits.ensures in
    no_bits width c.args.row c.args.value.now (λ size some. let never : false ≡ true = tested.1 (size, some) in cc)
