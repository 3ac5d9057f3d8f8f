use Rattle.std.proofs.Common.{refl}
use Rattle.meta_rows.proofs.XorLemmas.{zeros_or_not}
use Rattle.row_reading.proofs.RowReading.{bits_test}
use Rattle.row_reading.proofs.row.are_bits.Goals as goal

pub returns-then-value-eq-ROW_BYTES : goal.returns-then-value-eq-ROW_BYTES
returns-then-value-eq-ROW_BYTES c =
    let value = c.args.value.now in
    bits_test value c.is_zero.result (zeros_or_not value value c.is_zero.result refl c.is_zero.ensures) c.if-value-eq-ROW_BYTES.true
