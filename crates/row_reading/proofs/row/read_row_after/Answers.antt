use Rattle.row_reading.specs.Reading.{IsNoKey}
use Rattle.row_reading.proofs.RowReading.{no_row}
use Rattle.row_reading.proofs.row.read_row_after.Goals as goal

pub returns-in-None : goal.returns-in-None
returns-in-None c =
    let none : IsNoKey c.args.key.now = rw c.in-None.is at c.in_ok-read_key_after.ensures in
    no_row c.args.width c.args.key.now c.args.value.now none
