use Rattle.row_reading.proofs.RowReading.{no_onode}
use Rattle.row_reading.proofs.row.read_onode.Goals as goal

pub returns-in-None : goal.returns-in-None
returns-in-None c width = no_onode width c.args.coll c.args.object c.requires.coll c.requires.object c.args.value.now c.in-None.ensures
