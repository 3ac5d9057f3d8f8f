use Rattle.end_points.proofs.BayLemmas.{no_contents}
use Rattle.end_points.proofs.memory_bay.MemoryBay.new.Goals as goal

pub invariant_of-result : goal.invariant_of-result
invariant_of-result c = record { contents = no_contents c.new.result c.new.ensures; lags = c.requires.lags; step = c.requires.step }
