use Rattle.end_points.specs.BayInside.{memory_shelf}
use Rattle.end_points.proofs.BayLemmas.{handed_out}
use Rattle.end_points.proofs.memory_bay.MemoryBayBay.device.Goals as goal

pub returns-in-Ok-clause-ok : goal.returns-in-Ok-clause-ok
returns-in-Ok-clause-ok c = handed_out (memory_shelf c.self.inside) c.args.self.now c.args.name.now c.args.how c.in-Ok.device c.self.view_is c.in-Ok.ensures.ok
