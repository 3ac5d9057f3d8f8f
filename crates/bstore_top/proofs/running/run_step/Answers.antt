use Rattle.bstore_top.proofs.Keeping.{done_durable}
use Rattle.bstore_top.proofs.running.run_step.Goals as goal

pub returns-clause-durable : goal.returns-clause-durable
returns-clause-durable g c = done_durable c.args.dev.now c.args.scripts.now c.args.seed _ _ _ _ _ _ c.run_store-end.ensures.course
