use Rattle.kv_worker.proofs.BatchLemmas.{all_written}
use Rattle.kv_worker.proofs.batch.commit.Goals as goal

pub flushed-requires : goal.flushed-requires
flushed-requires c = all_written c.args.sealed c.args.meta.now c.requires
