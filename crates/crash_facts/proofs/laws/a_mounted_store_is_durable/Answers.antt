use Rattle.crash_facts.proofs.Runs.{mounted_durable}
use Rattle.crash_facts.proofs.laws.a_mounted_store_is_durable.Goals as goal

pub returns : goal.returns
returns c = mounted_durable
