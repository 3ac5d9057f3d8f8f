use Rattle.run_facts.proofs.Memory.{readable_now, memory_whole}
use Rattle.run_facts.proofs.laws.units_not_in_memory_can_be_read.Goals as goal

pub returns-clause-readable : goal.returns-clause-readable
returns-clause-readable c = readable_now

pub returns-clause-whole : goal.returns-clause-whole
returns-clause-whole c = memory_whole
