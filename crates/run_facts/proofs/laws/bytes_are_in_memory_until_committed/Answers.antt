use Rattle.run_facts.proofs.Memory.{memory_accepted, free_not_in_memory, memory_same, memory_given, memory_reaped, memory_taken, memory_committed}
use Rattle.run_facts.proofs.laws.bytes_are_in_memory_until_committed.Goals as goal

pub returns-clause-accepted : goal.returns-clause-accepted
returns-clause-accepted c = memory_accepted

pub returns-clause-free : goal.returns-clause-free
returns-clause-free c = free_not_in_memory

pub returns-clause-same : goal.returns-clause-same
returns-clause-same c = memory_same

pub returns-clause-given : goal.returns-clause-given
returns-clause-given c = memory_given

pub returns-clause-reaped : goal.returns-clause-reaped
returns-clause-reaped c = memory_reaped

pub returns-clause-opened : goal.returns-clause-opened
returns-clause-opened c = memory_taken

pub returns-clause-committed : goal.returns-clause-committed
returns-clause-committed c = memory_committed
