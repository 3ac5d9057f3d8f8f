use Rattle.space_facts.proofs.Example.{unmarked_first, unmarked_last, still_busy}
use Rattle.space_facts.proofs.laws.bits_do_not_tell.Goals as goal

pub returns-clause-committed : goal.returns-clause-committed
returns-clause-committed c = unmarked_first

pub returns-clause-submitted : goal.returns-clause-submitted
returns-clause-submitted c = unmarked_last

pub returns-clause-busy : goal.returns-clause-busy
returns-clause-busy c = still_busy
