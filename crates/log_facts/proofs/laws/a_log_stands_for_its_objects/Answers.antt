use Rattle.log_facts.proofs.Crashes.{log_reads, log_stands}
use Rattle.log_facts.proofs.laws.a_log_stands_for_its_objects.Goals as goal

pub returns-clause-reads : goal.returns-clause-reads
returns-clause-reads c = log_reads

pub returns-clause-stands : goal.returns-clause-stands
returns-clause-stands c = log_stands
