use Rattle.log_facts.proofs.Keeping.{flushed_push, flush_sent, flush_ended}
use Rattle.log_facts.proofs.laws.a_flush_of_a_unit.Goals as goal

pub returns : goal.returns
returns c = record { elsewhere = flushed_push; submitted = flush_sent; ended = flush_ended }
