use Rattle.log_facts.proofs.Switching.{slot_write, next_slot_flush, next_slot_flushed}
use Rattle.log_facts.proofs.laws.the_next_slot_is_written.Goals as goal

pub returns : goal.returns
returns c = record { written = slot_write; submitted = next_slot_flush; ended = next_slot_flushed }
