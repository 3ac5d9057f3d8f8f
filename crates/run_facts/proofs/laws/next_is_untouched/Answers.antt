use Rattle.run_facts.proofs.Known.{next_data_untouched, next_piece_untouched}
use Rattle.run_facts.proofs.SwitchKnown.{next_run_untouched, next_slot_untouched}
use Rattle.run_facts.proofs.laws.next_is_untouched.Goals as goal

pub returns-clause-data : goal.returns-clause-data
returns-clause-data c = next_data_untouched

pub returns-clause-record : goal.returns-clause-record
returns-clause-record c = next_piece_untouched

pub returns-clause-check : goal.returns-clause-check
returns-clause-check c = next_run_untouched

pub returns-clause-slot : goal.returns-clause-slot
returns-clause-slot c = next_slot_untouched
