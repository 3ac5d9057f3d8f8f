use Rattle.std.proofs.Common.{sym}
use Rattle.store_steps.specs.Prelude.{choice, left_by}
use Rattle.flight_facts.proofs.Prelude.{picked, choice_few, choice_done, choice_full, picked_up, count_picked}
use Rattle.run_facts.proofs.Choices.{choice_order}
use Rattle.run_facts.proofs.laws.a_choice.Goals as goal

pub returns-clause-few : goal.returns-clause-few
returns-clause-few c = choice_few

pub returns-clause-done : goal.returns-clause-done
returns-clause-done c = choice_done

pub returns-clause-full : goal.returns-clause-full
returns-clause-full c = choice_full

pub returns-clause-order : goal.returns-clause-order
returns-clause-order c = choice_order

pub returns-clause-left : goal.returns-clause-left
returns-clause-left c most xs up = picked_up xs (choice most xs) (left_by most xs) (picked most xs up) up

pub returns-clause-count : goal.returns-clause-count
returns-clause-count c most xs up = sym (count_picked xs (choice most xs) (left_by most xs) (picked most xs up))
