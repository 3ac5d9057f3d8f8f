use Rattle.flight_facts.proofs.Leaves.{device_goes, book_step, stays_up, goes_down}
use Rattle.flight_facts.proofs.laws.a_step_leaves_device_and_book.Goals as goal

pub returns-clause-device : goal.returns-clause-device
returns-clause-device c = device_goes

pub returns-clause-book : goal.returns-clause-book
returns-clause-book c = book_step

pub returns-clause-up : goal.returns-clause-up
returns-clause-up c = stays_up

pub returns-clause-down : goal.returns-clause-down
returns-clause-down c = goes_down
