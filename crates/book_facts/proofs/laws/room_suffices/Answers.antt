use Rattle.book_facts.proofs.Rooms.{accepted_room, steps_room, run_room, want_of_room}
use Rattle.book_facts.proofs.laws.room_suffices.Goals as goal

pub returns-clause-accepted : goal.returns-clause-accepted
returns-clause-accepted c = λ client line change s s' d. accepted_room s s' d client line change

pub returns-clause-steps : goal.returns-clause-steps
returns-clause-steps c = steps_room

pub returns-clause-kept : goal.returns-clause-kept
returns-clause-kept c = run_room

pub returns-clause-refused : goal.returns-clause-refused
returns-clause-refused c = want_of_room
