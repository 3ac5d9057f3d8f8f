use Rattle.book_facts.proofs.Rooms.{run_space, want_of_space}
use Rattle.book_facts.proofs.laws.space_suffices.Goals as goal

pub returns-clause-kept : goal.returns-clause-kept
returns-clause-kept c = run_space

pub returns-clause-refused : goal.returns-clause-refused
returns-clause-refused c = want_of_space
