use Rattle.book_facts.proofs.BookCalls.{legal_run}
use Rattle.book_facts.proofs.laws.a_run_makes_a_legal_book.Goals as goal

pub returns : goal.returns
returns c = legal_run
