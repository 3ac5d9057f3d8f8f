use Rattle.book_facts.proofs.BookCalls.{book_call}
use Rattle.book_facts.proofs.laws.a_call_keeps_the_book.Goals as goal

pub returns : goal.returns
returns c = book_call
