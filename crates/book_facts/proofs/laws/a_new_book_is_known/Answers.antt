use Rattle.book_facts.proofs.Books.{book_opened}
use Rattle.book_facts.proofs.laws.a_new_book_is_known.Goals as goal

pub returns : goal.returns
returns c = book_opened
