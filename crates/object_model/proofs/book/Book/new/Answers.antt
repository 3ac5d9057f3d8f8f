use Rattle.object_model.proofs.Books.{IsLegal-empty}
use Rattle.object_model.proofs.book.Book.new.Goals as goal

pub returns-clause-legal : goal.returns-clause-legal
returns-clause-legal c = λ objects. IsLegal-empty objects c.new.result c.new-2.result c.new.ensures c.new-2.ensures
