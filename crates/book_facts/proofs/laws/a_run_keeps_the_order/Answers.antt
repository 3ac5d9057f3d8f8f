use Rattle.book_facts.proofs.Order.{order_opened}
use Rattle.book_facts.proofs.BookCalls.{order_run}
use Rattle.book_facts.proofs.laws.a_run_keeps_the_order.Goals as goal

pub returns-clause-opened : goal.returns-clause-opened
returns-clause-opened c = order_opened

pub returns-clause-kept : goal.returns-clause-kept
returns-clause-kept c = order_run
