use Rattle.crash_facts.proofs.Answered.{durable_legal, durable_sums}
use Rattle.crash_facts.proofs.laws.a_durable_book_is_legal.Goals as goal

pub returns-clause-legal : goal.returns-clause-legal
returns-clause-legal c = durable_legal

pub returns-clause-sums : goal.returns-clause-sums
returns-clause-sums c = durable_sums
