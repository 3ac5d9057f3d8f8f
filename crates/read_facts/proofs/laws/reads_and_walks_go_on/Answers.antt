use Rattle.read_facts.proofs.Pages.{good_appended, none_good, bad_behind_good}
use Rattle.read_facts.proofs.Walks.{next_appended, last_appended}
use Rattle.read_facts.specs.Prelude.{IsHeldAt, IsCollection, IsObject}
use Rattle.read_facts.proofs.laws.reads_and_walks_go_on.Goals as goal

pub returns-clause-no_page : goal.returns-clause-no_page
returns-clause-no_page c = λ w memory d. none_good w memory (IsHeldAt d)

pub returns-clause-good_pages : goal.returns-clause-good_pages
returns-clause-good_pages c = λ w memory d. good_appended w memory (IsHeldAt d)

pub returns-clause-bad_page : goal.returns-clause-bad_page
returns-clause-bad_page c = λ w memory d. bad_behind_good w memory (IsHeldAt d)

pub returns-clause-coll : goal.returns-clause-coll
returns-clause-coll c = λ rows. next_appended (IsCollection rows)

pub returns-clause-object : goal.returns-clause-object
returns-clause-object c = λ rows coll. next_appended (IsObject rows coll)

pub returns-clause-last : goal.returns-clause-last
returns-clause-last c = last_appended
