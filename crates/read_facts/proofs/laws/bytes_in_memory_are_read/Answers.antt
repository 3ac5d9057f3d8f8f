use Rattle.read_facts.specs.Prelude.{IsHeldAt}
use Rattle.read_facts.proofs.Pages.{good_in_memory, not_bad_in_memory}
use Rattle.read_facts.proofs.laws.bytes_in_memory_are_read.Goals as goal

pub returns-clause-good : goal.returns-clause-good
returns-clause-good c = λ w memory d. good_in_memory w memory (IsHeldAt d)

pub returns-clause-never_bad : goal.returns-clause-never_bad
returns-clause-never_bad c = λ w memory d. not_bad_in_memory w memory (IsHeldAt d)
