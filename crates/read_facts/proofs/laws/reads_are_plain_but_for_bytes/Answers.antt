use Rattle.read_facts.specs.Prelude.{IsHeldAt}
use Rattle.read_facts.proofs.Plain.{plain_answer}
use Rattle.read_facts.proofs.laws.reads_are_plain_but_for_bytes.Goals as goal

pub returns : goal.returns
returns c = λ w memory d rows objects command a shape names is. plain_answer w rows objects shape memory (IsHeldAt d) command a names is
