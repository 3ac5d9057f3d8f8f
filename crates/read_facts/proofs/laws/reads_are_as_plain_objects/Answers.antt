use Rattle.read_facts.proofs.Seen.{seen_answer}
use Rattle.read_facts.proofs.laws.reads_are_as_plain_objects.Goals as goal

pub returns : goal.returns
returns c = λ w memory d h at rows objects command a tells answered valued stand names is.
    seen_answer w memory d h tells rows answered at valued objects stand command a names is
