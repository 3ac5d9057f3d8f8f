use Rattle.read_facts.proofs.Seen.{found_is, unit_not_bad}
use Rattle.read_facts.proofs.laws.units_are_as_plain_objects.Goals as goal

pub returns-clause-found : goal.returns-clause-found
returns-clause-found c = λ w memory d h at rows unit bytes tells answered valued. found_is w memory d h tells rows answered at valued unit bytes

pub returns-clause-never_bad : goal.returns-clause-never_bad
returns-clause-never_bad c = λ w memory d h at rows objects coll o size page unit kept found tells answered valued stand.
    unit_not_bad w memory d h tells rows answered at valued objects stand coll o size page unit kept found
