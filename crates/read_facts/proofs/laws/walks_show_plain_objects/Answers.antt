use Rattle.meta_log.specs.Prelude.{width_of}
use Rattle.read_facts.proofs.Viewed.{walk_is, walk_good}
use Rattle.read_facts.proofs.laws.walks_show_plain_objects.Goals as goal

pub returns-clause-all : goal.returns-clause-all
returns-clause-all c = λ memory d h at s rows objects colls tells answered valued good stand.
    walk_is (width_of s) memory d h tells rows answered at valued objects stand s good colls

pub returns-clause-good : goal.returns-clause-good
returns-clause-good c = λ w memory d h at rows objects colls tells answered valued stand.
    walk_good w memory d h tells rows answered at valued objects stand colls
