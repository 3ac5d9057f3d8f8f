use Rattle.bstore_top.proofs.laws.scripts_within_the_free_units_have_no_want_of_them.Goals as goal

pub returns : goal.returns
returns c = λ seed scripts given end book disk ran within. ran.within within
