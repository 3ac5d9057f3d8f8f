use Rattle.store_image.specs.Prelude.{IsLeaked}
use Rattle.store_image.proofs.ExactLemmas.{as_itself, no_new_leaks, exact_onward, no_inexact}
use Rattle.store_image.proofs.laws.exact_rows.Goals as goal

pub returns-clause-itself : goal.returns-clause-itself
returns-clause-itself c = λ w first rows. as_itself w (IsLeaked w first) rows

pub returns-clause-leaks : goal.returns-clause-leaks
returns-clause-leaks c = no_new_leaks

pub returns-clause-onward : goal.returns-clause-onward
returns-clause-onward c = exact_onward

pub returns-clause-good : goal.returns-clause-good
returns-clause-good c = λ w first rows. no_inexact w (IsLeaked w first) rows
