use Rattle.store_image.proofs.ExactLemmas.{stays_exact, stays_leaks, stays_onward, stays_by_rows, stays_from_rows, leaked_by_rows}
use Rattle.store_image.proofs.laws.exact_images.Goals as goal

pub returns-clause-exact : goal.returns-clause-exact
returns-clause-exact c = stays_exact

pub returns-clause-leaks : goal.returns-clause-leaks
returns-clause-leaks c = stays_leaks

pub returns-clause-onward : goal.returns-clause-onward
returns-clause-onward c = stays_onward

pub returns-clause-by_rows : goal.returns-clause-by_rows
returns-clause-by_rows c = stays_by_rows

pub returns-clause-from_rows : goal.returns-clause-from_rows
returns-clause-from_rows c = stays_from_rows

pub returns-clause-leaked : goal.returns-clause-leaked
returns-clause-leaked c = leaked_by_rows
