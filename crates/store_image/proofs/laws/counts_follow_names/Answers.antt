use Rattle.store_image.proofs.NameLemmas.{more_exact, less_exact}
use Rattle.store_image.proofs.laws.counts_follow_names.Goals as goal

pub returns-clause-more : goal.returns-clause-more
returns-clause-more c = more_exact

pub returns-clause-less : goal.returns-clause-less
returns-clause-less c = less_exact
