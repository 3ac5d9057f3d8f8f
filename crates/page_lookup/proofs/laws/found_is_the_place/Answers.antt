use Rattle.page_lookup.proofs.Finding.{found_is}
use Rattle.page_lookup.proofs.laws.found_is_the_place.Goals as goal

pub returns : goal.returns
returns c = found_is
