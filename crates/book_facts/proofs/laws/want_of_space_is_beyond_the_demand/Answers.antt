use Rattle.book_facts.proofs.Demand.{want_is_beyond_the_demand}
use Rattle.book_facts.proofs.laws.want_of_space_is_beyond_the_demand.Goals as goal

pub returns : goal.returns
returns c = want_is_beyond_the_demand
