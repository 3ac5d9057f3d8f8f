use Rattle.flight_facts.proofs.MatchingMore.{one_more_waits, one_more_entry}
use Rattle.flight_facts.proofs.Unflown.{unflown}
use Rattle.flight_facts.proofs.laws.flights_match.Goals as goal

pub returns-clause-joins : goal.returns-clause-joins
returns-clause-joins c = one_more_waits

pub returns-clause-enters : goal.returns-clause-enters
returns-clause-enters c = one_more_entry

pub returns-clause-unflown : goal.returns-clause-unflown
returns-clause-unflown c = unflown
