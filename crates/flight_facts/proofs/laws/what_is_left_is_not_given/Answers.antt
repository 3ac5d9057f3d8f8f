use Rattle.flight_facts.proofs.Runs.{runs_left}
use Rattle.flight_facts.proofs.Unflown.{none_left, rest_not_given}
use Rattle.flight_facts.proofs.laws.what_is_left_is_not_given.Goals as goal

pub returns-clause-units : goal.returns-clause-units
returns-clause-units c = none_left

pub returns-clause-pieces : goal.returns-clause-pieces
returns-clause-pieces c = rest_not_given

pub returns-clause-runs : goal.returns-clause-runs
returns-clause-runs c = runs_left
