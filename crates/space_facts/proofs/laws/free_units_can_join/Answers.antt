use Rattle.space_facts.proofs.Making.{above_after}
use Rattle.space_facts.proofs.Spaces.{free_over, free_joins}
use Rattle.space_facts.proofs.laws.free_units_can_join.Goals as goal

pub returns-clause-over : goal.returns-clause-over
returns-clause-over c = free_over

pub returns-clause-joins : goal.returns-clause-joins
returns-clause-joins c = free_joins

pub returns-clause-above : goal.returns-clause-above
returns-clause-above c = above_after
