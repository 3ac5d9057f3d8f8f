use Rattle.space_facts.proofs.Making.{below_none}
use Rattle.space_facts.proofs.Moving.{each_none, apart_none, homes_none}
use Rattle.space_facts.proofs.Spaces.{counted_none}
use Rattle.space_facts.proofs.laws.nothing_under_way.Goals as goal

pub returns-clause-planned : goal.returns-clause-planned
returns-clause-planned c = each_none

pub returns-clause-apart : goal.returns-clause-apart
returns-clause-apart c = apart_none

pub returns-clause-counted : goal.returns-clause-counted
returns-clause-counted c = counted_none

pub returns-clause-homes : goal.returns-clause-homes
returns-clause-homes c = homes_none

pub returns-clause-blobs : goal.returns-clause-blobs
returns-clause-blobs c = below_none
