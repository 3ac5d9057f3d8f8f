use Rattle.space_facts.proofs.Making.{below_joined}
use Rattle.space_facts.proofs.Joining.{each_joined, apart_joined, homes_joined}
use Rattle.space_facts.proofs.laws.one_more_is_planned.Goals as goal

pub returns-clause-planned : goal.returns-clause-planned
returns-clause-planned c = each_joined

pub returns-clause-apart : goal.returns-clause-apart
returns-clause-apart c = apart_joined

pub returns-clause-homes : goal.returns-clause-homes
returns-clause-homes c = homes_joined

pub returns-clause-blobs : goal.returns-clause-blobs
returns-clause-blobs c = below_joined
