use Rattle.space_facts.proofs.Moving.{first_taken, each_alike, rows_alike, apart_alike, homes_alike, below_alike}
use Rattle.space_facts.proofs.Spaces.{counted_alike}
use Rattle.space_facts.proofs.laws.order_between_collections.Goals as goal

pub returns-clause-first : goal.returns-clause-first
returns-clause-first c = first_taken

pub returns-clause-planned : goal.returns-clause-planned
returns-clause-planned c = each_alike

pub returns-clause-rows : goal.returns-clause-rows
returns-clause-rows c = rows_alike

pub returns-clause-apart : goal.returns-clause-apart
returns-clause-apart c = apart_alike

pub returns-clause-counted : goal.returns-clause-counted
returns-clause-counted c = counted_alike

pub returns-clause-homes : goal.returns-clause-homes
returns-clause-homes c = homes_alike

pub returns-clause-blobs : goal.returns-clause-blobs
returns-clause-blobs c = below_alike
