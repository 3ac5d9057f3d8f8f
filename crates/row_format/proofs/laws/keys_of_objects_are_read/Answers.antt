use Rattle.row_format.proofs.ThingLemmas.{collection_again, onode_again, shard_again, attribute_again, header_again, pair_again}
use Rattle.row_format.proofs.laws.keys_of_objects_are_read.Goals as goal

pub returns-clause-collections : goal.returns-clause-collections
returns-clause-collections c = collection_again

pub returns-clause-onodes : goal.returns-clause-onodes
returns-clause-onodes c = onode_again

pub returns-clause-shards : goal.returns-clause-shards
returns-clause-shards c = shard_again

pub returns-clause-attributes : goal.returns-clause-attributes
returns-clause-attributes c = attribute_again

pub returns-clause-headers : goal.returns-clause-headers
returns-clause-headers c = header_again

pub returns-clause-pairs : goal.returns-clause-pairs
returns-clause-pairs c = pair_again
