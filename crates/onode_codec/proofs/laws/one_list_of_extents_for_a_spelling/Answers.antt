use Rattle.onode_codec.proofs.Again.{same_extents}
use Rattle.onode_codec.proofs.laws.one_list_of_extents_for_a_spelling.Goals as goal

pub returns : goal.returns
returns c = same_extents
