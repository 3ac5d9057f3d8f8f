use Rattle.onode_codec.proofs.Again.{same_onode}
use Rattle.onode_codec.proofs.laws.one_onode_for_a_spelling.Goals as goal

pub returns : goal.returns
returns c = same_onode
