use Rattle.blob_map.proofs.Forms.{one_map}
use Rattle.blob_map.proofs.laws.one_map_for_extents.Goals as goal

pub returns : goal.returns
returns c = one_map
