use Rattle.blob_map.proofs.Forms.{extents_fits, extents_within, extents_on}
use Rattle.blob_map.proofs.laws.bounds_of_extents.Goals as goal

pub returns : goal.returns
returns c = record { fit = λ w pages. extents_fits pages w; pages = extents_within; units = extents_on }
