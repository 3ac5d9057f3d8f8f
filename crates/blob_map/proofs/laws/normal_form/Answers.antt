use Rattle.blob_map.proofs.Back.{extents_back}
use Rattle.blob_map.proofs.Forms.{extents_places, extents_fit, extents_ascend, extents_longest}
use Rattle.blob_map.proofs.laws.normal_form.Goals as goal

pub returns : goal.returns
returns c = record { back = extents_back; places = extents_places; fit = extents_fit; ascend = extents_ascend; longest = extents_longest }
