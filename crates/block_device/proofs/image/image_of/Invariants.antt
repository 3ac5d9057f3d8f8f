use Rattle.block_device.proofs.ImageLemmas.{IsImageUpTo}
use Rattle.block_device.proofs.image.image_of.Given as goal

abbrev pub invariant-loop-place : goal.invariant-loop-place
invariant-loop-place l = IsImageUpTo l.tear l.place l.start l.log l.image.items l.torn.items
