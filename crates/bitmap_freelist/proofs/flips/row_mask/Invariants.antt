use Rattle.std.proofs.Common.{◌≡◌, drop}
use Rattle.bitmap_freelist.specs.Masks.{with_bits, mask_of}
use Rattle.bitmap_freelist.proofs.flips.row_mask.Given as goal

abbrev pub invariant-loop-unit : goal.invariant-loop-unit
invariant-loop-unit l = with_bits l.mask (drop l.unit-index l.fn.units) ≡ mask_of l.fn.units
