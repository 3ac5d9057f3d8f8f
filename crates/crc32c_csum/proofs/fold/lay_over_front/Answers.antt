use Rattle.std.proofs.Common.{◌∙◌, sym, length-take-le}
use Rattle.crc32c_csum.proofs.fold.lay_over_front.Goals as goal

pub copy_from_slice-requires : goal.copy_from_slice-requires
copy_from_slice-requires c = length-take-le 290 c.args.bytes.now c.requires ∙ sym c.told-front
