use Rattle.std.proofs.Common.{rules, ◌<◌, ◌^◌, ℕ}
use Rattle.unit_fields.specs.declared.width.Width.{Width}
use Rattle.unit_fields.specs.declared.width.Width.TheVariants.{FourBytes}
use Rattle.row_format.specs.Prelude.{FitsCsum}
use Rattle.blob_map.proofs.extents.unit_fits.Goals as goal

fits_number : (w : Width) (csum : ℕ) → csum < 2 ^ 32 → FitsCsum w csum
fits_number FourBytes csum lt = lt

pub returns-clause-csum : goal.returns-clause-csum
returns-clause-csum c = λ w. let low : c.args.csum < 2 ^ 32 = search rules in fits_number w c.args.csum low
