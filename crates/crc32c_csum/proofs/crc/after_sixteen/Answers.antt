use Rattle.std.proofs.Common.{[], ◌∷◌, refl}
use Rattle.crc32c_csum.proofs.Many.{four_and_more}
use Rattle.crc32c_csum.proofs.crc.after_sixteen.Goals as goal

pub returns : goal.returns
returns c =
    rw (c.from_zero.ensures, c.after.ensures, c.after-2.ensures, c.after-3.ensures, c.after-4.ensures, c.after-5.ensures, c.after-6.ensures, c.after-7.ensures, c.after-8.ensures)
    (four_and_more 12 c.args.r _ _ _ c.args.a.0 c.args.a.1 c.args.a.2 c.args.a.3
    (c.args.a.4 ∷ c.args.a.5 ∷ c.args.a.6 ∷ c.args.a.7 ∷ c.args.b.0 ∷ c.args.b.1 ∷ c.args.b.2 ∷ c.args.b.3 ∷ c.args.b.4 ∷ c.args.b.5 ∷ c.args.b.6 ∷ c.args.b.7 ∷ [])
    refl c.ranges.r.fits refl refl refl)
