use Rattle.std.proofs.Common.{◌∷◌, ◌++◌, refl, subst, sym}
use Rattle.std.specs.Int.{w16, to_le_bytes}
use Rattle.std.specs.Prelude.{MatchOption}
use Rattle.unit_fields.specs.declared.width.Width.{Width}
use Rattle.onode_codec.specs.Reading.{BeginsWithNoExtent, ReadsHead}
use Rattle.onode_codec.proofs.ExtentReading.{start_missing}
use Rattle.onode_codec.proofs.extent.Head.read.Goals as goal

pub returns-in_err-start : goal.returns-in_err-start
returns-in_err-start c = subst (λ found. MatchOption found ((w : Width) → BeginsWithNoExtent w c.args.fields.now) (ReadsHead c.args.fields.now c.read_start.new.fields))
    (sym c.from_residual-in_err-start.ensures) (λ w.
    let front = c.in_ok-first.ensures in
    let behind = c.in_ok-first.kind ∷ c.read_front.new.fields in
    start_missing w c.args.fields.now (to_le_bytes w16 c.in_ok-first.count ++ behind) behind c.in_ok-first.first c.in_ok-first.count
    front.first_below front.count_below front.spelled refl c.in_err-start.ensures)
