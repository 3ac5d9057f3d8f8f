use Rattle.std.proofs.Common.{◌≡◌, true, false, refl, arith}
use Rattle.row_check.specs.DataBits.{IsBitOfData}
use Rattle.row_check.proofs.DataBits.{no_place, next_place, all_places, not_of_data}
use Rattle.row_check.proofs.in_place.are_of_data.Goals as goal

pub loop-place-init : goal.loop-place-init
loop-place-init c = no_place c.args.sup.now c.args.row c.args.bits.now

pub returns-then-not-is_bit_of_data : goal.returns-then-not-is_bit_of_data
returns-then-not-is_bit_of_data c =
    let tested = c.if-not-is_bit_of_data.ensures in
    let none : ¬ (IsBitOfData c.args.sup.now c.args.row c.args.bits.now c.loop-place.place) = λ is. let never : false ≡ true = tested.1 is in cc in
    (λ yes. absurd cc, λ all. absurd (not_of_data c.args.sup.now c.args.row c.args.bits.now c.loop-place.place (omega arith) none all))

pub loop-place-preserved : goal.loop-place-preserved
loop-place-preserved c =
    let tested = c.if-not-is_bit_of_data.ensures in
    next_place c.args.sup.now c.args.row c.args.bits.now c.loop-place.place c.loop-place.invariant (tested.0 refl)

pub returns : goal.returns
returns c = (
  λ yes. all_places c.args.sup.now c.args.row c.args.bits.now c.loop-place.place (omega arith) c.loop-place.invariant,
  λ all. refl,
)
