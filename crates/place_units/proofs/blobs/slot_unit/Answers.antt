use Rattle.std.proofs.Common.{◌≡◌, ◌+◌, drop, ap, sym, ◌∙◌, arith}
use Rattle.std.specs.Int.{w32, from_le_bytes}
use Rattle.std.specs.Prelude.{Some}
use Rattle.plan_rows.specs.Prelude.{slot_unit}
use Rattle.place_units.specs.Blobs.{csum_of_slot}
use Rattle.place_units.proofs.Slots.{csum_in_value}
use Rattle.place_units.proofs.blobs.slot_unit.Goals as goal

pub returns : goal.returns
returns c =
    let value = c.args.value.now in
    let first : c.in-Some.first ≡ from_le_bytes w32 value = c.in-Some.ensures.value_is ∙ ap (from_le_bytes w32) c.new-fields.ensures in
    let unit : c.new-unit.result ≡ from_le_bytes w32 value + c.args.index = omega (arith, c.new-unit.ensures, first, c.from.ensures) in
    let left : c.u32.new.self ≡ drop 4 value = sym (ap (drop 4) c.in-Some.ensures.spelled) ∙ ap (drop 4) c.new-fields.ensures in
    let csum : c.csum_of_slot-csum.result ≡ (slot_unit c.args.width (Some value) c.args.index).csum =
    c.csum_of_slot-csum.ensures ∙ ap (λ l. csum_of_slot c.args.width l c.args.index) left ∙ csum_in_value c.args.width value c.args.index in
    λ i. record { unit = unit i; csum = csum i }
