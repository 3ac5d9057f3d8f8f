use Rattle.std.proofs.Common.{◌≡◌, ◌+◌, ◌*◌, ap, sym, ◌∙◌, arith}
use Rattle.unit_fields.specs.Prelude.{bytes_of}
use Rattle.row_reading.specs.Slots.{slots_size}
use Rattle.place_units.proofs.Slots.{csum_missing, csum_read}
use Rattle.place_units.proofs.blobs.csum_of_slot.Goals as goal

pub returns-then-index-count : goal.returns-then-index-count
returns-then-index-count c =
    sym (csum_missing c.args.width c.args.fields.now c.args.index (omega (arith, c.if-index-count.true, c.in-Some.ensures.value_is)))

pub returns : goal.returns
returns c =
    let sums : c.bytes_of.result ≡ bytes_of c.args.width c.args.index = c.bytes_of.ensures.bytes ∙ ap (bytes_of c.args.width) c.from.ensures in
    let before : c.bytes_of.result + 4 * c.from-2.result ≡ slots_size c.args.width c.args.index =
    omega (arith, sums, c.from-2.ensures) in
    csum_read c.args.width c.args.fields.now c.u16.new.self c.bytes.new.self c.in-Some-bytes.field-0.now c.read_csum.new.fields c.in-Some.count
    (c.bytes_of.result + 4 * c.from-2.result) c.args.index c.in-Some-read_csum.csum c.in-Some.ensures c.in-Some-bytes.ensures before
    c.if-index-count.false c.in-Some-read_csum.ensures
