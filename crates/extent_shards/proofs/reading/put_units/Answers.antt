use Rattle.std.proofs.Common.{◌≡◌, ◌+◌, ◌<◌, length, rules, arith, ap, ◌∙◌}
use Rattle.std.specs.FinMap as finite
use Rattle.unit_fields.specs.Prelude.{bytes_of}
use Rattle.row_format.specs.Prelude.{own}
use Rattle.onode_codec.specs.Reading.{ReadsCsum}
use Rattle.extent_shards.proofs.Values.{puts_none, puts_next, csum_there}
use Rattle.extent_shards.proofs.reading.put_units.Goals as goal

pub loop-i-init : goal.loop-i-init
loop-i-init c = puts_none c.args.width c.args.first c.args.unit c.args.fields.now c.args.pages.now

pub unreachable-requires : goal.unreachable-requires
unreachable-requires c =
    let few : length c.loop-i.fields < bytes_of c.args.width 1 = search rules in
    let lt : c.loop-i.i < c.args.count = omega arith in
    csum_there c.args.width c.args.first c.args.unit c.loop-i.i c.args.count c.args.fields.now c.loop-i.fields c.args.pages.now c.loop-i.pages
    c.loop-i.invariant lt c.requires.csums few

pub loop-i-preserved : goal.loop-i-preserved
loop-i-preserved c =
    let one : ReadsCsum c.args.width c.loop-i.fields c.read_csum.new.fields c.in-Some.csum = search rules in
    let unit : c.new-unit.result ≡ c.args.unit + c.loop-i.i = omega arith in
    puts_next c.args.width c.args.first c.args.unit c.loop-i.i c.in-Some.csum c.args.fields.now c.loop-i.fields c.read_csum.new.fields c.args.pages.now
    c.loop-i.pages c.set.new.self one
    (c.in_ok-set.ensures.ok
    ∙ ap (λ u. finite.insert c.loop-i.pages (c.args.first + c.loop-i.i) (own u c.in-Some.csum)) unit) c.loop-i.invariant
