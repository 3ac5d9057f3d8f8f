use Rattle.std.proofs.Common.{◌≡◌, sym, ap, subst, ◌∙◌, length, arith, rules}
use Rattle.unit_fields.specs.Prelude.{bytes_of}
use Rattle.onode_codec.specs.declared.extent.Start.TheVariants.{Unit as OnUnit}
use Rattle.page_lookup.specs.Prelude.{IsUnitOf}
use Rattle.page_lookup.proofs.Fronts.{unit_is, units_short}
use Rattle.page_lookup.proofs.shard.unit_in.Goals as goal

pub returns-then-rest-bytes_of : goal.returns-then-rest-bytes_of
returns-then-rest-bytes_of c =
    let size : c.bytes_of.result ≡ bytes_of c.args.width c.args.count = c.bytes_of.ensures.bytes ∙ ap (bytes_of c.args.width) c.from.ensures in
    units_short c.args.width c.args.count c.args.fields.now c.u32.new.self c.in_ok-unit.unit (search rules) (omega (arith, size, ap length c.rest.ensures))

pub returns : goal.returns
returns c =
    let size : c.bytes_of.result ≡ bytes_of c.args.width c.args.count = c.bytes_of.ensures.bytes ∙ ap (bytes_of c.args.width) c.from.ensures in
    subst (λ u. IsUnitOf c.args.width c.args.count c.args.fields.now (OnUnit u)) (sym c.new.ensures)
    (unit_is c.args.width c.args.count c.args.fields.now c.u32.new.self c.in_ok-unit.unit (search rules) (omega (arith, size, ap length c.rest.ensures)))
