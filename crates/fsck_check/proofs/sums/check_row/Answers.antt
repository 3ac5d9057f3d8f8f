use Rattle.std.proofs.Common.{true, Vec, Global, sym, subst}
use Rattle.onode_codec.specs.declared.extent.Extent.{Extent}
use Rattle.onode_codec.specs.Reading.{SpellExtents}
use Rattle.read_facts.specs.Prelude.{IsHeldAt}
use Rattle.row_check.specs.Owned.{TellsShard}
use Rattle.fsck_check.specs.Sums.{shard_places, AddsSums, AddsRowSums}
use Rattle.fsck_check.proofs.Spelled.{shard_inside, shard_added, on_ok, of_some}
use Rattle.fsck_check.proofs.sums.check_row.Goals as goal

pub check_shard-requires-clause-inside : goal.check_shard-requires-clause-inside
check_shard-requires-clause-inside g c =
    let told : TellsShard c.args.width c.args.key.now c.args.value.now true = c.if-not-is_shard.ensures c.args.width in
    let spelled : SpellExtents c.args.width c.args.value.now c.deref.result.now =
    subst (SpellExtents c.args.width c.args.value.now) (sym c.deref.ensures.value)
    (of_some _ (λ (v : Vec Extent Global). SpellExtents c.args.width c.args.value.now v.items) c.in-Ok.decoded c.in-Some.extents c.in-Some.is c.in-Ok.ensures) in
    shard_inside c.args.width c.args.rows.now.rows c.args.key.now c.args.value.now (g.D.Device.disk c.args.dev.now).units c.deref.result.now c.requires.spells told spelled

pub returns-clause-sums : goal.returns-clause-sums
returns-clause-sums g c =
    let held = IsHeldAt (g.D.Device.disk c.args.dev.now) in
    let told : TellsShard c.args.width c.args.key.now c.args.value.now true = c.if-not-is_shard.ensures c.args.width in
    let spelled : SpellExtents c.args.width c.args.value.now c.deref.result.now =
    subst (SpellExtents c.args.width c.args.value.now) (sym c.deref.ensures.value)
    (of_some _ (λ (v : Vec Extent Global). SpellExtents c.args.width c.args.value.now v.items) c.in-Ok.decoded c.in-Some.extents c.in-Some.is c.in-Ok.ensures) in
    on_ok c.check_shard.result (AddsSums held (shard_places c.args.width c.args.rows.now.rows c.deref.result.now) c.args.found.now c.check_shard.new.found)
    (AddsRowSums c.args.width c.args.rows.now.rows held c.args.key.now c.args.value.now c.args.found.now c.check_shard.new.found)
    (shard_added c.args.width c.args.rows.now.rows held c.args.key.now c.args.value.now c.deref.result.now c.args.found.now c.check_shard.new.found told spelled) c.check_shard.ensures.sums
