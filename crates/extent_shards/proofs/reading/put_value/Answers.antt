use Rattle.std.proofs.Common.{◌≡◌, ◌≢◌, [], rules}
use Rattle.extent_shards.proofs.Values.{all_left, one_left, next_put, all_put, fewer_left}
use Rattle.extent_shards.proofs.reading.put_value.Goals as goal

pub extents-init : goal.extents-init
extents-init c = all_left c.args.width c.args.bytes.now c.new-fields.result c.args.pages.now c.requires c.new-fields.ensures

pub put_extent-requires : goal.put_extent-requires
put_extent-requires c =
    let some : c.extents.fields ≢ [] = search rules in
    one_left c.args.width c.args.bytes.now c.extents.fields c.args.pages.now c.extents.pages c.extents.invariant some

pub extents-preserved : goal.extents-preserved
extents-preserved c =
    next_put c.args.width c.args.bytes.now c.extents.fields c.args.pages.now c.extents.pages c.extents.invariant c.put_extent.new.fields
    c.put_extent.new.pages
    c.in_ok-put_extent.ensures

pub extents-smaller : goal.extents-smaller
extents-smaller c = fewer_left c.args.width c.extents.fields c.put_extent.new.fields c.extents.pages c.put_extent.new.pages c.in_ok-put_extent.ensures

pub returns : goal.returns
returns c es spelled =
    let empty : c.extents.fields ≡ [] = search rules in
    all_put c.args.width c.args.bytes.now c.extents.fields c.args.pages.now c.extents.pages c.extents.invariant empty es spelled
