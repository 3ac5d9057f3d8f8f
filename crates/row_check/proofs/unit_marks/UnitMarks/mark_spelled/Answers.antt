use Rattle.std.proofs.Common.{◌≡◌, ◌≢◌, [], rules}
use Rattle.row_check.proofs.MarkSteps.{none_marked, one_left, next_marked, fewer_left, all_marked}
use Rattle.row_check.proofs.unit_marks.UnitMarks.mark_spelled.Goals as goal

pub extents-init : goal.extents-init
extents-init c = none_marked c.args.width c.args.self.now c.args.bytes.now c.new-fields.result c.requires c.new-fields.ensures

pub mark_extent-requires : goal.mark_extent-requires
mark_extent-requires c =
    let some : c.extents.fields ≢ [] = search rules in
    one_left c.args.width c.args.self.now c.args.bytes.now c.extents.fields c.extents.self c.extents.invariant some

pub extents-preserved : goal.extents-preserved
extents-preserved c =
    next_marked c.args.width c.args.self.now c.args.bytes.now c.extents.fields c.extents.self c.extents.invariant c.mark_extent.new.fields
    c.mark_extent.new.self
    c.mark_extent.ensures

pub extents-smaller : goal.extents-smaller
extents-smaller c = fewer_left c.args.width c.extents.fields c.mark_extent.new.fields c.extents.self c.mark_extent.new.self c.mark_extent.ensures

pub returns : goal.returns
returns c es spelled =
    let empty : c.extents.fields ≡ [] = search rules in
    all_marked c.args.width c.args.self.now c.args.bytes.now c.extents.fields c.extents.self c.extents.invariant empty es spelled
