use Rattle.std.proofs.Common.{◌≡◌, true, false, List, sym, subst, ◌∙◌}
use Rattle.row_format.specs.Prelude.{Extent, BeginsAt}
use Rattle.onode_codec.specs.Reading.{SpellExtents}
use Rattle.row_reading.proofs.RowReading.{no_extents, other_page}
use Rattle.row_reading.proofs.row.read_shard.Goals as goal

pub returns-in_default : goal.returns-in_default
returns-in_default c =
    let none : (es : List Extent) → ¬ (SpellExtents c.args.width c.args.value.now es) = rw c.in_default.is at c.in_ok-extents.ensures in
    no_extents c.args.width c.args.coll c.args.object c.requires.coll c.requires.object c.args.page c.ranges.page.fits c.args.value.now none

pub returns-then-not-begins_at : goal.returns-then-not-begins_at
returns-then-not-begins_at c =
    let spelled : SpellExtents c.args.width c.args.value.now c.in-Some.extents.items = rw c.in-Some.is at c.in_ok-extents.ensures in
    let other : ¬ (BeginsAt c.args.page c.in-Some.extents.items) = λ begins.
    let yes = c.begins_at.ensures.1 (subst (BeginsAt c.args.page) (sym c.deref.ensures.value) begins) in
    let never : true ≡ false = sym yes ∙ c.if-not-begins_at.true in cc in
    other_page c.args.width c.args.coll c.args.object c.requires.coll c.requires.object c.args.page c.ranges.page.fits c.args.value.now
    c.in-Some.extents.items spelled other
