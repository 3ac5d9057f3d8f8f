use Rattle.std.proofs.Common.{◌≡◌, Some, ap, sym, ◌∙◌}
use Rattle.std.specs.FinMap as finite
use Rattle.row_format.specs.Prelude.{shared_key}
use Rattle.place_units.proofs.BlobValues.{blob_is_value}
use Rattle.page_sources.specs.Found.{PagesByRows}
use Rattle.page_sources.proofs.finding.UnitPages.unit_of_slot.Goals as goal

pub slot_unit-requires : goal.slot_unit-requires
slot_unit-requires c =
    let rows = c.self.inside.rows.now.rows in
    let same : rows ≡ c.args.self.now.rows = ap (λ (pages : PagesByRows). pages.rows) (c.self.view_is ∙ c.value_of.ensures.same) in
    let stands : finite.get rows (shared_key c.args.sbid) ≡ Some c.as_slice.result.now =
    ap (λ r. finite.get r (shared_key c.args.sbid)) same ∙ sym c.in-Some.ensures.value ∙ ap (λ v. Some v) (sym c.as_slice.ensures) in
    blob_is_value c.self.inside.width rows c.args.sbid c.as_slice.result.now c.ranges.sbid.fits c.self.invariant.0 stands
