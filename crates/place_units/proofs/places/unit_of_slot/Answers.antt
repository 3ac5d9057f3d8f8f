use Rattle.std.proofs.Common.{◌≡◌, Some, sym, ap, subst, ◌∙◌}
use Rattle.std.specs.Prelude.{option_copied}
use Rattle.std.specs.FinMap as map
use Rattle.row_format.specs.Prelude.{shared_key}
use Rattle.place_units.specs.Blobs.{IsBlobValue}
use Rattle.place_units.proofs.BlobValues.{blob_is_value}
use Rattle.place_units.proofs.places.unit_of_slot.Goals as goal

pub slot_unit-requires : goal.slot_unit-requires
slot_unit-requires c =
    let there : map.get c.args.rows.now.rows (shared_key c.args.sbid) ≡ Some c.in-Some.value.now =
    sym c.blob_value.ensures ∙ ap option_copied c.in-Some.is in
    subst (IsBlobValue c.args.width) (sym c.as_slice.ensures)
    (blob_is_value c.args.width c.args.rows.now.rows c.args.sbid c.in-Some.value.now c.ranges.sbid.fits c.requires there)
