-- Where a place stands as the rows say is where it is looked for.
use Rattle.std.proofs.Common.{◌≡◌, ℕ, ◌+◌, List, [], refl, sym, ap, ◌∙◌}
use Rattle.std.specs.Prelude.{slice_get}
use Rattle.std.specs.Int.{w32, from_le_bytes}
use Rattle.std.specs.Option.{option_map_or}
use Rattle.unit_fields.specs.declared.width.Width.{Width}
use Rattle.meta_rows.specs.Prelude.{Rows}
use Rattle.row_format.specs.Prelude.{Place, own, slot, Slot, slots_read, shared_key, Row, blob, row_value}
use Rattle.row_format.specs.Things.{a_shared_blob}
use Rattle.row_format.proofs.Prelude.{shared_again, reads_row}
use Rattle.store_image.specs.Prelude.{PageUnit, StandsOn}
use Rattle.plan_rows.specs.Prelude.{slot_unit, page_unit}

-- the first unit and the slots that a row says
abbrev said : Row → ℕ × List Slot
said (blob sbid first slots) = (first, slots)
said row = (0, [])

pub unit_is : (w : Width) (rows : Rows) (place : Place) (on : PageUnit) → StandsOn w rows place on → page_unit w rows place ≡ on
unit_is w rows (own unit csum) on is = sym is
unit_is w rows (slot sbid index) on (x, (has, kept)) =
    let row = blob sbid has.first has.slots in
    let value : List ℕ = row_value w row in
    let fits = has.has_blob.fits in
    let read : row ≡ blob sbid (from_le_bytes w32 value) (slots_read w value) =
    reads_row w row (blob sbid (from_le_bytes w32 value) (slots_read w value)) (shared_key sbid) value (a_shared_blob sbid) fits refl refl
    (shared_again sbid fits.number) refl in
    let same = ap said (sym read) in
    let csum : option_map_or (λ (y : Slot). y.csum) (slice_get (slots_read w value) index) 0 ≡ on.csum =
    ap (λ (p : ℕ × List Slot). option_map_or (λ (y : Slot). y.csum) (slice_get p.1 index) 0) same
    ∙ ap (λ z. option_map_or (λ (y : Slot). y.csum) z 0) has.there ∙ kept in
    let unit : from_le_bytes w32 value + index ≡ on.unit = ap (λ (p : ℕ × List Slot). p.0 + index) same ∙ sym has.at_is in
    ap (λ v. slot_unit w v index) has.has_blob.stands ∙ (λ i. record { unit = unit i; csum = csum i })
