-- The row of a blob, where no row is bad, has all slots that it says, on units with low numbers.
use Rattle.std.proofs.Common.{◌≡◌, ℕ, ◌+◌, ◌<◌, ◌≤◌, ◌^◌, List, ◌++◌, length, drop, Some, refl, sym, ap, subst, ◌∙◌, arith}
use Rattle.std.specs.List.{flat_map}
use Rattle.std.specs.Int.{w16, w32, to_le_bytes, from_le_bytes}
use Rattle.std.specs.FinMap as map
use Rattle.std.proofs.lemmas.List.{length-append}
use Rattle.std.proofs.lemmas.Nat.{from_le_bytes-to_le_bytes_2, from_le_bytes-to_le_bytes_4}
use Rattle.std.proofs.lemmas.Option.{same_Some}
use Rattle.unit_fields.specs.declared.width.Width.{Width}
use Rattle.meta_rows.specs.Prelude.{Rows}
use Rattle.meta_log.specs.declared.slot.Super.{Super}
use Rattle.meta_log.specs.Prelude.{width_of}
use Rattle.row_format.specs.Prelude.{Slot, slot_bytes, shared_key, blob, row_value, FitsBlob}
use Rattle.store_image.specs.Prelude.{HasRow, IsBlobInPlace}
use Rattle.store_image.proofs.Prelude.{in_place, blob_there}
use Rattle.plan_rows.specs.Stores.{AreRowsOfWidth}
use Rattle.row_reading.specs.Slots.{slots_size}
use Rattle.row_reading.proofs.SlotReading.{length-slots}
use Rattle.place_units.specs.Blobs.{IsBlobValue}

spelled_value : (w : Width) (value : List ℕ) (sbid first : ℕ) (xs : List Slot) → value ≡ row_value w (blob sbid first xs) → FitsBlob w sbid first xs
    → first + 2 ^ 16 ≤ 2 ^ 32 → IsBlobValue w value
spelled_value w value sbid first xs is fits below =
    let front : from_le_bytes w32 value ≡ first = ap (from_le_bytes w32) is ∙ from_le_bytes-to_le_bytes_4 first fits.unit in
    let rest : drop 4 value ≡ to_le_bytes w16 (length xs) ++ flat_map (slot_bytes w) xs = ap (drop 4) is in
    let count : from_le_bytes w16 (drop 4 value) ≡ length xs =
    ap (from_le_bytes w16) rest ∙ from_le_bytes-to_le_bytes_2 (length xs) (omega (arith, fits.few)) in
    record {
      low = omega (arith, front, below);
      long = omega (arith, ap length is);
      slots = omega (arith, ap (slots_size w) count, ap length rest, length-slots w xs, length-append (to_le_bytes w16 (length xs)) (flat_map (slot_bytes w) xs));
    }

pub blob_is_value : (w : Width) (rows : Rows) (sbid : ℕ) (value : List ℕ) → sbid < 2 ^ 64 → AreRowsOfWidth w rows
    → map.get rows (shared_key sbid) ≡ Some value → IsBlobValue w value
blob_is_value w rows sbid value small are stands =
    let there = blob_there s rows sbid small are.store.good (Some value) stands refl in
    subst (λ v. IsBlobValue v value) are.wide (by there.0 there.1.0 there.1.1)
  where
    s : Super
    s = are.store.sup

    by : (first : ℕ) (xs : List Slot) → HasRow (width_of s) rows (blob sbid first xs) → IsBlobValue (width_of s) value
    by first xs has =
        let placed : IsBlobInPlace s sbid first xs = in_place s rows (blob sbid first xs) are.store.good has in
        spelled_value (width_of s) value sbid first xs (same_Some value (row_value (width_of s) (blob sbid first xs)) (sym stands ∙ has.stands)) has.fits
        (omega (arith, placed.on_data.1, are.store.limits.units_most))
