-- The blob of a row, where no row is bad.
use Rattle.std.proofs.Common.{◌≡◌, ℕ, ◌<◌, ◌^◌, List, [], Option, Some, None, MatchOption, refl, sym, ap, subst, ◌∙◌, arith}
use Rattle.std.specs.Int.{w32, from_le_bytes}
use Rattle.std.specs.Option.{IfSome}
use Rattle.std.specs.FinMap as finite
use Rattle.std.proofs.lemmas.Nat.{from_le_bytes-to_le_bytes_4}
use Rattle.std.proofs.lemmas.Option.{same_Some}
use Rattle.unit_fields.specs.declared.width.Width.{Width}
use Rattle.meta_rows.specs.Prelude.{Rows}
use Rattle.meta_log.specs.declared.slot.Super.{Super}
use Rattle.meta_log.specs.Prelude.{width_of}
use Rattle.row_format.specs.Prelude.{Slot, slots_read, shared_key, blob, row_value}
use Rattle.row_format.proofs.SlotReading.{slots_again}
use Rattle.store_image.specs.Prelude.{HasRow, IsBlobInPlace}
use Rattle.store_image.proofs.Prelude.{in_place, blob_there}
use Rattle.plan_rows.specs.Stores.{AreRowsOfWidth}
use Rattle.plan_rows.specs.Prelude.{with_less}
use Rattle.shared_blobs.specs.Blob.{Blob, SpellsBlob, IsNoBlob, blob_now, HasUnits}
use Rattle.shared_blobs.proofs.Slots.{length-with_less}

-- the blob that a value says
abbrev pub blob_in : Width → List ℕ → Blob
blob_in w value = record { first = from_le_bytes w32 value; slots = slots_read w value }

pub read_back : (w : Width) (value : List ℕ) (b : Blob) → SpellsBlob w value b → blob_in w value ≡ b
read_back w value b spells =
    let first : from_le_bytes w32 value ≡ b.first = ap (from_le_bytes w32) spells.is ∙ from_le_bytes-to_le_bytes_4 b.first spells.fits.unit in
    let slots : slots_read w value ≡ b.slots = ap (slots_read w) spells.is ∙ slots_again w b.first b.slots spells.fits.few spells.fits.fit in
    λ i. record { first = first i; slots = slots i }

module _ (w : Width) (rows : Rows) (good : AreRowsOfWidth w rows) (sbid : ℕ) (small : sbid < 2 ^ 64) where
  abbrev s : Super
  s = good.store.sup

  -- it is said by the row, and its units have numbers that fit
  abbrev IsSaid : Width → List ℕ → Blob → Type 0
  IsSaid v value b = SpellsBlob v value b × HasUnits b

  found : (value : List ℕ) → finite.get rows (shared_key sbid) ≡ Some value → (b : Blob) × IsSaid w value b
  found value stands =
      let there = blob_there s rows sbid small good.store.good (Some value) stands refl in
      subst (λ v. (b : Blob) × IsSaid v value b) good.wide (by there.0 there.1.0 there.1.1)
    where
      by : (first : ℕ) (xs : List Slot) → HasRow (width_of s) rows (blob sbid first xs) → (b : Blob) × IsSaid (width_of s) value b
      by first xs has =
          let placed : IsBlobInPlace s sbid first xs = in_place s rows (blob sbid first xs) good.store.good has in (
            record { first = first; slots = xs },
            (
              record {
                fits = record { number = omega arith; unit = has.fits.unit; some = has.fits.some; few = has.fits.few; fit = has.fits.fit };
                is = same_Some value (row_value (width_of s) (blob sbid first xs)) (sym stands ∙ has.stands);
              },
              omega (arith, placed.on_data.1, good.store.limits.units_most),
            ),
          )

  pub is_said : (value : List ℕ) → finite.get rows (shared_key sbid) ≡ Some value → SpellsBlob w value (blob_in w value) × HasUnits (blob_in w value)
  is_said value stands = let f = found value stands in subst (IsSaid w value) (sym (read_back w value f.0 f.1.0)) f.1

  pub is_row : (value : List ℕ) → finite.get rows (shared_key sbid) ≡ Some value
      → HasRow w rows (blob sbid (from_le_bytes w32 value) (slots_read w value))
  is_row value stands =
      let said = (is_said value stands).0 in
      record {
        fits = record { number = small; unit = said.fits.unit; some = said.fits.some; few = said.fits.few; fit = said.fits.fit };
        stands = stands ∙ ap Some said.is;
      }

  -- ---- as it is read

  -- that nothing, or this blob, was decoded of its value
  module _ (value : List ℕ) (stands : Some value ≡ finite.get rows (shared_key sbid)) (found : Option Blob)
      (decoded : MatchOption found (IsNoBlob w value) (SpellsBlob w value)) where
    pub not_missed : found ≡ None → ⊥
    not_missed none =
        let is_none : IsNoBlob w value = subst (λ (x : Option Blob). MatchOption x (IsNoBlob w value) (SpellsBlob w value)) none decoded in
        is_none (blob_in w value) (is_said value (sym stands)).0

    pub decoded_is : (b : Blob) → found ≡ Some b → Some b ≡ blob_now w (finite.get rows (shared_key sbid)) []
    decoded_is b some =
        let spells : SpellsBlob w value b = subst (λ (x : Option Blob). MatchOption x (IsNoBlob w value) (SpellsBlob w value)) some decoded in
        ap Some (sym (read_back w value b spells)) ∙ ap (λ v. blob_now w v []) stands

  pub units_of : (ks : List ℕ) (b : Blob) → blob_now w (finite.get rows (shared_key sbid)) ks ≡ Some b → HasUnits b
  units_of ks b is = by (finite.get rows (shared_key sbid)) refl is
    where
      by : (value : Option (List ℕ)) → finite.get rows (shared_key sbid) ≡ value → blob_now w value ks ≡ Some b → HasUnits b
      by None stands is = absurd cc
      by (Some value) stands is =
          let made : record { first = from_le_bytes w32 value; slots = with_less (slots_read w value) ks } ≡ b = same_Some _ b is in
          subst HasUnits made (omega (arith, (is_said value stands).1, length-with_less (slots_read w value) ks))

  pub units_if : (found : Option Blob) → found ≡ blob_now w (finite.get rows (shared_key sbid)) [] → IfSome found HasUnits
  units_if None is = tt
  units_if (Some b) is = units_of [] b (sym is)
