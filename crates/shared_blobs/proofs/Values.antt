-- The value of a blob's row.
use Rattle.std.proofs.Common.{◌≡◌, ℕ, List, Option, None, MatchOption, refl, subst}
use Rattle.unit_fields.specs.declared.width.Width.{Width}
use Rattle.row_format.specs.Prelude.{shared_key, blob}
use Rattle.row_reading.specs.Reading.{format_row, SpellsRow, IsNoRow}
use Rattle.row_reading.specs.declared.row.Row as row
use Rattle.shared_blobs.specs.Blob.{IsNoBlob}

-- one of which no row is read is of no blob
pub none_read : (w : Width) (value : List ℕ) (found : Option row.Row)
    → MatchOption found (IsNoRow w (shared_key 0) value) (λ r. SpellsRow w (shared_key 0) value (format_row r value)) → found ≡ None → IsNoBlob w value
none_read w value found read is b spells =
    let none : IsNoRow w (shared_key 0) value =
    subst (λ (x : Option row.Row). MatchOption x (IsNoRow w (shared_key 0) value) (λ r. SpellsRow w (shared_key 0) value (format_row r value))) is read in
    none (blob 0 b.first b.slots) (record { fits = spells.fits; key_is = refl; value_is = spells.is })
