-- The extents that the values of rows spell.
use Rattle.std.specs.Prelude.{ℕ, List}
use Rattle.std.specs.List.{flat_map}
use Rattle.unit_fields.specs.declared.width.Width.{Width}
use Rattle.row_format.specs.Prelude.{Extent}
unfoldable pub use Rattle.row_format.specs.Csums.{csum_in}
unfoldable pub use Rattle.row_format.specs.ExtentReading.{first_in, count_in, is_shared_in, unit_in, sbid_in, slot_number_in, extents_read}
pub use Rattle.row_format.specs.ExtentReading.{csums_in, size_in, body_in, extent_in, extents_by}

-- those of the values of rows, one row's behind the other's
unfoldable pub rows_read : Width → List (List ℕ × List ℕ) → List Extent
rows_read w rows = flat_map (λ (row : List ℕ × List ℕ). extents_read w row.1) rows
