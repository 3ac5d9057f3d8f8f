-- Extents as they are read from bytes.
use Rattle.std.proofs.Common.{◌≡◌, ℕ, List, ap, ◌∙◌}
use Rattle.unit_fields.specs.declared.width.Width.{Width}
use Rattle.row_format.specs.Prelude.{Extent}
use Rattle.onode_codec.specs.Reading.{SpellExtents}
use Rattle.page_lookup.specs.Prelude.{extents_read}
pub use Rattle.row_format.proofs.ExtentReading.{read_none, read_more, csum_of, length-csums_in, read_all}

-- from a spelling of extents these are read
pub read_spelled : (w : Width) (bytes : List ℕ) (es : List Extent) → SpellExtents w bytes es → extents_read w bytes ≡ es
read_spelled w bytes es spells = ap (extents_read w) spells.spelled ∙ read_all w es spells.fit
