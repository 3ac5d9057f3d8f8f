-- How wide the checksums of pages are.
use Rattle.std.specs.Prelude.{ℕ, ◌*◌}
use Rattle.unit_fields.specs.declared.width.Width.{Width}
use Rattle.unit_fields.specs.declared.width.Width.TheVariants.{FourBytes}

-- the bytes of so many checksums
abbrev pub bytes_of : Width → ℕ → ℕ
bytes_of FourBytes count = 4 * count
