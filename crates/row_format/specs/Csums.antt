-- The checksums that extents keep of their pages, by their width.
use Rattle.std.specs.Prelude.{ℕ, ◌<◌, ◌^◌, List}
use Rattle.std.specs.Int.{w32, to_le_bytes, from_le_bytes}
use Rattle.unit_fields.specs.declared.width.Width.{Width}
use Rattle.unit_fields.specs.declared.width.Width.TheVariants.{FourBytes}

-- its spelling
abbrev pub csum_bytes : Width → ℕ → List ℕ
csum_bytes FourBytes csum = to_le_bytes w32 csum

-- the checksum in the first bytes
unfoldable pub csum_in : Width → List ℕ → ℕ
csum_in FourBytes bytes = from_le_bytes w32 bytes

-- it has a spelling
abbrev pub FitsCsum : Width → ℕ → Type 0
FitsCsum FourBytes csum = csum < 2 ^ 32
