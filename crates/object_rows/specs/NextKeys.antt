-- The least key in a range of rows.
use Rattle.std.specs.Prelude.{◌≡◌, ℕ, true, List}
use Rattle.std.specs.declared.cmp.Ordering.TheVariants.{Less}
use Rattle.byte_maps.specs.ByteMap.{byte_order, in_range}
use Rattle.meta_rows.specs.Prelude.{Rows}
use Rattle.store_image.specs.Prelude.{HasKey}

-- of the keys of rows from `first` on that are below `end` it is the least
pub record IsLeastKey (rows : Rows) (first end key : List ℕ) : Type 0 where
  pub there : HasKey rows key
  pub within : in_range first end key ≡ true
  pub least : (other : List ℕ) → HasKey rows other → in_range first end other ≡ true → ¬ (byte_order other key ≡ Less)

-- no row has such a key
abbrev pub HasNoKey : Rows → List ℕ → List ℕ → Type 0
HasNoKey rows first end = (key : List ℕ) → HasKey rows key → ¬ (in_range first end key ≡ true)
