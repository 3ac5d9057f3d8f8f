-- The units that have owners, and those that have more than one.
use Rattle.std.specs.Prelude.{◌≡◌, ◌↔◌, ℕ, Bool, true, false, IsTrue, List, slice_index_or}
use Rattle.std.specs.FinSet as set
use Rattle.std.specs.Ordering.{nat_cmp}
use Rattle.unit_fields.specs.declared.width.Width.{Width}
use Rattle.meta_rows.specs.Prelude.{Rows}
use Rattle.row_format.specs.Row as format
use Rattle.store_image.specs.Prelude.{IsOwned, HasSoleOwner}
use Rattle.row_reading.specs.Reading.{SpellsRow}
use Rattle.row_check.specs.Marks.{Marks, row_marked, RowEndsBy}

-- the set is the units that have an owner
abbrev pub AreOwned : Width → Rows → set.FinSet nat_cmp → Type 0
AreOwned w rows units = (unit : ℕ) → IsTrue (set.contains units unit) ↔ IsOwned w rows unit

-- the set is the units that have two owners or more
abbrev pub AreShared : Width → Rows → set.FinSet nat_cmp → Type 0
AreShared w rows units = (unit : ℕ) → IsTrue (set.contains units unit) ↔ ((HasSoleOwner w rows unit) → ⊥)

-- the first marks are at the units that have an owner, and the second ones at those that have two or more
pub record MarksOwners (w : Width) (rows : Rows) (m : Marks) : Type 0 where
  pub owned : (unit : ℕ) → (slice_index_or m.owned unit false ≡ true) ↔ IsOwned w rows unit
  pub shared : (unit : ℕ) → (slice_index_or m.shared unit false ≡ true) ↔ ((HasSoleOwner w rows unit) → ⊥)

-- the marks with those of the row that a key and a value spell
abbrev pub AreMarkedOn : Width → List ℕ → List ℕ → Marks → Marks → Type 0
AreMarkedOn w key value old new = (row : format.Row) → SpellsRow w key value row → new ≡ row_marked old row

-- a key and a value spell a row, and its units are below this one
pub record SpellsRowWithin (w : Width) (key value : List ℕ) (units : ℕ) : Type 0 where
  pub row : format.Row
  pub spells : SpellsRow w key value row
  pub within : RowEndsBy units row

abbrev pub IsShard : format.Row → Type 0
IsShard row = row ≡ format.as_row (format.shard_in row)

-- whether the row that a key and a value spell is a shard
abbrev pub TellsShard : Width → List ℕ → List ℕ → Bool → Type 0
TellsShard w key value told = (row : format.Row) → SpellsRow w key value row → IsTrue told ↔ IsShard row
