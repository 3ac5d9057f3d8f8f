-- The rows of the freelist's bitmap, and the row operations that turn bits of it.
use Rattle.std.specs.Prelude.{◌≡◌, ◌≢◌, ◌↔◌, ◌⊎◌, ℕ, suc, ◌/◌, ◌^◌, ◌<◌, ◌≤◌, false, List, [], ◌∷◌, ◌++◌, length, IsTrue, Some}
use Rattle.std.specs.Ordering.{nat_cmp}
use Rattle.std.specs.FinMap as map
use Rattle.std.specs.FinSet as set
use Rattle.meta_rows.specs.Prelude.{Rows, all_zero, AllFit}
use Rattle.meta_rows.specs.declared.row_op.RowOp.{RowOp}
use Rattle.meta_rows.specs.declared.row_op.RowOp.TheVariants.{Flip}
use Rattle.row_format.specs.Prelude.{bitmap_key, bit_in}
use Rattle.store_image.specs.Prelude.{IsMarked}

-- a finite set of units
abbrev pub Units : Type 0
Units = set.FinSet nat_cmp

-- the unit is in the set
abbrev pub Has : Units → ℕ → Type 0
Has units unit = IsTrue (set.contains units unit)

-- The mask turns exactly the bits of those of these units that are of row r.
pub record IsMaskOf (units : Units) (r : ℕ) (mask : List ℕ) : Type 0 where
  pub size : length mask ≡ 16
  pub bits : (unit : ℕ) → unit / 128 ≡ r → (bit_in mask unit ≡ 1) ↔ Has units unit

-- Row r is the first one from `from` on that has one of these units, and the operation turns exactly their bits in it.
pub record IsFlipOfNext (units : Units) (from r : ℕ) (op : RowOp) : Type 0 where
  pub mask : List ℕ
  pub is : op ≡ Flip (bitmap_key r) mask
  pub exact : IsMaskOf units r mask
  pub below : r < 33554432
  pub from_there : from ≤ r
  pub some : (unit : ℕ) × Has units unit × (unit / 128 ≡ r)
  pub first : (unit : ℕ) → Has units unit → from ≤ unit / 128 → r ≤ unit / 128

-- one operation for each row from `from` on that has one of these units, in the order of the rows
abbrev pub AreFlipsFrom : Units → ℕ → List RowOp → Type 0
AreFlipsFrom units from [] = (unit : ℕ) → Has units unit → unit / 128 < from
AreFlipsFrom units from (op ∷ ops) = (r : ℕ) × IsFlipOfNext units from r op × AreFlipsFrom units (suc r) ops

-- the operations that turn exactly the bits of these units: one for each row that has one of them, in the order of the rows
abbrev pub AreFlips : Units → List RowOp → Type 0
AreFlips units ops = AreFlipsFrom units 0 ops

-- The operations got those behind them that turn the bits of these units, which can be spelled.
pub record GetFlips (units : Units) (old new : List RowOp) : Type 0 where
  pub flips : List RowOp
  pub new_is : new ≡ old ++ flips
  pub are_flips : AreFlips units flips
  pub fit : AllFit flips

-- a row of the table: the bits of 128 units that are below 2 ^ 32
pub record IsBitmapRow (key value : List ℕ) : Type 0 where
  pub row : ℕ
  pub below : row < 33554432
  pub key_is : key ≡ bitmap_key row
  pub size : length value ≡ 16

-- each row whose key begins with "b" is one of the table
abbrev pub AreBitmapRows : Rows → Type 0
AreBitmapRows rows = (rest value : List ℕ) → map.get rows (0x62 ∷ rest) ≡ Some value → IsBitmapRow (0x62 ∷ rest) value

-- no row of the table has zeros alone
abbrev pub NoneIsZero : Rows → Type 0
NoneIsZero rows = (r : ℕ) (value : List ℕ) → map.get rows (bitmap_key r) ≡ Some value → all_zero value ≡ false

-- the key is none of the table
abbrev pub IsOtherKey : List ℕ → Type 0
IsOtherKey key = (r : ℕ) → r < 33554432 → key ≢ bitmap_key r

-- the rows are the same, but for those of the table
abbrev pub AreAlikeButBits : Rows → Rows → Type 0
AreAlikeButBits rows other = (key : List ℕ) → IsOtherKey key → map.get other key ≡ map.get rows key

-- exactly one of two holds
abbrev pub ExactlyOne : Type 0 → Type 0 → Type 0
ExactlyOne A B = (A × (¬ B)) ⊎ ((¬ A) × B)

-- the set has the units below 2 ^ 32 whose bits are 1, and no others
abbrev pub AreMarked : Rows → Units → Type 0
AreMarked rows units = (unit : ℕ) → Has units unit ↔ ((unit < 2 ^ 32) × IsMarked rows unit)
