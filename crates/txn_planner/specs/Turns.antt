-- Sets of units whose bits are turned.
use Rattle.std.specs.Prelude.{◌≡◌, ◌↔◌, ◌⊎◌, ℕ, List, ◌++◌, Contains}
use Rattle.meta_rows.specs.declared.row_op.RowOp.{RowOp}
use Rattle.plan_drafts.specs.Prelude.{TurnsBits}
use Rattle.bitmap_freelist.specs.Bitmap.{Units, Has}

-- the set got these units, and no others
abbrev pub GetsUnits : List ℕ → Units → Units → Type 0
GetsUnits us old new = (unit : ℕ) → Has new unit ↔ (Has old unit ⊎ Contains us unit)

-- The operations got those behind them that turn the bits of the units that are taken and of those that are released.
pub record GetTurns (taken released : List ℕ) (old new : List RowOp) : Type 0 where
  pub flips : List RowOp
  pub new_is : new ≡ old ++ flips
  pub turns : TurnsBits taken released flips
