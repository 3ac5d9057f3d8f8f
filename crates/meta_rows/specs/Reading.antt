-- Row operations read from bytes.
use Rattle.std.specs.Prelude.{◌≡◌, ◌≢◌, ℕ, ◌<◌, ◌^◌, List, ◌++◌, length}
use Rattle.meta_rows.specs.declared.row_op.RowOp.{RowOp}
use Rattle.meta_rows.specs.Spelling.{ops_bytes, AllFit}

-- a value, or a mask
abbrev pub IsValue : List ℕ → Type 0
IsValue value = length value < 2 ^ 32

-- the bytes begin with the spelling of nothing that fits
abbrev pub BeginsWithNo : {X : Type 0} → (X → Type 0) → (X → List ℕ) → List ℕ → Type 0
BeginsWithNo {X} Fitting spelling bytes = (x : X) (rest : List ℕ) → Fitting x → bytes ≢ spelling x ++ rest

-- one that fits was read from the front
pub record ReadsFront {X : Type 0} (Fitting : X → Type 0) (spelling : X → List ℕ) (old new : List ℕ) (x : X) : Type 0 where
  pub fits : Fitting x
  pub spelled : old ≡ spelling x ++ new

-- the bytes are the operations' one spelling
pub record SpellOps (bytes : List ℕ) (ops : List RowOp) : Type 0 where
  pub fit : AllFit ops
  pub spelled : bytes ≡ ops_bytes ops
