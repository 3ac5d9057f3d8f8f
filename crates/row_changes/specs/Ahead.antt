-- Rows from some key on, among which those of greater keys are looked for.
use Rattle.std.specs.Prelude.{◌≡◌, ℕ, T, true, false, List, [], ◌∷◌, Option, Some, None}
use Rattle.std.specs.Ordering.{is_lt, is_gt}
use Rattle.std.specs.FinMap as finite
use Rattle.std.specs.FinMap.{find, is_sorted}
use Rattle.byte_maps.specs.ByteMap.{byte_order}
use Rattle.meta_rows.specs.Prelude.{Rows}
use Rattle.row_changes.specs.declared.row_change.RowChange.{RowChange}

-- there is a row, and the first one's key is below this one
abbrev pub IsFirstBelow : List ℕ → List (List ℕ × List ℕ) → Type 0
IsFirstBelow key [] = ⊥
IsFirstBelow key (e ∷ es) = is_lt (byte_order e.0 key) ≡ true

-- of rows in order some went, which are below this key
pub record AreLeft (key : List ℕ) (old new : List (List ℕ × List ℕ)) : Type 0 where
  pub sorted : T (is_sorted byte_order new)
  pub same : (other : List ℕ) → is_gt (byte_order key other) ≡ false → find byte_order other new ≡ find byte_order other old

-- the rows of this key and of all greater ones are among these, if there are such
abbrev pub LieAhead : Rows → Option (List (List ℕ × List ℕ)) → List ℕ → Type 0
LieAhead rows None key = Unit {0}
LieAhead rows (Some es) key =
    T (is_sorted byte_order es) × ((other : List ℕ) → is_gt (byte_order key other) ≡ false → find byte_order other es ≡ finite.get rows other)

-- the same of the key of a change; before the first one nothing was looked for
abbrev pub LieAheadOf : Rows → Option (List (List ℕ × List ℕ)) → Option RowChange → Type 0
LieAheadOf rows ahead None = ahead ≡ None
LieAheadOf rows ahead (Some c) = LieAhead rows ahead c.key
