-- Changes in the order in which they came, and those of each key brought together.
use Rattle.std.specs.Prelude.{◌≡◌, ℕ, Bool, true, false, List, [], ◌∷◌, ◌++◌, Option, Some, None, if◌then◌else◌}
use Rattle.std.specs.Ordering.{is_lt}
use Rattle.std.specs.FinMap as finite
use Rattle.ordered_lists.specs.Lists.{Ascend}
use Rattle.byte_maps.specs.ByteMap.{byte_order}
use Rattle.object_model.specs.Prelude.{is_same}
use Rattle.meta_rows.specs.Prelude.{Rows}
use Rattle.meta_rows.specs.declared.row_op.RowOp.{RowOp}
use Rattle.meta_rows.specs.declared.row_op.RowOp.TheVariants.{Set, Drop}
use Rattle.row_changes.specs.declared.row_change.RowChange.{RowChange}
use Rattle.row_changes.specs.Seen.{ChangeMap}

-- changes, and these behind them: of two for one key the later counts
abbrev pub logged : ChangeMap → List RowChange → ChangeMap
logged m [] = m
logged m (c ∷ cs) = logged (finite.insert m c.key c.value) cs

-- what they make of what was seen under a key
abbrev pub last_for : List RowChange → List ℕ → Option (List ℕ) → Option (List ℕ)
last_for [] key old = old
last_for (c ∷ cs) key old = last_for cs key (if is_same c.key key then c.value else old)

-- whether a row has this value, or is missing where there is none
abbrev pub is_value : Option (List ℕ) → Option (List ℕ) → Bool
is_value (Some held) (Some value) = is_same held value
is_value None None = true
is_value held value = false

-- the operation by which a row becomes so
abbrev pub op_to : List ℕ → Option (List ℕ) → RowOp
op_to key (Some value) = Set key value
op_to key None = Drop key

-- none where it is so
abbrev pub op_unless_same : Option (List ℕ) → RowChange → List RowOp
op_unless_same held c = if is_value held c.value then [] else op_to c.key c.value ∷ []

abbrev pub op_of : Rows → RowChange → List RowOp
op_of rows c = op_unless_same (finite.get rows c.key) c

abbrev pub ops_of : Rows → List RowChange → List RowOp
ops_of rows [] = []
ops_of rows (c ∷ cs) = op_of rows c ++ ops_of rows cs

-- no key is below one before it
abbrev pub ChangesRise : List RowChange → Type 0
ChangesRise cs = Ascend (λ c later. is_lt (byte_order later.key c.key) ≡ false) cs

-- one, unless the next has its key
abbrev pub kept : RowChange → List RowChange → List RowChange
kept c [] = c ∷ []
kept c (x ∷ xs) = if is_same c.key x.key then [] else c ∷ []

-- the same of one that may be missing
abbrev pub kept_of : Option RowChange → RowChange → List RowChange
kept_of None next = []
kept_of (Some c) next = kept c (next ∷ [])

-- of those that follow one another and have one key the last
abbrev pub lasts : List RowChange → List RowChange
lasts [] = []
lasts (c ∷ cs) = kept c cs ++ lasts cs
