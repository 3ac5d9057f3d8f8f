-- What an operation makes of the changes of values.
use Rattle.std.specs.Prelude.{◌≡◌, ◌≢◌, ◌⊎◌, ℕ, List, Some, None}
use Rattle.std.specs.FinMap as finite
use Rattle.unit_fields.specs.Prelude.{IsName, IsCollName}
use Rattle.object_model.specs.declared.op.Op.{Op}
use Rattle.object_model.specs.declared.op.Pair.{Pair}
use Rattle.meta_rows.specs.Prelude.{Rows}
use Rattle.meta_log.specs.declared.slot.Super.{Super}
use Rattle.row_format.specs.Prelude.{omap_key}
use Rattle.store_image.specs.Prelude.{NoBadRow}
use Rattle.plan_rows.specs.Prelude.{ValueKey, value_key, IsValueKey, IsKeyOfValue, value_after}
use Rattle.row_changes.specs.Prelude.{ChangeMap, value_seen, IsChanged}

-- no row is bad, for the sizes of some superblock
abbrev pub NoneBad : Rows → Type 0
NoneBad rows = (s : Super) × NoBadRow s rows

-- the names of a collection and of an object are names
abbrev pub AreNames : List ℕ → List ℕ → Type 0
AreNames c o = IsCollName c × IsName o

-- each key that is changed is that of a value of a named object in the collection
abbrev pub AreOfValues : List ℕ → ChangeMap → Type 0
AreOfValues c changes = (key : List ℕ) → IsChanged changes key → (o : List ℕ) × IsName o × IsKeyOfValue c o key

-- What an operation on an object makes of changes: of each of the object's values what is seen becomes what the operation makes of it, what is seen
-- of another object's stays, and a key that isn't of a value of the object is changed as before. So all are still of values.
pub record ChangesValues (op : Op) (rows : Rows) (c o : List ℕ) (old new : ChangeMap) : Type 0 where
  pub own : (k : ValueKey) → IsValueKey k → value_seen rows new (value_key c o k) ≡ value_after op k (value_seen rows old (value_key c o k))
  pub apart : (other : List ℕ) (k : ValueKey) → IsName other → IsValueKey k → other ≢ o
      → value_seen rows new (value_key c other k) ≡ value_seen rows old (value_key c other k)
  pub others : (key : List ℕ) → IsKeyOfValue c o key ⊎ (finite.get new key ≡ finite.get old key)
  pub still : AreOfValues c old → AreOfValues c new

-- a pair of the omap is set, or its key goes
abbrev pub with_pair : List ℕ → List ℕ → Pair → ChangeMap → ChangeMap
with_pair c o p changes = finite.insert changes (omap_key c o p.key) (Some p.value)

abbrev pub without_key : List ℕ → List ℕ → List ℕ → ChangeMap → ChangeMap
without_key c o key changes = finite.insert changes (omap_key c o key) None
