-- Which operations plans know, and the units that a plan takes.
use Rattle.std.specs.Prelude.{◌≡◌, ℕ, ◌<◌, List, [], length, map, Any, Contains, slice_index}
use Rattle.std.specs.List.{AllByRecursion}
use Rattle.object_model.specs.declared.op.Op.{Op}
use Rattle.object_model.specs.declared.op.Op.TheVariants.{Touch, Write, Zero, Truncate, Remove, SetAttr, RmAttr, RmAttrs, Clone, CloneRange, OmapSet, OmapRm, OmapRmRange, OmapClear, OmapHeader}
use Rattle.unit_fields.specs.Prelude.{IsName}
use Rattle.meta_rows.specs.Prelude.{Rows}
use Rattle.meta_log.specs.declared.slot.Super.{Super}
use Rattle.meta_log.specs.Prelude.{IsSuper, width_of}
use Rattle.store_image.specs.Prelude.{NoBadRow, IsDataUnit, IsOwned, IsMarked}
use Rattle.unit_allocator.specs.Prelude.{Space, free_units}
use Rattle.plan_rows.specs.declared.plan.Plan.{Plan}

-- the operations that the store knows so far: all but clones
abbrev pub IsKnownOp : Op → Type 0
IsKnownOp (Clone o to) = ⊥
IsKnownOp (CloneRange o to src len dst) = ⊥
IsKnownOp op = Unit {0}

-- the object that it is on
abbrev pub object_of : Op → List ℕ
object_of (Touch o) = o
object_of (Write o off bytes) = o
object_of (Zero o off len) = o
object_of (Truncate o to) = o
object_of (Remove o) = o
object_of (SetAttr o name value) = o
object_of (RmAttr o name) = o
object_of (RmAttrs o) = o
object_of (OmapSet o pairs) = o
object_of (OmapRm o keys) = o
object_of (OmapRmRange o first last) = o
object_of (OmapClear o) = o
object_of (OmapHeader o value) = o
object_of op = []

-- the names and keys that it gives are names
abbrev pub HasNames : Op → Type 0
HasNames (SetAttr o name value) = IsName name
HasNames (RmAttr o name) = IsName name
HasNames (OmapSet o pairs) = AllByRecursion (λ p. IsName p.key) pairs
HasNames (OmapRm o keys) = AllByRecursion IsName keys
HasNames op = Unit {0}

-- The superblock is within its limits, no row is bad, and each free unit is a data unit that nobody owns and whose bit is 0.
pub record AreFreeOver (s : Super) (rows : Rows) (space : Space) : Type 0 where
  pub limits : IsSuper s
  pub good : NoBadRow s rows
  pub free : (unit : ℕ) → Contains (free_units space) unit → IsDataUnit s unit × (¬ IsOwned (width_of s) rows unit) × (¬ IsMarked rows unit)

-- the fresh units hold their bytes
abbrev pub HoldsFresh : (ℕ → List ℕ) → Plan → Type 0
HoldsFresh at plan = AllByRecursion (λ f. at f.unit ≡ f.bytes) plan.fresh

-- the unit is one of the fresh ones
abbrev pub IsFreshUnit : Plan → ℕ → Type 0
IsFreshUnit plan unit = Any (λ f. f.unit ≡ unit) plan.fresh

-- the unit stands at most once in the list
abbrev pub StandsOnce : List ℕ → ℕ → Type 0
StandsOnce units unit = (i j : ℕ) → i < length units → j < length units → slice_index units i ≡ unit → slice_index units j ≡ unit → i ≡ j

-- the fresh units alone
abbrev pub fresh_units : Plan → List ℕ
fresh_units plan = map (λ f. f.unit) plan.fresh
