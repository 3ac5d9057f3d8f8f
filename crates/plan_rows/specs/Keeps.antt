-- What each plan keeps and makes, whatever its operations are: all that is known of a plan above this crate.
use Rattle.std.specs.Prelude.{◌≡◌, ◌⊎◌, ℕ, List, length, Contains, Ok}
use Rattle.std.specs.List.{AllByRecursion}
use Rattle.unit_fields.specs.Prelude.{Ascends}
use Rattle.unit_fields.specs.declared.width.Width.{Width}
use Rattle.meta_rows.specs.Prelude.{Rows, rows_after, AllFit}
use Rattle.meta_log.specs.declared.slot.Super.{Super}
use Rattle.meta_log.specs.Prelude.{width_of}
use Rattle.object_model.specs.Prelude.{Objects, Change, names_of, transaction_effect}
use Rattle.store_image.specs.Prelude.{HasPage, NoBadRow, IsDataUnit, IsOwned, IsMarked, IsExactAs, IsShape, ObjectsStand}
use Rattle.plan_rows.specs.declared.plan.FreshUnit.{FreshUnit}
use Rattle.plan_rows.specs.declared.plan.Plan.{Plan}
use Rattle.plan_rows.specs.Plans.{HoldsFresh, StandsOnce, fresh_units}
use Rattle.plan_rows.specs.Names.{AreAtHome, AreAtHomeIn, AreMadeAt, AgreeOn, AgreeOnBlobs, AreOf}

-- no row is bad, and the bitmap is exactly the owned units and what is leaked
pub record IsGood (s : Super) (rows : Rows) : Type 0 where
  pub good : NoBadRow s rows
  pub exact : IsExactAs (width_of s) rows rows

-- Rows in which all that the plan looked at is as in those that it was made over: the rows of its collections and of their blobs, and of the
-- blobs that it changes or makes; and none of the units that it takes is marked.
pub record Suits (w : Width) (names : List (List ℕ)) (view : Rows) (plan : Plan) (rows : Rows) : Type 0 where
  pub agree : AgreeOn w names rows view
  pub blobs : AgreeOnBlobs plan.ops rows view
  pub unmarked : AllByRecursion (λ u. ¬ IsMarked rows u) (fresh_units plan)

-- What a plan changes of the owned units: it gives owners to those that it takes, and leaves those that it releases, each once, without any.
pub record OwnsItsUnits (w : Width) (before after : Rows) (plan : Plan) : Type 0 where
  pub new : (u : ℕ) → IsOwned w after u → IsOwned w before u ⊎ Contains (fresh_units plan) u
  pub left : (u : ℕ) → IsOwned w before u → IsOwned w after u ⊎ Contains plan.released u
  pub taken : (u : ℕ) → Contains (fresh_units plan) u → IsOwned w after u
  pub was : (u : ℕ) → Contains plan.released u → IsOwned w before u
  pub gone : (u : ℕ) → Contains plan.released u → ¬ IsOwned w after u
  pub once : (u : ℕ) → StandsOnce plan.released u

-- data units, ascending, each with 4096 bytes
pub record AreWhole (s : Super) (fresh : List FreshUnit) : Type 0 where
  pub on_data : AllByRecursion (λ f. IsDataUnit s f.unit) fresh
  pub whole : AllByRecursion (λ f. length f.bytes ≡ 4096) fresh

-- Its operations are on rows of its collections, on those of blobs at home there, and on the bits of its units, and have spellings. Over all rows
-- that suit it, of which none is bad and whose bitmap is exact, it leaves such rows, in which blobs are at home where they were, or where it makes
-- them; and it owns its units then.
pub record PlanKeeps (s : Super) (names : List (List ℕ)) (view : Rows) (plan : Plan) : Type 0 where
  pub of : (home : ℕ → List ℕ) → AreAtHomeIn (width_of s) home names view → AreMadeAt home names view plan.ops
      → AreOf home names (fresh_units plan) plan.released plan.ops
  pub fit : AllFit plan.ops
  pub fresh : AreWhole s plan.fresh
  pub ascend : Ascends (fresh_units plan)
  pub good : (rows : Rows) → Suits (width_of s) names view plan rows → IsGood s rows → NoBadRow s (rows_after rows plan.ops)
  pub exact : (rows : Rows) → Suits (width_of s) names view plan rows → IsGood s rows → IsExactAs (width_of s) rows (rows_after rows plan.ops)
  pub home : (home : ℕ → List ℕ) (rows : Rows) → Suits (width_of s) names view plan rows → IsGood s rows → AreAtHome (width_of s) home rows
      → AreMadeAt home names view plan.ops → AreAtHome (width_of s) home (rows_after rows plan.ops)
  pub owns : (rows : Rows) → Suits (width_of s) names view plan rows → IsGood s rows → OwnsItsUnits (width_of s) rows (rows_after rows plan.ops) plan

-- the units whose old bytes are in the pages that it writes hold these
abbrev pub HoldsRead : (ℕ → List ℕ) → Plan → Type 0
HoldsRead at plan = AllByRecursion (λ r. at r.unit ≡ r.bytes) plan.read

-- Over all such rows it makes what the transaction makes of the objects that they stand for, which don't refuse it: the shape whatever units
-- hold, and the bytes where the fresh units hold theirs and those on which pages stood hold what they held.
pub record PlanMakes (s : Super) (change : Change) (view : Rows) (plan : Plan) : Type 0 where
  pub accepts : (rows : Rows) (o : Objects) → Suits (width_of s) (names_of change) view plan rows → IsGood s rows → IsShape rows o
      → (after : Objects) × (transaction_effect change o ≡ Ok after)
  pub shape : (rows : Rows) (o after : Objects) → Suits (width_of s) (names_of change) view plan rows → IsGood s rows → IsShape rows o
      → transaction_effect change o ≡ Ok after → IsShape (rows_after rows plan.ops) after
  pub bytes : (rows : Rows) (o after : Objects) (at later_at : ℕ → List ℕ) → Suits (width_of s) (names_of change) view plan rows → IsGood s rows
      → ObjectsStand (width_of s) at rows o → transaction_effect change o ≡ Ok after → HoldsRead at plan → HoldsFresh later_at plan
      → ((unit : ℕ) → HasPage (width_of s) rows unit → later_at unit ≡ at unit)
      → ObjectsStand (width_of s) later_at (rows_after rows plan.ops) after
