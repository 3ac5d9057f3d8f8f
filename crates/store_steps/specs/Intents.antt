-- What accepted transactions are to do, however far they are, and the rows with those of some of them.
use Rattle.std.specs.Prelude.{◌≡◌, ◌↔◌, ℕ, ◌+◌, ◌<◌, ◌≤◌, ◌==◌, Bool, true, List, [], ◌∷◌, ◌++◌, map, None, count_by, Contains}
use Rattle.std.specs.List.{flat_map, AllByRecursion}
use Rattle.meta_rows.specs.Prelude.{Rows, rows_after}
use Rattle.meta_rows.specs.declared.row_op.RowOp.{RowOp}
use Rattle.meta_log.specs.declared.slot.Super.{Super}
use Rattle.object_model.specs.Prelude.{is_named}
use Rattle.store_image.specs.Prelude.{IsDataUnit, IsMarked, IsBusy}
use Rattle.unit_allocator.specs.Prelude.{Space, is_idle, holds_of}
use Rattle.selections.specs.Fair.{IsFair}
use Rattle.plan_rows.specs.declared.plan.FreshUnit.{FreshUnit}
use Rattle.plan_rows.specs.declared.plan.Plan.{Plan}
use Rattle.plan_rows.specs.Prelude.{fresh_units, AreAtHome, IsAboveBlobs, ChangesBlob, MakesBlob, AreOf, PlanKeeps}
use Rattle.row_format.specs.Prelude.{shared_key}
use Rattle.std.specs.FinMap as finite
use Rattle.unit_fields.specs.declared.width.Width.{Width}
use Rattle.store_steps.specs.declared.context.Context.{Context}

-- what an accepted transaction is to do
pub record Intent : Type 0 where
  pub place : ℕ
  pub coll : List ℕ
  pub ops : List RowOp
  pub need : ℕ
  pub fresh : List FreshUnit
  pub released : List ℕ

abbrev pub intent_of : Context → Intent
intent_of x = record { place = x.place; coll = x.coll; ops = x.ops; need = x.need; fresh = x.fresh; released = x.released }

abbrev pub intents : List Context → List Intent
intents xs = map intent_of xs

-- the collections that it changes
abbrev pub names_in : Intent → List (List ℕ)
names_in x = x.coll ∷ []

abbrev pub is_in : List ℕ → Intent → Bool
is_in c x = is_named c (names_in x)

-- what it was planned to be, but for the old bytes that were read for it and how many blobs it makes
abbrev pub plan_of : Intent → Plan
plan_of x = record { ops = x.ops; fresh = x.fresh; released = x.released; read = []; new_blobs = 0 }

-- rows with the operations of intents, one after another
abbrev pub rows_by : Rows → List Intent → Rows
rows_by rows [] = rows
rows_by rows (x ∷ xs) = rows_by (rows_after rows x.ops) xs

-- the operations, and the units that they took and that they release
abbrev pub ops_by : List Intent → List RowOp
ops_by xs = flat_map (λ x. x.ops) xs

abbrev pub taken_by : List Intent → List ℕ
taken_by xs = flat_map (λ x. fresh_units (plan_of x)) xs

abbrev pub released_by : List Intent → List ℕ
released_by xs = flat_map (λ x. x.released) xs

abbrev pub needs_by : List Intent → ℕ
needs_by [] = 0
needs_by (x ∷ xs) = x.need + needs_by xs

-- ---- what is known of them

-- the intent is a plan over these rows, and its units aren't marked in them
pub record IsPlannedOver (sup : Super) (rows : Rows) (x : Intent) : Type 0 where
  pub keeps : PlanKeeps sup (names_in x) rows (plan_of x)
  pub unmarked : AllByRecursion (λ u. ¬ IsMarked rows u) (fresh_units (plan_of x))

-- Each is planned over the rows that the committed ones and those before it in any fair selection make.
abbrev pub EachIsPlanned : Super → Rows → List Intent → Type 0
EachIsPlanned sup rows xs = (some : List Intent) (x : Intent) → IsFair is_in xs (some ++ x ∷ []) → IsPlannedOver sup (rows_by rows some) x

-- what they took isn't marked in the committed rows, and was taken once
pub record AreTakenApart (rows : Rows) (xs : List Intent) : Type 0 where
  pub unmarked : AllByRecursion (λ u. ¬ IsMarked rows u) (taken_by xs)
  pub apart : (unit : ℕ) → count_by (λ u. u == unit) (taken_by xs) ≤ 1

-- Each blob has a home: that of one which shards of the committed rows name is their collection, and that of one whose row an intent changes is
-- among its collections.
pub record HaveHomes (w : Width) (rows : Rows) (xs : List Intent) : Type 0 where
  pub home : ℕ → List ℕ
  pub named : AreAtHome w home rows
  pub changed : AllByRecursion (λ x. AreOf home (names_in x) (fresh_units (plan_of x)) x.released x.ops) xs

-- the number is above those of all blobs that have rows, and of those whose rows they change
pub record AreBlobsBelow (next : ℕ) (rows : Rows) (xs : List Intent) : Type 0 where
  pub held : IsAboveBlobs next rows
  pub changed : AllByRecursion (λ x. (sbid : ℕ) → ChangesBlob x.ops sbid → sbid < next) xs

-- a data unit is idle exactly where it isn't busy
abbrev pub SpaceIsCounted : Super → Rows → List Intent → Space → Type 0
SpaceIsCounted sup rows xs space = (unit : ℕ) → IsDataUnit sup unit
    → (is_idle space unit ≡ true) ↔ (¬ IsBusy rows (map (λ x. fresh_units (plan_of x)) xs) unit)

-- How many hold a unit by the rows of the store: the deferred rows that name the unit. There are none yet.
unfoldable pub holds_in : Rows → ℕ → ℕ
holds_in rows unit = 0

-- A data unit is held by as many as the rows say. These are the submitted rows: a deferred row holds the units that it names from when its
-- transaction is accepted until it is dropped.
abbrev pub HoldsAreCounted : Super → Rows → Space → Type 0
HoldsAreCounted sup submitted space = (unit : ℕ) → IsDataUnit sup unit → holds_of space unit ≡ holds_in submitted unit

-- A plan over the submitted rows, whose units aren't marked in the committed ones and taken by none. The blobs that it makes have no rows among the
-- committed ones, and none changes such a row.
pub record CanJoin (sup : Super) (rows : Rows) (xs : List Intent) (x : Intent) : Type 0 where
  pub keeps : PlanKeeps sup (names_in x) (rows_by rows xs) (plan_of x)
  pub unmarked : AllByRecursion (λ u. ¬ IsMarked rows u) (fresh_units (plan_of x))
  pub untaken : AllByRecursion (λ u. ¬ Contains (taken_by xs) u) (fresh_units (plan_of x))
  pub unmade : (sbid : ℕ) → MakesBlob (rows_by rows xs) x.ops sbid
      → (finite.get rows (shared_key sbid) ≡ None) × AllByRecursion (λ y. ¬ ChangesBlob y.ops sbid) xs
