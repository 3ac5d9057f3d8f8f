-- What each plan of a transaction of operations keeps and makes.
use Rattle.std.specs.Prelude.{ℕ, ◌+◌, ◌<◌, ◌≤◌, ◌^◌, List, length, Contains}
use Rattle.std.specs.List.{AllByRecursion}
use Rattle.unit_fields.specs.declared.width.Width.{Width}
use Rattle.meta_rows.specs.Prelude.{Rows}
use Rattle.meta_log.specs.declared.slot.Super.{Super}
use Rattle.meta_log.specs.Prelude.{width_of}
use Rattle.object_model.specs.Prelude.{Change, names_of}
use Rattle.store_image.specs.Prelude.{PageUnit}
use Rattle.unit_allocator.specs.Prelude.{Space, free_units}
use Rattle.plan_rows.specs.declared.plan.Plan.{Plan}
use Rattle.plan_rows.specs.Names.{IsAboveBlobs, MakesBlob}
use Rattle.plan_drafts.specs.Drafts.{IsKnown}
use Rattle.plan_drafts.specs.Plans.{AreFreeOver, Plans, fresh_units, most_units}
use Rattle.plan_drafts.specs.Asks.{AsksFor}
pub use Rattle.plan_rows.specs.Keeps.{IsGood, Suits, OwnsItsUnits, AreWhole, PlanKeeps, HoldsRead, PlanMakes}

-- The units that it takes are free, and no more than the transaction asks for at most; and the blobs that it makes over these rows have the next
-- numbers, which are below 2^62.
pub record PlanTakes (space : Space) (next : ℕ) (change : Change) (view : Rows) (plan : Plan) : Type 0 where
  pub free : AllByRecursion (λ u. Contains (free_units space) u) (fresh_units plan)
  pub within : length plan.fresh ≤ most_units change.ops
  pub few : most_units change.ops ≤ 1048576
  pub numbers : (sbid : ℕ) → MakesBlob view plan.ops sbid → (next ≤ sbid) × (sbid < next + plan.new_blobs)
  pub low : next + plan.new_blobs ≤ 2 ^ 62

-- So is each plan that the planner may make, over good rows and units that are free over them, where the next numbers of blobs are above theirs.
abbrev pub PlansKeep : Type 0
PlansKeep = (s : Super) (view : Rows) (space : Space) (next : ℕ) (change : Change) (plan : Plan) → IsGood s view → AreFreeOver s view space
    → IsAboveBlobs next view → IsKnown change.ops → Plans (width_of s) change view space next plan
    → PlanKeeps s (names_of change) view plan × (PlanMakes s change view plan × PlanTakes space next change view plan)

-- And what a transaction asks for is no more than its operations ask for at most, whatever the rows are.
abbrev pub AsksAreFew : Type 0
AsksAreFew = (w : Width) (change : Change) (rows : Rows) (need : ℕ) (places : List PageUnit) → AsksFor w change rows need places
    → need ≤ most_units change.ops
