-- What planning answers: a plan of a transaction that the rows take, or why there is none.
use Rattle.std.specs.Prelude.{◌≡◌, ℕ, ◌<◌, ◌≤◌, ◌^◌, List}
use Rattle.unit_fields.specs.declared.width.Width.{Width}
use Rattle.object_model.specs.Prelude.{Change}
use Rattle.object_model.specs.declared.command.Command.TheVariants as ask
use Rattle.meta_rows.specs.Prelude.{Rows}
use Rattle.meta_log.specs.declared.slot.Super.{Super}
use Rattle.meta_log.specs.Prelude.{width_of}
use Rattle.store_image.specs.Prelude.{PageUnit}
use Rattle.read_facts.specs.Prelude.{IsRefusedBy, IsNotRefused}
use Rattle.plan_rows.specs.declared.plan.Plan.{Plan}
use Rattle.unit_allocator.specs.Prelude.{Space}
use Rattle.unit_allocator.specs.declared.allocator.TakeFail.{TakeFail}
use Rattle.unit_allocator.specs.declared.allocator.TakeFail.TheVariants as take
use Rattle.plan_drafts.specs.Prelude.{places_of, AreFreeOver, Plans, AsksFor}
use Rattle.store_steps.specs.Prelude.{free_count}
use Rattle.txn_planner.specs.declared.fails.PlanFail.{PlanFail}
use Rattle.txn_planner.specs.declared.fails.PlanFail.TheVariants as fail

-- why there is no plan, where the units aren't found
abbrev pub plan_fail_of : TakeFail → PlanFail
plan_fail_of (take.NoSpace need free) = fail.NoSpace need free
plan_fail_of take.Memory = fail.Memory

-- Plain objects of the rows' shape don't refuse the transaction. This is its plan, over the old bytes of these places, where no row is bad and the
-- free units are owned by nobody, whatever the next number of a blob is: then its operations are the difference of the rows.
pub record IsPlanFor (w : Width) (change : Change) (rows : Rows) (space : Space) (places : List PageUnit) (plan : Plan) : Type 0 where
  pub not_refused : IsNotRefused rows (ask.Change change)
  pub plans : (s : Super) (next : ℕ) → width_of s ≡ w → AreFreeOver s rows space → next ≤ 2 ^ 62
      → (plans : Plans w change rows space next plan) × (places ≡ places_of change.ops plans.start)

-- why there is no plan; want of memory comes of nothing that a clause sees
abbrev pub IsPlanFail : Width → Change → Rows → Space → PlanFail → Type 0
IsPlanFail w change rows space (fail.Refusal refusal) = IsRefusedBy rows (ask.Change change) refusal
IsPlanFail w change rows space (fail.NoSpace need free) =
    IsNotRefused rows (ask.Change change) × ((places : List PageUnit) × AsksFor w change rows need places) × (free ≡ free_count space) × (free < need)
IsPlanFail w change rows space fail.Memory = Unit {0}
