-- Drafts of plans: what is known of a transaction before the old bytes are read that its plan needs.
use Rattle.std.specs.Prelude.{◌≡◌, ◌≤◌, ℕ, List, length, take, Option, false}
use Rattle.unit_fields.specs.Prelude.{IsCollName}
use Rattle.unit_fields.specs.declared.width.Width.{Width}
use Rattle.object_model.specs.Prelude.{Change, is_too_large}
use Rattle.object_model.specs.declared.command.Command.TheVariants as ask
use Rattle.meta_rows.specs.Prelude.{Rows}
use Rattle.store_image.specs.Prelude.{PageUnit}
use Rattle.read_facts.specs.Prelude.{IsNotRefused}
use Rattle.plan_drafts.specs.Prelude.{Layout, IsKnown, AreRefused, AsksFor}
use Rattle.unit_allocator.specs.Prelude.{Space, free_units}
use Rattle.store_steps.specs.Prelude.{free_count}
use Rattle.txn_planner.specs.declared.drafts.TxnDraft.{TxnDraft}
use Rattle.txn_planner.specs.declared.fails.PlanFail.{PlanFail}
use Rattle.txn_planner.specs.declared.fails.PlanFail.TheVariants as fail
use Rattle.txn_planner.specs.Planning.{first_draft, IsGround, PlannedTo}

-- where the pages stand whose old bytes the plan needs
abbrev pub places_in : TxnDraft → List PageUnit
places_in draft = draft.planning.places.items

-- Plain objects don't refuse the transaction, all its operations are planned, and these are the lowest free units, one for each taking.
pub record IsDraftFor (w : Width) (change : Change) (rows : Rows) (space : Space) (draft : TxnDraft) : Type 0 where
  pub coll : IsCollName change.coll
  pub known : IsKnown change.ops
  pub small : is_too_large change ≡ false
  pub not_refused : IsNotRefused rows (ask.Change change)
  pub asks : AsksFor w change rows draft.planning.taken (places_in draft)
  pub enough : draft.planning.taken ≤ free_count space
  pub planned : PlannedTo w change rows (length change.ops) draft.planning
  pub units : draft.units.items ≡ take draft.planning.taken (free_units space)

-- why an operation of the transaction isn't planned: it is the first that is refused, or memory ran out
abbrev pub IsPlanRefused : Width → Change → Rows → PlanFail → Type 0
IsPlanRefused w change rows (fail.Refusal refusal) =
    (layouts : List ℕ → Option Layout) → IsGround w change rows layouts → AreRefused change.ops (first_draft w rows change.coll layouts) refusal
IsPlanRefused w change rows (fail.NoSpace need free) = ⊥
IsPlanRefused w change rows fail.Memory = Unit {0}
