-- A transaction that can be accepted.
use Rattle.std.specs.Prelude.{◌≡◌, ◌≤◌}
use Rattle.block_device.specs.Prelude.{Disk}
use Rattle.object_model.specs.Prelude.{Change}
use Rattle.object_model.specs.declared.command.Command.TheVariants as ask
use Rattle.meta_log.specs.Prelude.{width_of}
use Rattle.read_facts.specs.Prelude.{IsNotRefused}
use Rattle.plan_rows.specs.declared.plan.Plan.{Plan}
use Rattle.store_steps.specs.Prelude.{State, need_of, room_of, IsReadNow}
use Rattle.plan_drafts.specs.Prelude.{places_of, Plans}
use Rattle.store_kernel.specs.declared.prepared.PreparedTxn.{PreparedTxn}

-- plain objects of the submitted rows' shape don't refuse the transaction, and this is its plan, over old bytes that were read of places of which none is bad
pub record IsPlanOf (change : Change) (s : State) (d : Disk) (plan : Plan) : Type 0 where
  pub not_refused : IsNotRefused s.submitted (ask.Change change)
  pub plans : Plans (width_of s.log.sup) change s.submitted s.space s.next_sbid plan
  pub read : IsReadNow s d (places_of change.ops plans.start) plan

-- what it needs fits, and the copies are copies
pub record IsPrepared (ready : PreparedTxn) (change : Change) (s : State) (d : Disk) : Type 0 where
  pub plan : IsPlanOf change s d ready.plan
  pub need : ready.need ≡ need_of s.log ready.plan
  pub fits : need_of s.log ready.plan ≤ room_of s.log
  pub copy : ready.copy ≡ ready.plan.ops
  pub coll : ready.coll ≡ change.coll
