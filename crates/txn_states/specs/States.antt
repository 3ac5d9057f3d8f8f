-- The states of a transaction that isn't committed, as what holds of its context.
use Rattle.std.specs.Prelude.{◌≡◌, ℕ, ◌<◌, ◌≤◌, ◌^◌, List, length}
use Rattle.plan_rows.specs.declared.plan.Plan.{Plan}
use Rattle.store_steps.specs.declared.context.Context.{Context}
use Rattle.txn_states.specs.Applied.{Applied, applied_of}

-- the context of a plan, none of whose data writes is submitted
abbrev pub prepared_context : ℕ → List ℕ → Plan → ℕ → Context
prepared_context place coll plan need = record {
  place = place;
  coll = coll;
  ops = plan.ops;
  need = need;
  fresh = plan.fresh;
  released = plan.released;
  given = 0;
  done = 0;
}

-- nothing of it was submitted, and its units can be counted
pub record NoneSubmitted (x : Context) : Type 0 where
  pub given : x.given ≡ 0
  pub done : x.done ≡ 0
  pub few : length x.fresh < 2 ^ 32

-- no more was written than was submitted, and no more was submitted than there is
pub record IsUnderWay (x : Context) : Type 0 where
  pub done : x.done ≤ x.given
  pub given : x.given ≤ length x.fresh
  pub few : length x.fresh < 2 ^ 32

-- all was submitted and written
pub record IsWritten (x : Context) : Type 0 where
  pub given : x.given ≡ length x.fresh
  pub done : x.done ≡ length x.fresh

-- what is left of it once it is committed
abbrev pub committed_of : Context → Applied
committed_of x = applied_of x.place x.ops
