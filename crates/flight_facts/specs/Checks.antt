-- What a checkpoint asks of the log.
use Rattle.std.specs.Prelude.{◌+◌, ◌≤◌, List}
use Rattle.meta_log.specs.Prelude.{AreRunsFrom, check_units}
use Rattle.store_steps.specs.declared.context.Context.{Context}
use Rattle.meta_store.specs.Store.{Meta}
use Rattle.store_steps.specs.Prelude.{sum_needs}

-- What is stale lies in the half, and the committed rows as one record leave room there for the records of all contexts that wait.
pub record HasCheckRoom (m : Meta) (pending : List Context) : Type 0 where
  pub half : m.sup.half ≤ 65536
  pub stale : AreRunsFrom 0 m.sup.half m.stale
  pub rows : check_units m.number m.rows + sum_needs pending ≤ m.sup.half
