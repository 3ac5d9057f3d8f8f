-- What a mount finds, and the state of a kernel that is opened on it.
use Rattle.std.specs.Prelude.{ℕ, List, [], None}
use Rattle.meta_rows.specs.Prelude.{Rows}
use Rattle.meta_log.specs.declared.slot.Super.{Super}
use Rattle.meta_log.specs.declared.runs.UnitRun.{UnitRun}
use Rattle.unit_allocator.specs.Prelude.{Space}
use Rattle.meta_store.specs.Store.{found_meta}
use Rattle.store_steps.specs.State.{State}

-- What a mount finds in the log: the super, the rows that its records make, the units of the active half that they take, the number of the next one,
-- and the units of the other half that may not be zero.
pub record Found : Type 0 where
  pub sup : Super
  pub rows : Rows
  pub tail : ℕ
  pub number : ℕ
  pub stale : List UnitRun

-- the rows are committed, nothing is under way, the book is empty, and this is the number of the next blob
abbrev pub opened : Found → Space → ℕ → ℕ → State
opened f space next events = record {
  log = found_meta f.sup f.rows f.tail f.number f.stale;
  submitted = f.rows;
  pending = [];
  batch = None;
  switching = None;
  flying = [];
  down = None;
  events = events;
  space = space;
  book = record { entries = []; commits = [] };
  acked = 0;
  next_sbid = next;
}
