-- What clauses see of a kernel: its device, and its state as plain data.
use Rattle.std.specs.Prelude.{◌≡◌, ℕ, Bool, true, false, List, Option, Some, None, is_some}
use Rattle.std.specs.Option.{option_map}
use Rattle.std.specs.Coded.{Coded, coded_ℕ, coded_list}
use Rattle.std.specs.FinMap as map
use Rattle.block_device.specs.declared.device.Ticket.{Ticket}
use Rattle.object_model.specs.declared.book.Entry.{Entry}
use Rattle.object_model.specs.declared.book.Commit.{Commit}
use Rattle.meta_rows.specs.Prelude.{Rows}
use Rattle.meta_store.specs.Store as meta
use Rattle.unit_allocator.specs.Prelude.{Space}
use Rattle.store_steps.specs.declared.context.Context.{Context}
use Rattle.store_steps.specs.declared.flight.Flying.{Flying}
use Rattle.store_steps.specs.declared.flight.Switching.{Switching}
use Rattle.store_steps.specs.Prelude.{Batch, State, Found}
use Rattle.store_kernel.specs.declared.batch.OpenBatch.{OpenBatch}
use Rattle.store_kernel.specs.declared.batch.Stage.{Stage}
use Rattle.store_kernel.specs.declared.batch.Stage.TheVariants.{Taken, Sealed}

-- the contexts of a batch, whether its record is made or not
abbrev pub contexts_of : Stage → List Context
contexts_of (Taken xs) = xs
contexts_of (Sealed xs) = xs

-- an open batch
abbrev pub batch_of : OpenBatch → Batch
batch_of b = record { contexts = contexts_of b.stage; first = b.first; second = b.second }

-- the batch's record is made
abbrev pub is_sealed : Stage → Bool
is_sealed (Taken xs) = false
is_sealed (Sealed xs) = true

-- a batch's record is made where one is begun in the metadata store
abbrev pub IsStageOf : Option meta.Begun → Option OpenBatch → Type 0
IsStageOf begun None = Unit {0}
IsStageOf begun (Some b) = is_sealed b.stage ≡ is_some begun

-- what a metadata store has that nobody has used yet: the super, the rows, and where the log stands
abbrev pub found_of : meta.Meta → Found
found_of m = record { sup = m.sup; rows = m.rows; tail = m.tail; number = m.number; stale = m.stale }

-- nothing is set aside there, and neither record nor checkpoint is begun
pub record IsUnused (m : meta.Meta) : Type 0 where
  pub none_reserved : m.reserved ≡ 0
  pub none_begun : m.begun ≡ None
  pub none_checked : m.check ≡ None

-- the state, of the kernel's fields
abbrev pub state_of : meta.Meta → Rows → List Context → Option OpenBatch → Option Switching → List Flying → Option Ticket → ℕ → Space
    → List Entry → List Commit → ℕ → ℕ → State
state_of m submitted pending batch switching flying down events space entries commits acked next = record {
  log = m;
  submitted = submitted;
  pending = pending;
  batch = option_map batch_of batch;
  switching = switching;
  flying = flying;
  down = down;
  events = events;
  space = space;
  book = record { entries = entries; commits = commits };
  acked = acked;
  next_sbid = next;
}

-- rows as a value by which a proof tells maps apart
abbrev pub rows_code : Coded Rows
rows_code = map.code (coded_list coded_ℕ) (coded_list coded_ℕ)
