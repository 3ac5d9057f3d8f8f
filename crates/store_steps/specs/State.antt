-- The kernel's state but for its device, as plain data.
use Rattle.std.specs.Prelude.{ℕ, List, Option}
use Rattle.block_device.specs.declared.device.Ticket.{Ticket}
use Rattle.object_model.specs.declared.book.Book.{Book}
use Rattle.meta_rows.specs.Prelude.{Rows}
use Rattle.meta_store.specs.Store.{Meta}
use Rattle.unit_allocator.specs.Prelude.{Space}
use Rattle.store_steps.specs.declared.context.Context.{Context}
use Rattle.store_steps.specs.declared.flight.FlushState.{FlushState}
use Rattle.store_steps.specs.declared.flight.Flying.{Flying}
use Rattle.store_steps.specs.declared.flight.Switching.{Switching}

-- the open batch: its contexts, and how far its two flushes are
pub record Batch : Type 0 where
  pub contexts : List Context
  pub first : FlushState
  pub second : FlushState

-- `log` is the committed rows and where the log stands, with the units of it that are reserved for the records of transactions that
-- aren't committed. `submitted` is the submitted rows: the committed ones with the operations of all contexts. `pending` are the contexts
-- in no batch, by place. `switching` is there exactly while a checkpoint is, in `log`. `flying` is in the order of the device's flights.
-- `events` counts the device's events since the mount began, `acked` the acknowledged commits. `next_sbid` is the number of the next shared blob.
pub record State : Type 0 where
  pub log : Meta
  pub submitted : Rows
  pub pending : List Context
  pub batch : Option Batch
  pub switching : Option Switching
  pub flying : List Flying
  pub down : Option Ticket
  pub events : ℕ
  pub space : Space
  pub book : Book
  pub acked : ℕ
  pub next_sbid : ℕ

-- a kernel: its device and its state
pub record Machine (D : Type 0) : Type 0 where
  pub device : D
  pub state : State
