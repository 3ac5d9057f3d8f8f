-- The parts of the kernel's state: each fact takes the part that it reads, and none takes the state.
use Rattle.std.specs.Prelude.{ℕ, List, [], drop, Option, Some, None}
use Rattle.std.specs.Option.{option_map_or}
use Rattle.object_model.specs.declared.book.Book.{Book}
use Rattle.meta_rows.specs.declared.row_op.RowOp.{RowOp}
use Rattle.meta_rows.specs.Prelude.{Rows}
use Rattle.meta_log.specs.declared.slot.Super.{Super}
use Rattle.meta_log.specs.Prelude.{in_runs}
use Rattle.log_facts.specs.Prelude.{FlushState, not_sent}
use Rattle.meta_log.specs.declared.runs.UnitRun.{UnitRun}
use Rattle.meta_store.specs.Store.{Checking}
use Rattle.switch_facts.specs.Prelude.{SlotPhase, unwritten, written, CheckPart, OtherPart}
use Rattle.store_steps.specs.declared.flight.FlushState.{FlushState as StepFlush}
use Rattle.store_steps.specs.declared.flight.FlushState.TheVariants as flush
use Rattle.plan_rows.specs.declared.plan.FreshUnit.{FreshUnit}
use Rattle.unit_allocator.specs.Prelude.{Space}
use Rattle.store_steps.specs.declared.flight.Switching.{Switching}
use Rattle.store_steps.specs.State.{State}
use Rattle.store_steps.specs.Ready.{check_pieces, applied_count}
use Rattle.store_steps.specs.Intents.{Intent, intents}
use Rattle.store_steps.specs.UnderWay.{uncommitted, all_fresh, given_fresh, flush_of, second_flush, begun_ops, submitted_from}

-- the rows, committed and submitted, with what makes the one of the other; the free units, the room in the log, and the number of the next blob
pub record RowsPart : Type 0 where
  pub sup : Super
  pub rows : Rows
  pub submitted : Rows
  pub intents : List Intent
  pub space : Space
  pub tail : ℕ
  pub reserved : ℕ
  pub next : ℕ

abbrev pub rows_part : State → RowsPart
rows_part s = record {
  sup = s.log.sup;
  rows = s.log.rows;
  submitted = s.submitted;
  intents = intents (uncommitted s);
  space = s.space;
  tail = s.log.tail;
  reserved = s.log.reserved;
  next = s.next_sbid;
}

-- the fresh units whose writes were submitted, those of the open batch, and how far the flush of these is
pub record DataPart : Type 0 where
  pub sup : Super
  pub given : List FreshUnit
  pub fresh : List FreshUnit
  pub first : FlushState

abbrev pub data_part : State → DataPart
data_part s = record {
  sup = s.log.sup;
  given = given_fresh (uncommitted s);
  fresh = option_map_or (λ b. all_fresh b.contexts) s.batch [];
  first = option_map_or (λ b. flush_of b.first) s.batch not_sent;
}

-- The active half of the log: the record that is being written, its units that were submitted are those from one on, and how far the flush
-- behind it is. How many pieces of it have ended is nothing to the log.
pub record HalfPart : Type 0 where
  pub sup : Super
  pub rows : Rows
  pub tail : ℕ
  pub number : ℕ
  pub begun : Option (List RowOp)
  pub from : ℕ
  pub second : FlushState

abbrev pub half_part : State → HalfPart
half_part s = record {
  sup = s.log.sup;
  rows = s.log.rows;
  tail = s.log.tail;
  number = s.log.number;
  begun = begun_ops s.log.begun;
  from = submitted_from s.log.number s.log.begun;
  second = second_flush s.batch;
}

-- how far the next superblock is, by its write and the flush behind that
abbrev pub slot_phase : StepFlush → StepFlush → SlotPhase
slot_phase flush.NotSent behind = unwritten
slot_phase slot behind = written (flush_of behind)

-- the checkpoint that is written: the pieces that weren't submitted are left of it
abbrev pub other_check : List UnitRun → Option Checking → Option Switching → Option CheckPart
other_check pieces (Some c) (Some w) =
    Some (record { is_left = in_runs (drop c.given pieces); flush = flush_of w.flush; slot = slot_phase w.slot w.slot_flush })
other_check pieces check switching = None

-- the slots and the half that isn't in use
abbrev pub other_part : State → OtherPart
other_part s = record {
  sup = s.log.sup;
  rows = s.log.rows;
  tail = s.log.tail;
  number = s.log.number;
  is_stale = in_runs s.log.stale;
  check = other_check (check_pieces s.log) s.log.check s.switching;
}

-- the book, how many commits are acknowledged, how many are applied to the committed rows, and the intents of the open batch
pub record BookPart : Type 0 where
  pub book : Book
  pub acked : ℕ
  pub applied : ℕ
  pub batch : List Intent

abbrev pub book_part : State → BookPart
book_part s = record {
  book = s.book;
  acked = s.acked;
  applied = applied_count s;
  batch = intents (option_map_or (λ b. b.contexts) s.batch []);
}
