-- What each step makes of the state: one function for each. What it does at the device is said in Steps.
use Rattle.std.specs.Prelude.{ℕ, ◌+◌, ◌-◌, ◌==◌, not, Bool, true, false, List, [], ◌∷◌, ◌++◌, map, filter, find, Option, Some, None, is_some, if◌then◌else◌}
use Rattle.std.specs.Option.{option_map}
use Rattle.block_device.specs.declared.device.Ticket.{Ticket}
use Rattle.object_model.specs.declared.book.Commit.{Commit}
use Rattle.meta_rows.specs.Prelude.{rows_after}
use Rattle.meta_log.specs.Prelude.{unit_count}
use Rattle.unit_allocator.specs.Prelude.{given}
use Rattle.store_steps.specs.declared.context.Context.{Context}
use Rattle.store_steps.specs.declared.flight.FlushState.TheVariants as flush
use Rattle.store_steps.specs.declared.flight.Flying.{Flying}
use Rattle.store_steps.specs.declared.flight.Job.{Job}
use Rattle.store_steps.specs.declared.flight.Job.TheVariants as job
use Rattle.meta_store.specs.Store.{Meta, Begun, Checking}
use Rattle.meta_store.specs.Checks as checks
use Rattle.store_steps.specs.declared.flight.Switching.{Switching}
use Rattle.store_steps.specs.State.{Batch, State}
use Rattle.store_steps.specs.Contexts.{with_context, choice, left_by, most_grouped, given_more, done_more, batch_ops, batch_released, sum_needs}

-- ---- submissions

-- a submission for this job is in flight, which is one event more
abbrev pub sent : Ticket → Job → State → State
sent ticket job s = record s { flying = s.flying ++ record { ticket = ticket; job = job } ∷ []; events = s.events + 1 }

-- the next data write of the context at this place was submitted, of so many units
abbrev pub data_sent : ℕ → ℕ → Ticket → State → State
data_sent place count ticket s = let before : State = record s { pending = with_context place (given_more count) s.pending }
    in sent ticket (job.Data place count) before

-- the batch's first flush was submitted
abbrev pub flush_sent : Batch → Ticket → State → State
flush_sent b ticket s = let before : State = record s { batch = Some (record b { first = flush.Sent ticket }) } in sent ticket job.DataFlush before

-- the next piece of the record was submitted
abbrev pub record_sent : Begun → Ticket → State → State
record_sent r ticket s = let before : State = record s { log = record s.log { begun = Some (record r { given = r.given + 1 }) } }
    in sent ticket job.Record before

-- the batch's second flush was submitted
abbrev pub sync_sent : Batch → Ticket → State → State
sync_sent b ticket s = let before : State = record s { batch = Some (record b { second = flush.Sent ticket }) } in sent ticket job.RecordFlush before

-- the next piece of the checkpoint was submitted
abbrev pub check_sent : Checking → Ticket → State → State
check_sent c ticket s = let before : State = record s { log = record s.log { check = Some (record c { given = c.given + 1 }) } } in sent ticket job.Check before

-- the checkpoint's flush was, the next superblock, and the flush behind that
abbrev pub check_flush_sent : Switching → Ticket → State → State
check_flush_sent w ticket s = let before : State = record s { switching = Some (record w { flush = flush.Sent ticket }) } in sent ticket job.CheckFlush before

abbrev pub slot_sent : Switching → Ticket → State → State
slot_sent w ticket s = let before : State = record s { switching = Some (record w { slot = flush.Sent ticket }) } in sent ticket job.Slot before

abbrev pub slot_flush_sent : Switching → Ticket → State → State
slot_flush_sent w ticket s =
    let before : State = record s { switching = Some (record w { slot_flush = flush.Sent ticket }) } in sent ticket job.SlotFlush before

-- ---- their ends

-- a flush of a batch has ended well
abbrev pub first_flushed : Batch → Batch
first_flushed b = record b { first = flush.Flushed }

abbrev pub second_flushed : Batch → Batch
second_flushed b = record b { second = flush.Flushed }

-- one more piece of the record has ended well
abbrev pub written_more : Begun → Begun
written_more r = record r { written = r.written + 1 }

-- one more piece of the checkpoint has ended well
abbrev pub checked_more : Checking → Checking
checked_more c = record c { written = c.written + 1 }

-- and so have the checkpoint's flush, the next superblock, and the flush behind that
abbrev pub check_flushed : Switching → Switching
check_flushed w = record w { flush = flush.Flushed }

abbrev pub slot_written : Switching → Switching
slot_written w = record w { slot = flush.Flushed }

abbrev pub slot_flushed : Switching → Switching
slot_flushed w = record w { slot_flush = flush.Flushed }

-- what the good end of a submission for this job is to the state
abbrev pub after_done : Job → State → State
after_done (job.Data place count) s = record s { pending = with_context place (done_more count) s.pending }
after_done job.DataFlush s = record s { batch = option_map first_flushed s.batch }
after_done job.Record s = record s { log = record s.log { begun = option_map written_more s.log.begun } }
after_done job.RecordFlush s = record s { batch = option_map second_flushed s.batch }
after_done job.Check s = record s { log = record s.log { check = option_map checked_more s.log.check } }
after_done job.CheckFlush s = record s { switching = option_map check_flushed s.switching }
after_done job.Slot s = record s { switching = option_map slot_written s.switching }
after_done job.SlotFlush s = record s { switching = option_map slot_flushed s.switching }

abbrev pub after_good : Option Flying → State → State
after_good None s = s
after_good (Some f) s = after_done f.job s

-- the ticket by which the kernel is down: the first that ended badly
abbrev pub down_by : Option Ticket → Ticket → Option Ticket
down_by None ticket = Some ticket
down_by (Some first) ticket = Some first

-- the submission of a ticket in flight
abbrev pub flying_of : Ticket → List Flying → Option Flying
flying_of ticket flying = find (λ f. f.ticket.place == ticket.place) flying

-- it is in flight no more, which is one event more
abbrev pub landed : Ticket → State → State
landed ticket s = record s { flying = filter (λ f. not (f.ticket.place == ticket.place)) s.flying; events = s.events + 1 }

-- a submission has ended well or badly; once the kernel is down, a good end counts for nothing
abbrev pub reaped : Ticket → Bool → State → State
reaped ticket true s = if is_some s.down then landed ticket s else after_good (flying_of ticket s.flying) (landed ticket s)
reaped ticket false s = let after : State = landed ticket s in record after { down = down_by s.down ticket }

-- ---- steps that the device has no part in

-- a commit that isn't acknowledged
abbrev pub commit_of : Context → Commit
commit_of x = record { place = x.place; acked_at = None }

-- a batch of the contexts that come next is open
abbrev pub taken_up : State → State
taken_up s = let xs : List Context = choice most_grouped s.pending in record s {
  pending = left_by most_grouped s.pending;
  batch = Some (record { contexts = xs; first = flush.NotSent; second = flush.NotSent });
  book = record s.book { commits = s.book.commits ++ map commit_of xs };
}

-- a checkpoint of the committed rows is open
abbrev pub check_begun : State → State
check_begun s = record s {
  log = record s.log { check = Some (record { given = 0; written = 0 }) };
  switching = Some (record { flush = flush.NotSent; slot = flush.NotSent; slot_flush = flush.NotSent });
}

-- the batch's record is made
abbrev pub sealed : Batch → State → State
sealed b s = record s { log = record s.log { begun = Some (record { ops = batch_ops b; given = 0; written = 0 }) } }

-- the log behind a batch's record: its operations are applied, and what its contexts had reserved is used
abbrev pub log_after : Batch → Meta → Meta
log_after b m = record m {
  rows = rows_after m.rows (batch_ops b);
  tail = m.tail + unit_count m.number (batch_ops b);
  number = m.number + 1;
  reserved = m.reserved - sum_needs b.contexts;
  begun = None;
}

-- the batch is committed
abbrev pub committed_batch : Batch → State → State
committed_batch b s = record s { log = log_after b s.log; batch = None; space = given s.space (batch_released b) }

-- The halves have changed places: the checkpoint's record, if there are rows, is the log, and what stood in the other half until now is stale.
abbrev pub switched : State → State
switched s = record s { log = checks.switched_log s.log; switching = None }

-- the first of these commits that isn't acknowledged is acknowledged now
abbrev pub acknowledged : ℕ → List Commit → List Commit
acknowledged events [] = []
acknowledged events (c ∷ cs) = if is_some c.acked_at then c ∷ acknowledged events cs else record c { acked_at = Some events } ∷ cs

abbrev pub finished : State → State
finished s = record s { book = record s.book { commits = acknowledged s.events s.book.commits }; acked = s.acked + 1 }
