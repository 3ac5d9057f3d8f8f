-- The table of steps: when each is ready.
use Rattle.std.specs.Prelude.{ℕ, ◌-◌, ◌==◌, nat_lt, ◌&&◌, not, Bool, true, false, List, [], ◌∷◌, length, filter, is_some, is_none}
use Rattle.std.specs.Option.{option_map_or}
use Rattle.meta_log.specs.declared.runs.UnitRun.{UnitRun}
use Rattle.meta_log.specs.Prelude.{unit_count, piece_count}
use Rattle.store_steps.specs.declared.step.Step.{Step}
use Rattle.store_steps.specs.declared.step.Step.TheVariants.{Data, Reap, Take, Flush, Seal, Record, Sync, Commit, Finish, CheckWrite, CheckFlush, SlotWrite, SlotFlush, Switch}
use Rattle.store_steps.specs.declared.flight.FlushState.{FlushState}
use Rattle.store_steps.specs.declared.flight.FlushState.TheVariants as flush
use Rattle.meta_store.specs.Store.{Begun, Checking, Meta}
use Rattle.meta_store.specs.Store as meta
use Rattle.store_steps.specs.declared.flight.Switching.{Switching}
use Rattle.store_steps.specs.State.{Batch, State}
use Rattle.store_steps.specs.Contexts.{next_unsent, chosen}

abbrev pub is_empty : {A : Type 0} → List A → Bool
is_empty [] = true
is_empty (x ∷ xs) = false

abbrev pub is_not_sent : FlushState → Bool
is_not_sent flush.NotSent = true
is_not_sent (flush.Sent ticket) = false
is_not_sent flush.Flushed = false

abbrev pub is_flushed : FlushState → Bool
is_flushed flush.NotSent = false
is_flushed (flush.Sent ticket) = false
is_flushed flush.Flushed = true

-- the pieces of the record that is being written
abbrev pub pieces_of : ℕ → Begun → ℕ
pieces_of number r = piece_count (unit_count number r.ops)

-- there is a batch of which this holds
abbrev pub batch_is : (Batch → Bool) → State → Bool
batch_is test s = option_map_or test s.batch false

-- there is a record that is being written, of which this holds
abbrev pub begun_is : (Begun → Bool) → State → Bool
begun_is test s = option_map_or test s.log.begun false

-- the pieces of a checkpoint of the committed rows
abbrev pub check_pieces : Meta → List UnitRun
check_pieces m = meta.checkpoint_pieces m.number m.rows m.stale

-- there is a checkpoint that is being written, of which this holds
abbrev pub check_is : (Checking → Bool) → State → Bool
check_is test s = option_map_or test s.log.check false

-- and a switch of which this does
abbrev pub switch_is : (Switching → Bool) → State → Bool
switch_is test s = option_map_or test s.switching false

-- how many commits have been applied to the committed rows: all but those of the open batch
abbrev pub applied_count : State → ℕ
applied_count s = length s.book.commits - option_map_or (λ b. length b.contexts) s.batch 0

-- whether a step is ready while the kernel isn't down, where so many submissions may be in flight
abbrev pub is_ready_up : Step → ℕ → State → Bool
is_ready_up Data depth s = is_some (next_unsent s.pending) && nat_lt (length s.flying) depth
is_ready_up Reap depth s = not (is_empty s.flying)
is_ready_up Take depth s = is_none s.batch && is_none s.switching && is_some (chosen s.pending)
is_ready_up Flush depth s = batch_is (λ b. is_not_sent b.first) s && nat_lt (length s.flying) depth
is_ready_up Seal depth s = is_some s.batch && is_none s.log.begun
is_ready_up Record depth s = batch_is (λ b. is_flushed b.first) s && begun_is (λ r. nat_lt r.given (pieces_of s.log.number r)) s
    && nat_lt (length s.flying) depth
is_ready_up Sync depth s = batch_is (λ b. is_not_sent b.second) s && begun_is (λ r. r.written == pieces_of s.log.number r) s && nat_lt (length s.flying) depth
is_ready_up Commit depth s = batch_is (λ b. is_flushed b.second) s
is_ready_up Finish depth s = nat_lt s.acked (applied_count s)
is_ready_up CheckWrite depth s = check_is (λ c. nat_lt c.given (length (check_pieces s.log))) s && nat_lt (length s.flying) depth
is_ready_up CheckFlush depth s = switch_is (λ w. is_not_sent w.flush) s && check_is (λ c. c.written == length (check_pieces s.log)) s
    && nat_lt (length s.flying) depth
is_ready_up SlotWrite depth s = switch_is (λ w. is_flushed w.flush && is_not_sent w.slot) s && nat_lt (length s.flying) depth
is_ready_up SlotFlush depth s = switch_is (λ w. is_flushed w.slot && is_not_sent w.slot_flush) s && nat_lt (length s.flying) depth
is_ready_up Switch depth s = switch_is (λ w. is_flushed w.slot_flush) s

-- while it is down only Reap is ready
abbrev pub is_ready_down : Step → State → Bool
is_ready_down Reap s = not (is_empty s.flying)
is_ready_down step s = false

abbrev pub is_ready : Step → ℕ → State → Bool
is_ready step depth s = option_map_or (λ ticket. is_ready_down step s) s.down (is_ready_up step depth s)

-- the steps in the order of the table
abbrev pub all_steps : List Step
all_steps = Data ∷ Reap ∷ Take ∷ Flush ∷ Seal ∷ Record ∷ Sync ∷ Commit ∷ Finish
    ∷ CheckWrite ∷ CheckFlush ∷ SlotWrite ∷ SlotFlush ∷ Switch ∷ []

-- the ready ones
abbrev pub ready_steps : ℕ → State → List Step
ready_steps depth s = filter (λ step. is_ready step depth s) all_steps

-- no step is ready
abbrev pub is_drained : ℕ → State → Bool
is_drained depth s = is_empty (ready_steps depth s)
