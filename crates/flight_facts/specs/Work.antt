-- How much is left to do: a number that each step lowers, so that a run of steps ends.
use Rattle.std.specs.Prelude.{ℕ, ◌+◌, ◌-◌, ◌*◌, ◌^◌, ◌==◌, List, [], ◌∷◌, length, is_none, if◌then◌else◌}
use Rattle.std.specs.Option.{option_map_or}
use Rattle.meta_log.specs.Prelude.{piece_count, check_units}
use Rattle.store_steps.specs.declared.context.Context.{Context}
use Rattle.meta_store.specs.Store.{Meta}
use Rattle.store_steps.specs.declared.flight.Switching.{Switching}
use Rattle.store_steps.specs.Prelude.{Batch, State, applied_count, check_pieces}
use Rattle.flight_facts.specs.Stages.{stages_work}
use Rattle.flight_facts.specs.Flights.{batch_pieces, batch_stages, switch_stages}

-- more than a switch of halves costs: a checkpoint has at most 1024 pieces of its record and 65536 of zeros, each of which is submitted and ends
abbrev pub check_most : ℕ
check_most = 262144

-- a data write is submitted and ends; Take, two flushes that end, Seal, the pieces of a record that end, Commit and Finish; and the checkpoint that
-- may be due behind the commit
abbrev pub work_of : Context → ℕ
work_of x = 2 * (length x.fresh - x.given) + 8 + 2 * piece_count x.need + check_most

abbrev pub sum_work : List Context → ℕ
sum_work [] = 0
sum_work (x ∷ xs) = work_of x + sum_work xs

-- what is left of the stages, Seal, Commit, a Finish for each context, and the checkpoint that may be due behind the commit
abbrev pub batch_work : Meta → Batch → ℕ
batch_work m b = stages_work (batch_stages (batch_pieces m.number b) b m.begun) + (if is_none m.begun then 1 else 0) + 1 + length b.contexts + check_most

-- what is left of the stages, and Switch
abbrev pub switch_work : Meta → Switching → ℕ
switch_work m w = option_map_or (λ c. stages_work (switch_stages (length (check_pieces m)) c w)) m.check 0 + 1

-- a checkpoint may come where the committed rows would take fewer units as one record than their log does
abbrev pub check_due : Meta → ℕ
check_due m = if m.tail == check_units m.number m.rows then 0 else check_most

-- with what is in flight, and the commits that aren't acknowledged
abbrev pub work_left : State → ℕ
work_left s = length s.flying + sum_work s.pending + option_map_or (batch_work s.log) s.batch 0
    + option_map_or (switch_work s.log) s.switching (check_due s.log) + (applied_count s - s.acked)

-- what a run of steps lowers: work, or the answers None that a device may still give in a row
abbrev pub measure : State → ℕ → ℕ
measure s waits = 65 * work_left s + (64 - waits)

-- more than one entry of the book adds: a transaction has at most 256 operations, and none touches more than the 32768 pages of an object
abbrev pub entry_work : ℕ
entry_work = 8388608

-- what events, numbers of records and epochs stay below together with the work that is left: 2^61 more than a first checkpoint and entries may add
abbrev pub budget : State → ℕ
budget s = 2 ^ 61 + check_most + entry_work * length s.book.entries
