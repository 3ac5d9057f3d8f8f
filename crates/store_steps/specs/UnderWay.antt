-- What is under way, in the words of what is known of the log and of the data units.
use Rattle.std.specs.Prelude.{ℕ, List, [], ◌∷◌, ◌++◌, ◌==◌, take, Option, Some, None, if◌then◌else◌}
use Rattle.std.specs.List.{flat_map}
use Rattle.std.specs.Option.{option_map, option_map_or}
use Rattle.meta_rows.specs.declared.row_op.RowOp.{RowOp}
use Rattle.meta_log.specs.Prelude.{unit_count, given_from}
use Rattle.log_facts.specs.Prelude.{FlushState, not_sent, sent, flushed}
use Rattle.plan_rows.specs.declared.plan.FreshUnit.{FreshUnit}
use Rattle.meta_store.specs.Store.{Begun}
use Rattle.store_steps.specs.declared.context.Context.{Context}
use Rattle.store_steps.specs.declared.flight.FlushState.{FlushState as StepFlush}
use Rattle.store_steps.specs.declared.flight.FlushState.TheVariants as flush
use Rattle.store_steps.specs.State.{Batch, State}

-- the contexts that aren't committed, those of the batch first
abbrev pub uncommitted : State → List Context
uncommitted s = option_map_or (λ b. b.contexts) s.batch [] ++ s.pending

-- the fresh units of contexts
abbrev pub all_fresh : List Context → List FreshUnit
all_fresh contexts = flat_map (λ x. x.fresh) contexts

-- the bytes of a unit, if it is one of these
abbrev pub bytes_in : List FreshUnit → ℕ → Option (List ℕ)
bytes_in [] unit = None
bytes_in (f ∷ more) unit = if f.unit == unit then Some f.bytes else bytes_in more unit

-- What reads find in memory: the bytes of the units that accepted transactions took, until these are committed.
abbrev pub memory_of : State → ℕ → Option (List ℕ)
memory_of s = bytes_in (all_fresh (uncommitted s))

-- those whose writes were submitted
abbrev pub given_fresh : List Context → List FreshUnit
given_fresh contexts = flat_map (λ x. take x.given x.fresh) contexts

-- a flush of the kernel, by the place of its submission
abbrev pub flush_of : StepFlush → FlushState
flush_of flush.NotSent = not_sent
flush_of (flush.Sent ticket) = sent ticket.place
flush_of flush.Flushed = flushed

-- how far the flush behind the record of the open batch is
abbrev pub second_flush : Option Batch → FlushState
second_flush batch = option_map_or (λ b. flush_of b.second) batch not_sent

-- the operations of the record that is being written
abbrev pub begun_ops : Option Begun → Option (List RowOp)
begun_ops begun = option_map (λ r. r.ops) begun

-- the units of that record that were submitted are those from this one on
abbrev pub submitted_from : ℕ → Option Begun → ℕ
submitted_from number begun = option_map_or (λ r. given_from (unit_count number r.ops) r.given) begun 0
