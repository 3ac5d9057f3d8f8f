-- What is in flight for the log: for the open batch, and for a switch of halves.
use Rattle.std.specs.Prelude.{◌≡◌, ℕ, ◌+◌, ◌≤◌, List, [], ◌∷◌, length, map, Option, Some, None, IfSome}
use Rattle.std.specs.List.{AllByRecursion}
use Rattle.std.specs.Option.{option_map_or}
use Rattle.block_device.specs.Prelude.{Flight}
use Rattle.meta_log.specs.Prelude.{unit_count, piece_count}
use Rattle.store_steps.specs.declared.context.Context.{Context}
use Rattle.store_steps.specs.declared.flight.Flying.{Flying}
use Rattle.store_steps.specs.declared.flight.Job.TheVariants as job
use Rattle.meta_store.specs.Store.{Begun, Checking}
use Rattle.store_steps.specs.declared.flight.Switching.{Switching}
use Rattle.store_steps.specs.Prelude.{Batch, batch_ops, sum_needs}
use Rattle.flight_facts.specs.Stages.{Stage, by_one, by_pieces, AreInTurn}

-- the tickets are those of the device's flights, in their order
abbrev pub AreFlights : List Flying → List Flight → Type 0
AreFlights flying flights = map (λ f. f.ticket.place) flying ≡ map (λ f. f.ticket) flights

-- ---- the open batch

-- all units of a context have reached the device
pub record IsAllGiven (x : Context) : Type 0 where
  pub given : x.given ≡ length x.fresh
  pub done : x.done ≡ length x.fresh

-- how many pieces its record has
abbrev pub batch_pieces : ℕ → Batch → ℕ
batch_pieces number b = piece_count (unit_count number (batch_ops b))

-- a flush, then its record of so many pieces, of which nothing is given while it isn't made, then a flush
abbrev pub batch_stages : ℕ → Batch → Option Begun → List Stage
batch_stages pieces b begun = by_one job.DataFlush b.first
    ∷ by_pieces job.Record pieces (option_map_or (λ r. r.given) begun 0) (option_map_or (λ r. r.written) begun 0)
    ∷ by_one job.RecordFlush b.second ∷ []

-- its record is of its contexts' operations, takes no more than they need, and fits the half behind the tail; all of these are written, and its stages
-- are so far
pub record IsBatchOpen (half tail number : ℕ) (b : Batch) (begun : Option Begun) (flying : List Flying) : Type 0 where
  pub needed : unit_count number (batch_ops b) ≤ sum_needs b.contexts
  pub fits : tail + unit_count number (batch_ops b) ≤ half
  pub written : AllByRecursion IsAllGiven b.contexts
  pub made : IfSome begun (λ r. r.ops ≡ batch_ops b)
  pub far : AreInTurn (batch_stages (batch_pieces number b) b begun) flying

abbrev pub IsBatchFar : ℕ → ℕ → ℕ → Option Batch → Option Begun → List Flying → Type 0
IsBatchFar half tail number None begun flying = (begun ≡ None) × (flying ≡ [])
IsBatchFar half tail number (Some b) begun flying = IsBatchOpen half tail number b begun flying

-- ---- a switch of halves

-- a checkpoint of so many pieces, then a flush, then the next superblock, then a flush
abbrev pub switch_stages : ℕ → Checking → Switching → List Stage
switch_stages pieces c w = by_pieces job.Check pieces c.given c.written
    ∷ by_one job.CheckFlush w.flush
    ∷ by_one job.Slot w.slot
    ∷ by_one job.SlotFlush w.slot_flush ∷ []

-- a switch is under way where a checkpoint is open, and its stages are so far
abbrev pub IsSwitchFar : ℕ → Option Checking → Option Switching → List Flying → Type 0
IsSwitchFar pieces None None flying = flying ≡ []
IsSwitchFar pieces (Some c) (Some w) flying = AreInTurn (switch_stages pieces c w) flying
IsSwitchFar pieces check switching flying = ⊥
