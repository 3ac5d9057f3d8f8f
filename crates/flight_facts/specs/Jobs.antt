-- What is in flight, part by part, for any number of contexts: the data writes of those that wait, what is in flight for the open batch, and what is
-- for a switch of halves.
use Rattle.std.specs.Prelude.{◌≡◌, ◌⊎◌, ℕ, ◌+◌, ◌<◌, ◌≤◌, ◌==◌, Bool, true, false, List, [], ◌∷◌, length, map, filter, take, Option, Some, None, IfSome, if◌then◌else◌}
use Rattle.std.specs.List.{AllByRecursion}
use Rattle.unit_fields.specs.Prelude.{Ascends}
use Rattle.block_device.specs.Prelude.{Flight, IsApart}
use Rattle.meta_log.specs.declared.slot.Super.{Super}
use Rattle.meta_log.specs.declared.runs.UnitRun.{UnitRun}
use Rattle.meta_log.specs.Prelude.{unit_count, active_unit, other_unit, other_slot, given_from, in_runs}
use Rattle.plan_rows.specs.declared.plan.FreshUnit.{FreshUnit}
use Rattle.store_steps.specs.declared.context.Context.{Context}
use Rattle.store_steps.specs.declared.flight.Flying.{Flying}
use Rattle.store_steps.specs.declared.flight.Job.{Job}
use Rattle.store_steps.specs.declared.flight.Job.TheVariants as job
use Rattle.meta_store.specs.Store.{Meta, Begun, Checking}
use Rattle.store_steps.specs.Prelude.{State, check_pieces}
use Rattle.flight_facts.specs.Flights.{IsBatchFar, IsSwitchFar}

-- ---- data writes

-- the units that a submission writes of the context at this place
abbrev pub units_of_job : ℕ → Job → ℕ
units_of_job place (job.Data p count) = if p == place then count else 0
units_of_job place other = 0

abbrev pub units_flying : ℕ → List Flying → ℕ
units_flying place [] = 0
units_flying place (f ∷ fs) = units_of_job place f.job + units_flying place fs

-- A context in no batch: of its units the first were given to the device, and of these so many have not reached it yet.
pub record IsPartGiven (flying : List Flying) (x : Context) : Type 0 where
  pub within : x.given ≤ length x.fresh
  pub counted : x.done + units_flying x.place flying ≡ x.given

-- the places of contexts ascend, and all are below this one
pub record AreInPlace (entries : ℕ) (contexts : List Context) : Type 0 where
  pub ascend : Ascends (map (λ x. x.place) contexts)
  pub below : AllByRecursion (λ x. x.place < entries) contexts

-- ---- the other jobs, by parts

abbrev pub is_of_batch : Job → Bool
is_of_batch job.DataFlush = true
is_of_batch job.Record = true
is_of_batch job.RecordFlush = true
is_of_batch other = false

abbrev pub is_of_switch : Job → Bool
is_of_switch job.Check = true
is_of_switch job.CheckFlush = true
is_of_switch job.Slot = true
is_of_switch job.SlotFlush = true
is_of_switch other = false

-- what is in flight for jobs of a part
abbrev pub flying_for : (Job → Bool) → List Flying → List Flying
flying_for part flying = filter (λ f. part f.job) flying

-- ---- what is touched

-- the unit is none of these
abbrev pub IsNone : List FreshUnit → ℕ → Type 0
IsNone fresh unit = AllByRecursion (λ f. ¬ (f.unit ≡ unit)) fresh

-- the flight touches units of the context that were given, and no others
abbrev pub TouchesGiven : Context → Flight → Type 0
TouchesGiven x g = (unit : ℕ) → IsNone (take x.given x.fresh) unit → IsApart unit 4096 g

-- some member is so, the first or one behind it
abbrev pub AnyByRecursion : {A : Type 0} → (A → Type 0) → List A → Type 0
AnyByRecursion P [] = ⊥
AnyByRecursion P (x ∷ xs) = P x ⊎ AnyByRecursion P xs

-- a data write is of a context in no batch, of at least one unit, and touches given units of it
pub record IsWriteOf (pending : List Context) (place count : ℕ) (g : Flight) : Type 0 where
  pub some : 0 < count
  pub of : AnyByRecursion (λ x. (x.place ≡ place) × TouchesGiven x g) pending

-- the flight touches no unit but those that are so
abbrev pub TouchesOnly : (ℕ → Type 0) → Flight → Type 0
TouchesOnly P g = (unit : ℕ) → ¬ P unit → IsApart unit 4096 g

-- the unit is one of the record that was given
pub record IsGivenPiece (m : Meta) (r : Begun) (unit : ℕ) : Type 0 where
  pub j : ℕ
  pub behind : given_from (unit_count m.number r.ops) r.given ≤ j
  pub within : j < unit_count m.number r.ops
  pub is : unit ≡ active_unit m.sup + (m.tail + j)

-- the unit is one of these runs of the half that isn't in use
pub record IsInRuns (s : Super) (runs : List UnitRun) (unit : ℕ) : Type 0 where
  pub k : ℕ
  pub within : k < s.half
  pub inside : in_runs runs k ≡ true
  pub is : unit ≡ other_unit s + k

-- it is one of the checkpoint that was given
abbrev pub IsGivenRun : Meta → Checking → ℕ → Type 0
IsGivenRun m c unit = IsInRuns m.sup (take c.given (check_pieces m)) unit

-- a write of a piece, of the record or of the checkpoint, where there is one
abbrev pub TouchesOnlyOf : {A : Type 0} → (A → ℕ → Type 0) → Option A → Flight → Type 0
TouchesOnlyOf is_given None g = ⊥
TouchesOnlyOf is_given (Some x) g = TouchesOnly (is_given x) g

abbrev pub IsOfJob : Meta → List Context → Job → Flight → Type 0
IsOfJob m pending (job.Data place count) g = IsWriteOf pending place count g
IsOfJob m pending job.Record g = TouchesOnlyOf (IsGivenPiece m) m.begun g
IsOfJob m pending job.Check g = TouchesOnlyOf (IsGivenRun m) m.check g
IsOfJob m pending job.Slot g = TouchesOnly (λ unit. unit ≡ other_slot m.sup) g
IsOfJob m pending other g = g.bytes ≡ 0

-- each submission in flight touches what its job says
abbrev pub AreOfJobs : Meta → List Context → List Flying → List Flight → Type 0
AreOfJobs m pending [] [] = Unit {0}
AreOfJobs m pending (f ∷ fs) (g ∷ gs) = IsOfJob m pending f.job g × AreOfJobs m pending fs gs
AreOfJobs m pending fs gs = ⊥

-- no job may touch the unit: no waiting context gave it to the device, and it is neither of the record's given pieces, nor of the checkpoint's, nor
-- the slot that isn't in use
pub record IsNoTarget (m : Meta) (pending : List Context) (unit : ℕ) : Type 0 where
  pub waiting : AllByRecursion (λ x. IsNone (take x.given x.fresh) unit) pending
  pub piece : IfSome m.begun (λ r. ¬ IsGivenPiece m r unit)
  pub run : IfSome m.check (λ c. ¬ IsGivenRun m c unit)
  pub slot : ¬ (unit ≡ other_slot m.sup)

-- What is in flight is what contexts and log say. A switch of halves is under way only where no batch is open.
pub record FlightsMatch (s : State) (flights : List Flight) : Type 0 where
  pub places : AreInPlace (length s.book.entries) s.pending
  pub waiting : AllByRecursion (IsPartGiven s.flying) s.pending
  pub batch : IsBatchFar s.log.sup.half s.log.tail s.log.number s.batch s.log.begun (flying_for is_of_batch s.flying)
  pub switch : IsSwitchFar (length (check_pieces s.log)) s.log.check s.switching (flying_for is_of_switch s.flying)
  pub alone : IfSome s.switching (λ w. s.batch ≡ None)
  pub touches : AreOfJobs s.log s.pending s.flying flights
