-- The tickets in flight of a device in memory, in the order of their submission.
use Rattle.std.specs.Prelude.{◌≡◌, ◌≢◌, ◌⊎◌, ℕ, ◌+◌, ◌-◌, ◌<◌, ◌≤◌, ◌==◌, not, filter, List, [], ◌∷◌, length, take, map, All, Contains, slice_get, Some, Bool}
use Rattle.block_device.specs.Disk.{Flight}
use Rattle.block_device.specs.Log.{IsAnsweredOnce}
use Rattle.block_device.specs.declared.event.Event.{Event}
use Rattle.block_device.specs.declared.event.Event.TheVariants.{Done}
use Rattle.block_device.specs.declared.pending.Pending.{Pending}

-- what is seen of it
abbrev pub flight : Pending → Flight
flight p = record { ticket = p.ticket; first = p.first; bytes = p.bytes }

-- it waits for one reap fewer
abbrev pub lowered : Pending → Pending
lowered p = record p { lag = p.lag - 1 }

-- those but for a ticket
abbrev pub others : ℕ → List Pending → List Pending
others ticket pending = filter (λ p. not (p.ticket == ticket)) pending

-- the tickets ascend
abbrev pub TicketsAscend : List Pending → Type 0
TicketsAscend [] = Unit {0}
TicketsAscend (p ∷ ps) = All (λ q. p.ticket < q.ticket) ps × TicketsAscend ps

-- the tickets ascend, and are places of the log
pub record AreOpen (log : ℕ) (pending : List Pending) : Type 0 where
  pub few : length pending ≤ 64
  pub low : All (λ p. p.lag ≤ 63) pending
  pub below : All (λ p. p.ticket < log) pending
  pub ascend : TicketsAscend pending

-- the log has no Done of this ticket
abbrev pub IsUnanswered : List Event → ℕ → Type 0
IsUnanswered log ticket = (place : ℕ) (ok : Bool) → slice_get log place ≢ Some (Done ticket ok)

-- no ticket is answered twice: a Done names an earlier submission, and none of those in flight
pub record AnswersMatch (log : List Event) (pending : List Pending) : Type 0 where
  pub once : IsAnsweredOnce log
  pub earlier : (place ticket : ℕ) (ok : Bool) → slice_get log place ≡ Some (Done ticket ok) → ticket < length log
  pub unanswered : All (λ p. IsUnanswered log p.ticket) pending

-- one of them is ready after at most 63 reaps in a row that give none
abbrev pub IsPatient : List Pending → ℕ → Type 0
IsPatient pending waits = ((pending ≡ []) × (waits ≡ 0)) ⊎ ((p : Pending) × Contains pending p × (p.lag + waits ≤ 63))

-- the one at this place is the first that waits for no reap
pub record IsFirstReady (pending : List Pending) (place : ℕ) : Type 0 where
  pub next : Pending
  pub is_open : slice_get pending place ≡ Some next
  pub ready : next.lag ≡ 0
  pub earlier : All (λ p. 0 < p.lag) (take place pending)

-- the ready one of least ticket was taken out, and the others wait for one reap fewer
pub record WasTaken (old : List Pending) (p : Pending) (new : List Pending) : Type 0 where
  pub is_open : Contains old p
  pub ready : p.lag ≡ 0
  pub least : All (λ q. q.lag ≡ 0 → p.ticket ≤ q.ticket) old
  pub rest : new ≡ map lowered (others p.ticket old)

-- none is ready, and each waits for one reap fewer
pub record NoneWasReady (old new : List Pending) : Type 0 where
  pub waiting : All (λ p. 0 < p.lag) old
  pub rest : new ≡ map lowered old
