-- Calls of a device, made one at a time: each is submitted with nothing else in flight, and its end is awaited.
use Rattle.std.specs.Prelude.{◌≡◌, ◌⊎◌, ℕ, Bool, true, false, List, [], ◌∷◌, ◌++◌, length, map, Option, Some, None}
use Rattle.std.specs.List.{AllByRecursion}
use Rattle.block_device.specs.Prelude.{Disk, History, Flight, IsSound, history_after}
use Rattle.block_device.specs.declared.event.Event.{Event}
use Rattle.block_device.specs.declared.event.Event.TheVariants.{Write, Flush, Done}

-- this ticket alone is in flight
abbrev pub IsOnly : ℕ → List Flight → Type 0
IsOnly ticket flights = map (λ f. f.ticket) flights ≡ ticket ∷ []

-- the ticket in flight has ended
abbrev pub Ended : Disk → ℕ → Bool → Disk → Type 0
Ended old ticket ok new = new ≡ record old { flights = []; waits = 0; history = history_after old.history (Done ticket ok) }

-- the history with a submission and its end
abbrev pub after_call : Event → Bool → History → History
after_call event ok h = record { start = h.start; log = (h.log ++ event ∷ []) ++ Done (length h.log) ok ∷ [] }

abbrev pub with_call : Event → Bool → Option History → Option History
with_call event ok None = None
with_call event ok (Some h) = Some (after_call event ok h)

-- one call was made and has ended
abbrev pub Called : Disk → Event → Bool → Disk → Type 0
Called old event ok new = new ≡ record old { waits = 0; history = with_call event ok old.history }

-- what is told before and after, if anything is
abbrev pub Told : (History → History → Type 0) → Option History → Option History → Type 0
Told P None None = Unit {0}
Told P (Some old) (Some new) = P old new
Told P old new = ⊥

-- the history has gone on
pub record GoesOn (old new : History) : Type 0 where
  pub same_start : new.start ≡ old.start
  pub events : List Event
  pub more : new.log ≡ old.log ++ events

-- it has gone on by these events
pub record GoesOnBy (events : List Event) (old new : History) : Type 0 where
  pub same_start : new.start ≡ old.start
  pub more : new.log ≡ old.log ++ events

-- the event isn't the bad end of a submission
abbrev pub IsNoBadEnd : Event → Type 0
IsNoBadEnd (Write at bytes) = Unit {0}
IsNoBadEnd Flush = Unit {0}
IsNoBadEnd (Done ticket ok) = ok ≡ true

-- the history has gone on, and no submission ended badly
pub record GoesOnWell (old new : History) : Type 0 where
  pub events : List Event
  pub by : GoesOnBy events old new
  pub good : AllByRecursion IsNoBadEnd events

-- the history has gone on to the first bad end of a submission, and there is nothing behind it
pub record GoesOnToBadEnd (old new : History) : Type 0 where
  pub events : List Event
  pub ticket : ℕ
  pub by : GoesOnBy (events ++ Done ticket false ∷ []) old new
  pub good : AllByRecursion IsNoBadEnd events

-- A call failed, and nothing was submitted after it: a read, before there was a submission, or a submission, whose end is the last event.
abbrev pub StopsAtFault : History → History → Type 0
StopsAtFault old new = (new ≡ old) ⊎ GoesOnToBadEnd old new

-- the same device later, with nothing in flight
pub record IsLater (old new : Disk) : Type 0 where
  pub sound : IsSound new
  pub units : new.units ≡ old.units
  pub depth : new.depth ≡ old.depth
  pub idle : new.flights ≡ []
  pub told : Told GoesOn old.history new.history
