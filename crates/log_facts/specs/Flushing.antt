-- How far a flush has come, and what is known of the units that it is for.
use Rattle.std.specs.Prelude.{ℕ, ◌+◌, ◌<◌, ◌≤◌, List}
use Rattle.block_device.specs.Prelude.{WritesUnit, IsClean, IsCovered}
use Rattle.block_device.specs.declared.event.Event.{Event}

-- A flush that a store has to make: it is not submitted, it is in flight under this ticket, or it has ended well.
pub data FlushState : Type 0 where
  not_sent : FlushState
  sent : (ticket : ℕ) → FlushState
  flushed : FlushState

-- what is known of a unit that the flush is for: once it is submitted it covers the unit, and once it has ended the unit is clean
abbrev pub IsFlushed : List Event → FlushState → ℕ → Type 0
IsFlushed log not_sent unit = Unit {0}
IsFlushed log (sent ticket) unit = IsCovered log ticket unit
IsFlushed log flushed unit = IsClean log unit

-- the event writes none of so many units from one on
abbrev pub WritesNoneOf : ℕ → ℕ → Event → Type 0
WritesNoneOf first count event = (unit : ℕ) → first ≤ unit → unit < first + count → ¬ WritesUnit unit event
