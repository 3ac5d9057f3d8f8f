-- What a step needs to know of what is in flight.
use Rattle.std.specs.Prelude.{◌≡◌, ◌≤◌, None}
use Rattle.std.specs.List.{AllByRecursion}
use Rattle.block_device.specs.Prelude.{Disk}
use Rattle.store_steps.specs.Prelude.{State, applied_count, intent_of}
use Rattle.flight_facts.specs.Flights.{AreFlights}
use Rattle.flight_facts.specs.Jobs.{FlightsMatch}
use Rattle.flight_facts.specs.Records.{FitsRecord}
use Rattle.flight_facts.specs.Checks.{HasCheckRoom}

-- The tickets are those of the device, and no more is acknowledged than is applied. While the kernel isn't down what is in flight is known part by
-- part, each context that waits fits its record, and a checkpoint has room.
pub record AreFlightsKnown (s : State) (d : Disk) : Type 0 where
  pub tickets : AreFlights s.flying d.flights
  pub acked : s.acked ≤ applied_count s
  pub parts : s.down ≡ None → FlightsMatch s d.flights
  pub fits : s.down ≡ None → AllByRecursion (λ x. FitsRecord (intent_of x)) s.pending
  pub checks : s.down ≡ None → HasCheckRoom s.log s.pending
