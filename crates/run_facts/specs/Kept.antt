-- What the kernel keeps, whatever its device tells.
use Rattle.std.specs.Prelude.{◌≡◌, ℕ, ◌+◌, ◌≤◌, ◌^◌, [], None}
use Rattle.block_device.specs.Prelude.{Disk, IsSound}
use Rattle.meta_rows.specs.Prelude.{RowsFit}
use Rattle.meta_log.specs.Prelude.{IsSuper, AreRunsFrom}
use Rattle.unit_allocator.specs.Prelude.{Space}
use Rattle.plan_rows.specs.Prelude.{IsGood, IsAboveBlobs}
use Rattle.store_steps.specs.Prelude.{State, Found, SpaceIsCounted, HoldsAreCounted, rows_units, AreRowsWithin, rows_part, book_part}
use Rattle.flight_facts.specs.Prelude.{AreFlights, FlightsMatch, budget, work_left}
use Rattle.run_facts.specs.Space.{IsSpaceOf, AreRowsKept}
use Rattle.run_facts.specs.Room.{HasRoom, AreEntriesFew, IsBookKept}

-- what it keeps always, also while it is down
pub record IsAlwaysKept (s : State) (d : Disk) : Type 0 where
  pub device : IsSound d
  pub limits : IsSuper s.log.sup
  pub units : s.log.sup.units ≡ d.units
  pub space : IsSpaceOf s.log.sup s.space
  pub flights : AreFlights s.flying d.flights
  pub few : AreEntriesFew s
  pub book : IsBookKept (book_part s)
  pub events : s.events + work_left s ≤ budget s
  pub numbers : s.log.number + work_left s ≤ budget s
  pub epochs : s.log.sup.epoch + work_left s ≤ budget s
  pub sbids : s.next_sbid ≤ 2 ^ 62

-- what it keeps while it isn't
pub record IsKeptUp (s : State) (d : Disk) : Type 0 where
  pub flights : FlightsMatch s d.flights
  pub rows : AreRowsKept (rows_part s)
  pub room : HasRoom (rows_part s)
  pub within : AreRowsWithin (rows_part s)
  pub stale : AreRunsFrom 0 s.log.sup.half s.log.stale

pub record IsKept (s : State) (d : Disk) : Type 0 where
  pub always : IsAlwaysKept s d
  pub up : s.down ≡ None → IsKeptUp s d

-- What a kernel asks of the store that it is opened on, whose device has so many units, with the number of its next blob.
pub record IsOpenable (f : Found) (s : Space) (next units : ℕ) : Type 0 where
  pub limits : IsSuper f.sup
  pub units_are : f.sup.units ≡ units
  pub number : f.number ≤ 2 ^ 61
  pub tail : f.tail ≤ f.sup.half
  pub epoch : f.sup.epoch ≤ 2 ^ 61
  pub within : rows_units f.rows ≤ f.tail
  pub spelled : RowsFit f.rows
  pub stale : AreRunsFrom 0 f.sup.half f.stale
  pub good : IsGood f.sup f.rows
  pub space : IsSpaceOf f.sup s
  pub counted : SpaceIsCounted f.sup f.rows [] s
  pub held : HoldsAreCounted f.sup f.rows s
  pub above : IsAboveBlobs next f.rows
  pub sbids : next ≤ 2 ^ 62
