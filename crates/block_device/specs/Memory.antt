-- What is seen of a device in memory: all that its answers follow from.
use Rattle.std.specs.Prelude.{◌≡◌, ℕ, ◌+◌, ◌/◌, ◌≤◌, List, [], ◌∷◌, ◌++◌, length, map, not, Some, Bool, All}
use Rattle.byte_maps.specs.Units.{IsUnits}
use Rattle.block_device.specs.Image.{IsWholeLog}
use Rattle.block_device.specs.Disk.{Disk}
use Rattle.block_device.specs.Fails.{write_fails, flush_fails, read_fails, lag_at, counted, faults_after}
use Rattle.block_device.specs.Pending.{flight, AreOpen, AnswersMatch, IsPatient, WasTaken, NoneWasReady}
use Rattle.block_device.specs.declared.event.Event.{Event}
use Rattle.block_device.specs.declared.event.Event.TheVariants.{Write, Flush, Done}
use Rattle.block_device.specs.declared.kind.Kind.{Kind}
use Rattle.block_device.specs.declared.pending.Pending.{Pending}

-- the start contents and the log, what is in flight, the counts of calls so far, and the lists that say what waits and fails
pub record MemoryDisk : Type 0 where
  pub units : ℕ
  pub start : List ℕ
  pub log : List Event
  pub pending : List Pending
  pub waits : ℕ
  pub faults : ℕ
  pub writes : ℕ
  pub flushes : ℕ
  pub reads : ℕ
  pub lags : List ℕ
  pub fails : List (Kind × ℕ)

-- as a device: it tells, and has depth 64
abbrev pub disk_of : MemoryDisk → Disk
disk_of d = record { units = d.units; depth = 64; flights = map flight d.pending; waits = d.waits; history = Some (record { start = d.start; log = d.log }) }

-- a device in memory that did nothing yet
abbrev pub fresh_memory : List ℕ → List ℕ → List (Kind × ℕ) → MemoryDisk
fresh_memory contents lags fails = record {
  units = length contents / 4096;
  start = contents;
  log = [];
  pending = [];
  waits = 0;
  faults = 0;
  writes = 0;
  flushes = 0;
  reads = 0;
  lags = lags;
  fails = fails;
}

-- what the next submission waits for, numbered over writes and flushes together
abbrev pub next_lag : MemoryDisk → ℕ
next_lag d = lag_at d.lags (d.writes + d.flushes)

-- after a write was submitted: it ends well unless its number is listed
abbrev pub after_write : MemoryDisk → ℕ → List ℕ → MemoryDisk
after_write d at bytes = record d {
  log = d.log ++ Write at bytes ∷ [];
  pending = d.pending ++ record { ticket = length d.log; first = at; bytes = length bytes; ok = not (write_fails d.fails d.writes); lag = next_lag d } ∷ [];
  writes = d.writes + 1;
}

-- after a flush was
abbrev pub after_flush : MemoryDisk → MemoryDisk
after_flush d = record d {
  log = d.log ++ Flush ∷ [];
  pending = d.pending ++ record { ticket = length d.log; first = 0; bytes = 0; ok = not (flush_fails d.fails d.flushes); lag = next_lag d } ∷ [];
  flushes = d.flushes + 1;
}

-- the ticket that a reap gave is the least that waits for no reap
pub record GaveNext (old : MemoryDisk) (ticket : ℕ) (ok : Bool) (new : MemoryDisk) : Type 0 where
  pub next : Pending
  pub taken : WasTaken old.pending next new.pending
  pub is : (ticket ≡ next.ticket) × (ok ≡ next.ok)
  pub after : new ≡ record old { log = old.log ++ Done ticket ok ∷ []; pending = new.pending; waits = 0; faults = faults_after old.faults ok }

-- a reap gave none: no ticket in flight is ready
pub record GaveNone (old new : MemoryDisk) : Type 0 where
  pub none : NoneWasReady old.pending new.pending
  pub after : new ≡ record old { pending = new.pending; waits = new.waits }

-- after a read: just the listed ones fail
abbrev pub after_read : MemoryDisk → MemoryDisk
after_read d = record d { reads = counted d.reads; faults = faults_after d.faults (not (read_fails d.fails d.reads)) }

-- what holds of each device in memory
pub record IsMemoryDisk (d : MemoryDisk) : Type 0 where
  pub units : d.units ≤ 1048576
  pub size : IsUnits d.units d.start
  pub fits : IsWholeLog (length d.start) d.log
  pub answers : AnswersMatch d.log d.pending
  pub in_flight : AreOpen (length d.log) d.pending
  pub lags : All (λ lag. lag ≤ 63) d.lags
  pub patient : IsPatient d.pending d.waits
  pub counts : d.writes + d.flushes ≤ length d.log
