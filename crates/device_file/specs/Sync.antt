-- What holds inside a file that works at submission.
use Rattle.std.specs.Prelude.{ℕ, ◌<◌, ◌≤◌, List, [], ◌∷◌, length, map, All}
use Rattle.std.specs.VecDeque.{deque_capacity}
use Rattle.block_device.specs.Prelude.{Flight}
use Rattle.device_file.specs.FileDisk.{FileDisk, silent}
use Rattle.device_file.specs.declared.sync.Pending.{Pending}
use Rattle.device_file.specs.declared.sync.SyncFile.TheInside.{Inside}

-- what is seen of a submission that waits to be reaped
abbrev pub flight_seen : Pending → Flight
flight_seen p = record { ticket = p.ticket; first = p.first; bytes = p.bytes }

-- the tickets ascend, all below the next one
abbrev pub PendingAscend : ℕ → List Pending → Type 0
PendingAscend next [] = Unit {0}
PendingAscend next (p ∷ ps) = (p.ticket < next) × All (λ q. p.ticket < q.ticket) ps × PendingAscend next ps

-- what is seen of the fields
abbrev pub file_disk : Inside → FileDisk
file_disk f = record { disk = silent f.units (map flight_seen f.pending.items); faults = f.fault_count }

-- what the fields keep
pub record IsSyncKept (f : Inside) : Type 0 where
  pub units : f.units ≤ 1048576
  pub few : length f.pending.items ≤ 64
  pub room : 64 ≤ deque_capacity f.pending
  pub ascend : PendingAscend f.events f.pending.items
