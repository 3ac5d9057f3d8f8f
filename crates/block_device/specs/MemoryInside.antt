-- How a device in memory is kept.
use Rattle.std.specs.Prelude.{◌≡◌, ◌+◌, ◌≤◌, length, vec_capacity}
use Rattle.block_device.specs.Log.{last}
use Rattle.block_device.specs.Memory.{MemoryDisk, IsMemoryDisk}
use Rattle.block_device.specs.declared.memory.MemoryDevice.TheInside.{Inside}

abbrev pub memory_disk : Inside → MemoryDisk
memory_disk m = record {
  units = m.units;
  start = m.start.items;
  log = m.log.items;
  pending = m.pending.items;
  waits = m.waits;
  faults = m.fault_count;
  writes = m.writes;
  flushes = m.flushes;
  reads = m.reads;
  lags = m.lags.items;
  fails = m.fails.items;
}

-- the present contents follow from the log, which has the room of the Dones that are to come
pub record IsMemoryKept (m : Inside) : Type 0 where
  pub facts : IsMemoryDisk (memory_disk m)
  pub contents : m.contents.items ≡ last m.start.items m.log.items
  pub same_size : length m.contents.items ≡ length m.start.items
  pub room : length m.log.items + length m.pending.items ≤ vec_capacity m.log
