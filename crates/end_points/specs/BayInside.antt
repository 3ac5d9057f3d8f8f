-- How a bay in memory is kept.
use Rattle.end_points.specs.Memory.{MemoryShelf, IsShelf}
use Rattle.end_points.specs.declared.memory_bay.MemoryBay.TheInside.{Inside}

abbrev pub memory_shelf : Inside → MemoryShelf
memory_shelf b = record {
  names = record { devices = b.devices; texts = b.texts };
  given = b.given;
  device_calls = b.device_calls;
  script_calls = b.script_calls;
  faults = b.fault_count;
  lags = b.plan.lags.items;
  device_fails = b.plan.device_fails.items;
  source_step = b.plan.source_step;
  source_fails = b.plan.source_fails.items;
  fails = b.plan.fails.items;
}

abbrev pub IsBayKept : Inside → Type 0
IsBayKept b = IsShelf (memory_shelf b)
