-- How a sink in memory is kept.
use Rattle.std.specs.Prelude.{◌<◌, ◌≤◌, length, vec_capacity}
use Rattle.end_points.specs.Memory.{MemoryOutput}
use Rattle.end_points.specs.declared.memory_sink.MemorySink.TheInside.{Inside}

abbrev pub memory_output : Inside → MemoryOutput
memory_output s = record { text = s.text.items; room = s.room; step = s.step; fails = s.fails.items; calls = s.calls; faults = s.fault_count }

pub record IsSinkKept (s : Inside) : Type 0 where
  pub few : length s.text.items ≤ s.room
  pub room : s.room ≤ vec_capacity s.text
  pub step : 0 < s.step
