-- How a source in memory is kept.
use Rattle.std.specs.Prelude.{◌<◌, ◌≤◌, length, drop}
use Rattle.end_points.specs.Memory.{MemoryText}
use Rattle.end_points.specs.declared.memory_source.MemorySource.TheInside.{Inside}

abbrev pub memory_text : Inside → MemoryText
memory_text s = record { left = drop s.at s.text.items; step = s.step; fails = s.fails.items; calls = s.calls; faults = s.fault_count }

pub record IsSourceKept (s : Inside) : Type 0 where
  pub inside : s.at ≤ length s.text.items
  pub step : 0 < s.step
