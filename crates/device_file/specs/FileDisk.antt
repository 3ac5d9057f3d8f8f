-- What is seen of a device over a file.
use Rattle.std.specs.Prelude.{ℕ, List, [], None}
use Rattle.block_device.specs.Prelude.{Disk, Flight}

-- the disk, and how often it has failed
pub record FileDisk : Type 0 where
  pub disk : Disk
  pub faults : ℕ

-- a disk that tells neither contents nor log, with these in flight
abbrev pub silent : ℕ → List Flight → Disk
silent units flights = record { units = units; depth = 64; flights = flights; waits = 0; history = None }

-- a device over a file that was just opened
abbrev pub fresh_file : ℕ → FileDisk
fresh_file units = record { disk = silent units []; faults = 0 }
