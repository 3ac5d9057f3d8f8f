-- Which steps may fail for want of memory, and what a batch needs of the log.
use Rattle.std.specs.Prelude.{◌+◌, ◌<◌, ◌≤◌}
use Rattle.store_steps.specs.declared.step.Step.{Step}
use Rattle.store_steps.specs.declared.step.Step.TheVariants.{Data, Reap, Take, Flush, Seal, Record, Sync, Commit, Finish, CheckWrite, CheckFlush, SlotWrite, SlotFlush, Switch}
use Rattle.store_steps.specs.Prelude.{State, units_taken}

-- a step that takes memory; the others do what they do whatever memory there is
abbrev pub TakesMemory : Step → Type 0
TakesMemory Data = Unit {0}
TakesMemory Reap = ⊥
TakesMemory Take = Unit {0}
TakesMemory Flush = Unit {0}
TakesMemory Seal = Unit {0}
TakesMemory Record = Unit {0}
TakesMemory Sync = Unit {0}
TakesMemory Commit = ⊥
TakesMemory Finish = ⊥
TakesMemory CheckWrite = Unit {0}
TakesMemory CheckFlush = Unit {0}
TakesMemory SlotWrite = Unit {0}
TakesMemory SlotFlush = Unit {0}
TakesMemory Switch = ⊥

-- the record of the contexts that come next fits behind the tail, or it is too long for what the half has left
pub record NextFits (s : State) : Type 0 where
  pub fits : s.log.tail + units_taken s ≤ s.log.sup.half

pub record NextIsTooLong (s : State) : Type 0 where
  pub too_long : s.log.sup.half < s.log.tail + units_taken s
