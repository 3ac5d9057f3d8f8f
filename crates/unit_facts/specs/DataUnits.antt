-- What is known of the units behind the log, by those that the contexts under way have taken.
use Rattle.std.specs.Prelude.{◌≡◌, ◌≢◌, ℕ, ◌≤◌, List, Option, Some, None}
use Rattle.std.specs.List.{AllByRecursion}
use Rattle.block_device.specs.Prelude.{IsClean, History, last_at}
use Rattle.meta_log.specs.declared.slot.Super.{Super}
use Rattle.meta_log.specs.Prelude.{data_unit}
use Rattle.log_facts.specs.Prelude.{FlushState, IsFlushed}
use Rattle.plan_rows.specs.declared.plan.FreshUnit.{FreshUnit}
use Rattle.store_steps.specs.Prelude.{Batch, flush_of, all_fresh}

-- each unit behind the log but for these, whose writes were submitted, is clean
abbrev pub DataUnitsAreClean : History → Super → List FreshUnit → Type 0
DataUnitsAreClean h s given = (unit : ℕ) → data_unit s ≤ unit → AllByRecursion (λ f. f.unit ≢ unit) given → IsClean h.log unit

-- the bytes last written to these are theirs
abbrev pub HeldBytesAreLast : History → List FreshUnit → Type 0
HeldBytesAreLast h given = AllByRecursion (λ f. last_at h f.unit ≡ f.bytes) given

-- what a flush says of these units
abbrev pub UnitsAreFlushed : History → FlushState → List FreshUnit → Type 0
UnitsAreFlushed h state fresh = AllByRecursion (λ f. IsFlushed h.log state f.unit) fresh

-- what the first flush of the open batch says of its fresh units
abbrev pub BatchUnitsAreFlushed : History → Option Batch → Type 0
BatchUnitsAreFlushed h None = Unit {0}
BatchUnitsAreFlushed h (Some b) = UnitsAreFlushed h (flush_of b.first) (all_fresh b.contexts)
