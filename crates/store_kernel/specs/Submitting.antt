-- What comes of a transaction that isn't accepted.
use Rattle.std.specs.Prelude.{◌≡◌, ℕ}
use Rattle.block_device.specs.Prelude.{Disk}
use Rattle.store_steps.specs.Prelude.{State, IsCause, Refuses, IsDownBy, IsBookFull}
use Rattle.object_model.specs.Prelude.{Change}
use Rattle.object_model.specs.declared.command.Answer.TheVariants as answer
use Rattle.txn_planner.specs.declared.fails.PlanFail.{PlanFail}
use Rattle.txn_planner.specs.declared.fails.PlanFail.TheVariants as fail
use Rattle.page_sources.specs.declared.parts.PartFail.{PartFail}
use Rattle.page_sources.specs.declared.parts.PartFail.TheVariants as part
use Rattle.store_kernel.specs.declared.refused.Cause.{Cause}
use Rattle.store_kernel.specs.declared.refused.Cause.TheVariants as cause
use Rattle.store_kernel.specs.declared.refused.Refused.{Refused}
use Rattle.store_kernel.specs.declared.refused.Refused.TheVariants as refused
use Rattle.store_kernel.specs.ToRead.{ChangeNeedsDevice}

-- the cause, where planning has none, and where old bytes aren't read
abbrev pub cause_of_plan : PlanFail → Cause
cause_of_plan (fail.Refusal refusal) = cause.Refusal refusal
cause_of_plan (fail.NoSpace need free) = cause.NoSpace need free
cause_of_plan fail.Memory = cause.Memory

abbrev pub cause_of_read : PartFail → Cause
cause_of_read (part.BadPage bad) = cause.Csum bad.unit bad.kept bad.found
cause_of_read part.Fault = cause.DeviceRead
cause_of_read part.Memory = cause.Memory

-- why a transaction isn't accepted; want of memory comes of nothing that the state shows, and of a read that fails it shows that there is one
abbrev pub IsCauseOf : Cause → Change → State → Disk → Type 0
IsCauseOf (cause.Refusal refusal) change s d = IsCause (answer.Refused refusal) change s d
IsCauseOf (cause.NoSpace need free) change s d = IsCause (answer.NoSpace need free) change s d
IsCauseOf (cause.Csum unit kept found) change s d = IsCause (answer.Csum unit kept found) change s d
IsCauseOf (cause.MetaFull need room) change s d = IsCause (answer.MetaFull need room) change s d
IsCauseOf cause.DeviceRead change s d = ChangeNeedsDevice change s
IsCauseOf cause.Memory change s d = Unit {0}

-- The book has an entry with the answer. Where the kernel is down, its book is full, or the device or memory failed, nothing changes, and the
-- transaction comes back.
abbrev pub RefusesBy : Refused → ℕ → ℕ → Change → State → Disk → State → Type 0
RefusesBy (refused.Down ticket back) client line change s d s' = IsDownBy ticket s × (s' ≡ s) × (back ≡ change)
RefusesBy (refused.BookFull back) client line change s d s' = IsBookFull s × (s' ≡ s) × (back ≡ change)
RefusesBy (refused.Refusal refusal) client line change s d s' = Refuses client line change (answer.Refused refusal) s d s'
RefusesBy (refused.NoSpace need free) client line change s d s' = Refuses client line change (answer.NoSpace need free) s d s'
RefusesBy (refused.Csum unit kept found) client line change s d s' = Refuses client line change (answer.Csum unit kept found) s d s'
RefusesBy (refused.MetaFull need room) client line change s d s' = Refuses client line change (answer.MetaFull need room) s d s'
RefusesBy (refused.DeviceRead back) client line change s d s' = (s' ≡ s) × (back ≡ change) × ChangeNeedsDevice change s
RefusesBy (refused.Memory back) client line change s d s' = (s' ≡ s) × (back ≡ change)

-- the device failed at a read of old bytes
abbrev pub IsReadFail : Refused → Type 0
IsReadFail (refused.DeviceRead back) = Unit {0}
IsReadFail other = ⊥
