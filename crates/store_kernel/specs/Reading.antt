-- What comes of a read that isn't answered.
use Rattle.std.specs.Prelude.{◌≡◌}
use Rattle.object_model.specs.declared.command.Read.{Read}
use Rattle.store_steps.specs.Prelude.{State, IsDownBy, IsBookFull}
use Rattle.store_kernel.specs.ToRead.{AskNeedsDevice}
use Rattle.store_kernel.specs.declared.unanswered.Unanswered.{Unanswered}
use Rattle.store_kernel.specs.declared.unanswered.Unanswered.TheVariants as why
use Rattle.store_kernel.specs.declared.unanswered.WalkFail.{WalkFail}
use Rattle.store_kernel.specs.declared.unanswered.WalkFail.TheVariants as walk

-- Nothing changes, and the read comes back: the kernel is down, its book is full, memory ran out, or the device failed, which it can only
-- where it has to be read.
abbrev pub UnansweredBy : Unanswered → Read → State → State → Type 0
UnansweredBy (why.Down ticket back) read s s' = IsDownBy ticket s × (s' ≡ s) × (back ≡ read)
UnansweredBy (why.BookFull back) read s s' = IsBookFull s × (s' ≡ s) × (back ≡ read)
UnansweredBy (why.DeviceRead back) read s s' = (s' ≡ s) × (back ≡ read) × AskNeedsDevice read s
UnansweredBy (why.Memory back) read s s' = (s' ≡ s) × (back ≡ read)

abbrev pub IsDeviceRead : Unanswered → Type 0
IsDeviceRead (why.DeviceRead back) = Unit {0}
IsDeviceRead other = ⊥

-- a walk that says that the kernel is down is right
abbrev pub IsDownFail : WalkFail → State → Type 0
IsDownFail (walk.Down ticket) s = IsDownBy ticket s
IsDownFail walk.DeviceRead s = Unit {0}
IsDownFail walk.Memory s = Unit {0}
