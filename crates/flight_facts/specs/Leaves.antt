-- What a step does at the device, and what it makes of the book, whatever is known of the state that it meets.
use Rattle.std.specs.Prelude.{◌≡◌, ℕ, Bool, List, ◌++◌, map}
use Rattle.block_device.specs.Prelude.{Disk, Submitted, Reaped, Waited}
use Rattle.block_device.specs.declared.event.Event.{Event}
use Rattle.store_steps.specs.declared.step.Step.{Step}
use Rattle.store_steps.specs.declared.step.Step.TheVariants.{Take, Finish}
use Rattle.store_steps.specs.declared.context.Context.{Context}
use Rattle.store_steps.specs.Prelude.{State, commit_of, acknowledged}

-- nothing, a submission, the end of one, or an answer None
pub data DeviceGoes (d d' : Disk) : Type 0 where
  rests : d' ≡ d → DeviceGoes d d'
  submits : (ticket : ℕ) (e : Event) → Submitted d ticket e d' → DeviceGoes d d'
  takes_end : (ticket : ℕ) (ok : Bool) → Reaped d ticket ok d' → DeviceGoes d d'
  gives_none : Waited d d' → DeviceGoes d d'

-- the book stays; commits that aren't acknowledged come last, where a batch is opened; or the next one is acknowledged
pub data BookStep (s s' : State) : Step → Type 0 where
  book_same : {step : Step} → s'.book ≡ s.book → BookStep s s' step
  book_commits : (xs : List Context) → s'.book ≡ record s.book { commits = s.book.commits ++ map commit_of xs } → BookStep s s' Take
  book_acks : s'.book ≡ record s.book { commits = acknowledged s.events s.book.commits } → BookStep s s' Finish
