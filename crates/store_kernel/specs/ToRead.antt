-- Commands for which the device has to be read, by the kernel's state.
use Rattle.std.specs.Prelude.{ℕ, ◌≤◌, List}
use Rattle.meta_log.specs.Prelude.{width_of}
use Rattle.object_model.specs.Prelude.{Change}
use Rattle.object_model.specs.declared.command.Command.{Command}
use Rattle.object_model.specs.declared.command.Command.TheVariants as ask
use Rattle.object_model.specs.declared.command.Read.{Read}
use Rattle.store_image.specs.Prelude.{PageUnit}
use Rattle.read_facts.specs.Prelude.{IsNotRefused}
use Rattle.plan_drafts.specs.Prelude.{AsksFor}
use Rattle.page_sources.specs.Prelude.{HasPlaceToRead}
use Rattle.object_reader.specs.ToRead.{ReadNeedsDevice}
use Rattle.store_steps.specs.Prelude.{State, free_count, memory_of}

-- The transaction isn't refused, units suffice for it, and it keeps old bytes of a unit that isn't in memory.
pub record ChangeNeedsDevice (change : Change) (s : State) : Type 0 where
  pub not_refused : IsNotRefused s.submitted (ask.Change change)
  pub need : ℕ
  pub places : List PageUnit
  pub asks : AsksFor (width_of s.log.sup) change s.submitted need places
  pub enough : need ≤ free_count s.space
  pub to_read : HasPlaceToRead (memory_of s) places

-- A read asks for bytes of a page that stands on such a unit.
abbrev pub AskNeedsDevice : Read → State → Type 0
AskNeedsDevice read s = ReadNeedsDevice (width_of s.log.sup) (memory_of s) s.submitted read

-- a command can be answered only once the device is read for it
abbrev pub NeedsDevice : Command → State → Type 0
NeedsDevice (ask.Change change) s = ChangeNeedsDevice change s
NeedsDevice (ask.Read read) s = AskNeedsDevice read s
