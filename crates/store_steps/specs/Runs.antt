-- Runs: lists of calls, each of which does what its relation says.
use Rattle.std.specs.Prelude.{◌≡◌, ◌⊎◌, ℕ, true, false, List, [], ◌∷◌}
use Rattle.block_device.specs.declared.device.Ticket.{Ticket}
use Rattle.block_device.specs.Prelude.{Disk, IsSound}
use Rattle.object_model.specs.Prelude.{Change}
use Rattle.object_model.specs.declared.command.Command.TheVariants as ask
use Rattle.object_model.specs.declared.command.Read.{Read}
use Rattle.object_model.specs.declared.command.Answer.{Answer}
use Rattle.meta_log.specs.Prelude.{width_of}
use Rattle.read_facts.specs.Prelude.{IsHeldAt, HasReadNames, IsAnswerOf}
use Rattle.store_steps.specs.declared.step.Step.{Step}
use Rattle.store_steps.specs.declared.step.Step.TheVariants.{Reap}
use Rattle.store_steps.specs.State.{State}
use Rattle.store_steps.specs.Ready.{is_ready}
use Rattle.store_steps.specs.Steps.{Does, Takes}
use Rattle.store_steps.specs.UnderWay.{memory_of}
use Rattle.plan_drafts.specs.Prelude.{IsKnown}
use Rattle.store_steps.specs.Submit.{CanNote, entered, Accepts, Refuses, IsDownBy, IsBookFull}

-- a call of the kernel that changes it
pub data Call : Type 0 where
  submitting : (client line : ℕ) (change : Change) → Call
  reading : (client line : ℕ) (read : Read) → Call
  stepping : (step : Step) → Call

-- it is turned away: nothing changes
pub record TurnsAway (s s' : State) : Type 0 where
  pub cause : ((ticket : Ticket) × IsDownBy ticket s) ⊎ IsBookFull s
  pub same : s' ≡ s

-- it is accepted, refused with an answer, or turned away
abbrev pub Submits : ℕ → ℕ → Change → State → Disk → State → Type 0
Submits client line change s d s' = Accepts client line change s d s' ⊎ ((a : Answer) × Refuses client line change a s d s') ⊎ TurnsAway s s'

-- A read is answered by the submitted rows, by the bytes of units that aren't committed, which are in memory, and by what the device holds of all
-- others. Nothing but the book changes.
pub record AnswersRead (client line : ℕ) (read : Read) (a : Answer) (s : State) (d : Disk) (s' : State) : Type 0 where
  pub can_note : CanNote s
  pub names : HasReadNames read
  pub given : IsAnswerOf (width_of s.log.sup) (memory_of s) (IsHeldAt d) s.submitted read a
  pub after : s' ≡ entered client line (ask.Read read) a s

-- it is answered, or turned away
abbrev pub Reads : ℕ → ℕ → Read → State → Disk → State → Type 0
Reads client line read s d s' = ((a : Answer) × AnswersRead client line read a s d s') ⊎ TurnsAway s s'

-- a step, but for one that takes the end of a submission that ended badly
abbrev pub DoesOrFails : Step → State → Disk → State → Disk → Type 0
DoesOrFails Reap s d s' d' = Does Reap s d s' d' ⊎ Takes s d false s' d'
DoesOrFails step s d s' d' = Does step s d s' d'

-- what a call that is made does; each may be made at any time, if its operations are known
abbrev pub Calls : Call → State → Disk → State → Disk → Type 0
Calls (submitting client line change) s d s' d' = IsKnown change.ops × Submits client line change s d s' × (d' ≡ d)
Calls (reading client line read) s d s' d' = Reads client line read s d s' × (d' ≡ d)
Calls (stepping step) s d s' d' = (is_ready step d.depth s ≡ true) × DoesOrFails step s d s' d'

-- Calls, one after another, lead from one state of kernel and device to another. Behind each of them holds of the device what holds of every device.
abbrev pub IsRun : State → Disk → List Call → State → Disk → Type 0
IsRun s d [] s' d' = (s' ≡ s) × (d' ≡ d)
IsRun s d (call ∷ calls) s' d' = (t : State) × ((e : Disk) × (Calls call s d t e × (IsSound e × IsRun t e calls s' d')))
