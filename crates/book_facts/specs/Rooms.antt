-- What accepted transactions take of the units that are free when the kernel is opened, and of the room in the log.
use mathlib.Core.Logic.{inl, inr}
use Rattle.std.specs.Prelude.{ℕ, ◌+◌, Bool, true, false, ◌||◌, List, [], ◌∷◌, map}
use Rattle.block_device.specs.Prelude.{Disk}
use Rattle.object_model.specs.Prelude.{Change, accepted}
use Rattle.object_model.specs.declared.book.Entry.{Entry}
use Rattle.object_model.specs.declared.command.Answer.{Answer}
use Rattle.object_model.specs.declared.command.Answer.TheVariants as answer
use Rattle.object_model.specs.declared.command.Command.{Command}
use Rattle.object_model.specs.declared.command.Command.TheVariants as ask
use Rattle.plan_drafts.specs.Prelude.{most_units}
use Rattle.store_steps.specs.Prelude.{Call, submitting, reading, stepping, Submits, IsRun, State, need_of}

-- the units that transactions take at most
abbrev pub units_taken_by : List Change → ℕ
units_taken_by [] = 0
units_taken_by (change ∷ changes) = most_units change.ops + units_taken_by changes

-- those that the accepted transactions of entries took at most
abbrev pub units_taken_at_most : List Entry → ℕ
units_taken_at_most entries = units_taken_by (accepted entries)

-- the units that a command asks for at most, whatever the rows are
abbrev pub units_asked : Command → ℕ
units_asked (ask.Change change) = most_units change.ops
units_asked (ask.Read read) = 0

-- those that commands ask for together, also where they are refused
abbrev pub demand_of : List Command → ℕ
demand_of [] = 0
demand_of (command ∷ commands) = units_asked command + demand_of commands

-- those that the commands of entries asked for
abbrev pub demanded_by : List Entry → ℕ
demanded_by entries = demand_of (map (λ e. e.command) entries)

abbrev pub is_no_space : Answer → Bool
is_no_space (answer.NoSpace need free) = true
is_no_space other = false

-- a transaction was refused for want of units
abbrev pub any_no_space : List Entry → Bool
any_no_space [] = false
any_no_space (e ∷ es) = is_no_space e.answer || any_no_space es

-- the units of the log that a submitted transaction needs, if it is accepted
abbrev pub need_if_accepted : (client line : ℕ) (change : Change) (s : State) (d : Disk) (s' : State) → Submits client line change s d s' → ℕ
need_if_accepted client line change s d s' (inl accepts) = need_of s.log accepts.plan
need_if_accepted client line change s d s' (inr other) = 0

-- those that all transactions accepted in a run need
abbrev pub needs_in : (calls : List Call) (s : State) (d : Disk) (s' : State) (d' : Disk) → IsRun s d calls s' d' → ℕ
needs_in [] s d s' d' run = 0
needs_in (submitting client line change ∷ calls) s d s' d' run =
    need_if_accepted client line change s d run.0 run.1.1.0.1 + needs_in calls run.0 run.1.0 s' d' run.1.1.1.1
needs_in (reading client line read ∷ calls) s d s' d' run = needs_in calls run.0 run.1.0 s' d' run.1.1.1.1
needs_in (stepping step ∷ calls) s d s' d' run = needs_in calls run.0 run.1.0 s' d' run.1.1.1.1
