-- What a run of clients comes to, whose scripts are run beside each other.
use Rattle.std.specs.Prelude.{◌≡◌, ◌⊎◌, ℕ, ◌+◌, ◌<◌, ◌==◌, List, [], ◌∷◌, ◌++◌, map, filter, length, Option, Some, None, is_some, true}
use Rattle.std.specs.List.{AllByRecursion}
use Rattle.block_device.specs.Prelude.{Disk}
use Rattle.object_model.specs.declared.book.Book.{Book}
use Rattle.object_model.specs.declared.book.Entry.{Entry}
use Rattle.object_model.specs.declared.command.Command.{Command}
use Rattle.script_text.specs.Prelude.{FitsWhat}
use Rattle.script_text.specs.declared.line.Line.{Line}
use Rattle.store_steps.specs.Prelude.{State, Call, stepping}
use Rattle.store_kernel.specs.Steps.{TakesMemory}
use Rattle.store_kernel.specs.ToRead.{NeedsDevice}
use Rattle.store_kernel.specs.declared.step_fail.StepFail.{StepFail}
use Rattle.store_kernel.specs.declared.step_fail.StepFail.TheVariants as step
use Rattle.client_runs.specs.declared.run_fail.RunFail.{RunFail}
use Rattle.client_runs.specs.declared.run_fail.RunFail.TheVariants as run
use Rattle.client_runs.specs.Choice.{Ask, asks_of, turned, call_of, IsDrawnOf, calls_at, Position, at_position, LeadsTo}

-- ---- before a run

abbrev pub empty_book : Book
empty_book = record { entries = []; commits = [] }

-- nothing was asked of the kernel yet, and nothing is under way
pub record IsNew (s : State) : Type 0 where
  pub book : s.book ≡ empty_book
  pub pending : s.pending ≡ []
  pub batch : s.batch ≡ None

-- a line says something that scripts can say
abbrev pub FitsLine : Line → Type 0
FitsLine l = FitsWhat l.what

-- how many commands these are together
abbrev pub command_sum : List (List Ask) → ℕ
command_sum [] = 0
command_sum (asks ∷ more) = length asks + command_sum more

-- ---- entries

-- what an entry of the book says of a command: the client, the line, and the command
pub record Asked : Type 0 where
  pub client : ℕ
  pub line : ℕ
  pub command : Command

abbrev pub asked_in : Entry → Asked
asked_in e = record { client = e.client; line = e.line; command = e.command }

-- a command of the script of a client
abbrev pub asked_by : ℕ → Ask → Asked
asked_by client a = record { client = client; line = a.line; command = a.command }

-- a client's entries, in order
abbrev pub entries_of : ℕ → List Entry → List Entry
entries_of client entries = filter (λ e. e.client == client) entries

-- a client's entries are its first commands, in order, each with its line, and these are left
abbrev pub AskedUpTo : ℕ → List Ask → List Entry → List Ask → Type 0
AskedUpTo client asks entries left = map (asked_by client) asks ≡ map asked_in (entries_of client entries) ++ map (asked_by client) left

-- so it is of each client, of which the first has this number
abbrev pub EachAskedUpTo : ℕ → List (List Ask) → List Entry → List (List Ask) → Type 0
EachAskedUpTo client [] entries [] = Unit {0}
EachAskedUpTo client (asks ∷ more) entries (left ∷ lefts) = AskedUpTo client asks entries left × EachAskedUpTo (client + 1) more entries lefts
EachAskedUpTo client scripts entries lefts = ⊥

-- the entries are of these clients' commands, of each the first ones in order, and these are left
pub record AreAsked (scripts : List (List Ask)) (entries : List Entry) (lefts : List (List Ask)) : Type 0 where
  pub each : EachAskedUpTo 0 scripts entries lefts
  pub no_other : AllByRecursion (λ e. e.client < length scripts) entries

-- ---- ends

-- A command of a client was drawn for which the device has to be read, and the device failed at that: the command has no entry, and from then on
-- no client has commands left.
pub record LosesRead (p q : Position) : Type 0 where
  pub client : ℕ
  pub line : ℕ
  pub command : Command
  pub x : q.x ≡ turned p.x
  pub drawn : IsDrawnOf q.x (calls_at p) (call_of client line command)
  pub needs : NeedsDevice command p.state
  pub clients : q.clients ≡ []
  pub state : q.state ≡ p.state
  pub disk : q.disk ≡ p.disk

-- a call that takes memory: a command of a client, or a step that does
abbrev pub CallTakesMemory : Call → Type 0
CallTakesMemory (stepping s) = TakesMemory s
CallTakesMemory command = Unit {0}

-- There was no memory for what was drawn next, and nothing of it was done.
pub record LacksMemory (p : Position) : Type 0 where
  pub up : p.state.down ≡ None
  pub call : Call
  pub drawn : IsDrawnOf (turned p.x) (calls_at p) call
  pub takes : CallTakesMemory call

-- how drawing ended: nothing was left to be drawn, a submission ended badly, or memory ran out
abbrev pub EndsAs : Option StepFail → Position → Type 0
EndsAs None p = (calls_at p ≡ []) × (p.state.down ≡ None)
EndsAs (Some step.Fault) p = is_some p.state.down ≡ true
EndsAs (Some step.Memory) p = LacksMemory p

-- a read was lost, and steps alone were drawn from then on
pub record EndsAfterRead (p q : Position) : Type 0 where
  pub resumed : Position
  pub lost : LosesRead p resumed
  pub leads : LeadsTo resumed q
  pub fail : Option StepFail
  pub ended : EndsAs fail q

-- there was no memory for the clients, and nothing was drawn
abbrev pub HasNotBegun : Position → Position → Type 0
HasNotBegun start p = (p ≡ start) × (p.state.down ≡ None)

-- how a run ended that began at a start: drawing ended where the clients were, or a read was lost there
abbrev pub EndsRun : Position → Option RunFail → Position → Position → Type 0
EndsRun start None p q = (q ≡ p) × EndsAs None p
EndsRun start (Some run.Fault) p q = (q ≡ p) × EndsAs (Some step.Fault) p
EndsRun start (Some run.Memory) p q = (q ≡ p) × (EndsAs (Some step.Memory) p ⊎ HasNotBegun start p)
EndsRun start (Some run.DeviceRead) p q = EndsAfterRead p q

-- a run that ended so lost a read, and steps were drawn from then on until none was ready
abbrev pub HasDrainedAfterRead : (start : Position) (fail : Option RunFail) (p q : Position) → EndsRun start fail p q → Type 0
HasDrainedAfterRead start (Some run.DeviceRead) p q ended = ended.fail ≡ None
HasDrainedAfterRead start fail p q ended = ⊥

-- The scripts were run, each by a client, up to a last position: while clients went on drawn calls led to `reached`, and then the run ended.
pub record RunsUpTo (fail : Option RunFail) (x : ℕ) (scripts : List (List Line)) (s : State) (d : Disk) (s' : State) (d' : Disk) : Type 0 where
  pub reached : Position
  pub leads : LeadsTo (at_position x (map asks_of scripts) s d) reached
  pub last : Position
  pub ended : EndsRun (at_position x (map asks_of scripts) s d) fail reached last
  pub state : last.state ≡ s'
  pub disk : last.disk ≡ d'
  pub asked : AreAsked (map asks_of scripts) s'.book.entries reached.clients
