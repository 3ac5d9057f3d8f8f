-- Parts of a run: what is drawn, the steps between the commands of clients, and the commands.
use Rattle.std.specs.Prelude.{◌≡◌, ℕ, ◌+◌, ◌-◌, ◌≤◌, ◌/◌, ◌%◌, ◌^◌, Bool, true, false, List, [], ◌∷◌, ◌++◌, length, slice_get, Option, Some, None, Result, Ok, Err}
use Rattle.block_device.specs.Prelude.{Disk}
use Rattle.object_model.specs.declared.book.Commit.{Commit}
use Rattle.object_model.specs.declared.book.Entry.{Entry}
use Rattle.object_model.specs.declared.command.Command.{Command}
use Rattle.store_steps.specs.declared.step.Step.{Step}
use Rattle.store_steps.specs.Prelude.{State, Calls}
use Rattle.store_kernel.specs.ToRead.{NeedsDevice}
use Rattle.store_kernel.specs.declared.refused.Refused.{Refused}
use Rattle.store_kernel.specs.declared.refused.Refused.TheVariants as refused
use Rattle.store_kernel.specs.declared.step_fail.StepFail.{StepFail}
use Rattle.store_kernel.specs.declared.step_fail.StepFail.TheVariants as step
use Rattle.store_kernel.specs.declared.unanswered.Unanswered.{Unanswered}
use Rattle.store_kernel.specs.declared.unanswered.Unanswered.TheVariants as unanswered
use Rattle.client_runs.specs.declared.clients.Clients.{Clients}
use Rattle.client_runs.specs.declared.drawing.Drawn.{Drawn}
use Rattle.client_runs.specs.declared.drawing.Drawn.TheVariants as drawn
use Rattle.client_runs.specs.declared.run_fail.RunFail.{RunFail}
use Rattle.client_runs.specs.declared.run_fail.RunFail.TheVariants as run
use Rattle.client_runs.specs.Choice.{Ask, turned, ready_list, call_of, is_accepted_of, scripts_behind, calls_at, Position, at_position, LeadsTo}
use Rattle.client_runs.specs.Running.{asked_in, LosesRead, EndsAs, AreAsked}
use Rattle.client_runs.specs.Clients.{lefts, AreTied}

-- ---- draws

-- this is the item of this number: clients that can go on come first, and then ready steps
abbrev pub IsItem : List ℕ → List Step → ℕ → Drawn → Type 0
IsItem able ready k (drawn.Client client) = slice_get able k ≡ Some client
IsItem able ready k (drawn.Step step) = (length able ≤ k) × (slice_get ready (k - length able) ≡ Some step)

-- the generator was turned, and draws this
pub record IsDrawnFrom (able : List ℕ) (ready : List Step) (x : ℕ) (item : Drawn) (x' : ℕ) : Type 0 where
  pub turn : x' ≡ turned x
  pub is : IsItem able ready ((x' / 2 ^ 33) % (length able + length ready)) item

-- there is nothing to be drawn, and the generator stands as it stood
pub record IsNothing (able : List ℕ) (ready : List Step) (x x' : ℕ) : Type 0 where
  pub no_client : able ≡ []
  pub no_step : ready ≡ []
  pub same : x' ≡ x

-- ---- steps

abbrev pub position_of : ℕ → Clients → State → Disk → Position
position_of x clients s d = at_position x (lefts clients.all.items) s d

-- the client whose transaction is acknowledged next
pub record IsAckedNext (client : ℕ) (s : State) : Type 0 where
  pub commit : Commit
  pub next : slice_get s.book.commits s.acked ≡ Some commit
  pub entry : Entry
  pub there : slice_get s.book.entries commit.place ≡ Some entry
  pub is : client ≡ entry.client

-- steps alone were drawn and made, and the clients are as far as they were
pub record StepsOn (x : ℕ) (clients : Clients) (s : State) (d : Disk) (x' : ℕ) (clients' : Clients) (s' : State) (d' : Disk) : Type 0 where
  pub leads : LeadsTo (position_of x clients s d) (position_of x' clients' s' d')
  pub same : lefts clients'.all.items ≡ lefts clients.all.items
  pub entries : s'.book.entries ≡ s.book.entries
  pub up : s'.down ≡ None
  pub tied : AreTied clients' s'

-- then a client was drawn that can go on
pub record DrawsClient (client x : ℕ) (clients : Clients) (s : State) (d : Disk) (x' : ℕ) (clients' : Clients) (s' : State) (d' : Disk) : Type 0 where
  pub y : ℕ
  pub steps : StepsOn x clients s d y clients' s' d'
  pub drawn : IsDrawnFrom clients'.able.items (ready_list d'.depth s') y (drawn.Client client) x'

-- or nothing was left to be drawn
pub record DrawsNothing (x : ℕ) (clients : Clients) (s : State) (d : Disk) (x' : ℕ) (clients' : Clients) (s' : State) (d' : Disk) : Type 0 where
  pub steps : StepsOn x clients s d x' clients' s' d'
  pub nothing : calls_at (position_of x' clients' s' d') ≡ []

abbrev pub FindsClient : Option ℕ → ℕ → Clients → State → Disk → ℕ → Clients → State → Disk → Type 0
FindsClient (Some client) x clients s d x' clients' s' d' = DrawsClient client x clients s d x' clients' s' d'
FindsClient None x clients s d x' clients' s' d' = DrawsNothing x clients s d x' clients' s' d'

-- steps were drawn that led here from a position, and drawing ended so
pub record StopsAs (fail : Option StepFail) (p : Position) (s' : State) (d' : Disk) : Type 0 where
  pub x : ℕ
  pub leads : LeadsTo p (at_position x p.clients s' d')
  pub ended : EndsAs fail (at_position x p.clients s' d')
  pub entries : s'.book.entries ≡ p.state.book.entries

-- ---- commands

-- it wasn't turned away: the kernel was up, and its book had room
abbrev pub IsNotTurnedAway : Result ℕ Refused → Type 0
IsNotTurnedAway (Err (refused.Down ticket txn)) = ⊥
IsNotTurnedAway (Err (refused.BookFull txn)) = ⊥
IsNotTurnedAway submitted = Unit {0}

-- a transaction that was submitted has its entry, accepted or not
abbrev pub IsNoted : Bool → Result ℕ Refused → Type 0
IsNoted true (Ok place) = Unit {0}
IsNoted false (Err (refused.Refusal refusal)) = Unit {0}
IsNoted false (Err (refused.NoSpace need free)) = Unit {0}
IsNoted false (Err (refused.Csum unit kept found)) = Unit {0}
IsNoted false (Err (refused.MetaFull need room)) = Unit {0}
IsNoted accepted submitted = ⊥

-- why a run ends whose transaction has none: the device or memory failed
abbrev pub IsNotNoted : RunFail → Result ℕ Refused → Type 0
IsNotNoted run.DeviceRead (Err (refused.DeviceRead txn)) = Unit {0}
IsNotNoted run.Memory (Err (refused.Memory txn)) = Unit {0}
IsNotNoted fail submitted = ⊥

-- it wasn't turned away: the kernel was up, and its book had room
abbrev pub IsNoTurnAway : Result ℕ Unanswered → Type 0
IsNoTurnAway (Err (unanswered.Down ticket back)) = ⊥
IsNoTurnAway (Err (unanswered.BookFull back)) = ⊥
IsNoTurnAway replied = Unit {0}

-- a read has its entry, or it hasn't, since the device or memory failed
abbrev pub IsReplied : Result ℕ Unanswered → Type 0
IsReplied (Ok place) = Unit {0}
IsReplied (Err why) = ⊥

-- why a run ends whose read has no answer
abbrev pub IsFailOf : RunFail → Result ℕ Unanswered → Type 0
IsFailOf run.DeviceRead (Err (unanswered.DeviceRead back)) = Unit {0}
IsFailOf run.Memory (Err (unanswered.Memory back)) = Unit {0}
IsFailOf fail replied = ⊥

-- A command of a client was made: the call did what it does, and the kernel is up. The book has one entry more, by which a transaction is accepted or not.
pub record IsMade (client line : ℕ) (command : Command) (accepted : Bool) (s : State) (d : Disk) (s' : State) (d' : Disk) : Type 0 where
  pub called : Calls (call_of client line command) s d s' d'
  pub up : s'.down ≡ None
  pub entry : Entry
  pub asked : asked_in entry ≡ record { client = client; line = line; command = command }
  pub entries : s'.book.entries ≡ s.book.entries ++ entry ∷ []
  pub commits : s'.book.commits ≡ s.book.commits
  pub accepted_is : is_accepted_of client entry ≡ accepted

-- the command has no entry, since the device failed at a read that it needs or memory ran out, and nothing changed
abbrev pub IsUnmade : RunFail → ℕ → ℕ → Command → State → Disk → State → Disk → Type 0
IsUnmade run.Fault client line command s d s' d' = ⊥
IsUnmade run.DeviceRead client line command s d s' d' = (s' ≡ s) × (d' ≡ d) × NeedsDevice command s
IsUnmade run.Memory client line command s d s' d' = (s' ≡ s) × (d' ≡ d)

-- the next command of a client was made, and the client goes on behind it
pub record AsksNext (client : ℕ) (clients : Clients) (s : State) (d : Disk) (clients' : Clients) (s' : State) (d' : Disk) : Type 0 where
  pub next : Ask
  pub rest : List Ask
  pub left : slice_get (lefts clients.all.items) client ≡ Some (next ∷ rest)
  pub accepted : Bool
  pub made : IsMade client next.line next.command accepted s d s' d'
  pub behind_it : lefts clients'.all.items ≡ scripts_behind client (lefts clients.all.items)
  pub tied : AreTied clients' s'

-- it wasn't made
pub record AsksInVain (fail : RunFail) (client : ℕ) (clients : Clients) (s : State) (d : Disk) (s' : State) (d' : Disk) : Type 0 where
  pub next : Ask
  pub rest : List Ask
  pub left : slice_get (lefts clients.all.items) client ≡ Some (next ∷ rest)
  pub unmade : IsUnmade fail client next.line next.command s d s' d'

-- ---- the clients' run

-- why a run ended, where a step failed
abbrev pub fail_of : StepFail → RunFail
fail_of step.Fault = run.Fault
fail_of step.Memory = run.Memory

-- how it ended where clients were at a position: drawing ended there, or a read was lost and steps alone can be drawn
abbrev pub EndsClients : Option RunFail → Position → ℕ → State → Disk → Type 0
EndsClients None p x' s' d' = (p.state ≡ s') × (p.disk ≡ d') × EndsAs None p
EndsClients (Some run.Fault) p x' s' d' = (p.state ≡ s') × (p.disk ≡ d') × EndsAs (Some step.Fault) p
EndsClients (Some run.Memory) p x' s' d' = (p.state ≡ s') × (p.disk ≡ d') × EndsAs (Some step.Memory) p
EndsClients (Some run.DeviceRead) p x' s' d' = LosesRead p (at_position x' [] s' d') × (s'.down ≡ None)

-- the clients went on up to a position, and there it ended
pub record RunsClients (fail : Option RunFail) (p : Position) (x' : ℕ) (s' : State) (d' : Disk) : Type 0 where
  pub reached : Position
  pub leads : LeadsTo p reached
  pub ended : EndsClients fail reached x' s' d'
  pub asked : (scripts : List (List Ask)) → AreAsked scripts p.state.book.entries p.clients → AreAsked scripts s'.book.entries reached.clients

-- after a read that was lost steps were drawn, until drawing ended somehow
pub record DrainsAfterRead (x : ℕ) (s : State) (d : Disk) (s' : State) (d' : Disk) : Type 0 where
  pub fail : Option StepFail
  pub stops : StopsAs fail (at_position x [] s d) s' d'

-- and behind another end nothing was done
abbrev pub WindsUp : RunFail → ℕ → State → Disk → State → Disk → Type 0
WindsUp run.DeviceRead x s d s' d' = DrainsAfterRead x s d s' d'
WindsUp run.Fault x s d s' d' = (s' ≡ s) × (d' ≡ d)
WindsUp run.Memory x s d s' d' = (s' ≡ s) × (d' ≡ d)
