-- Which call comes next: it is drawn from the calls that can be made, the clients' and the kernel's steps.
use Rattle.std.specs.Prelude.{◌≡◌, ℕ, zero, suc, ◌+◌, ◌*◌, ◌/◌, ◌%◌, ◌^◌, ◌==◌, ◌&&◌, ◌||◌, not, Bool, false, if◌then◌else◌, List, [], ◌∷◌, ◌++◌, length, map, drop, slice_get, Some, is_some}
use Rattle.block_device.specs.Prelude.{Disk, IsSound}
use Rattle.object_model.specs.Prelude.{accepted_change, is_acknowledged}
use Rattle.object_model.specs.declared.book.Book.{Book}
use Rattle.object_model.specs.declared.book.Commit.{Commit}
use Rattle.object_model.specs.declared.book.Entry.{Entry}
use Rattle.object_model.specs.declared.command.Command.{Command}
use Rattle.object_model.specs.declared.command.Command.TheVariants as command
use Rattle.script_text.specs.Prelude.{is_wait}
use Rattle.script_text.specs.declared.line.Line.{Line}
use Rattle.script_text.specs.declared.line.What.{What}
use Rattle.script_text.specs.declared.line.What.TheVariants as what
use Rattle.store_steps.specs.declared.step.Step.{Step}
use Rattle.store_steps.specs.Prelude.{State, ready_steps, Call, submitting, reading, stepping, Calls}

-- ---- scripts

-- a command of a script: the line that it stands on, and whether a `wait` stands between it and the command before it
pub record Ask : Type 0 where
  pub line : ℕ
  pub waits : Bool
  pub command : Command

-- the command that a line says, behind a `wait` or not
abbrev pub asked : Bool → ℕ → What → List Ask
asked waits line (what.Command command) = record { line = line; waits = waits; command = command } ∷ []
asked waits line what.Wait = []

-- The commands of lines in order, of which the first may stand behind a `wait`. Each other `wait` is a mark at the command behind it.
abbrev pub asks_from : Bool → List Line → List Ask
asks_from waits [] = []
asks_from waits (l ∷ ls) = asked waits l.line l.what ++ asks_from (is_wait l.what) ls

-- the commands of a script
abbrev pub asks_of : List Line → List Ask
asks_of lines = asks_from false lines

-- ---- waiting

-- whether an entry is an accepted transaction of a client
abbrev pub is_accepted_of : ℕ → Entry → Bool
is_accepted_of client e = (e.client == client) && is_some (accepted_change e.command e.answer)

-- how many of a client's accepted transactions aren't acknowledged, where the first of these entries has this place
abbrev pub unacked_from : ℕ → List Commit → ℕ → List Entry → ℕ
unacked_from client commits place [] = 0
unacked_from client commits place (e ∷ es) = let later : ℕ = unacked_from client commits (place + 1) es in
    if is_accepted_of client e && not (is_acknowledged commits place) then later + 1 else later

-- how many of a client's accepted transactions aren't acknowledged
abbrev pub unacked : ℕ → Book → ℕ
unacked client book = unacked_from client book.commits 0 book.entries

-- whether a command of a client can come now: a `wait` before it is over once all its accepted transactions are acknowledged
abbrev pub may_ask : ℕ → Ask → Book → Bool
may_ask client a book = not a.waits || (unacked client book == 0)

-- ---- what can come next

-- the call of the kernel that a command of a client is
abbrev pub call_of : ℕ → ℕ → Command → Call
call_of client line (command.Change change) = submitting client line change
call_of client line (command.Read read) = reading client line read

-- the call of a client's next command, where it has one that can come now
abbrev pub next_call : ℕ → List Ask → Book → List Call
next_call client [] book = []
next_call client (a ∷ rest) book = if may_ask client a book then call_of client a.line a.command ∷ [] else []

-- those of all clients by their numbers, of which the first is this one, where so much is left of each one's script
abbrev pub client_calls : ℕ → List (List Ask) → Book → List Call
client_calls client [] book = []
client_calls client (asks ∷ more) book = next_call client asks book ++ client_calls (client + 1) more book

-- the ready steps in the order of their table: the kernel is drained where there is none
unfoldable pub ready_list : ℕ → State → List Step
ready_list depth s = ready_steps depth s

-- the calls that can be made, where these steps are ready: those of the clients, and then theirs
abbrev pub possible_calls : List (List Ask) → Book → List Step → List Call
possible_calls clients book ready = client_calls 0 clients book ++ map stepping ready

-- one turn of the generator
abbrev pub turned : ℕ → ℕ
turned x = (6364136223846793005 * x + 1442695040888963407) % 2 ^ 64

-- the one of these calls that a number of the generator draws
abbrev pub IsDrawnOf : ℕ → List Call → Call → Type 0
IsDrawnOf x calls call = slice_get calls ((x / 2 ^ 33) % length calls) ≡ Some call

-- ---- drawn runs

-- what is left of the scripts once this client's next command is made
abbrev pub scripts_behind : ℕ → List (List Ask) → List (List Ask)
scripts_behind client [] = []
scripts_behind zero (asks ∷ more) = drop 1 asks ∷ more
scripts_behind (suc client) (asks ∷ more) = asks ∷ scripts_behind client more

-- and behind a call
abbrev pub asks_after : Call → List (List Ask) → List (List Ask)
asks_after (submitting client line change) clients = scripts_behind client clients
asks_after (reading client line read) clients = scripts_behind client clients
asks_after (stepping step) clients = clients

-- where a run stands: the number of the generator, what is left of each client's script, the kernel's state, and its device
pub record Position : Type 0 where
  pub x : ℕ
  pub clients : List (List Ask)
  pub state : State
  pub disk : Disk

abbrev pub at_position : ℕ → List (List Ask) → State → Disk → Position
at_position x clients state disk = record { x = x; clients = clients; state = state; disk = disk }

-- the calls that can be made there
abbrev pub calls_at : Position → List Call
calls_at p = possible_calls p.clients p.state.book (ready_list p.disk.depth p.state)

-- The generator is turned, and the call that it draws is made. Behind it holds of the device what holds of every device.
pub record Draws (p : Position) (call : Call) (q : Position) : Type 0 where
  pub x : q.x ≡ turned p.x
  pub drawn : IsDrawnOf q.x (calls_at p) call
  pub called : Calls call p.state p.disk q.state q.disk
  pub sound : IsSound q.disk
  pub clients : q.clients ≡ asks_after call p.clients

-- calls, each drawn where it is made, lead from one position to another
abbrev pub IsDrawnRun : Position → List Call → Position → Type 0
IsDrawnRun p [] q = q ≡ p
IsDrawnRun p (call ∷ calls) q = (r : Position) × (Draws p call r × IsDrawnRun r calls q)

-- some drawn calls lead from one position to another
pub record LeadsTo (p q : Position) : Type 0 where
  pub calls : List Call
  pub run : IsDrawnRun p calls q
