-- The clients of a run as the program has them, and how they are tied to the scripts and to the book.
use Rattle.std.specs.Prelude.{insert, remove, ◌≡◌, ℕ, zero, suc, ◌+◌, ◌-◌, ◌<◌, ◌≤◌, ◌==◌, ◌&&◌, ◌||◌, nat_lt, not, Bool, true, false, if◌then◌else◌, List, [], ◌∷◌, length, map, slice_get, Option, Some, None, is_some, IfSome, IsSomeAnd}
use Rattle.std.specs.List.{AllByRecursion}
use Rattle.std.specs.Vec.Iter.{into_iter_items, into_iter_len}
use Rattle.object_model.specs.declared.book.Book.{Book}
use Rattle.object_model.specs.declared.book.Entry.{Entry}
use Rattle.object_model.specs.declared.command.Command.{Command}
use Rattle.script_text.specs.Prelude.{is_wait, FitsWhat}
use Rattle.script_text.specs.declared.line.Line.{Line}
use Rattle.script_text.specs.declared.line.What.TheVariants as what
use Rattle.store_steps.specs.Prelude.{State}
use Rattle.book_facts.specs.Prelude.{IsInOrder}
use Rattle.client_runs.specs.declared.client.Client.{Client}
use Rattle.client_runs.specs.declared.clients.Clients.{Clients}
use Rattle.client_runs.specs.Choice.{Ask, asks_from, asks_of, unacked}

-- ---- a client

-- what is left of a script whose next command, behind a `wait` or not, is on this line, with these lines behind it
abbrev pub asks_left : Option Line → Bool → List Line → List Ask
asks_left None waits rest = []
asks_left (Some l) waits rest = asks_from waits (l ∷ rest)

-- what is left of a client's script
abbrev pub left_of : Client → List Ask
left_of c = asks_left c.next c.waits (into_iter_items c.rest)

abbrev pub lefts : List Client → List (List Ask)
lefts clients = map left_of clients

-- the next line has a command
abbrev pub IsAtCommand : Option Line → Type 0
IsAtCommand next = IfSome next (λ l. is_wait l.what ≡ false)

-- its next line has a command, and the lines behind it are counted
pub record IsClient (c : Client) : Type 0 where
  pub at_command : IsAtCommand c.next
  pub size : length (into_iter_items c.rest) ≡ into_iter_len c.rest

-- a new client with a script
pub record IsNewClient (lines : List Line) (c : Client) : Type 0 where
  pub well : IsClient c
  pub left : left_of c ≡ asks_of lines
  pub none : c.unacked ≡ 0

-- whether it has a command left, and a `wait` before it is over
abbrev pub is_able : Client → Bool
is_able c = is_some c.next && (not c.waits || (c.unacked == 0))

-- its next command was taken
pub record TakesLine (old : Client) (l : Line) (new : Client) : Type 0 where
  pub command : Command
  pub says : l.what ≡ what.Command command
  pub left : left_of old ≡ record { line = l.line; waits = old.waits; command = command } ∷ left_of new
  pub same : new.unacked ≡ old.unacked
  pub well : IsClient new

-- one more of its transactions is under way, and one less
abbrev pub one_more : Client → Client
one_more c = record c { unacked = c.unacked + 1 }

abbrev pub one_less : Client → Client
one_less c = record c { unacked = c.unacked - 1 }

-- ---- all clients

-- the numbers of those that can go on, of which the first has this number
abbrev pub able_of : ℕ → List Client → List ℕ
able_of number [] = []
able_of number (c ∷ cs) = let later : List ℕ = able_of (number + 1) cs in if is_able c then number ∷ later else later

-- how many of these numbers, from the first on, are below this one
abbrev pub below : ℕ → List ℕ → ℕ
below number [] = 0
below number (n ∷ ns) = if nat_lt n number then suc (below number ns) else 0

-- These ascending numbers are of those that can go on. Of the client of this number it is told whether it could, and whether it can now.
abbrev pub able_after : ℕ → Bool → Bool → List ℕ → List ℕ
able_after number true false able = remove able (below number able)
able_after number false true able = insert able (below number able) number
able_after number was is able = able

-- the clients, of which one was changed
abbrev pub changed : ℕ → (Client → Client) → List Client → List Client
changed number f [] = []
changed zero f (c ∷ cs) = f c ∷ cs
changed (suc number) f (c ∷ cs) = c ∷ changed number f cs

-- there is such a client, of which this holds
abbrev pub IsOfOne : (Client → Type 0) → ℕ → List Client → Type 0
IsOfOne P number clients = IsSomeAnd (slice_get clients number) P

-- the numbers are those of the clients that can go on
pub record AreClients (clients : Clients) : Type 0 where
  pub few : length clients.all.items ≤ 64
  pub well : AllByRecursion IsClient clients.all.items
  pub able : clients.able.items ≡ able_of 0 clients.all.items

-- new clients with these scripts
pub record AreNewClients (scripts : List (List Line)) (clients : Clients) : Type 0 where
  pub are : AreClients clients
  pub left : lefts clients.all.items ≡ map asks_of scripts
  pub none : AllByRecursion (λ c. c.unacked ≡ 0) clients.all.items

-- the next command of one of them was taken
pub record TakesOf (number : ℕ) (old : List Client) (l : Line) (new : List Client) : Type 0 where
  pub before : Client
  pub there : slice_get old number ≡ Some before
  pub after : Client
  pub takes : TakesLine before l after
  pub is : new ≡ changed number (λ c. after) old

-- ---- clients and the book

-- of each client, the first of which has this number, the accepted transactions that aren't acknowledged are counted
abbrev pub AreCounts : ℕ → List Client → Book → Type 0
AreCounts number [] book = Unit {0}
AreCounts number (c ∷ cs) book = (c.unacked ≡ unacked number book) × AreCounts (number + 1) cs book

-- the entries are those of these clients
abbrev pub AreOfClients : ℕ → List Entry → Type 0
AreOfClients count entries = AllByRecursion (λ e. e.client < count) entries

-- what is known of clients and book between calls
pub record AreTied (clients : Clients) (s : State) : Type 0 where
  pub clients_are : AreClients clients
  pub order : IsInOrder s
  pub counts : AreCounts 0 clients.all.items s.book
  pub no_other : AreOfClients (length clients.all.items) s.book.entries

-- each command that is left is one that scripts can have
abbrev pub FitsAsk : Ask → Type 0
FitsAsk a = FitsWhat (what.Command a.command)

abbrev pub EachFits : List Client → Type 0
EachFits clients = AllByRecursion (AllByRecursion FitsAsk) (lefts clients)
