-- What a `wait` of a script brings about.
use Rattle.std.specs.Prelude.{◌≡◌, ℕ, ◌+◌, ◌<◌, ◌==◌, Bool, true, List, [], ◌∷◌, map, take, slice_get, Option, option_and_then, IfSome, IsSomeAnd}
use Rattle.std.specs.List.{list_any}
use Rattle.object_model.specs.declared.book.Book.{Book}
use Rattle.object_model.specs.declared.book.Commit.{Commit}
use Rattle.object_model.specs.declared.book.Entry.{Entry}
use Rattle.script_text.specs.declared.line.Line.{Line}
use Rattle.client_runs.specs.Prelude.{Ask, asks_of, is_accepted_of, scripts_behind}

-- whether the transaction at a place is among so many first commits
abbrev pub is_among_first : ℕ → List Commit → ℕ → Bool
is_among_first count commits place = list_any (λ c. c.place == place) (take count commits)

-- Each accepted transaction of its client that stands before an entry was acknowledged when the entry came, as its count of acknowledged commits says.
abbrev pub HasWaited : Book → ℕ → Entry → Type 0
HasWaited book place e = (i : ℕ) → i < place
    → IfSome (slice_get book.entries i) (λ f. is_accepted_of e.client f ≡ true → is_among_first e.acks book.commits i ≡ true)

-- a client's next command, where so much is left of each one's script
abbrev pub next_of : ℕ → List (List Ask) → Option Ask
next_of client lefts = option_and_then (λ asks. slice_get asks 0) (slice_get lefts client)

-- it stands behind a `wait`
abbrev pub IsBehindWait : ℕ → List (List Ask) → Type 0
IsBehindWait client lefts = IsSomeAnd (next_of client lefts) (λ a. a.waits ≡ true)

-- Of entries, the first of which has this place, each is for the next command of its client. One whose command stands behind a `wait` has waited.
abbrev pub EachHasWaited : List (List Ask) → Book → ℕ → List Entry → Type 0
EachHasWaited lefts book place [] = Unit {0}
EachHasWaited lefts book place (e ∷ es) =
    (IsBehindWait e.client lefts → HasWaited book place e) × EachHasWaited (scripts_behind e.client lefts) book (place + 1) es

-- so it is of all entries of a run of these scripts
abbrev pub HaveWaited : List (List Line) → Book → Type 0
HaveWaited scripts book = EachHasWaited (map asks_of scripts) book 0 book.entries
