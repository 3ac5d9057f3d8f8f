-- The book of a mount: what clients asked and were answered, what was committed and acknowledged, and when all this is legal.
use Rattle.std.specs.Prelude.{◌≡◌, ℕ, ◌+◌, ◌<◌, ◌≤◌, Bool, true, false, not, ◌==◌, ◌&&◌, ◌⊎◌, ⊤, List, [], ◌∷◌, ◌++◌, map, filter, slice_get, count_by, nat_eq, Option, Some, None, is_some, option_and_then, if◌then◌else◌, IsTrue, IsSome, IsNone, IfSome, IsSomeAnd, MatchOption}
use Rattle.std.specs.List.{filter_map, list_any, AllByRecursion, IsDistinct}
use Rattle.object_model.specs.declared.command.Command.{Command}
use Rattle.object_model.specs.declared.command.Command.TheVariants as ask
use Rattle.object_model.specs.declared.command.Read.TheVariants as reads
use Rattle.object_model.specs.declared.command.Answer.{Answer}
use Rattle.object_model.specs.declared.command.Answer.TheVariants as answer
use Rattle.object_model.specs.declared.book.Entry.{Entry}
use Rattle.object_model.specs.declared.book.Commit.{Commit}
use Rattle.object_model.specs.declared.book.Book.{Book}
use Rattle.object_model.specs.Objects.{Objects}
use Rattle.object_model.specs.Effect.{Change, replay, names_of, is_named}
use Rattle.object_model.specs.Reply.{reply_of}

-- the transaction of a command that was accepted
abbrev pub accepted_change : Command → Answer → Option Change
accepted_change (ask.Change change) answer.Accepted = Some change
accepted_change command a = None

-- the accepted transactions of entries, in order
abbrev pub accepted : List Entry → List Change
accepted entries = filter_map (λ e. accepted_change e.command e.answer) entries

abbrev pub is_refused : Answer → Bool
is_refused (answer.Refused refusal) = true
is_refused a = false

-- Whether an answer to a command comes of the device: no free units, no room in the log, or a unit whose checksum differs.
abbrev pub is_of_device : Command → Answer → Bool
is_of_device (ask.Change change) (answer.NoSpace need free) = true
is_of_device (ask.Change change) (answer.MetaFull need room) = true
is_of_device (ask.Change change) (answer.Csum unit kept found) = true
is_of_device (ask.Read (reads.Bytes c o off len)) (answer.Csum unit kept found) = true
is_of_device (ask.Read (reads.Sum c o)) (answer.Csum unit kept found) = true
is_of_device command a = false

-- An entry has the answer that these objects give, or one of the device's where they give no refusal.
-- That the device gives cause for such an answer, by both its numbers, is said at the call that makes the entry.
abbrev pub IsAnswered : Objects → Entry → Type 0
IsAnswered objects e = (e.answer ≡ reply_of e.command objects)
    ⊎ (IsTrue (is_of_device e.command e.answer) × IsTrue (not (is_refused (reply_of e.command objects))))

-- Each entry is answered at the replay of the accepted ones before it.
abbrev pub AnswersFrom : Objects → List Entry → Type 0
AnswersFrom objects [] = ⊤
AnswersFrom objects (e ∷ es) = IsAnswered objects e × AnswersFrom (replay objects (accepted (e ∷ []))) es

-- the transaction accepted at a place of the book
abbrev pub change_at : List Entry → ℕ → Option Change
change_at entries place = option_and_then (λ e. accepted_change e.command e.answer) (slice_get entries place)

-- the transactions of commits, in commit order
abbrev pub committed : List Entry → List Commit → List Change
committed entries commits = filter_map (λ c. change_at entries c.place) commits

-- whether there is a transaction, and it changes this collection
abbrev pub is_on : List ℕ → Option Change → Bool
is_on coll None = false
is_on coll (Some change) = is_named coll (names_of change)

-- the places of a collection's accepted entries, where the first of them all has place i
abbrev pub places_from : List ℕ → ℕ → List Entry → List ℕ
places_from coll i [] = []
places_from coll i (e ∷ es) = let later : List ℕ = places_from coll (i + 1) es in
    if is_on coll (accepted_change e.command e.answer) then i ∷ later else later

abbrev pub entry_places : List ℕ → List Entry → List ℕ
entry_places coll entries = places_from coll 0 entries

-- the places of a collection's commits, in commit order
abbrev pub committed_places : List ℕ → List Entry → List Commit → List ℕ
committed_places coll entries commits = map (λ c. c.place) (filter (λ c. is_on coll (change_at entries c.place)) commits)

-- a list is a front of another
abbrev pub IsPrefixOf : {A : Type 0} → List A → List A → Type 0
IsPrefixOf {A} xs ys = (rest : List A) × (ys ≡ xs ++ rest)

-- The acknowledged commits come first, and their numbers never fall, from a least one on.
abbrev pub AreAckedFrom : ℕ → List Commit → Type 0
AreAckedFrom least [] = ⊤
AreAckedFrom least (c ∷ cs) = MatchOption c.acked_at (AllByRecursion (λ d. IsNone d.acked_at) cs) (λ a. (least ≤ a) × AreAckedFrom a cs)

-- whether the commit of the entry at a place is acknowledged
abbrev pub is_acknowledged : List Commit → ℕ → Bool
is_acknowledged commits place = list_any (λ c. (c.place == place) && is_some c.acked_at) commits

-- how many commits are acknowledged
abbrev pub acked_count : List Commit → ℕ
acked_count commits = count_by (λ c. is_some c.acked_at) commits

-- The numbers of acknowledged commits that entries note never fall, from a least one on, and none is above the most.
abbrev pub AreCountsWithin : ℕ → ℕ → List Entry → Type 0
AreCountsWithin least most [] = ⊤
AreCountsWithin least most (e ∷ es) = (least ≤ e.acks) × (e.acks ≤ most) × AreCountsWithin e.acks most es

-- The book is a history of plain objects that began with these.
pub record IsLegal (objects : Objects) (book : Book) : Type 0 where
  pub answers : AnswersFrom objects book.entries
  pub of_accepted : AllByRecursion (λ c. IsSome (change_at book.entries c.place)) book.commits
  pub once : IsDistinct nat_eq (map (λ c. c.place) book.commits)
  pub in_order : (coll : List ℕ) → IsPrefixOf (committed_places coll book.entries book.commits) (entry_places coll book.entries)
  pub acked_first : AreAckedFrom 0 book.commits
  pub counts : AreCountsWithin 0 (acked_count book.commits) book.entries

-- A commit was acknowledged when a log that had `base` events at the mount's begin had at most `cut`.
abbrev pub IsAckedBy : ℕ → ℕ → Commit → Type 0
IsAckedBy base cut c = IsSomeAnd c.acked_at (λ a. base + a ≤ cut)

-- The first `count` commits are all that were acknowledged by the cut, and maybe more.
abbrev pub HasAcked : ℕ → ℕ → List Commit → ℕ → Type 0
HasAcked base cut commits count = (i : ℕ) → IfSome (slice_get commits i) (λ c. IsAckedBy base cut c → i < count)
