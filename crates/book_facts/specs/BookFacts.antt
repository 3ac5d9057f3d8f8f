-- What is known of the book from call to call, whatever the device is.
use Rattle.std.specs.Prelude.{◌≡◌, ℕ, ◌≤◌, nat_eq, List, ◌++◌, map, drop, Some, IsSome, IfSome}
use Rattle.std.specs.List.{AllByRecursion, IsDistinct}
use Rattle.object_model.specs.Prelude.{Objects, Change, replay, names_of, accepted, change_at, AreAckedFrom, AreCountsWithin, acked_count, entry_places, committed_places}
use Rattle.object_model.specs.declared.book.Book.{Book}
use Rattle.object_model.specs.declared.book.Commit.{Commit}
use Rattle.object_model.specs.declared.book.Entry.{Entry}
use Rattle.meta_rows.specs.Prelude.{Rows}
use Rattle.store_image.specs.Prelude.{IsShape}
use Rattle.read_facts.specs.Prelude.{AnswersAlikeFrom}
use Rattle.store_steps.specs.Prelude.{State, Intent, intents, names_in, is_in, BookPart, book_part}
use Rattle.selections.specs.Fair.{under}

-- the places of intents, and of commits
abbrev pub places : List Intent → List ℕ
places xs = map (λ x. x.place) xs

abbrev pub commit_places : List Commit → List ℕ
commit_places commits = map (λ c. c.place) commits

-- the intents that change a collection, in order
abbrev pub intents_on : List ℕ → List Intent → List Intent
intents_on coll xs = under is_in coll xs

-- the intent is the accepted transaction of its place
pub record IsOfEntry (entries : List Entry) (x : Intent) : Type 0 where
  pub change : Change
  pub accepted : change_at entries x.place ≡ Some change
  pub same_names : names_of change ≡ names_in x

-- Each commit is of an accepted transaction. The acknowledged ones come first, their numbers never fall and are none of later events.
pub record AreCommits (book : Book) (acked events : ℕ) : Type 0 where
  pub of_accepted : AllByRecursion (λ c. IsSome (change_at book.entries c.place)) book.commits
  pub acked_first : AreAckedFrom 0 book.commits
  pub counted : acked ≡ acked_count book.commits
  pub by_now : AllByRecursion (λ c. IfSome c.acked_at (λ a. a ≤ events)) book.commits

-- No transaction is committed twice, or committed and waiting. A collection's accepted transactions are those committed and, behind them,
-- those that wait, in order.
pub record AreQueued (book : Book) (waiting : List Intent) : Type 0 where
  pub once : IsDistinct nat_eq (commit_places book.commits ++ places waiting)
  pub in_order : (coll : List ℕ) → entry_places coll book.entries
      ≡ committed_places coll book.entries book.commits ++ places (intents_on coll waiting)

-- Each entry has its answer, but for the bytes that reads gave, and the commits are those of the queues of collections, the last ones those of
-- the open batch; the submitted rows have the shape of the objects after all accepted transactions.
pub record IsBookKnown (opening : Objects) (events : ℕ) (submitted : Rows) (b : BookPart) (waiting : List Intent) : Type 0 where
  pub answers : AnswersAlikeFrom opening b.book.entries
  pub counts : AreCountsWithin 0 b.acked b.book.entries
  pub commits : AreCommits b.book b.acked events
  pub queued : AreQueued b.book waiting
  pub contexts : AllByRecursion (IsOfEntry b.book.entries) (b.batch ++ waiting)
  pub last_committed : drop b.applied (commit_places b.book.commits) ≡ places b.batch
  pub shape : IsShape submitted (replay opening (accepted b.book.entries))

abbrev pub KnownOfBook : Objects → State → Type 0
KnownOfBook opening s = IsBookKnown opening s.events s.submitted (book_part s) (intents s.pending)

-- What is known of the order alone, whatever objects the rows stand for: the commits are of accepted transactions, each collection's are
-- in order, and each intent is of its entry.
pub record KnownOfOrder (b : BookPart) (waiting : List Intent) : Type 0 where
  pub of_accepted : AllByRecursion (λ c. IsSome (change_at b.book.entries c.place)) b.book.commits
  pub queued : AreQueued b.book waiting
  pub contexts : AllByRecursion (IsOfEntry b.book.entries) (b.batch ++ waiting)

abbrev pub IsInOrder : State → Type 0
IsInOrder s = KnownOfOrder (book_part s) (intents s.pending)
