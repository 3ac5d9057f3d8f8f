-- What a call makes of the book, where so many events were before it.
use Rattle.std.specs.Prelude.{◌≡◌, ℕ, ◌+◌, List, [], ◌∷◌, ◌++◌, length, map, None}
use Rattle.object_model.specs.declared.book.Commit.{Commit}
use Rattle.object_model.specs.declared.book.Entry.{Entry}
use Rattle.store_steps.specs.Changes.{acknowledged}
use Rattle.store_steps.specs.Intents.{Intent}
use Rattle.store_steps.specs.Parts.{BookPart}
use Rattle.store_steps.specs.Touch.{Touch, nothing}

-- commits of intents, that aren't acknowledged
abbrev pub commits_of : List Intent → List Commit
commits_of xs = map (λ x. record { place = x.place; acked_at = None }) xs

-- It stays; there is one more entry; a batch is opened, whose commits come last; they are applied; the first commit that isn't acknowledged is.
pub data BookGoes (events : ℕ) : Touch → BookPart → BookPart → Type 0 where
  same : {t : Touch} {p q : BookPart} → q ≡ p → BookGoes events t p q
  enters : {p q : BookPart} (e : Entry) → q ≡ record p { book = record p.book { entries = p.book.entries ++ e ∷ [] } } → BookGoes events nothing p q
  commits : {p q : BookPart} (xs : List Intent) → p.batch ≡ []
      → q ≡ record p { book = record p.book { commits = p.book.commits ++ commits_of xs }; batch = xs } → BookGoes events nothing p q
  applies : {p q : BookPart} (count : ℕ) → count ≡ length p.book.commits → q ≡ record p { applied = count; batch = [] }
      → BookGoes events nothing p q
  acknowledges : {p q : BookPart}
      → q ≡ record p { book = record p.book { commits = acknowledged events p.book.commits }; acked = p.acked + 1 }
      → BookGoes events nothing p q
