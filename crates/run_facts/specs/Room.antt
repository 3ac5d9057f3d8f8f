-- Room in the log, and the book.
use Rattle.std.specs.Prelude.{◌≡◌, ℕ, ◌+◌, ◌≤◌, List, length, slice_get, IfSome, is_some, nat_lt}
use Rattle.std.specs.List.{AllByRecursion}
use Rattle.object_model.specs.declared.book.Commit.{Commit}
use Rattle.meta_rows.specs.Prelude.{RowsFit}
use Rattle.store_steps.specs.Prelude.{State, needs_by, rows_units, RowsPart, BookPart}
use Rattle.flight_facts.specs.Prelude.{FitsRecord}

-- What is reserved is what the transactions under way need, and it fits a half behind the committed rows as one record, which have a spelling.
pub record HasRoom (p : RowsPart) : Type 0 where
  pub fits : AllByRecursion FitsRecord p.intents
  pub reserved : p.reserved ≡ needs_by p.intents
  pub room : rows_units p.rows + p.reserved ≤ p.sup.half
  pub tail : p.tail ≤ p.sup.half
  pub spelled : RowsFit p.rows

-- A commit has an entry, and so has each context that waits; entries are at most 1048576.
pub record AreEntriesFew (s : State) : Type 0 where
  pub commits : length s.book.commits + length s.pending ≤ length s.book.entries
  pub entries : length s.book.entries ≤ 1048576

-- the first commits are acknowledged, those up to a number, and no others
abbrev pub AcksAre : ℕ → List Commit → Type 0
AcksAre acked commits = (i : ℕ) → IfSome (slice_get commits i) (λ c. is_some c.acked_at ≡ nat_lt i acked)

-- commits are acknowledged once they are applied, and only those that there are
pub record IsBookKept (p : BookPart) : Type 0 where
  pub acks : AcksAre p.acked p.book.commits
  pub within : p.acked ≤ p.applied
  pub all : p.applied ≤ length p.book.commits
