-- A call that makes no entry of the book lets none join the rows.
use Rattle.std.proofs.Common.{◌≡◌, ℕ, ◌+◌, List, [], ◌∷◌, length, ap, ◌∙◌, length-append, arith}
use Rattle.run_facts.proofs.Common.{Disk, Entry}
use Rattle.store_steps.specs.Prelude.{State, RowsPart, BookPart, Touch, RowsGo, BookGoes, AcceptsOne, IsCaused}
use Rattle.store_steps.specs.RowsGo as rows
use Rattle.store_steps.specs.BookGoes as book
use Rattle.run_facts.proofs.RowsKept.{MayGo}
use Rattle.run_facts.proofs.RoomKept.{HasRoomTo}

abbrev entries_of : State → List Entry
entries_of s = s.book.entries

-- a transaction that is accepted makes one
none_accepted : (s : State) (d : Disk) (s' : State) → entries_of s' ≡ entries_of s → AcceptsOne s d s' → ⊥
none_accepted s d s' same one = longer (length (entries_of s)) (length (entries_of s')) (ap length same)
    (ap (λ (t : State). length (entries_of t)) one.accepts.after ∙ length-append (entries_of s) (_ ∷ []))
  where
    longer : (n m : ℕ) → m ≡ n → m ≡ n + 1 → ⊥
    longer n m same more = omega (arith, same, more)

abbrev pub IsNoJoin : {p q : RowsPart} → RowsGo p q → Type 0
IsNoJoin (rows.joins x more is) = ⊥
IsNoJoin other = Unit {0}

-- so it may make of the rows what it makes
pub record MayAll (p : RowsPart) {q : RowsPart} (goes : RowsGo p q) : Type 0 where
  pub rows : MayGo p goes
  pub room : HasRoomTo p goes

all_may : (p : RowsPart) {q : RowsPart} (goes : RowsGo p q) → IsNoJoin goes → MayAll p goes
all_may p (rows.joins x more is) not = absurd not
all_may p other not = record { rows = tt; room = tt }

-- the number of the next blob stays
pub next_go : (p q : RowsPart) (goes : RowsGo p q) → IsNoJoin goes → q.next ≡ p.next
next_go p q (rows.same is) alone = ap (λ (r : RowsPart). r.next) is
next_go p q (rows.joins x more is) alone = absurd alone
next_go p q (rows.reorders later complete is) alone = ap (λ (r : RowsPart). r.next) is
next_go p q (rows.applies number front back both fits is) alone = ap (λ (r : RowsPart). r.next) is
next_go p q (rows.switches number next is) alone = ap (λ (r : RowsPart). r.next) is

module _ (s : State) (d : Disk) (s' : State) (d' : Disk) (same : entries_of s' ≡ entries_of s) where
  pub none_joins : {p q : RowsPart} {events : ℕ} {t : Touch} {b c : BookPart} (goes : RowsGo p q) (made : BookGoes events t b c)
      → IsCaused s d s' d' goes made → IsNoJoin goes
  none_joins (rows.joins x more is) (book.enters e entered) caused = none_accepted s d s' same caused
  none_joins (rows.joins x more is) other caused = caused
  none_joins goes made caused = tt

  pub may_all : (p : RowsPart) {q : RowsPart} {events : ℕ} {t : Touch} {b c : BookPart} (goes : RowsGo p q) (made : BookGoes events t b c)
      → IsCaused s d s' d' goes made → MayAll p goes
  may_all p goes made caused = all_may p goes (none_joins goes made caused)
