-- What holds of each ticket in flight, as tickets come and go.
use Rattle.std.proofs.Common.{◌≡◌, inl, inr, ℕ, List, [], ◌∷◌, All, true, false, not, eqb, arith}
use Rattle.std.specs.Prelude.{IfSome}
use Rattle.std.proofs.lemmas.Bool.{cases_eq}
use Rattle.std.proofs.lemmas.Bool.Decides.{nat_tests}
use Rattle.std.proofs.lemmas.List.Elements.{All-head, All-tail, All-filter}
use Rattle.block_device.specs.Prelude.{Disk, Flight, find_flight, without, IsApart, IsNotInFlight}

-- it holds of the flight that a Done names
pub found_all : (P : Flight → Type 0) (ticket : ℕ) (flights : List Flight) → All P flights → IfSome (find_flight ticket flights) (λ f. P f × (f.ticket ≡ ticket))
found_all P ticket [] all = tt
found_all P ticket (f ∷ fs) all = elim (cases_eq f.ticket ticket) [
  | inl same ↦ let yes : eqb f.ticket ticket ≡ true = grind (arith, nat_tests) in rw yes (All-head P f fs all, same)
  | inr other ↦ let no_match : eqb f.ticket ticket ≡ false = grind (arith, nat_tests) in rw no_match (found_all P ticket fs (All-tail P f fs all))
]

-- and of those that are left
pub all_without : (P : Flight → Type 0) (ticket : ℕ) (flights : List Flight) → All P flights → All P (without ticket flights)
all_without P ticket flights all = All-filter (λ f. not (eqb f.ticket ticket)) P flights all

-- a unit that no flight has is free, where each flight is of a unit that is known to be other
pub free_from : (d : Disk) (at bytes : ℕ) (P : Flight → Type 0) → All P d.flights → ((f : Flight) → P f → IsApart at bytes f) → IsNotInFlight d at bytes
free_from d at bytes P all apart = λ k f below. apart _ (all k f below)
