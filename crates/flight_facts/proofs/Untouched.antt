-- What is apart from what is in flight, unit by unit: a run of units, and the flights as they come and go.
use Rattle.std.proofs.Common.{◌≡◌, inl, inr, ℕ, ◌+◌, ◌*◌, ◌<◌, ◌≤◌, List, [], ◌∷◌, length, get_or, All, arith}
use Rattle.flight_facts.proofs.Common.{AllByRecursion, cases_lt, Flight, flight_of, IsApart, IsUntouched}
use Rattle.block_device.specs.declared.event.Event.TheVariants as event

-- ---- lists

pub all_then : {A : Type 0} (P Q : A → Type 0) → ((x : A) → P x → Q x) → (xs : List A) → AllByRecursion P xs → AllByRecursion Q xs
all_then P Q then [] all = tt
all_then P Q then (x ∷ xs) all = (then x all.0, all_then P Q then xs all.1)

-- ---- a run of units is apart from a flight where each of its units is

pub run_apart : (u n : ℕ) (f : Flight) → 0 < n → ((k : ℕ) → u ≤ k → k < u + n → IsApart k 4096 f) → IsApart u (4096 * n) f
run_apart u n f some each = elim (cases_lt f.first u) [
  | inl below ↦ of_first (each u (omega arith) (omega (arith, some))) below
  | inr from ↦
      elim (cases_lt f.first (u + n)) [
        | inl inside ↦ of_inside (each f.first from inside)
        | inr past ↦ inr (inr (omega (arith, past)))
      ]
]
  where
    of_first : IsApart u 4096 f → f.first < u → IsApart u (4096 * n) f
    of_first (inl none) below = inl none
    of_first (inr (inl before)) below = inr (inl before)
    of_first (inr (inr behind)) below = absurd (omega (arith, behind, below))

    of_inside : IsApart f.first 4096 f → IsApart u (4096 * n) f
    of_inside (inl none) = inl none
    of_inside (inr (inl before)) = inl (omega (arith, before))
    of_inside (inr (inr behind)) = absurd (omega (arith, behind))

pub run_untouched : (flights : List Flight) (u n : ℕ) → 0 < n → ((k : ℕ) → u ≤ k → k < u + n → IsUntouched flights k) → All (IsApart u (4096 * n)) flights
run_untouched flights u n some each = λ i f below. run_apart u n (get_or flights i f) some (λ k from to. each k from to i f below)

-- ---- what a write spares

pub apart_before : (ticket u k : ℕ) (bytes : List ℕ) → k < u → IsApart k 4096 (flight_of ticket (event.Write u bytes))
apart_before ticket u k bytes below = inr (inr (omega (arith, below)))

pub apart_behind : (ticket u n k : ℕ) (bytes : List ℕ) → length bytes ≡ 4096 * n → u + n ≤ k → IsApart k 4096 (flight_of ticket (event.Write u bytes))
apart_behind ticket u n k bytes size past = inr (inl (omega (arith, size, past)))
