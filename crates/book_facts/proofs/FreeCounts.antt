-- How many units are free once some were taken or given back.
use Rattle.std.proofs.Common.{◌≡◌, inl, inr, ℕ, zero, suc, ◌+◌, ◌-◌, ◌<◌, ◌≤◌, ◌==◌, Bool, true, false, cond, List, [], ◌∷◌, length}
use Rattle.std.proofs.Common.{get_or, set, refl, sym, ap, ◌∙◌, arith}
use Rattle.std.specs.List.{AllByRecursion, filter, range_with_len}
use Rattle.std.proofs.lemmas.Bool.{cases_eq, and_parts}
use Rattle.std.proofs.lemmas.List.{length-set, length-map}
use Rattle.unit_fields.specs.Prelude.{Ascends}
use Rattle.unit_allocator.specs.Prelude.{Space, IsWithin, is_free, idle_and_unheld, free_units, taken_one, given_one, taken, given}
use Rattle.unit_allocator.proofs.Counts.{idle_here, idle_there}
use Rattle.unit_allocator.proofs.FreeUnits.{one_less_is_free, taken_is_not_free, range_stays}

-- ---- units are taken

-- free units other than one that is taken stay free
rest_free : (space : Space) (u : ℕ) (us : List ℕ) → IsWithin space u → AllByRecursion (λ v. u < v) us
    → AllByRecursion (λ v. IsWithin space v × (is_free space v ≡ true)) us
    → AllByRecursion (λ v. IsWithin (taken_one space u) v × (is_free (taken_one space u) v ≡ true)) us
rest_free space u [] within above free = tt
rest_free space u (v ∷ us) within above free = (
  ((range_stays space u v free.0.0).0, (taken_is_not_free space u within).1 v free.0.0 (λ e. omega (arith, e, above.0)) ∙ free.0.1),
  rest_free space u us within above.1 free.1,
)

-- each of them lowers the count by one
pub count_taken : (us : List ℕ) (space : Space) → Ascends us → AllByRecursion (λ u. IsWithin space u × (is_free space u ≡ true)) us
    → length (free_units space) ≡ length (free_units (taken space us)) + length us
count_taken [] space ascend free = omega arith
count_taken (u ∷ us) space ascend free =
    let one = one_less_is_free space u free.0.0 free.0.1 in
    let more = count_taken us (taken_one space u) ascend.1 (rest_free space u us free.0.0 ascend.0 free.1) in
    omega (arith, one, more)

-- ---- units come back

-- where one test passes wherever another does it passes at least as often
more_pass : (p t : ℕ → Bool) (a n : ℕ) → ((q : ℕ) → q < a + n → p q ≡ true → t q ≡ true)
    → length (filter p (range_with_len a n)) ≤ length (filter t (range_with_len a n))
more_pass p t a zero more = omega arith
more_pass p t a (suc n) more =
    both (p a) (t a) (filter p (range_with_len (a + 1) n)) (filter t (range_with_len (a + 1) n)) (more a (omega arith))
    (more_pass p t (a + 1) n (λ q lt is. more q (omega (arith, lt)) is))
  where
    both : (x y : Bool) (xs ys : List ℕ) → (x ≡ true → y ≡ true) → length xs ≤ length ys → length (cond x (a ∷ xs) xs) ≤ length (cond y (a ∷ ys) ys)
    both true true xs ys passes le = omega (arith, le)
    both true false xs ys passes le = absurd (let never : false ≡ true = passes refl in cc)
    both false true xs ys passes le = omega (arith, le)
    both false false xs ys passes le = le

count_by_test : (space : Space)
    → length (free_units space) ≡ length (filter (idle_and_unheld space.idle space.holds) (range_with_len 0 (length space.idle)))
unfolding free_units
count_by_test space = length-map _ _

-- a unit that comes back is free, or somebody holds it, and then it wasn't free before
one_given : (space : Space) (u : ℕ) → length (free_units space) ≤ length (free_units (given_one space u))
one_given space u =
    let before = count_by_test space in
    let after = count_by_test (given_one space u) in
    let long = ap (λ (n : ℕ). length (filter now (range_with_len 0 n))) (length-set space.idle at true) in
    let more = more_pass was now 0 (length space.idle) stays in
    omega (arith, before, after, long, more)
  where
    at : ℕ
    at = u - space.first

    was : ℕ → Bool
    was = idle_and_unheld space.idle space.holds

    now : ℕ → Bool
    now = idle_and_unheld (set space.idle at true) space.holds

    here : at < length space.idle → was at ≡ true → now at ≡ true
    here lt is = idle_here space.idle space.holds at true lt ∙ (and_parts (get_or space.idle at false) (get_or space.holds at 0 == 0) is).1

    stays : (q : ℕ) → q < 0 + length space.idle → was q ≡ true → now q ≡ true
    stays q lt is = elim (cases_eq q at) [
      | inl e ↦ ap now e ∙ here (omega (arith, lt, e)) (sym (ap was e) ∙ is)
      | inr other ↦ idle_there space.idle space.holds at true q other ∙ is
    ]

pub count_given : (us : List ℕ) (space : Space) → length (free_units space) ≤ length (free_units (given space us))
count_given [] space = omega arith
count_given (u ∷ us) space =
    let one = one_given space u in
    let more = count_given us (given_one space u) in
    omega (arith, one, more)
