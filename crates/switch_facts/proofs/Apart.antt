-- The pieces of a checkpoint lie in the half, and apart.
use Rattle.std.proofs.Common.{◌≡◌, ◌⊎◌, inl, inr, ℕ, zero, suc, ◌+◌, ◌-◌, ◌*◌, ◌<◌, ◌≤◌, Bool, true, false, ◌||◌, min, List, [], ◌∷◌, ◌++◌, refl, sym, ◌∙◌, arith}
use Rattle.std.specs.List.{AllByRecursion}
use Rattle.std.proofs.lemmas.Bool.{false_from_ne_true}
use Rattle.meta_log.specs.declared.runs.UnitRun.{UnitRun}
use Rattle.meta_log.specs.Prelude.{piece_count, in_run, in_runs, record_runs, cut_run, zero_runs, check_runs}
use Rattle.switch_facts.specs.Prelude.{LiesInHalf, IsPieceOf, AreApart}
use Rattle.switch_facts.proofs.Covers.{never, inside_it, in_it, or_left, or_right, first_of, count_of}

-- ---- lists of runs, one behind the other

all_both : (P : UnitRun → Type 0) (xs ys : List UnitRun) → AllByRecursion P xs → AllByRecursion P ys → AllByRecursion P (xs ++ ys)
all_both P [] ys all more = more
all_both P (x ∷ xs) ys all more = (all.0, all_both P xs ys all.1 more)

-- a unit of the runs is one of the first, or of the others
in_either : (r : UnitRun) (rs : List UnitRun) (k : ℕ) → in_runs (r ∷ rs) k ≡ true → (in_run r k ≡ true) ⊎ (in_runs rs k ≡ true)
in_either r rs k is = by_test (in_run r k) refl is
  where
    by_test : (b : Bool) → in_run r k ≡ b → (b || in_runs rs k) ≡ true → (in_run r k ≡ true) ⊎ (in_runs rs k ≡ true)
    by_test true here is = inl here
    by_test false here is = inr is

in_one : (xs ys : List UnitRun) (k : ℕ) → in_runs (xs ++ ys) k ≡ true → (in_runs xs k ≡ true) ⊎ (in_runs ys k ≡ true)
in_one [] ys k is = inr is
in_one (x ∷ xs) ys k is = elim (in_either x (xs ++ ys) k is) [
  | inl here ↦ inl (or_left (in_run x k) (in_runs xs k) here)
  | inr later ↦
      elim (in_one xs ys k later) [
        | inl front ↦ inl (or_right (in_run x k) (in_runs xs k) front)
        | inr back ↦ inr back
      ]
]

-- no unit of the ones is in the others
abbrev IsNoneOf : List UnitRun → List UnitRun → Type 0
IsNoneOf xs ys = (k : ℕ) → in_runs xs k ≡ true → in_runs ys k ≡ true → ⊥

apart_both : (xs ys : List UnitRun) → AreApart xs → AreApart ys → IsNoneOf xs ys → AreApart (xs ++ ys)
apart_both [] ys one two none = two
apart_both (x ∷ xs) ys one two none = (
  λ k here. false_from_ne_true (in_runs (xs ++ ys) k) (λ is. elim (in_one xs ys k is) [
    | inl front ↦ never (sym (one.0 k here) ∙ front)
    | inr back ↦ none k (or_left (in_run x k) (in_runs xs k) here) back
  ]),
  apart_both xs ys one.1 two (λ k front back. none k (or_right (in_run x k) (in_runs xs k) front) back),
)

-- ---- the record

record_fit : (half units n : ℕ) → units ≤ half → n ≤ piece_count units → AllByRecursion (IsPieceOf half) (record_runs units n)
record_fit half units zero within few = tt
record_fit half units (suc n) within few =
    let begun : 64 * n < units = omega (arith, few) in (
      record { some = omega (arith, begun); few = omega arith; within = omega (arith, begun, within) },
      record_fit half units n within (omega (arith, few)),
    )

record_below : (units n k : ℕ) → in_runs (record_runs units n) k ≡ true → (k < 64 * n) × (n ≤ piece_count units → k < units)
record_below units zero k is = absurd (never is)
record_below units (suc n) k is =
    elim (in_either (record { first = 64 * n; count = min 64 (units - 64 * n) }) (record_runs units n) k is) [
      | inl here ↦
          let between = inside_it (record { first = 64 * n; count = min 64 (units - 64 * n) }) k here in
          (omega (arith, between.1), λ few. omega (arith, between.0, between.1, few))
      | inr later ↦
          let below = record_below units n k later in
          (omega (arith, below.0), λ few. below.1 (omega (arith, few)))
    ]

record_apart : (units n : ℕ) → AreApart (record_runs units n)
record_apart units zero = tt
record_apart units (suc n) = (
  λ k here. false_from_ne_true (in_runs (record_runs units n) k) (λ is.
      let between = inside_it (record { first = 64 * n; count = min 64 (units - 64 * n) }) k here in
      let below = record_below units n k is in
      omega (arith, between.0, below.0)),
  record_apart units n,
)

-- ---- zeros

cut_fit : (half most first count : ℕ) → (0 < count → first + count ≤ half) → AllByRecursion (IsPieceOf half) (cut_run most first count)
cut_fit half zero first count within = tt
cut_fit half (suc most) first zero within = tt
cut_fit half (suc most) first (suc less) within =
    let all : first + suc less ≤ half = within (omega arith) in (
      record { some = omega arith; few = omega arith; within = omega (arith, all) },
      cut_fit half most (first + 64) (suc less - 64) (λ some. omega (arith, all, some)),
    )

cut_between : (most first count k : ℕ) → in_runs (cut_run most first count) k ≡ true → (first ≤ k) × (k < first + count)
cut_between zero first count k is = absurd (never is)
cut_between (suc most) first zero k is = absurd (never is)
cut_between (suc most) first (suc less) k is =
    elim (in_either (record { first = first; count = min 64 (suc less) }) (cut_run most (first + 64) (suc less - 64)) k is) [
      | inl here ↦
          let between = inside_it (record { first = first; count = min 64 (suc less) }) k here in
          (between.0, omega (arith, between.1))
      | inr later ↦
          let between = cut_between most (first + 64) (suc less - 64) k later in
          (omega (arith, between.0), omega (arith, between.0, between.1))
    ]

cut_apart : (most first count : ℕ) → AreApart (cut_run most first count)
cut_apart zero first count = tt
cut_apart (suc most) first zero = tt
cut_apart (suc most) first (suc less) = (
  λ k here. false_from_ne_true (in_runs (cut_run most (first + 64) (suc less - 64)) k) (λ is.
      let one = inside_it (record { first = first; count = min 64 (suc less) }) k here in
      let two = cut_between most (first + 64) (suc less - 64) k is in
      omega (arith, one.1, two.0)),
  cut_apart most (first + 64) (suc less - 64),
)

zeros_fit : (half units : ℕ) (stale : List UnitRun) → AllByRecursion (LiesInHalf half) stale → AllByRecursion (IsPieceOf half) (zero_runs units stale)
zeros_fit half units [] within = tt
zeros_fit half units (r ∷ rs) within = all_both (IsPieceOf half) (cut_run (count_of units r) (first_of units r) (count_of units r)) (zero_runs units rs)
    (cut_fit half (count_of units r) (first_of units r) (count_of units r) (λ some. omega (arith, some, within.0)))
    (zeros_fit half units rs within.1)

-- a unit of the zeros lies behind the record, in the run that they were cut from
cut_in_run : (units : ℕ) (r : UnitRun) (k : ℕ) → in_runs (cut_run (count_of units r) (first_of units r) (count_of units r)) k ≡ true
    → (units ≤ k) × (in_run r k ≡ true)
cut_in_run units r k is =
    let between = cut_between (count_of units r) (first_of units r) (count_of units r) k is in
    (omega (arith, between.0), in_it r.first r.count k (omega (arith, between.0)) (omega (arith, between.0, between.1)))

zeros_stale : (units : ℕ) (stale : List UnitRun) (k : ℕ) → in_runs (zero_runs units stale) k ≡ true → (units ≤ k) × (in_runs stale k ≡ true)
zeros_stale units [] k is = absurd (never is)
zeros_stale units (r ∷ rs) k is =
    elim (in_one (cut_run (count_of units r) (first_of units r) (count_of units r)) (zero_runs units rs) k is) [
      | inl here ↦
          let at = cut_in_run units r k here in
          (at.0, or_left (in_run r k) (in_runs rs k) at.1)
      | inr later ↦
          let at = zeros_stale units rs k later in
          (at.0, or_right (in_run r k) (in_runs rs k) at.1)
    ]

zeros_apart : (units : ℕ) (stale : List UnitRun) → AreApart stale → AreApart (zero_runs units stale)
zeros_apart units [] apart = tt
zeros_apart units (r ∷ rs) apart = apart_both (cut_run (count_of units r) (first_of units r) (count_of units r)) (zero_runs units rs)
    (cut_apart (count_of units r) (first_of units r) (count_of units r)) (zeros_apart units rs apart.1)
    (λ k here later. never (sym (apart.0 k (cut_in_run units r k here).1) ∙ (zeros_stale units rs k later).1))

-- ---- both

pub pieces_fit : (half units : ℕ) (stale : List UnitRun) → units ≤ half → AllByRecursion (LiesInHalf half) stale
    → AllByRecursion (IsPieceOf half) (check_runs units stale)
pieces_fit half units stale room within = all_both (IsPieceOf half) (record_runs units (piece_count units)) (zero_runs units stale)
    (record_fit half units (piece_count units) room (omega arith)) (zeros_fit half units stale within)

pub pieces_apart : (units : ℕ) (stale : List UnitRun) → AreApart stale → AreApart (check_runs units stale)
pieces_apart units stale apart = apart_both (record_runs units (piece_count units)) (zero_runs units stale)
    (record_apart units (piece_count units)) (zeros_apart units stale apart)
    (λ k front back.
    let below : k < units = (record_below units (piece_count units) k front).1 (omega arith) in
    let behind = zeros_stale units stale k back in
    omega (arith, below, behind.0))
