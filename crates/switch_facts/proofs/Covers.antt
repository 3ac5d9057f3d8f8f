-- The pieces of a checkpoint cover its record, and what is stale behind it.
use Rattle.std.proofs.Common.{◌≡◌, ◌⊎◌, inl, inr, ℕ, zero, suc, ◌+◌, ◌-◌, ◌*◌, ◌<◌, ◌≤◌, Bool, true, false, not, nat_lt, ◌&&◌, ◌||◌, min, max, List, [], ◌∷◌, ◌++◌, refl, sym, ap, ◌∙◌, arith}
use Rattle.std.proofs.lemmas.Bool.{cases_lt, lt-ltb, le-ltb}
use Rattle.meta_log.specs.declared.runs.UnitRun.{UnitRun}
use Rattle.meta_log.specs.Prelude.{piece_count, in_run, in_runs, record_runs, cut_run, zero_runs, check_runs}

pub in_it : (first count k : ℕ) → first ≤ k → k < first + count → in_run (record { first = first; count = count }) k ≡ true
in_it first count k from below =
    ap (λ b. not b && nat_lt k (first + count)) (le-ltb k first from) ∙ lt-ltb k (first + count) below

pub or_left : (a b : Bool) → a ≡ true → (a || b) ≡ true
or_left a b is = ap (λ x. x || b) is

pub or_right : (a b : Bool) → b ≡ true → (a || b) ≡ true
or_right true b is = refl
or_right false b is = is

both_left : (xs ys : List UnitRun) (k : ℕ) → in_runs xs k ≡ true → in_runs (xs ++ ys) k ≡ true
both_left [] ys k is = absurd cc
both_left (x ∷ xs) ys k is = by_test (in_run x k) (λ later. both_left xs ys k later) is
  where
    by_test : (b : Bool) → (in_runs xs k ≡ true → in_runs (xs ++ ys) k ≡ true) → (b || in_runs xs k) ≡ true → (b || in_runs (xs ++ ys) k) ≡ true
    by_test true again is = refl
    by_test false again is = again is

both_right : (xs ys : List UnitRun) (k : ℕ) → in_runs ys k ≡ true → in_runs (xs ++ ys) k ≡ true
both_right [] ys k is = is
both_right (x ∷ xs) ys k is = or_right (in_run x k) (in_runs (xs ++ ys) k) (both_right xs ys k is)

-- ---- the record

record_covers : (units n k : ℕ) → k < units → k < 64 * n → in_runs (record_runs units n) k ≡ true
record_covers units zero k inside below = absurd (omega (arith, below))
record_covers units (suc n) k inside below = elim (cases_lt k (64 * n)) [
  | inl before ↦ or_right (in_run (record { first = 64 * n; count = min 64 (units - 64 * n) }) k) (in_runs (record_runs units n) k)
      (record_covers units n k inside before)
  | inr here ↦ or_left (in_run (record { first = 64 * n; count = min 64 (units - 64 * n) }) k) (in_runs (record_runs units n) k)
      (in_it (64 * n) (min 64 (units - 64 * n)) k here (omega (arith, here, below, inside)))
]

-- ---- zeros

cut_covers : (most first count k : ℕ) → count ≤ most → first ≤ k → k < first + count → in_runs (cut_run most first count) k ≡ true
cut_covers zero first count k few from below = absurd (omega (arith, few, from, below))
cut_covers (suc most) first zero k few from below = absurd (omega (arith, from, below))
cut_covers (suc most) first (suc less) k few from below = elim (cases_lt k (first + 64)) [
  | inl here ↦ or_left (in_run (record { first = first; count = min 64 (suc less) }) k) (in_runs (cut_run most (first + 64) (suc less - 64)) k)
      (in_it first (min 64 (suc less)) k from (omega (arith, here, below)))
  | inr later ↦ or_right (in_run (record { first = first; count = min 64 (suc less) }) k) (in_runs (cut_run most (first + 64) (suc less - 64)) k)
      (cut_covers most (first + 64) (suc less - 64) k (omega (arith, few)) later (omega (arith, later, below)))
]

pub never : false ≡ true → ⊥
never e = absurd cc

-- a unit of a run lies between its ends
pub inside_it : (r : UnitRun) (k : ℕ) → in_run r k ≡ true → (r.first ≤ k) × (k < r.first + r.count)
inside_it r k is = elim (cases_lt k r.first) [
  | inl less ↦ absurd (never (ap (λ b. not b && nat_lt k (r.first + r.count)) (sym (lt-ltb k r.first less)) ∙ is))
  | inr from ↦ elim (cases_lt k (r.first + r.count)) [
    | inl below ↦ (from, below)
    | inr past ↦ absurd (never (sym (le-ltb k (r.first + r.count) past)
        ∙ ap (λ b. not b && nat_lt k (r.first + r.count)) (sym (le-ltb k r.first from)) ∙ is))
  ]
]

abbrev pub first_of : ℕ → UnitRun → ℕ
first_of units r = max units r.first

abbrev pub count_of : ℕ → UnitRun → ℕ
count_of units r = r.first + r.count - first_of units r

zeros_cover : (units : ℕ) (stale : List UnitRun) (k : ℕ) → units ≤ k → in_runs stale k ≡ true → in_runs (zero_runs units stale) k ≡ true
zeros_cover units [] k behind is = absurd (never is)
zeros_cover units (r ∷ rs) k behind is = by_test (in_run r k) refl (λ later. zeros_cover units rs k behind later) is
  where
    by_test : (b : Bool) → in_run r k ≡ b → (in_runs rs k ≡ true → in_runs (zero_runs units rs) k ≡ true) → (b || in_runs rs k) ≡ true
        → in_runs (cut_run (count_of units r) (first_of units r) (count_of units r) ++ zero_runs units rs) k ≡ true
    by_test true here again is =
        let between = inside_it r k here in
        both_left (cut_run (count_of units r) (first_of units r) (count_of units r)) (zero_runs units rs) k
        (cut_covers (count_of units r) (first_of units r) (count_of units r) k (omega arith) (omega (arith, behind, between.0))
        (omega (arith, behind, between.0, between.1)))
    by_test false here again is = both_right (cut_run (count_of units r) (first_of units r) (count_of units r)) (zero_runs units rs) k (again is)

-- ---- both

pub pieces_cover : (units : ℕ) (stale : List UnitRun) (k : ℕ) → in_runs (check_runs units stale) k ≡ false → (units ≤ k) × (in_runs stale k ≡ false)
pieces_cover units stale k none = elim (cases_lt k units) [
  | inl inside ↦ absurd (never (sym none ∙ both_left (record_runs units (piece_count units)) (zero_runs units stale) k
      (record_covers units (piece_count units) k inside (omega (arith, inside)))))
  | inr behind ↦ (behind, not_stale (in_runs stale k) refl behind)
]
  where
    not_stale : (b : Bool) → in_runs stale k ≡ b → units ≤ k → b ≡ false
    not_stale false is behind = refl
    not_stale true is behind = absurd (never (sym none ∙ both_right (record_runs units (piece_count units)) (zero_runs units stale) k
        (zeros_cover units stale k behind is)))

-- once a piece is given, what is left is what was left but for its units
pub one_less : (r : UnitRun) (rs : List UnitRun) (k : ℕ) → in_runs rs k ≡ false → (in_runs (r ∷ rs) k ≡ false) ⊎ ((r.first ≤ k) × (k < r.first + r.count))
one_less r rs k none = by_test (in_run r k) refl
  where
    by_test : (b : Bool) → in_run r k ≡ b → ((b || in_runs rs k) ≡ false) ⊎ ((r.first ≤ k) × (k < r.first + r.count))
    by_test true here = inr (inside_it r k here)
    by_test false here = inl none
