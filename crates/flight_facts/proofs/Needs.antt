-- What contexts need together, for one record and for the work on it.
use Rattle.std.proofs.Common.{◌≡◌, ◌≢◌, ℕ, suc, ◌+◌, ◌-◌, ◌*◌, ◌≤◌, List, [], ◌∷◌, ◌++◌, length, refl, ap, ◌∙◌, append-nil, arith}
use Rattle.flight_facts.proofs.Common.{AllByRecursion, flat_map, unit_count, piece_count, RowOp, Context}
use Rattle.store_steps.specs.Prelude.{sum_needs, intent_of}
use Rattle.flight_facts.specs.Prelude.{FitsRecord, check_most, sum_work}
use Rattle.flight_facts.proofs.Pieces.{joined_units, joined_pieces}

pub needs_both : (xs ys : List Context) → sum_needs (xs ++ ys) ≡ sum_needs xs + sum_needs ys
needs_both [] ys = omega arith
needs_both (x ∷ xs) ys = omega (arith, needs_both xs ys)

pub sum_both : (xs ys : List Context) → sum_work (xs ++ ys) ≡ sum_work xs + sum_work ys
sum_both [] ys = omega arith
sum_both (x ∷ xs) ys = omega (arith, sum_both xs ys)

-- the record of several takes at most what each of them needs
most_of : (number : ℕ) (x : Context) (xs : List Context) → AllByRecursion (λ z. FitsRecord (intent_of z)) (x ∷ xs)
    → unit_count number (flat_map (λ z. z.ops) (x ∷ xs)) ≤ sum_needs (x ∷ xs)
most_of number x [] fits =
    alone (unit_count number (x.ops ++ [])) x.need (ap (λ (ops : List RowOp). unit_count number ops) (append-nil x.ops) ∙ (fits.0).need number)
  where
    alone : (units need : ℕ) → units ≡ need → units ≤ need + 0
    alone units need is = omega (arith, is)
most_of number x (y ∷ ys) fits =
    joined (unit_count number (flat_map (λ z. z.ops) (x ∷ y ∷ ys))) (unit_count number x.ops) (unit_count number (flat_map (λ z. z.ops) (y ∷ ys))) x.need
    (sum_needs (y ∷ ys)) (joined_units number x.ops (flat_map (λ z. z.ops) (y ∷ ys))) ((fits.0).need number) (most_of number y ys fits.1)
  where
    joined : (all first rest need needs : ℕ) → all ≤ first + rest → first ≡ need → rest ≤ needs → all ≤ need + needs
    joined all first rest need needs le is more = omega (arith, le, is, more)

pub needs_most : (number : ℕ) (xs : List Context) → xs ≢ [] → AllByRecursion (λ z. FitsRecord (intent_of z)) xs
    → unit_count number (flat_map (λ z. z.ops) xs) ≤ sum_needs xs
needs_most number [] some fits = absurd (some refl)
needs_most number (x ∷ xs) some fits = most_of number x xs fits

-- the work on them is at least that on their record, on as many commits, and on one checkpoint
least_of : (xs : List Context) → 2 * piece_count (sum_needs xs) + 8 * length xs ≤ sum_work xs
least_of [] = omega arith
least_of (x ∷ xs) = least (2 * (length x.fresh - x.given)) x.need (sum_needs xs) (length xs) (sum_work xs) (least_of xs)
  where
    least : (units need needs count work : ℕ) → 2 * piece_count needs + 8 * count ≤ work
        → 2 * piece_count (need + needs) + 8 * suc count ≤ (units + 8 + 2 * piece_count need + check_most) + work
    least units need needs count work le = let both = joined_pieces need needs in omega (arith, le, both)

pub work_least : (xs : List Context) → xs ≢ [] → 2 * piece_count (sum_needs xs) + length xs + 7 + check_most ≤ sum_work xs
work_least [] some = absurd (some refl)
work_least (x ∷ xs) some = least (2 * (length x.fresh - x.given)) x.need (sum_needs xs) (length xs) (sum_work xs) (least_of xs)
  where
    least : (units need needs count work : ℕ) → 2 * piece_count needs + 8 * count ≤ work
        → 2 * piece_count (need + needs) + suc count + 7 + check_most ≤ (units + 8 + 2 * piece_count need + check_most) + work
    least units need needs count work le = let both = joined_pieces need needs in omega (arith, le, both)
