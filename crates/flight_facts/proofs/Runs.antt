-- The pieces of a checkpoint: how many they are, and that one to come is none of those before it.
use Rattle.std.proofs.Common.{◌≡◌, ℕ, zero, suc, ◌+◌, ◌-◌, ◌*◌, ◌<◌, ◌≤◌, ◌||◌, ◌&&◌, not, nat_lt, Bool, true, false, max, List, [], ◌∷◌, length, take, slice_get, Some, refl, ap, subst, ◌∙◌, length-append, arith}
use Rattle.flight_facts.proofs.Common.{UnitRun, in_run, in_runs, other_unit, piece_count, check_units, Meta, Checking, same_Some}
use Rattle.std.proofs.lemmas.Bool.{le-ltb, lt-ltb}
use Rattle.meta_log.specs.Prelude.{AreRunsFrom, record_runs, cut_run, zero_runs}
use Rattle.switch_facts.specs.Prelude.{AreApart}
use Rattle.store_steps.specs.Prelude.{check_pieces}
use Rattle.flight_facts.specs.Prelude.{IsGivenRun, check_most}

-- ---- how many

record_runs_count : (units n : ℕ) → length (record_runs units n) ≡ n
record_runs_count units zero = refl
record_runs_count units (suc n) = ap suc (record_runs_count units n)

cut_run_few : (most first count : ℕ) → length (cut_run most first count) ≤ most
cut_run_few zero first count = omega arith
cut_run_few (suc most) first zero = omega arith
cut_run_few (suc most) first (suc less) = omega (arith, cut_run_few most (first + 64) (suc less - 64))

-- no more than there are units to the end
zero_runs_few : (units from end : ℕ) (runs : List UnitRun) → from ≤ end → AreRunsFrom from end runs → length (zero_runs units runs) + from ≤ end
zero_runs_few units from end [] le are = omega (arith, le)
zero_runs_few units from end (r ∷ rs) le are =
    let first : ℕ = max units r.first in
    let count : ℕ = r.first + r.count - first in
    few (length (cut_run count first count)) (length (zero_runs units rs)) _ count first r.first r.count from end
    (length-append (cut_run count first count) (zero_runs units rs)) (cut_run_few count first count) refl (most units r.first) are.0
    (zero_runs_few units (r.first + r.count) end rs are.2 are.3)
  where
    most : (a b : ℕ) → b ≤ max a b
    most a b = omega arith

    few : (cut rest all count first begin size from end : ℕ) → all ≡ cut + rest → cut ≤ count → count ≡ begin + size - first → begin ≤ first
        → from ≤ begin → rest + (begin + size) ≤ end → all + from ≤ end
    few cut rest all count first begin size from end is short counted above le more = omega (arith, is, short, counted, above, le, more)

pub check_few : (m : Meta) → m.sup.half ≤ 65536 → check_units m.number m.rows ≤ m.sup.half → AreRunsFrom 0 m.sup.half m.stale
    → 2 * length (check_pieces m) + 7 < check_most
check_few m half fits stale =
    let units : ℕ = check_units m.number m.rows in
    few units (length (record_runs units (piece_count units))) (length (zero_runs units m.stale)) (length (check_pieces m)) m.sup.half half fits
    (record_runs_count units (piece_count units)) (zero_runs_few units 0 m.sup.half m.stale (omega arith) stale)
    (length-append (record_runs units (piece_count units)) (zero_runs units m.stale))
  where
    few : (units pieces rest all half : ℕ) → half ≤ 65536 → units ≤ half → pieces ≡ piece_count units → rest + 0 ≤ half → all ≡ pieces + rest
        → 2 * all + 7 < 262144
    few units pieces rest all half most fits is short sum = omega (arith, most, fits, is, short, sum)

-- ---- one to come is none of those before it

in_there : (runs : List UnitRun) (n : ℕ) (run : UnitRun) (k : ℕ) → slice_get runs n ≡ Some run → in_run run k ≡ true → in_runs runs k ≡ true
in_there [] n run k is inside = absurd (cc)
in_there (r ∷ rs) zero run k is inside =
    ap (λ (b : Bool). b || in_runs rs k) (ap (λ (x : UnitRun). in_run x k) (same_Some r run is) ∙ inside)
in_there (r ∷ rs) (suc n) run k is inside = of_rest (in_run r k) (in_there rs n run k is inside)
  where
    of_rest : (b : Bool) → in_runs rs k ≡ true → b || in_runs rs k ≡ true
    of_rest true rest = refl
    of_rest false rest = rest

in_front : (runs : List UnitRun) (n : ℕ) (run : UnitRun) (k : ℕ) → AreApart runs → slice_get runs n ≡ Some run → in_run run k ≡ true
    → in_runs (take n runs) k ≡ false
in_front [] n run k apart is inside = absurd (cc)
in_front (r ∷ rs) zero run k apart is inside = refl
in_front (r ∷ rs) (suc n) run k apart is inside =
    ap (λ (b : Bool). b || in_runs (take n rs) k) (of_first (in_run r k) refl) ∙ in_front rs n run k apart.1 is inside
  where
    of_first : (b : Bool) → in_run r k ≡ b → in_run r k ≡ false
    of_first false e = e
    of_first true e = let never : in_runs rs k ≡ false = apart.0 k e in let here : in_runs rs k ≡ true = in_there rs n run k is inside in absurd (cc)

pub runs_left : (m : Meta) (c : Checking) (run : UnitRun) (k : ℕ) → AreApart (check_pieces m) → slice_get (check_pieces m) c.given ≡ Some run
    → in_run run k ≡ true → ¬ IsGivenRun m c (other_unit m.sup + k)
runs_left m c run k apart is inside given =
    let out : in_runs (take c.given (check_pieces m)) k ≡ false = in_front (check_pieces m) c.given run k apart is inside in
    let here : in_runs (take c.given (check_pieces m)) k ≡ true =
    subst (λ (j : ℕ). in_runs (take c.given (check_pieces m)) j ≡ true) (same (other_unit m.sup) k given.k given.is) given.inside in
    cc
  where
    same : (first a b : ℕ) → first + a ≡ first + b → b ≡ a
    same first a b is = omega (arith, is)

-- ---- one more piece

-- those before a piece, and it
pub one_more : (runs : List UnitRun) (n : ℕ) (run : UnitRun) (k : ℕ) → slice_get runs n ≡ Some run → in_runs (take (suc n) runs) k ≡ in_runs (take n runs) k || in_run run k
one_more [] n run k is = absurd (cc)
one_more (r ∷ rs) zero run k is = of_one (in_run r k) (in_run run k) (ap (λ (x : UnitRun). in_run x k) (same_Some r run is))
  where
    of_one : (a b : Bool) → a ≡ b → a || false ≡ false || b
    of_one true b is = is
    of_one false b is = is
one_more (r ∷ rs) (suc n) run k is = ap (λ (b : Bool). in_run r k || b) (one_more rs n run k is) ∙ grouped (in_run r k) (in_runs (take n rs) k) (in_run run k)
  where
    grouped : (a b c : Bool) → a || (b || c) ≡ (a || b) || c
    grouped true b c = refl
    grouped false b c = refl

-- a unit of it is among those that are given then
pub in_next : (runs : List UnitRun) (n : ℕ) (run : UnitRun) (k : ℕ) → slice_get runs n ≡ Some run → in_run run k ≡ true
    → in_runs (take (n + 1) runs) k ≡ true
in_next runs n run k is inside = subst (λ (m : ℕ). in_runs (take m runs) k ≡ true) (next n)
    (one_more runs n run k is ∙ ap (λ (b : Bool). in_runs (take n runs) k || b) inside ∙ or_true (in_runs (take n runs) k))
  where
    next : (n : ℕ) → suc n ≡ n + 1
    next n = omega arith

    or_true : (a : Bool) → a || true ≡ true
    or_true true = refl
    or_true false = refl

-- and so is one of those before it
pub in_before : (runs : List UnitRun) (n : ℕ) (run : UnitRun) (k : ℕ) → slice_get runs n ≡ Some run → in_runs (take n runs) k ≡ true
    → in_runs (take (n + 1) runs) k ≡ true
in_before runs n run k is inside = subst (λ (m : ℕ). in_runs (take m runs) k ≡ true) (next n)
    (one_more runs n run k is ∙ ap (λ (b : Bool). b || in_run run k) inside)
  where
    next : (n : ℕ) → suc n ≡ n + 1
    next n = omega arith

-- where a unit of a run lies
pub in_run_at : (run : UnitRun) (k : ℕ) → run.first ≤ k → k < run.first + run.count → in_run run k ≡ true
in_run_at run k from to = ap (λ (b : Bool). not b && nat_lt k (run.first + run.count)) (le-ltb k run.first from) ∙ lt-ltb k (run.first + run.count) to
