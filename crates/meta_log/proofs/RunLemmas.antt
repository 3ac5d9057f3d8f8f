-- The runs of a checkpoint, as they are pushed one by one, and where each of them lies.
use Rattle.std.proofs.Common.{◌≡◌, ℕ, zero, suc, ◌+◌, ◌-◌, ◌*◌, ◌<◌, ◌≤◌, ◌^◌, min, max, Option, Some, List, [], ◌∷◌, ◌++◌, refl, sym, ap, ap₂, subst, IfSome, ◌∙◌, append_assoc, arith}
use Rattle.std.specs.Prelude.{All, slice_get}
use Rattle.std.specs.List.{AllByRecursion}
use Rattle.std.proofs.lemmas.List.Elements.{All-cons, All-nil}
use Rattle.meta_rows.proofs.ChunkLemmas.{all_both}
use Rattle.meta_log.specs.declared.runs.UnitRun.{UnitRun}
use Rattle.meta_log.specs.Prelude.{piece_count, piece_first, piece_units, record_runs, cut_run, zero_runs, check_runs, AreRunsFrom, IsZeroRun}

-- ---- one by one

-- one run was moved from what is to come to what is there
pub one_pushed : (runs new rest whole start : List UnitRun) (r : UnitRun) → new ≡ runs ++ r ∷ [] → whole ≡ r ∷ rest → runs ++ whole ≡ start
    → new ++ rest ≡ start
one_pushed runs new rest whole start r new_is whole_is is =
    ap (λ (l : List UnitRun). l ++ rest) new_is ∙ append_assoc runs (r ∷ []) rest ∙ ap (λ (l : List UnitRun). runs ++ l) (sym whole_is) ∙ is

-- the runs of a record begin with its last piece
pub record_begins : (units left next first count : ℕ) → left ≡ next + 1 → first ≡ 64 * next → count ≡ min 64 (units - first)
    → record_runs units left ≡ record { first = first; count = count } ∷ record_runs units next
record_begins units left next first count left_is first_is count_is =
    let each : count ≡ min 64 (units - 64 * next) = count_is ∙ ap (λ n. min 64 (units - n)) first_is in
    let e : left ≡ suc next = omega (arith, left_is) in
    ap (record_runs units) e ∙ ap₂ (λ (f c : ℕ). let r : UnitRun = record { first = f; count = c } in r ∷ record_runs units next) (sym first_is) (sym each)

cut_none : (most first : ℕ) → cut_run most first 0 ≡ []
cut_none zero first = refl
cut_none (suc most) first = refl

-- any number of runs is enough that is no less than the units
cut_same : (m n first count : ℕ) → count ≤ m → count ≤ n → cut_run m first count ≡ cut_run n first count
cut_same zero n first zero p q = sym (cut_none n first)
cut_same zero n first (suc count) p q = absurd (omega (arith, p))
cut_same (suc m) n first zero p q = sym (cut_none n first)
cut_same (suc m) zero first (suc count) p q = absurd (omega (arith, q))
cut_same (suc m) (suc n) first (suc count) p q =
    ap (λ (l : List UnitRun). let r : UnitRun = record { first = first; count = min 64 (suc count) } in r ∷ l)
    (cut_same m n (first + 64) (suc count - 64) (omega (arith, p)) (omega (arith, q)))

-- behind the first cut, the same by what is left
cut_left : (less first count left : ℕ) → count ≡ min 64 (suc less) → left ≡ suc less - 64
    → cut_run less (first + 64) left ≡ cut_run (suc less - count) (first + count) (suc less - count)
cut_left less first count zero is left_is =
    let none : suc less - count ≡ 0 = omega (arith, is, left_is) in
    cut_none less (first + 64) ∙ sym (ap (λ n. cut_run n (first + count) n) none)
cut_left less first count (suc left) is left_is =
    let here : count ≡ 64 = omega (arith, is, left_is) in
    let rest : suc less - count ≡ suc left = omega (arith, is, left_is) in
    cut_same less (suc left) (first + 64) (suc left) (omega (arith, left_is)) (omega arith)
    ∙ sym (ap₂ (λ n c. cut_run n (first + c) n) rest here)

-- units in a row are cut from their front
pub cut_begins : (left next count : ℕ) → 0 < left → count ≡ min 64 left
    → cut_run left next left ≡ record { first = next; count = count } ∷ cut_run (left - count) (next + count) (left - count)
cut_begins zero next count some is = absurd (omega (arith, some))
cut_begins (suc less) next count some is =
    ap₂ (λ (c : ℕ) (l : List UnitRun). let r : UnitRun = record { first = next; count = c } in r ∷ l) (sym is) (cut_left less next count (suc less - 64) is refl)

-- ---- where each lies

record_get : (units n k at : ℕ) (rest : List UnitRun) → at + k + 1 ≡ n
    → slice_get (record_runs units n ++ rest) k ≡ Some (record { first = 64 * at; count = min 64 (units - 64 * at) })
record_get units zero k at rest is = absurd (omega (arith, is))
record_get units (suc n) zero at rest is =
    let e : n ≡ at = omega (arith, is) in
    ap (λ (m : ℕ). let r : UnitRun = record { first = 64 * m; count = min 64 (units - 64 * m) } in Some r) e
record_get units (suc n) (suc k) at rest is = record_get units n k at rest (omega (arith, is))

behind_get : (units n k at : ℕ) (rest : List UnitRun) → k ≡ n + at → slice_get (record_runs units n ++ rest) k ≡ slice_get rest at
behind_get units zero k at rest is = let e : k ≡ at = omega (arith, is) in ap (slice_get rest) e
behind_get units (suc n) zero at rest is = absurd (omega (arith, is))
behind_get units (suc n) (suc k) at rest is = behind_get units n k at rest (omega (arith, is))

-- the first pieces are those of the record
pub record_piece : (units k : ℕ) (stale : List UnitRun) → k < piece_count units
    → slice_get (check_runs units stale) k ≡ Some (record { first = piece_first units k; count = piece_units units k })
record_piece units k stale left =
    record_get units (piece_count units) k (piece_count units - 1 - k) (zero_runs units stale) (omega (arith, left))

cut_lies : (units half most first count : ℕ) → units ≤ first → (0 < count → first + count ≤ half)
    → AllByRecursion (IsZeroRun units half) (cut_run most first count)
cut_lies units half zero first count behind within = tt
cut_lies units half (suc most) first zero behind within = tt
cut_lies units half (suc most) first (suc less) behind within =
    let all : first + suc less ≤ half = within (omega arith) in (
      record { some = omega arith; most = omega arith; behind = behind; within = omega (arith, all) },
      cut_lies units half most (first + 64) (suc less - 64) (omega (arith, behind)) (λ some. omega (arith, some, all)),
    )

zeros_lie : (units half from : ℕ) (stale : List UnitRun) → AreRunsFrom from half stale → AllByRecursion (IsZeroRun units half) (zero_runs units stale)
zeros_lie units half from [] runs = tt
zeros_lie units half from (r ∷ rs) runs =
    let first : ℕ = max units r.first in
    let count : ℕ = r.first + r.count - first in
    all_both (IsZeroRun units half) (cut_run count first count) (zero_runs units rs)
    (cut_lies units half count first count (omega arith) (λ some. omega (arith, some, runs.2)))
    (zeros_lie units half (r.first + r.count) rs runs.3)

each_lies : (units half k : ℕ) (runs : List UnitRun) (r : UnitRun) → AllByRecursion (IsZeroRun units half) runs → slice_get runs k ≡ Some r
    → IsZeroRun units half r
each_lies units half k [] r each is = absurd cc
each_lies units half zero (x ∷ xs) r each is = subst (λ (o : Option UnitRun). IfSome o (IsZeroRun units half)) is each.0
each_lies units half (suc k) (x ∷ xs) r each is = each_lies units half k xs r each.1 is

-- and the others are zeros behind it
pub zero_piece : (units half k : ℕ) (stale : List UnitRun) (r : UnitRun) → AreRunsFrom 0 half stale → piece_count units ≤ k
    → slice_get (check_runs units stale) k ≡ Some r → IsZeroRun units half r
zero_piece units half k stale r runs behind is =
    let at : ℕ = k - piece_count units in
    each_lies units half at (zero_runs units stale) r (zeros_lie units half 0 stale runs)
    (sym (behind_get units (piece_count units) k at (zero_runs units stale) (omega (arith, behind))) ∙ is)

-- units of a half have numbers
pub runs_end_below : (from half : ℕ) (runs : List UnitRun) → half < 2 ^ 32 → AreRunsFrom from half runs → All (λ (r : UnitRun). r.first + r.count < 2 ^ 32) runs
runs_end_below from half [] below runs = All-nil (λ (r : UnitRun). r.first + r.count < 2 ^ 32)
runs_end_below from half (r ∷ rs) below runs =
    All-cons (λ (r : UnitRun). r.first + r.count < 2 ^ 32) r rs (omega (arith, below, runs.2)) (runs_end_below (r.first + r.count) half rs below runs.3)
