-- Runs of fresh units: what a data write takes of what a context has left, and what is left behind it.
use Rattle.std.proofs.Common.{◌≡◌, inl, inr, ℕ, zero, suc, ◌+◌, ◌-◌, ◌*◌, ◌<◌, ◌≤◌, Bool, true, false, cond, ◌&&◌, ◌==◌, nat_lt, List, [], ◌∷◌, ◌++◌, length, take, drop, Some, refl, sym, ap, subst, ◌∙◌, length-append, length-drop, arith}
use Rattle.flight_facts.proofs.Common.{AllByRecursion, cases_lt, and_parts, eqb-true, ltb-true, same_Some, FreshUnit, Context}
use Rattle.std.proofs.Math.Seq.{take-add}
use Rattle.std.proofs.lemmas.List.{drop-drop, take_at}
use Rattle.store_steps.specs.Prelude.{run_from, run_bytes, Unsent, unsent_units, run_of, unsent, IsInRow}

-- ---- the longest front that does

abbrev is_next : ℕ → ℕ → FreshUnit → Bool
is_next u end f = f.unit == u && nat_lt u end

run_front : (u end : ℕ) (fs : List FreshUnit) → fs ≡ run_from u end fs ++ drop (length (run_from u end fs)) fs
run_front u end [] = refl
run_front u end (f ∷ fs) = of_test (is_next u end f) (run_front (u + 1) end fs)
  where
    of_test : (b : Bool) → fs ≡ run_from (u + 1) end fs ++ drop (length (run_from (u + 1) end fs)) fs
        → (let run : List FreshUnit = cond b (f ∷ run_from (u + 1) end fs) [] in f ∷ fs ≡ run ++ drop (length run) (f ∷ fs))
    of_test true rest = ap (λ (gs : List FreshUnit). f ∷ gs) rest
    of_test false rest = refl

run_row : (u end : ℕ) (fs : List FreshUnit) → IsInRow u (run_from u end fs)
run_row u end [] = tt
run_row u end (f ∷ fs) = of_test (is_next u end f) refl (run_row (u + 1) end fs)
  where
    of_test : (b : Bool) → is_next u end f ≡ b → IsInRow (u + 1) (run_from (u + 1) end fs) → IsInRow u (cond b (f ∷ run_from (u + 1) end fs) [])
    of_test true is rest = (eqb-true f.unit u (and_parts (f.unit == u) (nat_lt u end) is).0, rest)
    of_test false is rest = tt

run_short : (u end : ℕ) (fs : List FreshUnit) → u ≤ end → u + length (run_from u end fs) ≤ end
run_short u end [] most = omega (arith, most)
run_short u end (f ∷ fs) most = of_test (is_next u end f) refl (λ le. run_short (u + 1) end fs le)
  where
    of_test : (b : Bool) → is_next u end f ≡ b → (u + 1 ≤ end → (u + 1) + length (run_from (u + 1) end fs) ≤ end)
        → u + length (cond b (f ∷ run_from (u + 1) end fs) []) ≤ end
    of_test true is rest =
        let below : u < end = ltb-true u end (and_parts (f.unit == u) (nat_lt u end) is).1 in
        let short : (u + 1) + length (run_from (u + 1) end fs) ≤ end = rest (omega (arith, below)) in
        omega (arith, short)
    of_test false is rest = omega (arith, most)

-- ---- what a context has left begins with its next data write

-- the next data write of a context is of a run of at most 64 of the units that it has left, the first ones
pub record IsRunOf (x : Context) (n : Unsent) : Type 0 where
  pub place : x.place ≡ n.place
  pub left : drop x.given x.fresh ≡ unsent_units n ++ drop (x.given + length (unsent_units n)) x.fresh
  pub row : IsInRow n.first.unit (unsent_units n)
  pub short : length (unsent_units n) ≤ 64
  pub within : x.given + length (unsent_units n) ≤ length x.fresh

run_left : (x : Context) (f : FreshUnit) (fs : List FreshUnit) → drop x.given x.fresh ≡ f ∷ fs
    → IsRunOf x (record { place = x.place; first = f; more = run_from (f.unit + 1) (f.unit + 64) fs })
run_left x f fs is =
    let more : List FreshUnit = run_from (f.unit + 1) (f.unit + 64) fs in
    let behind : drop (length more) fs ≡ drop (x.given + length (f ∷ more)) x.fresh =
    ap (λ (gs : List FreshUnit). drop (length (f ∷ more)) gs) (sym is) ∙ drop-drop (length (f ∷ more)) x.given x.fresh in
    let left : drop x.given x.fresh ≡ (f ∷ more) ++ drop (x.given + length (f ∷ more)) x.fresh =
    is ∙ ap (λ (gs : List FreshUnit). f ∷ gs) (run_front (f.unit + 1) (f.unit + 64) fs) ∙ ap (λ (gs : List FreshUnit). f ∷ more ++ gs) behind in
    let short : (f.unit + 1) + length more ≤ f.unit + 64 = run_short (f.unit + 1) (f.unit + 64) fs (omega arith) in
    record {
      place = refl;
      left = left;
      row = (refl, run_row (f.unit + 1) (f.unit + 64) fs);
      short = omega (arith, short);
      within = fewer x.given (length more) (length x.fresh) (sym (length-drop x.given x.fresh)
          ∙ ap (λ (gs : List FreshUnit). length gs) left ∙ length-append (f ∷ more) (drop (x.given + length (f ∷ more)) x.fresh)
          ∙ ap (λ (k : ℕ). length (f ∷ more) + k) (length-drop (x.given + length (f ∷ more)) x.fresh));
    }
  where
    fewer : (given more all : ℕ) → all - given ≡ suc more + (all - (given + suc more)) → given + suc more ≤ all
    fewer given more all is = omega (arith, is)

pub run_of_left : (x : Context) (n : Unsent) → unsent x ≡ Some n → IsRunOf x n
run_of_left x n is = of_left (drop x.given x.fresh) refl is
  where
    of_left : (fs : List FreshUnit) → drop x.given x.fresh ≡ fs → run_of x.place fs ≡ Some n → IsRunOf x n
    of_left [] e found = absurd (cc)
    of_left (f ∷ fs) e found =
        subst (IsRunOf x) (same_Some (record { place = x.place; first = f; more = run_from (f.unit + 1) (f.unit + 64) fs }) n found)
        (run_left x f fs e)

-- ---- its bytes

pub row_bytes : (fs : List FreshUnit) → AllByRecursion (λ f. length f.bytes ≡ 4096) fs → length (run_bytes fs) ≡ 4096 * length fs
row_bytes [] all = refl
row_bytes (f ∷ fs) all = omega (arith, length-append f.bytes (run_bytes fs), all.0, row_bytes fs all.1)

-- ---- what holds of each of its units, and what stands behind it

pub row_at : (P : ℕ → Type 0) (u : ℕ) (fs : List FreshUnit) → IsInRow u fs → AllByRecursion (λ f. P f.unit) fs → (k : ℕ) → u ≤ k
    → k < u + length fs → P k
row_at P u [] row all k from to = absurd (omega (arith, from, to))
row_at P u (f ∷ fs) row all k from to = elim (cases_lt u k) [
  | inl above ↦ row_at P (u + 1) fs row.1 all.1 k (omega (arith, above)) (omega (arith, to))
  | inr most ↦ subst P (let same : u ≡ k = omega (arith, from, most) in row.0 ∙ same) all.0
]

-- ---- parts

pub all_drop : (P : FreshUnit → Type 0) (k : ℕ) (fs : List FreshUnit) → AllByRecursion P fs → AllByRecursion P (drop k fs)
all_drop P zero fs all = all
all_drop P (suc k) [] all = tt
all_drop P (suc k) (f ∷ fs) all = all_drop P k fs all.1

-- once it is submitted, what was given of the context are the units that were given before, and those of the run
pub given_units : (x : Context) (n : Unsent) → IsRunOf x n → take (x.given + length (unsent_units n)) x.fresh ≡ take x.given x.fresh ++ unsent_units n
given_units x n run =
    let units : List FreshUnit = unsent_units n in
    let rest : List FreshUnit = drop (x.given + length units) x.fresh in
    take-add x.given (length units) x.fresh
    ∙ ap (λ (fs : List FreshUnit). take x.given x.fresh ++ take (length units) fs) run.left
    ∙ ap (λ (fs : List FreshUnit). take x.given x.fresh ++ fs) (take_at units rest (length units) refl)
