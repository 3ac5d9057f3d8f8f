-- The units of a new allocator: those that aren't busy are free.
use Rattle.std.proofs.Common.{◌≡◌, ◌≢◌, ℕ, zero, suc, ◌+◌, ◌-◌, ◌<◌, ◌≤◌, ◌==◌, ◌&&◌, Bool, true, false, not, cond, replicate, List, [], ◌∷◌, get_or, refl, sym, ap, subst, ◌∙◌, arith, inl, inr}
use Rattle.std.specs.List.{range_with_len}
use Rattle.std.specs.FinSet as finite
use Rattle.std.specs.Ordering.{nat_cmp}
use Rattle.std.proofs.lemmas.Bool.{cases_eq}
use Rattle.std.proofs.lemmas.List.{get_or-replicate, length-replicate}
use Rattle.unit_allocator.specs.Prelude.{Space, is_free, holds_of, IsWithin, given_one, freed_from, no_idle_units}
use Rattle.unit_allocator.proofs.FreeUnits.{given_is_free, range_stays}

-- a unit after another one was looked at
abbrev pub step : Space → finite.FinSet nat_cmp → ℕ → Space
step s busy a = cond (finite.contains busy a) s (given_one s a)

step_within : (s : Space) (busy : finite.FinSet nat_cmp) (a u : ℕ) → IsWithin s u → IsWithin (step s busy a) u
step_within s busy a u w = by (finite.contains busy a)
  where
    by : (b : Bool) → IsWithin (cond b s (given_one s a)) u
    by true = w
    by false = (range_stays s a u w).1

step_holds : (s : Space) (busy : finite.FinSet nat_cmp) (a u : ℕ) → s.first ≤ u → holds_of (step s busy a) u ≡ holds_of s u
step_holds s busy a u from = by (finite.contains busy a)
  where
    by : (b : Bool) → holds_of (cond b s (given_one s a)) u ≡ holds_of s u
    by true = refl
    by false = refl

step_there : (s : Space) (busy : finite.FinSet nat_cmp) (a u : ℕ) → IsWithin s a → holds_of s a ≡ 0 → IsWithin s u → u ≢ a
    → is_free (step s busy a) u ≡ is_free s u
step_there s busy a u w none x other = by (finite.contains busy a)
  where
    by : (b : Bool) → is_free (cond b s (given_one s a)) u ≡ is_free s u
    by true = refl
    by false = (given_is_free s a w none).1 u x other

step_here : (s : Space) (busy : finite.FinSet nat_cmp) (a : ℕ) → IsWithin s a → holds_of s a ≡ 0 → is_free s a ≡ false
    → is_free (step s busy a) a ≡ not (finite.contains busy a)
step_here s busy a w none was = by (finite.contains busy a)
  where
    by : (b : Bool) → is_free (cond b s (given_one s a)) a ≡ not b
    by true = was
    by false = (given_is_free s a w none).0

-- the units of a range are in the space, idle for nobody and unheld
record AreUntouched (s : Space) (a n : ℕ) : Type 0 where
  within : (u : ℕ) → a ≤ u → u < a + n → IsWithin s u
  unheld : (u : ℕ) → a ≤ u → u < a + n → holds_of s u ≡ 0
  busy : (u : ℕ) → a ≤ u → u < a + n → is_free s u ≡ false

behind : (s : Space) (taken : finite.FinSet nat_cmp) (a n : ℕ) → AreUntouched s a (suc n) → AreUntouched (step s taken a) (a + 1) n
behind s taken a n so = record {
  within = λ u le lt. step_within s taken a u (so.within u (omega (arith, le)) (omega (arith, lt)));
  unheld = λ u le lt. step_holds s taken a u (so.within u (omega (arith, le)) (omega (arith, lt))).from ∙ so.unheld u (omega (arith, le)) (omega (arith, lt));
  busy = λ u le lt.
      let other : u ≢ a = λ e. absurd (omega (arith, e, le)) in
      step_there s taken a u (so.within a (omega arith) (omega arith)) (so.unheld a (omega arith) (omega arith))
      (so.within u (omega (arith, le)) (omega (arith, lt))) other ∙ so.busy u (omega (arith, le)) (omega (arith, lt));
}

freed_before : (s : Space) (taken : finite.FinSet nat_cmp) (a n u : ℕ) → AreUntouched s a n → IsWithin s u → u < a
    → is_free (freed_from s taken (range_with_len a n)) u ≡ is_free s u
freed_before s taken a zero u so w lt = refl
freed_before s taken a (suc n) u so w lt =
    let other : u ≢ a = λ e. absurd (omega (arith, e, lt)) in
    freed_before (step s taken a) taken (a + 1) n u (behind s taken a n so) (step_within s taken a u w) (omega (arith, lt))
    ∙ step_there s taken a u (so.within a (omega arith) (omega arith)) (so.unheld a (omega arith) (omega arith)) w other

freed_here : (s : Space) (taken : finite.FinSet nat_cmp) (a n u : ℕ) → AreUntouched s a n → a ≤ u → u < a + n
    → is_free (freed_from s taken (range_with_len a n)) u ≡ not (finite.contains taken u)
freed_here s taken a zero u so le lt = absurd (omega (arith, le, lt))
freed_here s taken a (suc n) u so le lt = elim (cases_eq u a) [
  | inl e ↦
      let w : IsWithin s a = so.within a (omega arith) (omega arith) in
      let here : is_free (freed_from s taken (range_with_len a (suc n))) a ≡ not (finite.contains taken a) =
      freed_before (step s taken a) taken (a + 1) n a (behind s taken a n so) (step_within s taken a a w) (omega arith)
      ∙ step_here s taken a w (so.unheld a (omega arith) (omega arith)) (so.busy a (omega arith) (omega arith)) in
      subst (λ k. is_free (freed_from s taken (range_with_len a (suc n))) k ≡ not (finite.contains taken k)) (sym e) here
  | inr other ↦ freed_here (step s taken a) taken (a + 1) n u (behind s taken a n so) (omega (arith, le, other)) (omega (arith, lt))
]

pub new_is_free : (first count : ℕ) (taken : finite.FinSet nat_cmp) (u : ℕ) → first ≤ u → u < first + count
    → is_free (freed_from (no_idle_units first count) taken (range_with_len first count)) u ≡ not (finite.contains taken u)
new_is_free first count taken u le lt = freed_here (no_idle_units first count) taken first count u untouched le lt
  where
    untouched : AreUntouched (no_idle_units first count) first count
    untouched = record {
      within = λ v from to. record { from = from; to = omega (arith, to, length-replicate count false) };
      unheld = λ v from to. get_or-replicate count (v - first) 0 0 (omega (arith, from, to));
      busy = λ v from to. ap (λ b. b && (get_or (replicate count 0) (v - first) 0 == 0))
          (get_or-replicate count (v - first) false false (omega (arith, from, to)));
    }

freed_range : (s : Space) (taken : finite.FinSet nat_cmp) (us : List ℕ) (u : ℕ) → IsWithin s u → IsWithin (freed_from s taken us) u
freed_range s taken [] u w = w
freed_range s taken (a ∷ us) u w = freed_range (step s taken a) taken us u (step_within s taken a u w)

pub new_is_within : (first count : ℕ) (taken : finite.FinSet nat_cmp) (u : ℕ) → first ≤ u → u < first + count
    → IsWithin (freed_from (no_idle_units first count) taken (range_with_len first count)) u
new_is_within first count taken u le lt =
    freed_range (no_idle_units first count) taken (range_with_len first count) u (record { from = le; to = omega (arith, lt, length-replicate count false) })

same_holds : (s : Space) (taken : finite.FinSet nat_cmp) (us : List ℕ) → (freed_from s taken us).holds ≡ s.holds
same_holds s taken [] = refl
same_holds s taken (a ∷ us) = same_holds (step s taken a) taken us ∙ by (finite.contains taken a)
  where
    by : (b : Bool) → (cond b s (given_one s a)).holds ≡ s.holds
    by true = refl
    by false = refl

pub new_is_unheld : (first count : ℕ) (taken : finite.FinSet nat_cmp)
    → (freed_from (no_idle_units first count) taken (range_with_len first count)).holds ≡ replicate count 0
new_is_unheld first count taken = same_holds (no_idle_units first count) taken (range_with_len first count)
