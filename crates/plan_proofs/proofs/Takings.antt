-- Units by the numbers of their takings.
use Rattle.std.proofs.Common.{◌≡◌, ℕ, zero, suc, ◌+◌, ◌<◌, ◌≤◌, List, [], ◌∷◌, length, map, take, get_or, Contains, refl, ap, arith}
use Rattle.std.specs.Prelude.{slice_index}
use Rattle.std.specs.List.{AllByRecursion}
use Rattle.unit_fields.specs.Prelude.{Ascends}
use Rattle.unit_allocator.proofs.Lists.{Contains-head, Contains-tail}
use Rattle.plan_drafts.specs.Prelude.{Held, filled}
use Rattle.plan_proofs.proofs.Lists.{all_in}

-- inside a list it doesn't matter what stands outside
inside : (us : List ℕ) (t d e : ℕ) → t < length us → get_or us t d ≡ get_or us t e
inside [] t d e lt = absurd (omega (arith, lt))
inside (u ∷ us) zero d e lt = refl
inside (u ∷ us) (suc t) d e lt = inside us t d e (omega (arith, lt))

-- the unit of a number is one of them
pub is_among : (us : List ℕ) (t : ℕ) → t < length us → Contains us (slice_index us t)
is_among us t lt = (t, lt, inside us t (slice_index us t) 0 lt)

-- and that of the whole list, where they are its front
pub of_front : (n : ℕ) (us : List ℕ) (t : ℕ) → t < n → slice_index (take n us) t ≡ slice_index us t
of_front zero us t lt = absurd (omega (arith, lt))
of_front (suc n) [] t lt = refl
of_front (suc n) (u ∷ us) zero lt = refl
of_front (suc n) (u ∷ us) (suc t) lt = of_front n us t (omega (arith, lt))

-- greater numbers have greater units
pub rises : (us : List ℕ) (a b : ℕ) → Ascends us → a < b → b < length us → slice_index us a < slice_index us b
rises [] a b order lt in_b = absurd (omega (arith, in_b))
rises (u ∷ us) a zero order lt in_b = absurd (omega (arith, lt))
rises (u ∷ us) zero (suc b) order lt in_b = all_in (λ v. u < v) us order.0 (slice_index us b) (is_among us b (omega (arith, in_b)))
rises (u ∷ us) (suc a) (suc b) order lt in_b = rises us a b order.1 (omega (arith, lt)) (omega (arith, in_b))

-- so the units of ascending numbers ascend
module _ (us : List ℕ) (order : Ascends us) where
  all_above : (t : ℕ) (ts : List ℕ) → t < length us → AllByRecursion (λ v. t < v) ts → AllByRecursion (λ v. v < length us) ts
      → AllByRecursion (λ v. slice_index us t < v) (map (slice_index us) ts)
  all_above t [] inside above below = tt
  all_above t (v ∷ vs) inside above below = (rises us t v order above.0 below.0, all_above t vs inside above.1 below.1)

  pub units_ascend : (ts : List ℕ) → Ascends ts → AllByRecursion (λ v. v < length us) ts → Ascends (map (slice_index us) ts)
  units_ascend [] ascend below = tt
  units_ascend (t ∷ ts) ascend below = (all_above t ts below.0 ascend.0 below.1, units_ascend ts ascend.1 below.1)

-- ascending numbers below another are no more than it
count_from : (k n : ℕ) (ts : List ℕ) → k ≤ n → Ascends ts → AllByRecursion (λ v. k ≤ v) ts → AllByRecursion (λ v. v < n) ts → length ts + k ≤ n
count_from k n [] le ascend from below = omega (arith, le)
count_from k n (t ∷ ts) le ascend from below =
    omega (arith, from.0, below.0, count_from (suc t) n ts (omega (arith, below.0)) ascend.1 (next ts ascend.0) below.1)
  where
    next : (vs : List ℕ) → AllByRecursion (λ v. t < v) vs → AllByRecursion (λ v. suc t ≤ v) vs
    next [] all = tt
    next (v ∷ vs) all = (omega (arith, all.0), next vs all.1)

pub few : (n : ℕ) (ts : List ℕ) → Ascends ts → AllByRecursion (λ v. v < n) ts → length ts ≤ n
few n ts ascend below = omega (arith, count_from 0 n ts (omega arith) ascend (from_zero ts) below)
  where
    from_zero : (vs : List ℕ) → AllByRecursion (λ v. 0 ≤ v) vs
    from_zero [] = tt
    from_zero (v ∷ vs) = (omega arith, from_zero vs)

-- the units that are filled, and how many
pub filled_units : (us : List ℕ) (held : Held) (ts : List ℕ) → map (λ f. f.unit) (filled us held ts) ≡ map (slice_index us) ts
filled_units us held [] = refl
filled_units us held (t ∷ ts) = ap (λ (vs : List ℕ). slice_index us t ∷ vs) (filled_units us held ts)

pub filled_count : (us : List ℕ) (held : Held) (ts : List ℕ) → length (filled us held ts) ≡ length ts
filled_count us held [] = refl
filled_count us held (t ∷ ts) = ap suc (filled_count us held ts)

-- what is so of each number's unit and bytes is so of all that are filled
pub filled_all : (us : List ℕ) (held : Held) (P : ℕ → List ℕ → Type 0) (ts : List ℕ) → AllByRecursion (λ t. P (slice_index us t) (held t)) ts
    → AllByRecursion (λ f. P f.unit f.bytes) (filled us held ts)
filled_all us held P [] all = tt
filled_all us held P (t ∷ ts) all = (all.0, filled_all us held P ts all.1)

pub filled_each : (us : List ℕ) (held : Held) (P : ℕ → List ℕ → Type 0) (ts : List ℕ) → AllByRecursion (λ f. P f.unit f.bytes) (filled us held ts)
    → AllByRecursion (λ t. P (slice_index us t) (held t)) ts
filled_each us held P [] all = tt
filled_each us held P (t ∷ ts) all = (all.0, filled_each us held P ts all.1)

-- what is so of each that is contained is so of all
pub all_listed : (P : ℕ → Type 0) (us : List ℕ) → ((u : ℕ) → Contains us u → P u) → AllByRecursion P us
all_listed P [] each = tt
all_listed P (u ∷ us) each = (each u (Contains-head u us), all_listed P us (λ v c. each v (Contains-tail u v us c)))
