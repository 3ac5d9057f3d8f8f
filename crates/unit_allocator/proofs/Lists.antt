-- What a list of the numbers of a range that pass a test contains.
use Rattle.std.proofs.Common.{◌≡◌, ℕ, zero, suc, ◌+◌, ◌<◌, ◌≤◌, Bool, true, false, cond, List, [], ◌∷◌, map, length, slice_index_or, refl, sym, ap, subst, ◌∙◌, arith, inl, inr, ◌⊎◌}
use Rattle.std.specs.List.{filter, range_with_len, Contains, AllByRecursion}
use Rattle.std.proofs.lemmas.Bool.{cases_eq}
use Rattle.unit_fields.specs.Prelude.{Ascends}

pub Contains-head : (x : ℕ) (xs : List ℕ) → Contains (x ∷ xs) x
Contains-head x xs = (0, omega arith, refl)

pub Contains-tail : (y x : ℕ) (xs : List ℕ) → Contains xs x → Contains (y ∷ xs) x
Contains-tail y x xs c = (suc c.0, omega (arith, c.1), c.2)

pub Contains-cases : (y x : ℕ) (xs : List ℕ) → Contains (y ∷ xs) x → (y ≡ x) ⊎ Contains xs x
Contains-cases y x xs c = by c.0 c.1 c.2
  where
    by : (k : ℕ) → k < length (y ∷ xs) → slice_index_or (y ∷ xs) k x ≡ x → (y ≡ x) ⊎ Contains xs x
    by zero lt e = inl e
    by (suc k) lt e = inr (k, omega (arith, lt), e)

-- ---- a list of images

pub Contains-map : (f : ℕ → ℕ) (xs : List ℕ) (x : ℕ) → Contains xs x → Contains (map f xs) (f x)
Contains-map f [] x c = absurd (omega (arith, c.1))
Contains-map f (y ∷ ys) x c = elim (Contains-cases y x ys c) [
  | inl e ↦ subst (λ (z : ℕ). Contains (f y ∷ map f ys) z) (ap f e) (Contains-head (f y) (map f ys))
  | inr d ↦ Contains-tail (f y) (f x) (map f ys) (Contains-map f ys x d)
]

pub Contains-from_map : (f : ℕ → ℕ) (xs : List ℕ) (z : ℕ) → Contains (map f xs) z → (x : ℕ) × (Contains xs x) × (f x ≡ z)
Contains-from_map f [] z c = absurd (omega (arith, c.1))
Contains-from_map f (y ∷ ys) z c = elim (Contains-cases (f y) z (map f ys) c) [
  | inl e ↦ (y, Contains-head y ys, e)
  | inr d ↦ let rest = Contains-from_map f ys z d in (rest.0, Contains-tail y rest.0 ys rest.1, rest.2)
]

-- ---- the numbers of a range that pass

kept_in : (b : Bool) (a q : ℕ) (xs : List ℕ) → Contains xs q → Contains (cond b (a ∷ xs) xs) q
kept_in true a q xs c = Contains-tail a q xs c
kept_in false a q xs c = c

pub passing_is_listed : (p : ℕ → Bool) (a n q : ℕ) → a ≤ q → q < a + n → p q ≡ true → Contains (filter p (range_with_len a n)) q
passing_is_listed p a zero q le lt is = absurd (omega (arith, le, lt))
passing_is_listed p a (suc n) q le lt is =
    let rest : List ℕ = filter p (range_with_len (a + 1) n) in
    elim (cases_eq q a) [
      | inl e ↦
          let here : Contains (a ∷ rest) q = subst (λ (k : ℕ). Contains (a ∷ rest) k) (sym e) (Contains-head a rest) in
          subst (λ (b : Bool). Contains (cond b (a ∷ rest) rest) q) (sym (ap p (sym e) ∙ is)) here
      | inr e ↦ kept_in (p a) a q rest (passing_is_listed p (a + 1) n q (omega (arith, le, e)) (omega (arith, lt)) is)
    ]

pub record Passes (p : ℕ → Bool) (a n q : ℕ) : Type 0 where
  pub from : a ≤ q
  pub to : q < a + n
  pub passes : p q ≡ true

pub listed_passes : (p : ℕ → Bool) (a n q : ℕ) → Contains (filter p (range_with_len a n)) q → Passes p a n q
listed_passes p a zero q c = absurd (omega (arith, c.1))
listed_passes p a (suc n) q c =
    elim (p a) as (λ b. p a ≡ b → Contains (cond b (a ∷ filter p (range_with_len (a + 1) n)) (filter p (range_with_len (a + 1) n))) q
    → Passes p a (suc n) q) [
      | true ↦ λ is d. elim (Contains-cases a q (filter p (range_with_len (a + 1) n)) d) [
        | inl e ↦ record { from = omega (arith, e); to = omega (arith, e); passes = ap p (sym e) ∙ is }
        | inr r ↦ behind (listed_passes p (a + 1) n q r)
      ]
      | false ↦ λ is d. behind (listed_passes p (a + 1) n q d)
    ] refl c
  where
    behind : Passes p (a + 1) n q → Passes p a (suc n) q
    behind r = record { from = omega (arith, r.from); to = omega (arith, r.to); passes = r.passes }

-- ---- order

all_above : (p : ℕ → Bool) (low a n : ℕ) → low < a → AllByRecursion (λ v. low < v) (filter p (range_with_len a n))
all_above p low a zero below = tt
all_above p low a (suc n) below = by (p a) (filter p (range_with_len (a + 1) n)) (all_above p low (a + 1) n (omega (arith, below)))
  where
    by : (b : Bool) (xs : List ℕ) → AllByRecursion (λ v. low < v) xs → AllByRecursion (λ v. low < v) (cond b (a ∷ xs) xs)
    by true xs all = (below, all)
    by false xs all = all

pub passing_ascend : (p : ℕ → Bool) (a n : ℕ) → Ascends (filter p (range_with_len a n))
passing_ascend p a zero = tt
passing_ascend p a (suc n) = by (p a) (filter p (range_with_len (a + 1) n)) (all_above p a (a + 1) n (omega arith)) (passing_ascend p (a + 1) n)
  where
    by : (b : Bool) (xs : List ℕ) → AllByRecursion (λ v. a < v) xs → Ascends xs → Ascends (cond b (a ∷ xs) xs)
    by true xs all up = (all, up)
    by false xs all up = up

all_shifted : (first low : ℕ) (xs : List ℕ) → AllByRecursion (λ v. low < v) xs → AllByRecursion (λ v. first + low < v) (map (λ i. first + i) xs)
all_shifted first low [] all = tt
all_shifted first low (x ∷ xs) all = (omega (arith, all.0), all_shifted first low xs all.1)

pub shifted_ascend : (first : ℕ) (xs : List ℕ) → Ascends xs → Ascends (map (λ i. first + i) xs)
shifted_ascend first [] up = tt
shifted_ascend first (x ∷ xs) up = (all_shifted first x xs up.0, shifted_ascend first xs up.1)

pub above_first : (u v : ℕ) (us : List ℕ) → AllByRecursion (λ w. u < w) us → Contains us v → u < v
above_first u v [] all c = absurd (omega (arith, c.1))
above_first u v (w ∷ ws) all c = elim (Contains-cases w v ws c) [ inl e ↦ omega (arith, e, all.0) | inr d ↦ above_first u v ws all.1 d ]
