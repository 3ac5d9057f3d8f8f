-- The elements of lists, of ranges of numbers and of what passes a test, and their order.
use Rattle.std.proofs.Common.{◌≡◌, inl, inr, ℕ, zero, suc, ◌+◌, ◌<◌, ◌≤◌, Bool, true, false, cond, List, [], ◌∷◌, ◌⊎◌, length, get_or, filter, Contains, refl, sym, ap, subst, ◌∙◌, arith}
use Rattle.std.specs.List.{AllByRecursion, range_with_len}
use Rattle.std.proofs.lemmas.Bool.{cases_lt, both_ways}
use Rattle.unit_fields.specs.Prelude.{Ascends}

-- the list has the element
abbrev pub In : {X : Type 0} → List X → X → Type 0
In [] x = ⊥
In (e ∷ es) x = (e ≡ x) ⊎ In es x

pub in_contains : {X : Type 0} (us : List X) (v : X) → In us v → Contains us v
in_contains [] v h = absurd h
in_contains (u ∷ us) v (inl is) = (0, omega arith, is)
in_contains (u ∷ us) v (inr later) = let c = in_contains us v later in (suc c.0, omega (arith, c.1), c.2)

pub contains_in : {X : Type 0} (us : List X) (v : X) → Contains us v → In us v
contains_in [] v (i, within, is) = absurd (omega (arith, within))
contains_in (u ∷ us) v (zero, within, is) = inl is
contains_in (u ∷ us) v (suc i, within, is) = inr (contains_in us v (i, omega (arith, within), is))

pub in_at : {X : Type 0} (xs : List X) (i : ℕ) (d : X) → i < length xs → In xs (get_or xs i d)
in_at [] i d less = absurd (omega (arith, less))
in_at (x ∷ xs) zero d less = inl refl
in_at (x ∷ xs) (suc i) d less = inr (in_at xs i d (omega (arith, less)))

-- ---- what holds of each

module _ {X : Type 0} (P : X → Type 0) where
  pub all_of : (xs : List X) → ((x : X) → In xs x → P x) → AllByRecursion P xs
  all_of [] each = tt
  all_of (x ∷ xs) each = (each x (inl refl), all_of xs (λ y is. each y (inr is)))

  pub all_at : (xs : List X) (x : X) → AllByRecursion P xs → In xs x → P x
  all_at [] x all is = absurd is
  all_at (y ∷ ys) x all (inl e) = subst P e all.0
  all_at (y ∷ ys) x all (inr later) = all_at ys x all.1 later

-- ---- what passes a test

module _ (test : ℕ → Bool) where
  pub in_filter : (xs : List ℕ) (x : ℕ) → In xs x → test x ≡ true → In (filter test xs) x
  in_filter [] x h is = absurd h
  in_filter (y ∷ ys) x h is = elim (test y) as (λ b. test y ≡ b → In (cond b (y ∷ filter test ys) (filter test ys)) x) [
    | true ↦ λ p. elim h [ inl e ↦ inl e | inr later ↦ inr (in_filter ys x later is) ]
    | false ↦ λ p. elim h [ inl e ↦ absurd (both_ways (test x) (ap test (sym e) ∙ p) is) | inr later ↦ in_filter ys x later is ]
  ] refl

  pub of_filter : (xs : List ℕ) (x : ℕ) → In (filter test xs) x → In xs x × (test x ≡ true)
  of_filter [] x h = absurd h
  of_filter (y ∷ ys) x h =
      elim (test y) as (λ b. test y ≡ b → In (cond b (y ∷ filter test ys) (filter test ys)) x → In (y ∷ ys) x × (test x ≡ true)) [
        | true ↦ λ p h. elim h [ inl e ↦ (inl e, ap test (sym e) ∙ p) | inr later ↦ let r = of_filter ys x later in (inr r.0, r.1) ]
        | false ↦ λ p h. let r = of_filter ys x h in (inr r.0, r.1)
      ] refl h

  pub filter_ascends : (xs : List ℕ) → Ascends xs → Ascends (filter test xs)
  filter_ascends [] h = tt
  filter_ascends (x ∷ xs) h = elim (test x) as (λ b. Ascends (cond b (x ∷ filter test xs) (filter test xs))) [
    | true ↦ (all_of (λ v. x < v) (filter test xs) (λ y is. all_at (λ v. x < v) xs y h.0 (of_filter xs y is).0), filter_ascends xs h.1)
    | false ↦ filter_ascends xs h.1
  ]

-- ---- ranges

pub in_range : (n a x : ℕ) → a ≤ x → x < a + n → In (range_with_len a n) x
in_range zero a x le lt = absurd (omega (arith, le, lt))
in_range (suc n) a x le lt = elim (cases_lt a x) [
  | inl less ↦ inr (in_range n (a + 1) x (omega (arith, less)) (omega (arith, lt)))
  | inr ge ↦ inl (omega (arith, le, ge))
]

pub of_range : (n a x : ℕ) → In (range_with_len a n) x → (a ≤ x) × (x < a + n)
of_range zero a x h = absurd h
of_range (suc n) a x (inl e) = (omega (arith, e), omega (arith, e))
of_range (suc n) a x (inr later) = let r = of_range n (a + 1) x later in (omega (arith, r.0), omega (arith, r.1))

pub range_ascends : (n a : ℕ) → Ascends (range_with_len a n)
range_ascends zero a = tt
range_ascends (suc n) a = (
  all_of (λ v. a < v) (range_with_len (a + 1) n) (λ x is. omega (arith, (of_range n (a + 1) x is).0)),
  range_ascends n (a + 1),
)
