-- Which units of a space are idle after some were taken or given back. Holds are nothing to them.
use Rattle.std.proofs.Common.{◌≡◌, ◌≢◌, ◌↔◌, ◌⊎◌, inl, inr, ℕ, ◌-◌, ◌<◌, ◌==◌, ◌&&◌, Bool, true, false, List, [], ◌∷◌, length, Contains, refl, sym, ap, subst, ◌∙◌, arith}
use Rattle.std.proofs.lemmas.Bool.{cases_eq}
use Rattle.std.proofs.lemmas.List.{get_or-set_same, get_or-set_other}
use Rattle.unit_allocator.specs.Prelude.{Space, IsWithin, is_idle, is_free, holds_of, free_units, taken_one, given_one, taken, given}
use Rattle.unit_allocator.proofs.Lists.{Contains-head, Contains-tail, Contains-cases}
use Rattle.unit_allocator.proofs.FreeUnits.{listed_is_free, range_stays}

-- ---- idle and free

-- a free unit is idle
pub listed_is_idle : (space : Space) (unit : ℕ) → Contains (free_units space) unit → is_idle space unit ≡ true
listed_is_idle space unit c = by (is_idle space unit) (holds_of space unit == 0) (listed_is_free space unit c).free
  where
    by : (idle none : Bool) → (idle && none) ≡ true → idle ≡ true
    by true none is = refl
    by false none is = is

-- and one that isn't idle isn't free
pub busy_is_not_free : (space : Space) (unit : ℕ) → is_idle space unit ≡ false → is_free space unit ≡ false
busy_is_not_free space unit is = ap (λ idle. idle && (holds_of space unit == 0)) is

-- ---- one unit

module _ (space : Space) (u v : ℕ) (at : IsWithin space u) (on : IsWithin space v) where
  place : u - space.first < length space.idle
  place = omega (arith, at.from, at.to)

  apart : v ≢ u → v - space.first ≢ u - space.first
  apart other e = other (omega (arith, at.from, on.from, e))

  one_taken : (is_idle (taken_one space u) v ≡ true) ↔ ((is_idle space v ≡ true) × (v ≢ u))
  one_taken = elim (cases_eq v u) [
    | inl e ↦ (λ is. absurd (differ (sym is ∙ here e)), λ p. absurd (p.1 e))
    | inr other ↦ (λ is. (sym (there other) ∙ is, other), λ p. there other ∙ p.0)
  ]
    where
      here : v ≡ u → is_idle (taken_one space u) v ≡ false
      here e = ap (is_idle (taken_one space u)) e ∙ get_or-set_same space.idle (u - space.first) false false place

      there : v ≢ u → is_idle (taken_one space u) v ≡ is_idle space v
      there other = get_or-set_other space.idle (u - space.first) (v - space.first) false false (apart other)

      differ : true ≡ false → ⊥
      differ e = cc

  one_given : (is_idle (given_one space u) v ≡ true) ↔ ((is_idle space v ≡ true) ⊎ (v ≡ u))
  one_given = elim (cases_eq v u) [
    | inl e ↦ (λ is. inr e, λ p. here e)
    | inr other ↦ (λ is. inl (sym (there other) ∙ is), λ p. elim p [ inl is ↦ there other ∙ is | inr e ↦ absurd (other e) ])
  ]
    where
      here : v ≡ u → is_idle (given_one space u) v ≡ true
      here e = ap (is_idle (given_one space u)) e ∙ get_or-set_same space.idle (u - space.first) true false place

      there : v ≢ u → is_idle (given_one space u) v ≡ is_idle space v
      there other = get_or-set_other space.idle (u - space.first) (v - space.first) true false (apart other)

-- ---- one unit after the other

abbrev pub AreWithin : Space → List ℕ → Type 0
AreWithin space us = (u : ℕ) → Contains us u → IsWithin space u

module _ (v : ℕ) where
  pub idle_taken : (us : List ℕ) (space : Space) → IsWithin space v → AreWithin space us
      → (is_idle (taken space us) v ≡ true) ↔ ((is_idle space v ≡ true) × (Contains us v → ⊥))
  idle_taken [] space on within = (λ is. (is, λ c. omega (arith, c.1)), λ p. p.0)
  idle_taken (u ∷ us) space on within =
      let one : (is_idle (taken_one space u) v ≡ true) ↔ ((is_idle space v ≡ true) × (v ≢ u)) =
      one_taken space u v (within u (Contains-head u us)) on in
      let rest : (is_idle (taken (taken_one space u) us) v ≡ true) ↔ ((is_idle (taken_one space u) v ≡ true) × (Contains us v → ⊥)) =
      idle_taken us (taken_one space u) (range_stays space u v on).0 (λ w c. (range_stays space u w (within w (Contains-tail u w us c))).0) in (
        λ is.
            let d : (is_idle (taken_one space u) v ≡ true) × (Contains us v → ⊥) = rest.0 is in
            let e : (is_idle space v ≡ true) × (v ≢ u) = one.0 d.0 in
            (e.0, λ k. elim (Contains-cases u v us k) [ inl same ↦ e.1 (sym same) | inr more ↦ d.1 more ]),
        λ p. rest.1 (
          one.1 (p.0, λ e. p.1 (subst (λ (x : ℕ). Contains (u ∷ us) x) (sym e) (Contains-head u us))),
          λ c. p.1 (Contains-tail u v us c),
        ),
      )

  pub idle_given : (us : List ℕ) (space : Space) → IsWithin space v → AreWithin space us
      → (is_idle (given space us) v ≡ true) ↔ ((is_idle space v ≡ true) ⊎ Contains us v)
  idle_given [] space on within = (λ is. inl is, λ p. elim p [ inl is ↦ is | inr c ↦ absurd (omega (arith, c.1)) ])
  idle_given (u ∷ us) space on within =
      let one : (is_idle (given_one space u) v ≡ true) ↔ ((is_idle space v ≡ true) ⊎ (v ≡ u)) =
      one_given space u v (within u (Contains-head u us)) on in
      let rest : (is_idle (given (given_one space u) us) v ≡ true) ↔ ((is_idle (given_one space u) v ≡ true) ⊎ Contains us v) =
      idle_given us (given_one space u) (range_stays space u v on).1 (λ w c. (range_stays space u w (within w (Contains-tail u w us c))).1) in (
        λ is. elim (rest.0 is) [
          | inl d ↦ elim (one.0 d) [
            | inl e ↦ inl e
            | inr e ↦ inr (subst (λ (x : ℕ). Contains (u ∷ us) x) (sym e) (Contains-head u us))
          ]
          | inr d ↦ inr (Contains-tail u v us d)
        ],
        λ p. elim p [
          | inl is ↦ rest.1 (inl (one.1 (inl is)))
          | inr k ↦ elim (Contains-cases u v us k) [ inl e ↦ rest.1 (inl (one.1 (inr (sym e)))) | inr d ↦ rest.1 (inr d) ]
        ],
      )
