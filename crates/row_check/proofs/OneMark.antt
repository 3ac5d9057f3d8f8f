-- The marks tell which units have an owner and which have two, by what owns what. One page more is one owner more.
use Rattle.std.proofs.Common.{◌≡◌, ◌≢◌, ◌⊎◌, ◌↔◌, inl, inr, ℕ, ◌<◌, Bool, true, false, ◌||◌, length, get_or, set, refl, sym, subst, ◌∙◌, get_or-set_same, get_or-set_other}
use Rattle.std.proofs.lemmas.Bool.{cases_eq}
use Rattle.store_image.specs.Prelude.{Owner}
use Rattle.row_check.specs.Marks.{Marks, one_page_more}

-- two owners of the unit
pub record Two (P : Owner → ℕ → Type 0) (unit : ℕ) : Type 0 where
  pub a : Owner
  pub b : Owner
  pub apart : a ≢ b
  pub first : P a unit
  pub second : P b unit

-- the first marks are at the units with an owner, and the second ones at those with two
pub record Tells (P : Owner → ℕ → Type 0) (m : Marks) : Type 0 where
  pub owned : (unit : ℕ) → (get_or m.owned unit false ≡ true) ↔ ((a : Owner) × P a unit)
  pub shared : (unit : ℕ) → (get_or m.shared unit false ≡ true) ↔ Two P unit

-- there are marks for so many units
pub record HasUnits (units : ℕ) (m : Marks) : Type 0 where
  pub owned : length m.owned ≡ units
  pub shared : length m.shared ≡ units

two_more : (P Q : Owner → ℕ → Type 0) → ((a : Owner) (v : ℕ) → P a v → Q a v) → (v : ℕ) → Two P v → Two Q v
two_more P Q more v t = record { a = t.a; b = t.b; apart = t.apart; first = more t.a v t.first; second = more t.b v t.second }

-- the same owners in other words
pub tells_same : (P Q : Owner → ℕ → Type 0) (m : Marks) → ((a : Owner) (v : ℕ) → P a v ↔ Q a v) → Tells P m → Tells Q m
tells_same P Q m same old = record {
  owned = λ v. (
    λ is. let p = (old.owned v).0 is in (p.0, (same p.0 v).0 p.1),
    λ q. (old.owned v).1 (q.0, (same q.0 v).1 q.1),
  );
  shared = λ v. (
    λ is. two_more P Q (λ a u. (same a u).0) v ((old.shared v).0 is),
    λ t. (old.shared v).1 (two_more Q P (λ a u. (same a u).1) v t),
  );
}

or_cases : (a b : Bool) → (a || b) ≡ true → (a ≡ true) ⊎ (b ≡ true)
or_cases true b is = inl refl
or_cases false b is = inr is

or_left : (a b : Bool) → a ≡ true → (a || b) ≡ true
or_left true b is = refl
or_left false b is = absurd cc

or_right : (a b : Bool) → b ≡ true → (a || b) ≡ true
or_right true b is = refl
or_right false b is = is

module _ (P : Owner → ℕ → Type 0) (m : Marks) (x : Owner) (u : ℕ) (old : Tells P m) (in_owned : u < length m.owned) (in_shared : u < length m.shared)
    (no_owner : (v : ℕ) → P x v → ⊥) where
  abbrev Q : Owner → ℕ → Type 0
  Q a v = P a v ⊎ ((a ≡ x) × (v ≡ u))

  abbrev either : Bool
  either = get_or m.owned u false || get_or m.shared u false

  owned_to : (v : ℕ) → get_or (set m.owned u true) v false ≡ true → (a : Owner) × Q a v
  owned_to v is = elim (cases_eq v u) [
    | inl e ↦ (x, inr (refl, e))
    | inr ne ↦ let p = (old.owned v).0 (sym (get_or-set_other m.owned u v true false ne) ∙ is) in (p.0, inl p.1)
  ]

  owned_from : (v : ℕ) → ((a : Owner) × Q a v) → get_or (set m.owned u true) v false ≡ true
  owned_from v q = elim (cases_eq v u) [
    | inl e ↦ subst (λ n. get_or (set m.owned u true) n false ≡ true) (sym e) (get_or-set_same m.owned u true false in_owned)
    | inr ne ↦ get_or-set_other m.owned u v true false ne ∙ elim q.1 [
      | inl p ↦ (old.owned v).1 (q.0, p)
      | inr e ↦ absurd (ne e.1)
    ]
  ]

  at_unit : either ≡ true → Two Q u
  at_unit is = elim (or_cases (get_or m.owned u false) (get_or m.shared u false) is) [
    | inl o ↦
        let p = (old.owned u).0 o in
        record { a = p.0; b = x; apart = λ e. no_owner u (subst (λ y. P y u) e p.1); first = inl p.1; second = inr (refl, refl) }
    | inr s ↦ two_more P Q (λ a v p. inl p) u ((old.shared u).0 s)
  ]

  shared_to : (v : ℕ) → get_or (set m.shared u either) v false ≡ true → Two Q v
  shared_to v is = elim (cases_eq v u) [
    | inl e ↦ subst (Two Q) (sym e)
        (at_unit (sym (get_or-set_same m.shared u either false in_shared) ∙ subst (λ n. get_or (set m.shared u either) n false ≡ true) e is))
    | inr ne ↦ two_more P Q (λ a w p. inl p) v ((old.shared v).0 (sym (get_or-set_other m.shared u v either false ne) ∙ is))
  ]

  is_either : Two Q u → either ≡ true
  is_either t = elim t.first [
    | inl p ↦ elim t.second [
      | inl q ↦ or_right (get_or m.owned u false) (get_or m.shared u false)
          ((old.shared u).1 (record { a = t.a; b = t.b; apart = t.apart; first = p; second = q }))
      | inr e ↦ or_left (get_or m.owned u false) (get_or m.shared u false) ((old.owned u).1 (t.a, p))
    ]
    | inr e ↦ elim t.second [
      | inl q ↦ or_left (get_or m.owned u false) (get_or m.shared u false) ((old.owned u).1 (t.b, q))
      | inr f ↦ absurd (t.apart (e.0 ∙ sym f.0))
    ]
  ]

  -- at another unit nothing changes
  before : (v : ℕ) (a : Owner) → v ≢ u → Q a v → P a v
  before v a ne q = elim q [ inl p ↦ p | inr e ↦ absurd (ne e.1) ]

  shared_from : (v : ℕ) → Two Q v → get_or (set m.shared u either) v false ≡ true
  shared_from v t = elim (cases_eq v u) [
    | inl e ↦ subst (λ n. get_or (set m.shared u either) n false ≡ true) (sym e)
        (get_or-set_same m.shared u either false in_shared ∙ is_either (subst (Two Q) e t))
    | inr ne ↦ get_or-set_other m.shared u v either false ne
        ∙ (old.shared v).1 (record { a = t.a; b = t.b; apart = t.apart; first = before v t.a ne t.first; second = before v t.b ne t.second })
  ]

  pub one_more_tells : Tells Q (one_page_more m u)
  one_more_tells = record { owned = λ v. (owned_to v, owned_from v); shared = λ v. (shared_to v, shared_from v) }
