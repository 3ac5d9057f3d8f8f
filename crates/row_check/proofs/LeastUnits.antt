-- The least units of sets.
use Rattle.std.proofs.Common.{◌≡◌, ◌⊎◌, inl, inr, ℕ, zero, suc, ◌<◌, min, true, false, ◌||◌, List, [], ◌∷◌, length, get_or, slice_index, Option, Some, None, refl, sym, ap, subst, ◌∙◌, arith}
use Rattle.std.specs.List.{list_any, AllByRecursion}
use Rattle.std.specs.Ordering.{nat_cmp, eq_by_cmp}
use Rattle.std.specs.Cmp.{nat_cmp_total}
use Rattle.std.specs.FinSet as set
use Rattle.std.specs.FinSet.{contains-from_list}
use Rattle.std.proofs.lemmas.Bool.{cases_lt, cases_eq}
use Rattle.unit_fields.specs.Prelude.{Ascends}
use Rattle.unit_fields.proofs.Ascending.{contains_at}
use Rattle.bitmap_freelist.specs.Bitmap.{Units, Has}
use Rattle.row_check.specs.Least.{IsLeastUnit, IsLeastOf, IsOnlyIn, lesser_of}
use Rattle.row_check.proofs.Collected.{unlike}

-- none of a set is outside the same set
pub none_of_same : (units others : Units) → units ≡ others → (u : ℕ) → ¬ (IsOnlyIn units others u)
none_of_same units others same u is = is.1 (subst (λ (s : Units). Has s u) same is.0)

-- what holds of all holds of each that is among them
among : (P : ℕ → Type 0) (us : List ℕ) (u : ℕ) → AllByRecursion P us → list_any (eq_by_cmp nat_cmp u) us ≡ true → P u
among P [] u all is = absurd cc
among P (x ∷ us) u all is = elim (cases_eq u x) [
  | inl e ↦ subst P (sym e) all.0
  | inr ne ↦ among P us u all.1 (sym (ap (λ b. b || list_any (eq_by_cmp nat_cmp u) us) (unlike u x ne)) ∙ is)
]

nothing : (us : List ℕ) (u : ℕ) → length us ≡ 0 → list_any (eq_by_cmp nat_cmp u) us ≡ true → ⊥
nothing [] u empty is = cc
nothing (x ∷ us) u empty is = omega (arith, empty)

-- what holds of each before a place holds of each that is less than what stands there
less_before : (P : ℕ → Type 0) (us : List ℕ) (at u : ℕ) → Ascends us → at < length us → ((k : ℕ) → k < at → P (get_or us k 0))
    → u < get_or us at 0 → list_any (eq_by_cmp nat_cmp u) us ≡ true → P u
less_before P [] at u up within before less is = absurd cc
less_before P (x ∷ us) zero u up within before less is = elim (cases_eq u x) [
  | inl e ↦ absurd (omega (arith, e, less))
  | inr ne ↦ absurd (omega (
    arith,
    less,
    among (λ v. x < v) us u up.0 (sym (ap (λ b. b || list_any (eq_by_cmp nat_cmp u) us) (unlike u x ne)) ∙ is),
  ))
]
less_before P (x ∷ us) (suc at) u up within before less is = elim (cases_eq u x) [
  | inl e ↦ subst P (sym e) (before 0 (omega arith))
  | inr ne ↦ less_before P us at u up.1 (omega (arith, within)) (λ k lt. before (suc k) (omega (arith, lt))) less
      (sym (ap (λ b. b || list_any (eq_by_cmp nat_cmp u) us) (unlike u x ne)) ∙ is)
]

listed : (us : List ℕ) (units : Units) (u : ℕ) → set.from_list us ≡ units → Has units u → list_any (eq_by_cmp nat_cmp u) us ≡ true
listed us units u are has = sym (contains-from_list nat_cmp_total us u) ∙ ap (λ (x : Units). set.contains x u) are ∙ has

has_at : (us : List ℕ) (units : Units) (at : ℕ) → set.from_list us ≡ units → at < length us → Has units (get_or us at 0)
has_at us units at are within = sym (ap (λ (x : Units). set.contains x (get_or us at 0)) are)
    ∙ contains_at us (get_or us at 0) at (record { within = within; same = refl })

module _ (us : List ℕ) (units : Units) (are : set.from_list us ≡ units) where
  pub none_there : length us ≡ 0 → (u : ℕ) → ¬ (Has units u)
  none_there empty u has = nothing us u empty (listed us units u are has)

  pub none_outside : (others : Units) → AllByRecursion (λ u. set.contains others u ≡ true) us → (u : ℕ) → ¬ (IsOnlyIn units others u)
  none_outside others all u is = is.1 (among (λ v. set.contains others v ≡ true) us u all (listed us units u are is.0))

  pub least_at : (others : Units) (at : ℕ) → Ascends us → at < length us → set.contains others (slice_index us at) ≡ false
      → ((k : ℕ) → k < at → set.contains others (slice_index us k) ≡ true) → IsLeastUnit (IsOnlyIn units others) (slice_index us at)
  least_at others at up within out before = record {
    holds = (has_at us units at are within, λ has. cc);
    least = λ other less outside.
        outside.1 (less_before (λ v. set.contains others v ≡ true) us at other up within before less (listed us units other are outside.0));
  }

  pub least_first : Ascends us → 0 < length us → IsLeastUnit (Has units) (slice_index us 0)
  least_first up some = record {
    holds = has_at us units 0 are some;
    least = λ other less has. less_before (λ v. ⊥) us 0 other up some (λ k lt. absurd (omega (arith, lt))) less (listed us units other are has);
  }

-- ---- the lesser of two

lesser_least : (P Q : ℕ → Type 0) (n m : ℕ) → IsLeastUnit P n → IsLeastUnit Q m → IsLeastUnit (λ u. P u ⊎ Q u) (min n m)
lesser_least P Q n m p q = elim (cases_lt n m) [
  | inl lt ↦
      let is : min n m ≡ n = omega (arith, lt) in
      subst (IsLeastUnit (λ u. P u ⊎ Q u)) (sym is) (record {
        holds = inl p.holds;
        least = λ other less. λ x. elim x [ inl a ↦ p.least other less a | inr b ↦ q.least other (omega (arith, less, lt)) b ];
      })
  | inr ge ↦
      let is : min n m ≡ m = omega (arith, ge) in
      subst (IsLeastUnit (λ u. P u ⊎ Q u)) (sym is) (record {
        holds = inr q.holds;
        least = λ other less. λ x. elim x [ inl a ↦ p.least other (omega (arith, less, ge)) a | inr b ↦ q.least other less b ];
      })
]

pub least_of_two : (P Q : ℕ → Type 0) (one other : Option ℕ) → IsLeastOf P one → IsLeastOf Q other
    → IsLeastOf (λ u. P u ⊎ Q u) (lesser_of one other)
least_of_two P Q (Some n) (Some m) p q = lesser_least P Q n m p q
least_of_two P Q (Some n) None p q =
    record { holds = inl p.holds; least = λ u less x. elim x [ inl a ↦ p.least u less a | inr b ↦ q u b ] }
least_of_two P Q None (Some m) p q =
    record { holds = inr q.holds; least = λ u less x. elim x [ inl a ↦ p u a | inr b ↦ q.least u less b ] }
least_of_two P Q None None p q = λ u x. elim x [ inl a ↦ p u a | inr b ↦ q u b ]
