-- What a map of numbers has under a key, after an insertion.
use Rattle.std.proofs.Common.{◌≡◌, ◌≢◌, ℕ, cond, Some, refl, ap, ◌∙◌}
use Rattle.std.specs.Ordering.{eq_by_cmp, is_eq}
use Rattle.std.specs.declared.cmp.Ordering.TheVariants.{Less, Equal, Greater}
use Rattle.std.specs.Cmp.{nat_cmp_total, tied_itself}
use Rattle.std.specs.FinMap.{get, insert, get-insert, same_map}
use Rattle.number_map.specs.NumberMap.{NumberMap}
use Rattle.std.specs.Ordering.{nat_cmp}
use Rattle.number_map.proofs.Places.{same_number}

module _ {X : Type 0} where
  -- maps that answer alike are one
  pub same : (m n : NumberMap X) → ((q : ℕ) → get m q ≡ get n q) → m ≡ n
  same m n is = same_map nat_cmp_total same_number m n is

  pub after_insert : (m : NumberMap X) (k : ℕ) (v : X) (q : ℕ) → get (insert m k v) q ≡ cond (eq_by_cmp nat_cmp q k) (Some v) (get m q)
  after_insert m k v q = get-insert nat_cmp_total m k v q

  -- what is under a key that was put, and under the others
  pub get_same : (m : NumberMap X) (k : ℕ) (v : X) → get (insert m k v) k ≡ Some v
  get_same m k v = after_insert m k v k ∙ ap (λ r. cond (is_eq r) (Some v) (get m k)) (tied_itself nat_cmp_total k)

  pub get_other : (m : NumberMap X) (k : ℕ) (v : X) (q : ℕ) → q ≢ k → get (insert m k v) q ≡ get m q
  get_other m k v q apart = after_insert m k v q ∙ elim (nat_cmp q k) as (λ r. nat_cmp q k ≡ r → cond (is_eq r) (Some v) (get m q) ≡ get m q) [
    | Less ↦ λ p. refl
    | Equal ↦ λ p. absurd (apart (same_number q k p))
    | Greater ↦ λ p. refl
  ] refl
