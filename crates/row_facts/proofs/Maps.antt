-- What a map of byte strings has under a key, after an insertion.
use Rattle.std.proofs.Common.{◌≡◌, ◌≢◌, inl, inr, ℕ, cond, true, List, Some, is_some, refl, sym, ap, ◌∙◌}
use Rattle.std.specs.Ordering.{is_eq}
use Rattle.std.specs.declared.cmp.Ordering.TheVariants.{Less, Equal, Greater}
use Rattle.std.specs.Cmp.{tied_itself}
use Rattle.std.specs.Cmp.Lexicographic.{nat_list_cmp_total}
use Rattle.std.specs.FinMap as map
use Rattle.byte_maps.specs.ByteMap.{byte_order, ByteMap}
use Rattle.byte_maps.proofs.Prelude.{after_insert, same_bytes}
use Rattle.store_image.proofs.Prelude.{equal_or_not}

module _ {X : Type 0} (m : ByteMap X) (k : List ℕ) (v : X) where
  pub get_same : map.get (map.insert m k v) k ≡ Some v
  get_same = after_insert m k v k ∙ ap (λ r. cond (is_eq r) (Some v) (map.get m k)) (tied_itself nat_list_cmp_total k)

  pub get_other : (q : List ℕ) → q ≢ k → map.get (map.insert m k v) q ≡ map.get m q
  get_other q apart = after_insert m k v q ∙ elim (byte_order q k) as (λ r. byte_order q k ≡ r → cond (is_eq r) (Some v) (map.get m q) ≡ map.get m q) [
    | Less ↦ λ p. refl
    | Equal ↦ λ p. absurd (apart (same_bytes q k p))
    | Greater ↦ λ p. refl
  ] refl

  -- what is there is still there, or replaced
  pub some_after : (q : List ℕ) → is_some (map.get m q) ≡ true → is_some (map.get (map.insert m k v) q) ≡ true
  some_after q there = elim (equal_or_not q k) [
    | inl e ↦ ap (λ x. is_some (map.get (map.insert m k v) x)) e ∙ ap is_some get_same
    | inr apart ↦ ap is_some (get_other q apart) ∙ there
  ]

  -- where the key was there, the same keys are there
  pub keys_after : is_some (map.get m k) ≡ true → (q : List ℕ) → is_some (map.get (map.insert m k v) q) ≡ is_some (map.get m q)
  keys_after there q = elim (equal_or_not q k) [
    | inl e ↦ ap (λ x. is_some (map.get (map.insert m k v) x)) e ∙ ap is_some get_same ∙ sym there ∙ ap (λ x. is_some (map.get m x)) (sym e)
    | inr apart ↦ ap is_some (get_other q apart)
  ]
