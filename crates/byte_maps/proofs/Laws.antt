-- What changes of a map under byte strings come to, one after the other.
use Rattle.std.proofs.Common.{◌≡◌, ℕ, Bool, true, false, cond, not, List, Option, Some, None, refl, sym, ap, ◌∙◌}
use Rattle.std.specs.Ordering.{eq_by_cmp, is_eq}
use Rattle.std.specs.declared.cmp.Ordering.TheVariants.{Less, Equal, Greater}
use Rattle.std.specs.Cmp.Lexicographic.{nat_list_cmp_total}
use Rattle.std.specs.FinMap.{get, insert, remove, get-insert, get-remove, get_tied, get-retain_keys, retain_keys, same_map}
use Rattle.byte_maps.specs.ByteMap.{byte_order, in_range, ByteMap}
use Rattle.byte_maps.proofs.Places.{same_bytes}

module _ {X : Type 0} where
  -- maps that answer alike are one
  pub same : (m n : ByteMap X) → ((q : List ℕ) → get m q ≡ get n q) → m ≡ n
  same m n is = same_map nat_list_cmp_total same_bytes m n is

  pub after_insert : (m : ByteMap X) (k : List ℕ) (v : X) (q : List ℕ) → get (insert m k v) q ≡ cond (eq_by_cmp byte_order q k) (Some v) (get m q)
  after_insert m k v q = get-insert nat_list_cmp_total m k v q

  pub after_remove : (m : ByteMap X) (k q : List ℕ) → get (remove m k) q ≡ cond (eq_by_cmp byte_order q k) None (get m q)
  after_remove m k q = get-remove nat_list_cmp_total m k q

  -- a key of the range is gone, and each other is as it was
  pub after_remove_range : (m : ByteMap X) (first last q : List ℕ) → get (retain_keys m (λ k. not (in_range first last k))) q ≡ cond (in_range first last q) None (get m q)
  after_remove_range m first last q =
      get-retain_keys m (λ k. not (in_range first last k)) q (λ x tied. ap (λ k. not (in_range first last k)) (sym (same_bytes q x tied))) ∙ other_way (in_range first last q) (get m q) None
    where
      other_way : (b : Bool) (x y : Option X) → cond (not b) x y ≡ cond b y x
      other_way true x y = refl
      other_way false x y = refl

  once : (b : Bool) (x y z : Option X) → cond b x (cond b y z) ≡ cond b x z
  once true x y z = refl
  once false x y z = refl

  pub insert-insert : (m : ByteMap X) (k : List ℕ) (v w : X) → insert (insert m k v) k w ≡ insert m k w
  insert-insert m k v w = same _ _ (λ q. after_insert (insert m k v) k w q ∙ ap (cond (eq_by_cmp byte_order q k) (Some w)) (after_insert m k v q) ∙ once (eq_by_cmp byte_order q k) (Some w) (Some v) (get m q) ∙ sym (after_insert m k w q))

  pub insert-remove : (m : ByteMap X) (k : List ℕ) (w : X) → insert (remove m k) k w ≡ insert m k w
  insert-remove m k w = same _ _ (λ q. after_insert (remove m k) k w q ∙ ap (cond (eq_by_cmp byte_order q k) (Some w)) (after_remove m k q) ∙ once (eq_by_cmp byte_order q k) (Some w) None (get m q) ∙ sym (after_insert m k w q))

  pub remove-insert : (m : ByteMap X) (k : List ℕ) (v : X) → remove (insert m k v) k ≡ remove m k
  remove-insert m k v = same _ _ (λ q. after_remove (insert m k v) k q ∙ ap (cond (eq_by_cmp byte_order q k) None) (after_insert m k v q) ∙ once (eq_by_cmp byte_order q k) None (Some v) (get m q) ∙ sym (after_remove m k q))

  known : (m : ByteMap X) (k : List ℕ) (o : Option X) (q : List ℕ) → get m k ≡ o → cond (eq_by_cmp byte_order q k) o (get m q) ≡ get m q
  known m k o q is =
      elim (byte_order q k) as (λ r. byte_order q k ≡ r → cond (is_eq r) o (get m q) ≡ get m q) [
        | Less ↦ λ p. refl
        | Equal ↦ λ p. sym is ∙ get_tied nat_list_cmp_total m q k p
        | Greater ↦ λ p. refl
      ] refl

  -- what stands there already
  pub insert_same : (m : ByteMap X) (k : List ℕ) (v : X) → get m k ≡ Some v → insert m k v ≡ m
  insert_same m k v is = same _ _ (λ q. after_insert m k v q ∙ known m k (Some v) q is)

  pub remove_absent : (m : ByteMap X) (k : List ℕ) → get m k ≡ None → remove m k ≡ m
  remove_absent m k is = same _ _ (λ q. after_remove m k q ∙ known m k None q is)
