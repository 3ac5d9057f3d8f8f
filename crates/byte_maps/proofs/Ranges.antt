-- What is left of a map in order when only the keys that pass a test are kept.
use Rattle.std.proofs.Common.{◌≡◌, ℕ, Bool, cond, T, List, Option, None, sym, ap, ◌∙◌}
use Rattle.std.specs.Cmp.Lexicographic.{nat_list_cmp_total}
use Rattle.std.specs.FinMap as map
use Rattle.std.specs.FinMap.{is_sorted, get-from_sorted, get-retain_keys, same_map}
use Rattle.std.specs.FinMap.Entries.{where_key, is_sorted-where_key, find-where_key}
use Rattle.byte_maps.specs.ByteMap.{byte_order}
use Rattle.byte_maps.proofs.Places.{same_bytes}

module _ {X : Type 0} (p : List ℕ → Bool) (es : List (List ℕ × X)) (sorted : T (is_sorted byte_order es)) where
  pub sorted_kept : T (is_sorted byte_order (where_key byte_order p es))
  sorted_kept = is_sorted-where_key byte_order p es sorted

  pub view_kept : map.from_sorted {R = byte_order} (where_key byte_order p es) ≡ map.retain_keys (map.from_sorted es) p
  view_kept = same_map nat_list_cmp_total same_bytes _ _ (λ q.
      get-from_sorted byte_order (where_key byte_order p es) q sorted_kept
      ∙ find-where_key byte_order p q (λ x t. ap p (sym (same_bytes q x t))) es
      ∙ ap (λ (o : Option X). cond (p q) o None) (sym (get-from_sorted byte_order es q sorted))
      ∙ sym (get-retain_keys (map.from_sorted es) p q (λ x t. ap p (sym (same_bytes q x t)))))
