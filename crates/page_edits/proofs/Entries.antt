-- The entries of maps of numbers.
use Rattle.std.proofs.Common.{◌≡◌, inl, inr, ℕ, ◌<◌, ◌↔◌, Bool, true, false, cond, T, Contains, List, [], ◌∷◌, Some, refl, sym, ap, ◌∙◌, arith}
use Rattle.std.specs.Ordering.{nat_cmp, is_eq}
use Rattle.std.specs.FinMap as finite
use Rattle.std.specs.FinMap.{find, is_sorted, entries, entries_sorted, get-entries}
use Rattle.std.specs.FinMap.Entries.{below_all, where_key}
use Rattle.std.specs.declared.cmp.Ordering.TheVariants.{Less, Equal, Greater}
use Rattle.std.proofs.lemmas.Bool.{both_ways}
use Rattle.number_map.specs.NumberMap.{NumberMap}
use Rattle.number_map.proofs.Places.{both_first, both_second, same_number}
use Rattle.number_map.proofs.Search.{cmp_equal, cmp_greater, less_is}
use Rattle.page_edits.proofs.Lists.{In, in_contains, contains_in}

module _ {X : Type 0} where
  find_behind : (key : ℕ) (p : ℕ × X) (ps : List (ℕ × X)) → p.0 < key → find nat_cmp key (p ∷ ps) ≡ find nat_cmp key ps
  find_behind key p ps lt = ap (λ r. cond (is_eq r) (Some p.1) (find nat_cmp key ps)) (cmp_greater key p.0 lt)

  find_here : (key : ℕ) (p : ℕ × X) (ps : List (ℕ × X)) → key ≡ p.0 → find nat_cmp key (p ∷ ps) ≡ Some p.1
  find_here key p ps is = ap (λ r. cond (is_eq r) (Some p.1) (find nat_cmp key ps)) (cmp_equal key p.0 is)

  below_in : (low : ℕ) (es : List (ℕ × X)) (key : ℕ) (v : X) → T (below_all nat_cmp low es) → In es (key, v) → low < key
  below_in low [] key v h is = absurd is
  below_in low (e ∷ es) key v h (inl is) = omega (arith, less_is low e.0 (both_first _ _ h), ap (λ (p : ℕ × X). p.0) is)
  below_in low (e ∷ es) key v h (inr later) = below_in low es key v (both_second _ _ h) later

  in_found : (es : List (ℕ × X)) (key : ℕ) (v : X) → T (is_sorted nat_cmp es) → In es (key, v) → find nat_cmp key es ≡ Some v
  in_found [] key v sorted is = absurd is
  in_found (e ∷ es) key v sorted (inl is) =
      find_here key e es (sym (ap (λ (p : ℕ × X). p.0) is)) ∙ ap (λ (p : ℕ × X). Some p.1) is
  in_found (e ∷ es) key v sorted (inr later) =
      let above : e.0 < key = below_in e.0 es key v (both_first _ (is_sorted nat_cmp es) sorted) later in
      find_behind key e es above ∙ in_found es key v (both_second (below_all nat_cmp e.0 es) _ sorted) later

  -- the map has what its entries say
  pub entry_found : (m : NumberMap X) (key : ℕ) (v : X) → In (entries m) (key, v) → finite.get m key ≡ Some v
  entry_found m key v is = get-entries m key ∙ in_found (entries m) key v (entries_sorted m) is

  found_in : (es : List (ℕ × X)) (key : ℕ) (v : X) → find nat_cmp key es ≡ Some v → In es (key, v)
  found_in [] key v is = absurd cc
  found_in (e ∷ es) key v is = elim (nat_cmp key e.0) as (λ r. nat_cmp key e.0 ≡ r → cond (is_eq r) (Some e.1) (find nat_cmp key es) ≡ Some v → In (e ∷ es) (key, v)) [
    | Less ↦ λ p is. inr (found_in es key v is)
    | Equal ↦ λ p is.
        let same : e.1 ≡ v = cc in
        inl (ap (λ k. (k, e.1)) (sym (same_number key e.0 p)) ∙ ap (λ w. (key, w)) same)
    | Greater ↦ λ p is. inr (found_in es key v is)
  ] refl is

  pub entry_in : (m : NumberMap X) (key : ℕ) (v : X) → finite.get m key ≡ Some v → In (entries m) (key, v)
  entry_in m key v is = found_in (entries m) key v (sym (get-entries m key) ∙ is)

  -- ---- those whose keys pass a test

  module _ (test : ℕ → Bool) where
    in_where : (es : List (ℕ × X)) (p : ℕ × X) → In es p → test p.0 ≡ true → In (where_key nat_cmp test es) p
    in_where [] p has is = absurd has
    in_where (e ∷ es) p has is = elim (test e.0) as (λ b. test e.0 ≡ b → In (cond b (e ∷ where_key nat_cmp test es) (where_key nat_cmp test es)) p) [
      | true ↦ λ t. elim has [ inl same ↦ inl same | inr later ↦ inr (in_where es p later is) ]
      | false ↦ λ t. elim has [
        | inl same ↦ absurd (both_ways (test p.0) (ap (λ (q : ℕ × X). test q.0) (sym same) ∙ t) is)
        | inr later ↦ in_where es p later is
      ]
    ] refl

    of_where : (es : List (ℕ × X)) (p : ℕ × X) → In (where_key nat_cmp test es) p → In es p × (test p.0 ≡ true)
    of_where [] p has = absurd has
    of_where (e ∷ es) p has = elim (test e.0) as (λ b. test e.0 ≡ b → In (cond b (e ∷ where_key nat_cmp test es) (where_key nat_cmp test es)) p
        → In (e ∷ es) p × (test p.0 ≡ true)) [
          | true ↦ λ t has. elim has [
            | inl same ↦ (inl same, ap (λ (q : ℕ × X). test q.0) (sym same) ∙ t)
            | inr later ↦ let r = of_where es p later in (inr r.0, r.1)
          ]
          | false ↦ λ t has. let r = of_where es p has in (inr r.0, r.1)
        ] refl has

    pub where_are : (m : NumberMap X) (key : ℕ) (v : X)
        → Contains (where_key nat_cmp test (entries m)) (key, v) ↔ ((finite.get m key ≡ Some v) × (test key ≡ true))
    where_are m key v = (
      λ has. let r = of_where (entries m) (key, v) (contains_in (where_key nat_cmp test (entries m)) (key, v) has) in (entry_found m key v r.0, r.1),
      λ both. in_contains (where_key nat_cmp test (entries m)) (key, v) (in_where (entries m) (key, v) (entry_in m key v both.0) both.1),
    )
