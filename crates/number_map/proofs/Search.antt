-- Entries in order, searched by halves, and cut in three.
use Rattle.std.proofs.Common.{◌≡◌, ℕ, zero, suc, ◌+◌, ◌-◌, ◌<◌, ◌≤◌, Bool, true, false, cond, T, not, List, [], ◌∷◌, ◌++◌, length, get_or, take, drop, Option, None, Ok, Err, refl, sym, ap, subst, ◌∙◌, arith, inl, inr}
use Rattle.std.specs.List.{filter}
use Rattle.std.specs.Ordering.{nat_cmp, is_lt}
use Rattle.std.specs.declared.cmp.Ordering.TheVariants.{Less, Equal, Greater}
use Rattle.std.specs.FinMap as map
use Rattle.std.specs.FinMap.{FinMap, is_sorted, get-from_sorted, nat_cmp-IsAntisymmetric}
use Rattle.std.specs.Cmp.{nat_cmp_total}
use Rattle.std.specs.FinMap.Entries.{where_key, below_all, is_sorted-where_key, find-where_key}
use Rattle.std.proofs.lemmas.Bool.Decides.{nat_tests}
use Rattle.std.proofs.lemmas.Bool.{cases_lt}
use Rattle.std.proofs.lemmas.List.{get_or_default, take-append-drop, drop-drop, length-take, length-drop, get_or-take, get_or-drop, append-nil}
use Rattle.std.proofs.lemmas.List.Elements.{filter-append}
use Rattle.number_map.specs.NumberMap.{place_by, place_from, is_key_in, IsFront, IsBack}
use Rattle.number_map.proofs.Places.{both_first, both_second}

pub cmp_less : (a b : ℕ) → a < b → nat_cmp a b ≡ Less
cmp_less a b lt = grind (arith, nat_tests)

pub cmp_equal : (a b : ℕ) → a ≡ b → nat_cmp a b ≡ Equal
cmp_equal a b e = grind (arith, nat_tests)

pub cmp_greater : (a b : ℕ) → b < a → nat_cmp a b ≡ Greater
cmp_greater a b lt = grind (arith, nat_tests)

pub less_is : (a b : ℕ) → T (is_lt (nat_cmp a b)) → a < b
less_is a b h = grind (arith, nat_tests)

inside_is : (from end key : ℕ) → from ≤ key → key < end → is_key_in from end key ≡ true
inside_is from end key le lt = grind (arith, nat_tests)

low_is : (from end key : ℕ) → key < from → is_key_in from end key ≡ false
low_is from end key lt = grind (arith, nat_tests)

high_is : (from end key : ℕ) → end ≤ key → is_key_in from end key ≡ false
high_is from end key le = grind (arith, nat_tests)

module _ {X : Type 0} where
  after_first : (x : ℕ) (es : List (ℕ × X)) → T (below_all nat_cmp x es) → (k : ℕ) (d : ℕ × X) → k < length es → x < (get_or es k d).0
  after_first x [] h k d lt = absurd (omega arith)
  after_first x (e ∷ es) h zero d lt = less_is x e.0 (both_first _ _ h)
  after_first x (e ∷ es) h (suc k) d lt = after_first x es (both_second _ _ h) k d (omega arith)

  pub rising : (es : List (ℕ × X)) → T (is_sorted nat_cmp es) → (i j : ℕ) (d : ℕ × X) → i < j → j < length es → (get_or es i d).0 < (get_or es j d).0
  rising [] h i j d lt within = absurd (omega arith)
  rising (e ∷ es) h zero zero d lt within = absurd (omega arith)
  rising (e ∷ es) h zero (suc j) d lt within = after_first e.0 es (both_first _ _ h) j d (omega arith)
  rising (e ∷ es) h (suc i) zero d lt within = absurd (omega arith)
  rising (e ∷ es) h (suc i) (suc j) d lt within = rising es (both_second _ _ h) i j d (omega arith) (omega arith)

  pub there_at : (key : ℕ) (es : List (ℕ × X)) (i at : ℕ) (d : ℕ × X) → IsFront key at es → at < length es → (get_or es at d).0 ≡ key → Ok (i + at) ≡ place_from key i es
  there_at key [] i at d front within is = absurd (omega arith)
  there_at key (e ∷ es) i zero d front within is = let n : i + 0 ≡ i = omega arith in ap Ok n ∙ sym (ap (λ r. place_by r i (place_from key (i + 1) es)) (cmp_equal key e.0 (sym is)))
  there_at key (e ∷ es) i (suc at) d front within is =
      let n : i + suc at ≡ (i + 1) + at = omega arith in
      ap Ok n ∙ there_at key es (i + 1) at d (λ k c lt. front (suc k) c (omega arith)) (omega arith) is
      ∙ sym (ap (λ r. place_by r i (place_from key (i + 1) es)) (cmp_greater key e.0 (front zero d (omega arith))))

  pub not_at : (key : ℕ) (es : List (ℕ × X)) (i at : ℕ) → IsFront key at es → at ≤ length es → ((d : ℕ × X) → at < length es → key < (get_or es at d).0) → Err (i + at) ≡ place_from key i es
  not_at key [] i at front within is = let n : i + at ≡ i = omega arith in ap Err n
  not_at key (e ∷ es) i zero front within is = let n : i + 0 ≡ i = omega arith in ap Err n ∙ sym (ap (λ r. place_by r i (place_from key (i + 1) es)) (cmp_less key e.0 (is e (omega arith))))
  not_at key (e ∷ es) i (suc at) front within is =
      let n : i + suc at ≡ (i + 1) + at = omega arith in
      ap Err n ∙ not_at key es (i + 1) at (λ k c lt. front (suc k) c (omega arith)) (omega arith) (λ d lt. is d (omega arith))
      ∙ sym (ap (λ r. place_by r i (place_from key (i + 1) es)) (cmp_greater key e.0 (front zero e (omega arith))))

  at_any : (es : List (ℕ × X)) (i : ℕ) (d c : ℕ × X) → i < length es → (get_or es i d).0 ≡ (get_or es i c).0
  at_any es i d c within = ap (λ e. e.0) (get_or_default es i d c within)

  pub front_more : (key : ℕ) (es : List (ℕ × X)) (mid : ℕ) (c : ℕ × X) → T (is_sorted nat_cmp es) → mid < length es → (get_or es mid c).0 < key → IsFront key (mid + 1) es
  front_more key es mid c h within lt k d below = elim (cases_lt k mid) [
    | inl less ↦ omega (arith, rising es h k mid c less within, lt, at_any es k d c (omega (arith, less, within)))
    | inr le ↦ let e : k ≡ mid = omega (arith, le, below) in omega (arith, lt, at_any es k d c (omega (arith, e, within)), ap (λ n. (get_or es n c).0) e)
  ]

  pub back_more : (key : ℕ) (es : List (ℕ × X)) (mid : ℕ) (c : ℕ × X) → T (is_sorted nat_cmp es) → mid < length es → key ≤ (get_or es mid c).0 → IsBack key mid es
  back_more key es mid c h within le k d from inside = elim (cases_lt mid k) [
    | inl less ↦ omega (arith, rising es h mid k c less inside, le, at_any es k d c inside)
    | inr le_mid ↦ let e : k ≡ mid = omega (arith, le_mid, from) in omega (arith, le, at_any es k d c inside, ap (λ n. (get_or es n c).0) e)
  ]

  pub in_order : (from end : ℕ) (es : List (ℕ × X)) (at to : ℕ) → from ≤ end → IsFront from at es → IsBack end to es → at ≤ length es → at ≤ to
  in_order from end [] at to le front back within = omega (arith, within)
  in_order from end (e ∷ es) at to le front back within = elim (cases_lt to at) [
    | inl less ↦ absurd (omega (arith, front to e less, back to e (omega arith) (omega (arith, less, within)), le))
    | inr ok ↦ ok
  ]

  keep_all : (p : ℕ × X → Bool) (es : List (ℕ × X)) → ((k : ℕ) (d : ℕ × X) → k < length es → p (get_or es k d) ≡ true) → filter p es ≡ es
  keep_all p [] all = refl
  keep_all p (e ∷ es) all = ap (λ b. cond b (e ∷ filter p es) (filter p es)) (all zero e (omega arith)) ∙ ap (λ (xs : List (ℕ × X)). e ∷ xs) (keep_all p es (λ k d lt. all (suc k) d (omega arith)))

  keep_none : (p : ℕ × X → Bool) (es : List (ℕ × X)) → ((k : ℕ) (d : ℕ × X) → k < length es → p (get_or es k d) ≡ false) → filter p es ≡ []
  keep_none p [] none = refl
  keep_none p (e ∷ es) none = ap (λ b. cond b (e ∷ filter p es) (filter p es)) (none zero e (omega arith)) ∙ keep_none p es (λ k d lt. none (suc k) d (omega arith))

  module _ (from end : ℕ) (es : List (ℕ × X)) (at to : ℕ) (order : at ≤ to) (within : to ≤ length es)
      (front_at : IsFront from at es) (back_at : IsBack from at es) (front_to : IsFront end to es) (back_to : IsBack end to es) where
    three : es ≡ take at es ++ (take (to - at) (drop at es) ++ drop to es)
    three =
        let rest : at + (to - at) ≡ to = omega (arith, order) in
        sym (take-append-drop at es)
        ∙ ap (λ (xs : List (ℕ × X)). take at es ++ xs) (sym (take-append-drop (to - at) (drop at es)) ∙ ap (λ (xs : List (ℕ × X)). take (to - at) (drop at es) ++ xs) (drop-drop (to - at) at es ∙ ap (λ n. drop n es) rest))

    split : (p : ℕ × X → Bool) → filter p es ≡ filter p (take at es) ++ (filter p (take (to - at) (drop at es)) ++ filter p (drop to es))
    split p = ap (filter p) three ∙ filter-append p (take at es) (take (to - at) (drop at es) ++ drop to es) ∙ ap (λ (xs : List (ℕ × X)). filter p (take at es) ++ xs) (filter-append p (take (to - at) (drop at es)) (drop to es))

    low_part : (k : ℕ) (d : ℕ × X) → k < length (take at es) → (get_or (take at es) k d).0 < from
    low_part k d lt =
        let n : length (take at es) ≤ at = omega (arith, length-take at es) in
        let k_at : k < at = omega (arith, lt, n) in
        subst (λ (e : ℕ × X). e.0 < from) (sym (get_or-take at es k d k_at)) (front_at k d k_at)

    middle_k : (k : ℕ) (d : ℕ × X) → k < length (take (to - at) (drop at es)) → (from ≤ (get_or (take (to - at) (drop at es)) k d).0) × ((get_or (take (to - at) (drop at es)) k d).0 < end)
    middle_k k d lt =
        let n : length (take (to - at) (drop at es)) ≤ to - at = omega (arith, length-take (to - at) (drop at es)) in
        let k_lt : k < to - at = omega (arith, lt, n) in
        let is : get_or (take (to - at) (drop at es)) k d ≡ get_or es (at + k) d = get_or-take (to - at) (drop at es) k d k_lt ∙ get_or-drop at es k d in
        subst (λ (e : ℕ × X). (from ≤ e.0) × (e.0 < end)) (sym is) (back_at (at + k) d (omega arith) (omega (arith, k_lt, within)), front_to (at + k) d (omega (arith, k_lt)))

    high_part : (k : ℕ) (d : ℕ × X) → k < length (drop to es) → end ≤ (get_or (drop to es) k d).0
    high_part k d lt = subst (λ (e : ℕ × X). end ≤ e.0) (sym (get_or-drop to es k d)) (back_to (to + k) d (omega arith) (omega (arith, lt, length-drop to es)))

    pub cut_out : where_key nat_cmp (is_key_in from end) es ≡ take (to - at) (drop at es)
    cut_out =
        split (λ e. is_key_in from end e.0)
        ∙ ap (λ (xs : List (ℕ × X)). xs ++ (filter (λ e. is_key_in from end e.0) (take (to - at) (drop at es)) ++ filter (λ e. is_key_in from end e.0) (drop to es))) (keep_none _ (take at es) (λ k d lt. low_is from end _ (low_part k d lt)))
        ∙ ap (λ (xs : List (ℕ × X)). xs ++ filter (λ e. is_key_in from end e.0) (drop to es)) (keep_all _ (take (to - at) (drop at es)) (λ k d lt. let m = middle_k k d lt in inside_is from end _ m.0 m.1))
        ∙ ap (λ (xs : List (ℕ × X)). take (to - at) (drop at es) ++ xs) (keep_none _ (drop to es) (λ k d lt. high_is from end _ (high_part k d lt)))
        ∙ append-nil (take (to - at) (drop at es))

    pub left_over : where_key nat_cmp (λ k. not (is_key_in from end k)) es ≡ take at es ++ drop to es
    left_over =
        split (λ e. not (is_key_in from end e.0))
        ∙ ap (λ (xs : List (ℕ × X)). xs ++ (filter (λ e. not (is_key_in from end e.0)) (take (to - at) (drop at es)) ++ filter (λ e. not (is_key_in from end e.0)) (drop to es))) (keep_all _ (take at es) (λ k d lt. ap not (low_is from end _ (low_part k d lt))))
        ∙ ap (λ (xs : List (ℕ × X)). take at es ++ (xs ++ filter (λ e. not (is_key_in from end e.0)) (drop to es))) (keep_none _ (take (to - at) (drop at es)) (λ k d lt. let m = middle_k k d lt in ap not (inside_is from end _ m.0 m.1)))
        ∙ ap (λ (xs : List (ℕ × X)). take at es ++ xs) (keep_all _ (drop to es) (λ k d lt. ap not (high_is from end _ (high_part k d lt))))

  pub above : (key : ℕ) (es : List (ℕ × X)) (at : ℕ) (c : ℕ × X) → IsBack key at es → ((get_or es at c).0 ≡ key → ⊥) → (d : ℕ × X) → at < length es → key < (get_or es at d).0
  above key es at c back apart d lt = elim (cases_lt key (get_or es at d).0) [
    | inl less ↦ less
    | inr le ↦ let same : (get_or es at d).0 ≡ key = omega (arith, le, back at d (omega arith) lt) in absurd (apart (at_any es at c d lt ∙ same))
  ]

  pub range_removed : (m : FinMap nat_cmp X) (from end : ℕ) (es : List (ℕ × X)) → T (is_sorted nat_cmp es) → map.from_sorted es ≡ m
      → map.from_sorted (where_key nat_cmp (λ k. not (is_key_in from end k)) es) ≡ map.retain_keys m (λ k. not (is_key_in from end k))
  range_removed m from end es sorted is = map.same_map nat_cmp_total nat_cmp-IsAntisymmetric _ _ (λ q.
      get-from_sorted nat_cmp _ q (is_sorted-where_key nat_cmp _ es sorted)
      ∙ find-where_key nat_cmp (λ k. not (is_key_in from end k)) q (alike q) es
      ∙ ap (λ (o : Option X). cond (not (is_key_in from end q)) o None) (sym (get-from_sorted nat_cmp es q sorted) ∙ ap (λ (n : FinMap nat_cmp X). map.get n q) is)
      ∙ sym (map.get-retain_keys m (λ k. not (is_key_in from end k)) q (alike q)))
    where
      alike : (q x : ℕ) → nat_cmp q x ≡ Equal → not (is_key_in from end x) ≡ not (is_key_in from end q)
      alike q x e = ap (λ k. not (is_key_in from end k)) (sym (nat_cmp-IsAntisymmetric q x e))
