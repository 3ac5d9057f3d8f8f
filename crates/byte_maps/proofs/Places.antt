-- Where a key stands among entries in order, and what a map of the entries has there.
use Rattle.std.proofs.Common.{◌≡◌, ℕ, zero, suc, ◌<◌, ◌≤◌, Bool, true, false, cond, T, not, List, [], ◌∷◌, length, get_or, set, Option, Some, None, refl, sym, ap, subst, ◌∙◌, arith}
use Rattle.std.specs.Prelude.{◌&&◌}
use Rattle.std.specs.List.{insert, remove, HoldsAt}
use Rattle.std.specs.List.Sorted.{IsNonDecreasingBy, IsPartitionPoint}
use Rattle.std.specs.Ordering.{eq_by_cmp, is_eq, is_lt, ordering_index, ordering_reverse}
use Rattle.std.specs.declared.cmp.Ordering.{Ordering}
use Rattle.std.specs.declared.cmp.Ordering.TheVariants.{Less, Equal, Greater}
use Rattle.std.specs.Cmp.{IsTotalOrder}
use Rattle.std.specs.Cmp.Lexicographic.{nat_list_cmp_total}
use Rattle.std.specs.FinMap as map
use Rattle.std.specs.FinMap.{FinMap, find, put, is_sorted, entries, entries-from_sorted, entries-insert, same_entries_map, get-from_sorted, get-remove, same_map, slice_cmp-IsAntisymmetric, nat_cmp-IsAntisymmetric, IsAntisymmetric}
use Rattle.std.specs.FinMap.Entries.{where_key, below_all, by_order, is_sorted-put, is_sorted-where_key, find-where_key}
use Rattle.byte_maps.specs.ByteMap.{byte_order}

total : IsTotalOrder byte_order
total = nat_list_cmp_total

pub same_bytes : IsAntisymmetric byte_order
same_bytes = slice_cmp-IsAntisymmetric nat_cmp-IsAntisymmetric

pub both_first : (a b : Bool) → T (a && b) → T a
both_first true b p = tt
both_first false b p = p

pub both_second : (a b : Bool) → T (a && b) → T b
both_second true b p = p
both_second false b p = absurd p

both : (a b : Bool) → T a → T b → T (a && b)
both true b p q = q
both false b p q = p

is_less : (o : Ordering) → T (is_lt o) → o ≡ Less
is_less Less p = refl
is_less Equal p = absurd p
is_less Greater p = absurd p

turn_less : (x y : List ℕ) → byte_order x y ≡ Less → byte_order y x ≡ Greater
turn_less x y p = total.antisymm y x ∙ ap ordering_reverse p

turn_equal : (x y : List ℕ) → byte_order x y ≡ Equal → byte_order y x ≡ Equal
turn_equal x y p = total.antisymm y x ∙ ap ordering_reverse p

turn_greater : (x y : List ℕ) → byte_order x y ≡ Greater → byte_order y x ≡ Less
turn_greater x y p = total.antisymm y x ∙ ap ordering_reverse p

at_most_two : (r : Ordering) → ordering_index r ≤ 2
at_most_two Less = omega arith
at_most_two Equal = omega arith
at_most_two Greater = omega arith

no_higher : (x y k : List ℕ) → byte_order x y ≡ Less → ordering_index (byte_order x k) ≤ ordering_index (byte_order y k)
no_higher x y k p =
    elim (byte_order y k) as (λ r. byte_order y k ≡ r → ordering_index (byte_order x k) ≤ ordering_index r) [
      | Less ↦ λ q. omega (arith, ap ordering_index (total.trans x y k p q))
      | Equal ↦ λ q. omega (arith, ap ordering_index (subst (λ z. byte_order x z ≡ Less) (same_bytes y k q) p))
      | Greater ↦ λ q. at_most_two (byte_order x k)
    ] refl

module _ {X : Type 0} where
  below_at : (x : List ℕ) (es : List (List ℕ × X)) (j : ℕ) (d : List ℕ × X) → T (below_all byte_order x es) → j < length es → byte_order x (get_or es j d).0 ≡ Less
  below_at x [] j d h l = absurd (omega arith)
  below_at x (e ∷ es) zero d h l = is_less _ (both_first _ _ h)
  below_at x (e ∷ es) (suc j) d h l = below_at x es j d (both_second _ _ h) (omega arith)

  pub below_more : (k x : List ℕ) (es : List (List ℕ × X)) → byte_order k x ≡ Less → T (below_all byte_order x es) → T (below_all byte_order k es)
  below_more k x [] p h = tt
  below_more k x (e ∷ es) p h = both _ _ (subst (λ r. T (is_lt r)) (sym (total.trans k x e.0 p (is_less _ (both_first _ _ h)))) tt) (below_more k x es p (both_second _ _ h))

  below_same : (k x : List ℕ) (es : List (List ℕ × X)) → byte_order k x ≡ Equal → T (below_all byte_order x es) → T (below_all byte_order k es)
  below_same k x es p h = subst (λ y. T (below_all byte_order y es)) (sym (same_bytes k x p)) h

  pub find_below : (k : List ℕ) (es : List (List ℕ × X)) → T (below_all byte_order k es) → find byte_order k es ≡ None
  find_below k [] h = refl
  find_below k (e ∷ es) h = ap (λ r. cond (is_eq r) (Some e.1) (find byte_order k es)) (is_less _ (both_first _ _ h)) ∙ find_below k es (both_second _ _ h)

  abbrev pub without : List ℕ → List (List ℕ × X) → List (List ℕ × X)
  without k es = where_key byte_order (λ x. not (eq_by_cmp byte_order k x)) es

  without_below : (k : List ℕ) (es : List (List ℕ × X)) → T (below_all byte_order k es) → without k es ≡ es
  without_below k [] h = refl
  without_below k (e ∷ es) h = ap (λ r. cond (not (is_eq r)) (e ∷ without k es) (without k es)) (is_less _ (both_first _ _ h)) ∙ ap (λ (t : List (List ℕ × X)). e ∷ t) (without_below k es (both_second _ _ h))

-- the key stands at a place
pub record Stands {X : Type 0} (key : List ℕ) (es : List (List ℕ × X)) (at : ℕ) : Type 0 where
  pub within : at < length es
  pub value : (d : List ℕ × X) → find byte_order key es ≡ Some (get_or es at d).1
  pub after_put : (v : X) (d : List ℕ × X) → put byte_order key v es ≡ set es at ((get_or es at d).0, v)
  pub after_remove : without key es ≡ remove es at

-- the key stands nowhere, and goes to a place
pub record Lacks {X : Type 0} (key : List ℕ) (es : List (List ℕ × X)) (at : ℕ) : Type 0 where
  pub within : at ≤ length es
  pub none : find byte_order key es ≡ None
  pub after_put : (v : X) → put byte_order key v es ≡ insert es at (key, v)
  pub after_remove : without key es ≡ es

same_test : (key q x : List ℕ) → byte_order q x ≡ Equal → not (eq_by_cmp byte_order key x) ≡ not (eq_by_cmp byte_order key q)
same_test key q x t = ap (λ y. not (eq_by_cmp byte_order key y)) (sym (same_bytes q x t))

module _ {X : Type 0} (key : List ℕ) where
  stands_later : (e : List ℕ × X) (es : List (List ℕ × X)) (j : ℕ) → byte_order key e.0 ≡ Greater → Stands key es j → Stands key (e ∷ es) (suc j)
  stands_later e es j p s = record {
    within = omega (arith, s.within);
    value = λ d. ap (λ r. cond (is_eq r) (Some e.1) (find byte_order key es)) p ∙ s.value d;
    after_put = λ v d. ap (λ r. by_order r ((key, v) ∷ e ∷ es) ((e.0, v) ∷ es) (e ∷ put byte_order key v es)) p ∙ ap (λ (t : List (List ℕ × X)). e ∷ t) (s.after_put v d);
    after_remove = ap (λ r. cond (not (is_eq r)) (e ∷ without key es) (without key es)) p ∙ ap (λ (t : List (List ℕ × X)). e ∷ t) s.after_remove;
  }

  lacks_later : (e : List ℕ × X) (es : List (List ℕ × X)) (j : ℕ) → byte_order key e.0 ≡ Greater → Lacks key es j → Lacks key (e ∷ es) (suc j)
  lacks_later e es j p s = record {
    within = omega (arith, s.within);
    none = ap (λ r. cond (is_eq r) (Some e.1) (find byte_order key es)) p ∙ s.none;
    after_put = λ v. ap (λ r. by_order r ((key, v) ∷ e ∷ es) ((e.0, v) ∷ es) (e ∷ put byte_order key v es)) p ∙ ap (λ (t : List (List ℕ × X)). e ∷ t) (s.after_put v);
    after_remove = ap (λ r. cond (not (is_eq r)) (e ∷ without key es) (without key es)) p ∙ ap (λ (t : List (List ℕ × X)). e ∷ t) s.after_remove;
  }

  -- a binary search that found the key
  pub stands : (es : List (List ℕ × X)) (at : ℕ) → T (is_sorted byte_order es) → at < length es → HoldsAt (λ e. byte_order e.0 key ≡ Equal) es at → Stands key es at
  stands [] at h l is = absurd (omega arith)
  stands (e ∷ es) zero h l is = let p = turn_equal e.0 key (is e) in record {
    within = omega arith;
    value = λ d. ap (λ r. cond (is_eq r) (Some e.1) (find byte_order key es)) p;
    after_put = λ v d. ap (λ r. by_order r ((key, v) ∷ e ∷ es) ((e.0, v) ∷ es) (e ∷ put byte_order key v es)) p;
    after_remove = ap (λ r. cond (not (is_eq r)) (e ∷ without key es) (without key es)) p ∙ without_below key es (below_same key e.0 es p (both_first _ _ h));
  }
  stands (e ∷ es) (suc j) h l is =
      let first_less = subst (λ k. byte_order e.0 k ≡ Less) (same_bytes _ key (is e)) (below_at e.0 es j e (both_first _ _ h) (omega arith)) in
      stands_later e es j (turn_less e.0 key first_less) (stands es j (both_second _ _ h) (omega arith) (λ d. is d))

  -- a binary search that found the place between the lesser keys and the greater
  pub lacks : (es : List (List ℕ × X)) (at : ℕ) → T (is_sorted byte_order es) → at ≤ length es → IsPartitionPoint (λ e. byte_order e.0 key ≡ Less) (λ e. byte_order e.0 key ≡ Greater) es at → Lacks key es at
  lacks [] zero h l parted = record { within = omega arith; none = refl; after_put = λ v. refl; after_remove = refl }
  lacks [] (suc j) h l parted = absurd (omega arith)
  lacks (e ∷ es) zero h l parted =
      let p = turn_greater e.0 key (parted.1 0 e (omega arith) (omega arith)) in
      let below = below_more key e.0 es p (both_first _ _ h) in
      record {
        within = omega arith;
        none = ap (λ r. cond (is_eq r) (Some e.1) (find byte_order key es)) p ∙ find_below key es below;
        after_put = λ v. ap (λ r. by_order r ((key, v) ∷ e ∷ es) ((e.0, v) ∷ es) (e ∷ put byte_order key v es)) p;
        after_remove = ap (λ r. cond (not (is_eq r)) (e ∷ without key es) (without key es)) p ∙ ap (λ (t : List (List ℕ × X)). e ∷ t) (without_below key es below);
      }
  lacks (e ∷ es) (suc j) h l parted =
      lacks_later e es j (turn_less e.0 key (parted.0 0 e (omega arith) (omega arith))) (lacks es j (both_second _ _ h) (omega arith) (
        λ k d a b. parted.0 (suc k) d (omega arith) (omega arith),
        λ k d a b. parted.1 (suc k) d (omega arith) (omega arith),
      ))

  -- the keys' comparisons with a key rise along entries in order, as a binary search asks
  pub comparisons_rise : (es : List (List ℕ × X)) → T (is_sorted byte_order es) → IsNonDecreasingBy (λ e. ordering_index (byte_order e.0 key)) es
  comparisons_rise [] h i j d le l = absurd (omega arith)
  comparisons_rise (e ∷ es) h zero zero d le l = omega arith
  comparisons_rise (e ∷ es) h zero (suc j) d le l = no_higher e.0 _ key (below_at e.0 es j d (both_first _ _ h) (omega arith))
  comparisons_rise (e ∷ es) h (suc i) zero d le l = absurd (omega arith)
  comparisons_rise (e ∷ es) h (suc i) (suc j) d le l = comparisons_rise es (both_second _ _ h) i j d (omega arith) (omega arith)

  -- the same of a list that equals the entries, as a search gives them
  pub found : (fs es : List (List ℕ × X)) (at : ℕ) → fs ≡ es → T (is_sorted byte_order es) → at < length fs → HoldsAt (λ e. byte_order e.0 key ≡ Equal) fs at → Stands key es at
  found fs es at is h l eq = stands es at h (omega (arith, ap length is)) (subst (λ gs. HoldsAt (λ (e : List ℕ × X). byte_order e.0 key ≡ Equal) gs at) is eq)

  pub absent : (fs es : List (List ℕ × X)) (at : ℕ) → fs ≡ es → T (is_sorted byte_order es) → at ≤ length fs
      → (IsNonDecreasingBy (λ e. ordering_index (byte_order e.0 key)) fs → IsPartitionPoint (λ e. byte_order e.0 key ≡ Less) (λ e. byte_order e.0 key ≡ Greater) fs at) → Lacks key es at
  absent fs es at is h l parted =
      lacks es at h (omega (arith, ap length is)) (subst (λ gs. IsPartitionPoint (λ (e : List ℕ × X). byte_order e.0 key ≡ Less) (λ e. byte_order e.0 key ≡ Greater) gs at) is (parted (subst (λ gs. IsNonDecreasingBy (λ (e : List ℕ × X). ordering_index (byte_order e.0 key)) gs) (sym is) (comparisons_rise es h))))

  pub sorted_put : (v : X) (es : List (List ℕ × X)) → T (is_sorted byte_order es) → T (is_sorted byte_order (put byte_order key v es))
  sorted_put v es h = is_sorted-put byte_order total key v es h

  pub put_is_insert : (v : X) (es : List (List ℕ × X)) → T (is_sorted byte_order es) → map.from_sorted {R = byte_order} (put byte_order key v es) ≡ map.insert (map.from_sorted es) key v
  put_is_insert v es h = same_entries_map _ _ (entries-from_sorted byte_order _ (sorted_put v es h) ∙ sym (entries-insert total (map.from_sorted es) key v ∙ ap (put byte_order key v) (entries-from_sorted byte_order es h)))

  pub sorted_without : (es : List (List ℕ × X)) → T (is_sorted byte_order es) → T (is_sorted byte_order (without key es))
  sorted_without es h = is_sorted-where_key byte_order _ es h

  pub without_is_remove : (es : List (List ℕ × X)) → T (is_sorted byte_order es) → map.from_sorted {R = byte_order} (without key es) ≡ map.remove (map.from_sorted es) key
  without_is_remove es h = same_map total same_bytes _ _ (λ q.
      get-from_sorted byte_order (without key es) q (sorted_without es h)
      ∙ find-where_key byte_order (λ x. not (eq_by_cmp byte_order key x)) q (same_test key q) es
      ∙ turned q
      ∙ ap (λ (o : Option X). cond (eq_by_cmp byte_order q key) None o) (sym (get-from_sorted byte_order es q h))
      ∙ sym (get-remove total (map.from_sorted es) key q))
    where
      flip : (b : Bool) (x y : Option X) → cond (not b) x y ≡ cond b y x
      flip true x y = refl
      flip false x y = refl

      turn : (o : Ordering) → is_eq (ordering_reverse o) ≡ is_eq o
      turn Less = refl
      turn Equal = refl
      turn Greater = refl

      turned : (q : List ℕ) → cond (not (eq_by_cmp byte_order key q)) (find byte_order q es) None ≡ cond (eq_by_cmp byte_order q key) None (find byte_order q es)
      turned q = flip (eq_by_cmp byte_order key q) _ _ ∙ ap (λ b. cond b None (find byte_order q es)) (ap is_eq (total.antisymm key q) ∙ turn (byte_order q key))

pub none_is_empty : {X : Type 0} → map.from_sorted {X = X} {R = byte_order} [] ≡ map.empty
none_is_empty {X} = map.empty_of_len _ (map.len-entries _ ∙ ap length (entries-from_sorted {X = X} byte_order [] tt))

module _ {X : Type 0} (key : List ℕ) (es : List (List ℕ × X)) (sorted : T (is_sorted byte_order es)) (at : ℕ) where
  -- the value at a key that stands there is replaced
  pub sorted_replaced : (v : X) (old : List ℕ × X) → Stands key es at → old ≡ get_or es at old → T (is_sorted byte_order (set es at (old.0, v)))
  sorted_replaced v old s is = subst (λ fs. T (is_sorted byte_order fs)) (s.after_put v old ∙ ap (λ (e : List ℕ × X). set es at (e.0, v)) (sym is)) (sorted_put key v es sorted)

  pub view_replaced : (v : X) (old : List ℕ × X) → Stands key es at → old ≡ get_or es at old → map.from_sorted {R = byte_order} (set es at (old.0, v)) ≡ map.insert (map.from_sorted es) key v
  view_replaced v old s is = ap (λ fs. map.from_sorted fs) (sym (s.after_put v old ∙ ap (λ (e : List ℕ × X). set es at (e.0, v)) (sym is))) ∙ put_is_insert key v es sorted

  -- a new entry is put in
  pub sorted_added : (v : X) → Lacks key es at → T (is_sorted byte_order (insert es at (key, v)))
  sorted_added v s = subst (λ fs. T (is_sorted byte_order fs)) (s.after_put v) (sorted_put key v es sorted)

  pub view_added : (v : X) → Lacks key es at → map.from_sorted {R = byte_order} (insert es at (key, v)) ≡ map.insert (map.from_sorted es) key v
  view_added v s = ap (λ fs. map.from_sorted fs) (sym (s.after_put v)) ∙ put_is_insert key v es sorted

  -- an entry is taken out
  pub sorted_taken : Stands key es at → T (is_sorted byte_order (remove es at))
  sorted_taken s = subst (λ fs. T (is_sorted byte_order fs)) s.after_remove (sorted_without key es sorted)

  pub view_taken : Stands key es at → map.from_sorted {R = byte_order} (remove es at) ≡ map.remove (map.from_sorted es) key
  view_taken s = ap (λ fs. map.from_sorted fs) (sym s.after_remove) ∙ without_is_remove key es sorted

  pub view_untouched : Lacks key es at → map.from_sorted {R = byte_order} es ≡ map.remove (map.from_sorted es) key
  view_untouched s = ap (λ fs. map.from_sorted fs) (sym s.after_remove) ∙ without_is_remove key es sorted

  -- what is there
  pub there : (d : List ℕ × X) → Stands key es at → map.get (map.from_sorted {R = byte_order} es) key ≡ Some (get_or es at d).1
  there d s = get-from_sorted byte_order es key sorted ∙ s.value d

  pub not_there : Lacks key es at → map.get (map.from_sorted {R = byte_order} es) key ≡ None
  not_there s = get-from_sorted byte_order es key sorted ∙ s.none

pub view_of_entries : {X : Type 0} (m : FinMap {K = List ℕ} byte_order X) → map.from_sorted {R = byte_order} (entries m) ≡ m
view_of_entries m = same_entries_map _ m (entries-from_sorted byte_order (entries m) (map.entries_sorted m))
