-- Rows in the order of their keys, in parts: what a change in one part leaves of the whole.
use Rattle.std.proofs.Common.{◌≡◌, ℕ, zero, suc, ◌+◌, ◌≤◌, Bool, true, false, cond, T, not, List, [], ◌∷◌, ◌++◌, length, get_or, set, Option, Some, None, refl, sym, ap, subst, ◌∙◌, arith}
use Rattle.std.specs.Prelude.{◌&&◌}
use Rattle.std.specs.List.{remove}
use Rattle.std.specs.Ordering.{is_lt, is_eq, ordering_reverse}
use Rattle.std.specs.declared.cmp.Ordering.{Ordering}
use Rattle.std.specs.declared.cmp.Ordering.TheVariants.{Less, Equal, Greater}
use Rattle.std.specs.Cmp.Lexicographic.{nat_list_cmp_total}
use Rattle.std.specs.FinMap as map
use Rattle.std.specs.FinMap.{find, put, is_sorted, get-from_sorted}
use Rattle.std.specs.FinMap.Entries.{below_all, by_order}
use Rattle.byte_maps.specs.ByteMap.{byte_order}
use Rattle.byte_maps.proofs.Prelude.{both_first, both_second, find_below, without, sorted_put, put_is_insert, sorted_without, without_is_remove, Stands, Lacks, insert-remove}
use Rattle.meta_rows.specs.Prelude.{Rows, xor_bytes, all_zero, row, row_after, key_of, AllBelow, with_left, value_left, with_value, entries_after, left_at, come_at}
use Rattle.meta_rows.specs.declared.row_op.RowOp.{RowOp}
use Rattle.meta_rows.specs.declared.row_op.RowOp.TheVariants.{Set, Drop, Flip}

-- ---- two keys

pub both : (a b : Bool) → T a → T b → T (a && b)
both true b p q = q
both false b p q = p

pub less : (o : Ordering) → is_lt o ≡ true → o ≡ Less
less Less h = refl
less Equal h = absurd cc
less Greater h = absurd cc

pub so : (b : Bool) → b ≡ true → T b
so b h = subst T (sym h) tt

pub holds : (b : Bool) → T b → b ≡ true
holds true h = refl
holds false h = absurd h

pub turned : (a b : List ℕ) → byte_order a b ≡ Less → byte_order b a ≡ Greater
turned a b h = nat_list_cmp_total.antisymm b a ∙ ap ordering_reverse h

-- neither less nor equal
above : (a b : List ℕ) → is_lt (byte_order a b) ≡ false → (byte_order a b ≡ Equal → ⊥) → T (is_lt (byte_order b a))
above a b no_less differ =
    elim (byte_order a b) as (λ o. byte_order a b ≡ o → T (is_lt (byte_order b a))) [
      | Less ↦ λ e. absurd cc
      | Equal ↦ λ e. absurd (differ e)
      | Greater ↦ λ e. so _ (ap is_lt (nat_list_cmp_total.antisymm b a ∙ ap ordering_reverse e))
    ] refl

-- ---- parts of a list in order

pub sorted_front : (b a : List (List ℕ × List ℕ)) → T (is_sorted byte_order (b ++ a)) → T (is_sorted byte_order b)
sorted_front [] a h = tt
sorted_front (e ∷ b) a h = both _ _ (front b (both_first _ _ h)) (sorted_front b a (both_second _ _ h))
  where
    front : (b : List (List ℕ × List ℕ)) → T (below_all byte_order e.0 (b ++ a)) → T (below_all byte_order e.0 b)
    front [] h = tt
    front (f ∷ b) h = both _ _ (both_first _ _ h) (front b (both_second _ _ h))

pub sorted_back : (b a : List (List ℕ × List ℕ)) → T (is_sorted byte_order (b ++ a)) → T (is_sorted byte_order a)
sorted_back [] a h = h
sorted_back (e ∷ b) a h = sorted_back b a (both_second _ _ h)

-- ---- past the rows below a key

module _ (key : List ℕ) where
  greater : (row : List ℕ × List ℕ) → is_lt (byte_order row.0 key) ≡ true → byte_order key row.0 ≡ Greater
  greater row h = turned row.0 key (less _ h)

  pub find_past : (b a : List (List ℕ × List ℕ)) → AllBelow key b → find byte_order key (b ++ a) ≡ find byte_order key a
  find_past [] a h = refl
  find_past (e ∷ b) a h = ap (λ o. cond (is_eq o) (Some e.1) (find byte_order key (b ++ a))) (greater e h.0) ∙ find_past b a h.1

  without_past : (b a : List (List ℕ × List ℕ)) → AllBelow key b → without key (b ++ a) ≡ b ++ without key a
  without_past [] a h = refl
  without_past (e ∷ b) a h =
      ap (λ o. cond (not (is_eq o)) (e ∷ without key (b ++ a)) (without key (b ++ a))) (greater e h.0) ∙ ap (λ l. e ∷ l) (without_past b a h.1)

  put_past : (value : List ℕ) (b a : List (List ℕ × List ℕ)) → AllBelow key b → put byte_order key value (b ++ a) ≡ b ++ put byte_order key value a
  put_past value [] a h = refl
  put_past value (e ∷ b) a h =
      ap (λ o. by_order o ((key, value) ∷ e ∷ (b ++ a)) ((e.0, value) ∷ (b ++ a)) (e ∷ put byte_order key value (b ++ a))) (greater e h.0)
      ∙ ap (λ l. e ∷ l) (put_past value b a h.1)

  without_above : (a : List (List ℕ × List ℕ)) → T (below_all byte_order key a) → without key a ≡ a
  without_above [] h = refl
  without_above (e ∷ a) h =
      ap (λ o. cond (not (is_eq o)) (e ∷ without key a) (without key a)) (less _ (holds _ (both_first _ _ h))) ∙ ap (λ l. e ∷ l) (without_above a (both_second _ _ h))

  put_above : (value : List ℕ) (a : List (List ℕ × List ℕ)) → T (below_all byte_order key a) → put byte_order key value a ≡ (key, value) ∷ a
  put_above value [] h = refl
  put_above value (e ∷ a) h = ap (λ o. by_order o ((key, value) ∷ e ∷ a) ((e.0, value) ∷ a) (e ∷ put byte_order key value a)) (less _ (holds _ (both_first _ _ h)))

-- ---- an operation

-- what an operation makes of the rows, by what its key has
pub row_after_left : (rows : Rows) (op : RowOp) → row_after rows op ≡ with_left (map.remove rows (key_of op)) (key_of op) (value_left (map.get rows (key_of op)) op)
row_after_left rows (Set key value) = sym (insert-remove rows key value)
row_after_left rows (Drop key) = refl
row_after_left rows (Flip key mask) =
    let value = xor_bytes (row rows key) mask in
    elim (all_zero value) as (λ b. cond b (map.remove rows key) (map.insert rows key value) ≡ with_left (map.remove rows key) key (cond b None (Some value))) [
      | true ↦ refl
      | false ↦ sym (insert-remove rows key value)
    ]

-- the list of the rows after an operation is that of the map after it
module _ (es : List (List ℕ × List ℕ)) (order : T (is_sorted byte_order es)) where
  with_value_is : (key : List ℕ) (left : Option (List ℕ)) → map.from_sorted {R = byte_order} (with_value es key left) ≡ with_left (map.remove (map.from_sorted es) key) key left
  with_value_is key None = without_is_remove key es order
  with_value_is key (Some value) = put_is_insert key value es order ∙ sym (insert-remove (map.from_sorted es) key value)

  pub after_is : (op : RowOp) → map.from_sorted {R = byte_order} (entries_after es op) ≡ row_after (map.from_sorted es) op
  after_is op =
      with_value_is (key_of op) (value_left (find byte_order (key_of op) es) op)
      ∙ ap (λ held. with_left (map.remove (map.from_sorted es) (key_of op)) (key_of op) (value_left held op)) (sym (get-from_sorted byte_order es (key_of op) order))
      ∙ sym (row_after_left (map.from_sorted es) op)

  with_value_sorted : (key : List ℕ) (left : Option (List ℕ)) → T (is_sorted byte_order (with_value es key left))
  with_value_sorted key None = sorted_without key es order
  with_value_sorted key (Some value) = sorted_put key value es order

  pub after_sorted : (op : RowOp) → T (is_sorted byte_order (entries_after es op))
  after_sorted op = with_value_sorted (key_of op) (value_left (find byte_order (key_of op) es) op)

-- ---- one part of three, where the keys before are below and those behind above

module _ (key : List ℕ) (b c a : List (List ℕ × List ℕ)) (below : AllBelow key b) (above : T (below_all byte_order key a)) where
  find_front : (c : List (List ℕ × List ℕ)) → find byte_order key (c ++ a) ≡ find byte_order key c
  find_front [] = find_below key a above
  find_front (e ∷ c) = ap (λ o. cond (is_eq (byte_order key e.0)) (Some e.1) o) (find_front c)

  put_front : (value : List ℕ) (c : List (List ℕ × List ℕ)) → put byte_order key value (c ++ a) ≡ put byte_order key value c ++ a
  put_front value [] = put_above key value a above
  put_front value (e ∷ c) =
      elim (byte_order key e.0) as (λ o. by_order o ((key, value) ∷ e ∷ (c ++ a)) ((e.0, value) ∷ (c ++ a)) (e ∷ put byte_order key value (c ++ a))
      ≡ by_order o ((key, value) ∷ e ∷ c) ((e.0, value) ∷ c) (e ∷ put byte_order key value c) ++ a) [
        | Less ↦ refl
        | Equal ↦ refl
        | Greater ↦ ap (λ (l : List (List ℕ × List ℕ)). e ∷ l) (put_front value c)
      ]

  without_front : (c : List (List ℕ × List ℕ)) → without key (c ++ a) ≡ without key c ++ a
  without_front [] = without_above key a above
  without_front (e ∷ c) =
      elim (is_eq (byte_order key e.0)) as (λ same. cond (not same) (e ∷ without key (c ++ a)) (without key (c ++ a)) ≡ cond (not same) (e ∷ without key c) (without key c) ++ a) [
        | true ↦ without_front c
        | false ↦ ap (λ (l : List (List ℕ × List ℕ)). e ∷ l) (without_front c)
      ]

  -- a look-up looks at that part alone
  pub find_part : find byte_order key (b ++ (c ++ a)) ≡ find byte_order key c
  find_part = find_past key b (c ++ a) below ∙ find_front c

  with_value_part : (left : Option (List ℕ)) → with_value (b ++ (c ++ a)) key left ≡ b ++ (with_value c key left ++ a)
  with_value_part None = without_past key b (c ++ a) below ∙ ap (λ l. b ++ l) (without_front c)
  with_value_part (Some value) = put_past key value b (c ++ a) below ∙ ap (λ l. b ++ l) (put_front value c)

-- and an operation changes that part alone
pub after_part : (op : RowOp) (b c a : List (List ℕ × List ℕ)) → AllBelow (key_of op) b → T (below_all byte_order (key_of op) a)
    → entries_after (b ++ (c ++ a)) op ≡ b ++ (entries_after c op ++ a)
after_part op b c a below above =
    ap (λ held. with_value (b ++ (c ++ a)) (key_of op) (value_left held op)) (find_part (key_of op) b c a below above)
    ∙ with_value_part (key_of op) b c a below above (value_left (find byte_order (key_of op) c) op)

-- ---- an operation at the place of its key

left_is : (key : List ℕ) (es : List (List ℕ × List ℕ)) (at : ℕ) → Stands key es at → (left : Option (List ℕ)) → left_at es at left ≡ with_value es key left
left_is key es at s None = sym s.after_remove
left_is key es at s (Some value) = sym (s.after_put value ([], []))

pub left_after : (op : RowOp) (es : List (List ℕ × List ℕ)) (at : ℕ) → Stands (key_of op) es at → left_at es at (value_left (Some (get_or es at ([], [])).1) op) ≡ entries_after es op
left_after op es at s =
    ap (λ held. left_at es at (value_left held op)) (sym (s.value ([], []))) ∙ left_is (key_of op) es at s (value_left (find byte_order (key_of op) es) op)

come_is : (key : List ℕ) (es : List (List ℕ × List ℕ)) (at : ℕ) → Lacks key es at → (left : Option (List ℕ)) → come_at es at key left ≡ with_value es key left
come_is key es at s None = sym s.after_remove
come_is key es at s (Some value) = sym (s.after_put value)

pub come_after : (op : RowOp) (es : List (List ℕ × List ℕ)) (at : ℕ) → Lacks (key_of op) es at → come_at es at (key_of op) (value_left None op) ≡ entries_after es op
come_after op es at s = ap (λ held. come_at es at (key_of op) (value_left held op)) (sym s.none) ∙ come_is (key_of op) es at s (value_left (find byte_order (key_of op) es) op)

-- what is taken away need not have been set
pub remove_set : {X : Type 0} (xs : List X) (i : ℕ) (y : X) → remove (set xs i y) i ≡ remove xs i
remove_set [] i y = refl
remove_set (x ∷ xs) zero y = refl
remove_set (x ∷ xs) (suc i) y = ap (λ (t : List _). x ∷ t) (remove_set xs i y)

-- ---- how many rows an operation leaves

put_long : (key value : List ℕ) (es : List (List ℕ × List ℕ)) → length (put byte_order key value es) ≤ length es + 1
put_long key value [] = omega arith
put_long key value (e ∷ es) =
    elim (byte_order key e.0) as (λ o. length (by_order o ((key, value) ∷ e ∷ es) ((e.0, value) ∷ es) (e ∷ put byte_order key value es)) ≤ length (e ∷ es) + 1) [
      | Less ↦ omega arith
      | Equal ↦ omega arith
      | Greater ↦ omega (arith, put_long key value es)
    ]

without_long : (key : List ℕ) (es : List (List ℕ × List ℕ)) → length (without key es) ≤ length es
without_long key [] = omega arith
without_long key (e ∷ es) =
    elim (is_eq (byte_order key e.0)) as (λ same. length (cond (not same) (e ∷ without key es) (without key es)) ≤ length (e ∷ es)) [
      | true ↦ omega (arith, without_long key es)
      | false ↦ omega (arith, without_long key es)
    ]

with_value_long : (es : List (List ℕ × List ℕ)) (key : List ℕ) (left : Option (List ℕ)) → length (with_value es key left) ≤ length es + 1
with_value_long es key None = omega (arith, without_long key es)
with_value_long es key (Some value) = put_long key value es

pub after_long : (es : List (List ℕ × List ℕ)) (op : RowOp) → length (entries_after es op) ≤ length es + 1
after_long es op = with_value_long es (key_of op) (value_left (find byte_order (key_of op) es) op)
