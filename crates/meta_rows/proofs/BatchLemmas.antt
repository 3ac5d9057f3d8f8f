-- Operations of different keys may change places: what a row is depends on those of its key, one after the other.
use Rattle.std.proofs.Common.{◌≡◌, ◌≢◌, ℕ, Bool, true, false, cond, not, List, [], ◌∷◌, Option, Some, None, refl, sym, ap, subst, ◌∙◌}
use Rattle.std.specs.Prelude.{◌&&◌}
use Rattle.std.specs.List.{filter}
use Rattle.std.specs.List.Sorted.{ties, IsStableBy}
use Rattle.std.specs.Ordering.{is_lt, ordering_reverse}
use Rattle.std.specs.declared.cmp.Ordering.{Ordering}
use Rattle.std.specs.declared.cmp.Ordering.TheVariants.{Less, Equal, Greater}
use Rattle.std.specs.Cmp.Lexicographic.{nat_list_cmp_total}
use Rattle.std.specs.FinMap as map
use Rattle.std.specs.FinMap.{get}
use Rattle.byte_maps.specs.ByteMap.{byte_order}
use Rattle.byte_maps.proofs.Prelude.{same_bytes, same}
use Rattle.meta_rows.specs.Prelude.{Rows, row_after, rows_after, key_of, with_left, value_left}
use Rattle.meta_rows.specs.declared.row_op.RowOp.{RowOp}
use Rattle.meta_rows.specs.declared.row_op.RowOp.TheVariants.{Drop}
use Rattle.meta_rows.proofs.RowLemmas.{get-insert_same, get-remove_same, get-row_after_other}
use Rattle.meta_rows.proofs.PartLemmas.{row_after_left}

-- by its key
abbrev pub is_before : RowOp → RowOp → Bool
is_before a b = is_lt (byte_order (key_of a) (key_of b))

not_before : (o : Ordering) → o ≡ ordering_reverse o → not (is_lt o) && not (is_lt o) ≡ true
not_before Less e = absurd cc
not_before Equal e = refl
not_before Greater e = absurd cc

of_its_key : (q : List ℕ) (op : RowOp) → key_of op ≡ q → ties is_before (Drop q) op ≡ true
of_its_key q op is =
    subst (λ k. not (is_lt (byte_order q k)) && not (is_lt (byte_order k q)) ≡ true) (sym is) (not_before (byte_order q q) (nat_list_cmp_total.antisymm q q))

-- what an operation leaves of its own row
held : (rows : Rows) (key : List ℕ) (left : Option (List ℕ)) → get (with_left (map.remove rows key) key left) key ≡ left
held rows key None = get-remove_same rows key
held rows key (Some value) = get-insert_same (map.remove rows key) key value

pub get-row_after_same : (rows : Rows) (op : RowOp) → get (row_after rows op) (key_of op) ≡ value_left (get rows (key_of op)) op
get-row_after_same rows op =
    ap (λ m. get m (key_of op)) (row_after_left rows op) ∙ held rows (key_of op) (value_left (get rows (key_of op)) op)

own_order : (o : Ordering) → o ≡ ordering_reverse o → o ≡ Equal
own_order Less e = absurd cc
own_order Equal e = refl
own_order Greater e = absurd cc

-- two keys of which one is before the other are two
apart : (a b : List ℕ) (o : Ordering) → byte_order a b ≡ o → (o ≡ Equal → ⊥) → a ≢ b
apart a b o is unlike e =
    unlike (sym is ∙ ap (λ k. byte_order k b) e ∙ own_order (byte_order b b) (nat_list_cmp_total.antisymm b b))

less_differs : Less ≡ Equal → ⊥
less_differs e = cc

greater_differs : Greater ≡ Equal → ⊥
greater_differs e = cc

module _ (q : List ℕ) where
  -- an operation of its key, or of another
  either : (A : Type 0) (op : RowOp) → (key_of op ≡ q → A) → (key_of op ≢ q → A) → A
  either A op here other =
      elim (byte_order (key_of op) q) as (λ o. byte_order (key_of op) q ≡ o → A) [
        | Less ↦ λ p. other (apart (key_of op) q Less p less_differs)
        | Equal ↦ λ p. here (same_bytes (key_of op) q p)
        | Greater ↦ λ p. other (apart (key_of op) q Greater p greater_differs)
      ] refl

  -- rows that have the same under a key have the same there after an operation
  after_alike : (a b : Rows) (op : RowOp) → get a q ≡ get b q → get (row_after a op) q ≡ get (row_after b op) q
  after_alike a b op e = either (get (row_after a op) q ≡ get (row_after b op) q) op
      (λ is. subst (λ (k : List ℕ). get a k ≡ get b k → get (row_after a op) k ≡ get (row_after b op) k) is
      (λ e. get-row_after_same a op ∙ ap (λ h. value_left h op) e ∙ sym (get-row_after_same b op)) e)
      (λ unlike. get-row_after_other a op q unlike ∙ e ∙ sym (get-row_after_other b op q unlike))

  -- and operations of other keys may be left out
  module _ (p : RowOp → Bool) (all : (op : RowOp) → key_of op ≡ q → p op ≡ true) where
    skipped : (a b : Rows) (op : RowOp) → get a q ≡ get b q → p op ≡ false → get (row_after a op) q ≡ get b q
    skipped a b op e not_its = either (get (row_after a op) q ≡ get b q) op
        (λ is. absurd (clash (all op is) not_its))
        (λ unlike. get-row_after_other a op q unlike ∙ e)
      where
        clash : p op ≡ true → p op ≡ false → ⊥
        clash x y = let z : true ≡ false = sym x ∙ y in cc

    pub only_its_own : (a b : Rows) (ops : List RowOp) → get a q ≡ get b q → get (rows_after a ops) q ≡ get (rows_after b (filter p ops)) q
    only_its_own a b [] e = e
    only_its_own a b (op ∷ ops) e =
        elim (p op) as (λ (t : Bool). p op ≡ t → get (rows_after (row_after a op) ops) q ≡ get (rows_after b (cond t (op ∷ filter p ops) (filter p ops))) q) [
          | true ↦ λ is. only_its_own (row_after a op) (row_after b op) ops (after_alike a b op e)
          | false ↦ λ is. only_its_own (row_after a op) b ops (skipped a b op e is)
        ] refl

-- operations in another order, in which those of one key come as they came
pub in_another_order : (rows : Rows) (xs ys : List RowOp) → IsStableBy is_before xs ys → rows_after rows ys ≡ rows_after rows xs
in_another_order rows xs ys stable = same _ _ (λ q.
    only_its_own q (ties is_before (Drop q)) (of_its_key q) rows rows ys refl
    ∙ ap (λ (l : List RowOp). get (rows_after rows l) q) (stable (Drop q))
    ∙ sym (only_its_own q (ties is_before (Drop q)) (of_its_key q) rows rows xs refl))
