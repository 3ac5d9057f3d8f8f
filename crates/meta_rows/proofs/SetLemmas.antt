-- The operations that set each row make the rows, and are as long as these are.
use Rattle.std.proofs.Common.{◌≡◌, ℕ, suc, ◌+◌, ◌<◌, ◌≤◌, ◌^◌, cond, T, List, [], ◌∷◌, length, Option, Some, None, refl, sym, ap, subst, ◌∙◌, arith}
use Rattle.std.specs.Ordering.{is_eq, ordering_reverse}
use Rattle.std.specs.Cmp.Lexicographic.{nat_list_cmp_total}
use Rattle.std.specs.declared.cmp.Ordering.{Ordering}
use Rattle.std.specs.declared.cmp.Ordering.TheVariants.{Less, Equal, Greater}
use Rattle.std.specs.FinMap as map
use Rattle.std.specs.FinMap.{find, is_sorted, entries_sorted, get-empty, get-entries}
use Rattle.std.specs.FinMap.Entries.{below_all}
use Rattle.std.proofs.lemmas.List.{length-append}
use Rattle.std.proofs.lemmas.List.Concat.{flat_map-cons}
use Rattle.byte_maps.specs.ByteMap.{byte_order}
use Rattle.byte_maps.proofs.Prelude.{same, after_insert, same_bytes, both_first, both_second, find_below}
use Rattle.meta_rows.specs.declared.row_op.RowOp.TheVariants.{Set}
use Rattle.meta_rows.specs.Prelude.{Rows, rows_after, op_bytes, ops_bytes, key_bytes, value_bytes, rows_size, list_size, IsKey, AllFit, sets_of, row_sets, RowsFit}

abbrev or_else : {X : Type 0} → Option X → Option X → Option X
or_else None y = y
or_else (Some x) y = Some x

or_none : {X : Type 0} → (x : Option X) → or_else x None ≡ x
or_none None = refl
or_none (Some x) = refl

first_or : {X : Type 0} → (r : Ordering) (f o : Option X) (v : X) → (r ≡ Equal → f ≡ None)
    → or_else f (cond (is_eq r) (Some v) o) ≡ or_else (cond (is_eq r) (Some v) f) o
first_or Less f o v none = refl
first_or Equal f o v none = ap (λ x. or_else x (Some v)) (none refl)
first_or Greater f o v none = refl

-- what stands under a key once rows are set over others
get-sets : (es : List (List ℕ × List ℕ)) (rows : Rows) (q : List ℕ) → T (is_sorted byte_order es)
    → map.get (rows_after rows (sets_of es)) q ≡ or_else (find byte_order q es) (map.get rows q)
get-sets [] rows q sorted = refl
get-sets (e ∷ es) rows q sorted =
    get-sets es (map.insert rows e.0 e.1) q (both_second _ _ sorted)
    ∙ ap (or_else (find byte_order q es)) (after_insert rows e.0 e.1 q)
    ∙ first_or (byte_order q e.0) (find byte_order q es) (map.get rows q) e.1
    (λ tied. find_below q es (subst (λ k. T (below_all byte_order k es)) (sym (same_bytes q e.0 tied)) (both_first _ _ sorted)))

-- set over none they are the rows
pub rows_made : (rows : Rows) → rows_after map.empty (row_sets rows) ≡ rows
rows_made rows = same _ _ (λ q. get-sets (map.entries rows) map.empty q (entries_sorted rows)
    ∙ ap (or_else (find byte_order q (map.entries rows))) (get-empty byte_order q)
    ∙ or_none (find byte_order q (map.entries rows))
    ∙ sym (get-entries rows q))

-- ---- how long they are

pub size-sets : (es : List (List ℕ × List ℕ)) → length (ops_bytes (sets_of es)) ≡ list_size es
size-sets [] = refl
size-sets (e ∷ es) =
    let more = size-sets es in
    let one : length (op_bytes (Set e.0 e.1)) ≡ 7 + length e.0 + length e.1 = omega (arith, length-append (1 ∷ key_bytes e.0) (value_bytes e.1)) in
    ap length (flat_map-cons op_bytes (Set e.0 e.1) (sets_of es)) ∙ length-append (op_bytes (Set e.0 e.1)) (ops_bytes (sets_of es)) ∙ omega (arith, one, more)

pub row_sets_size : (rows : Rows) → length (ops_bytes (row_sets rows)) ≡ rows_size rows
row_sets_size rows = size-sets (map.entries rows)

-- how many they are
pub sets_count : (es : List (List ℕ × List ℕ)) → length (sets_of es) ≡ length es
sets_count [] = refl
sets_count (e ∷ es) = ap suc (sets_count es)

pub rows_fewer : (es : List (List ℕ × List ℕ)) → length es ≤ list_size es
rows_fewer [] = omega arith
rows_fewer (e ∷ es) = omega (arith, rows_fewer es)

-- ---- that they have a spelling

same_order : (o : Ordering) → o ≡ ordering_reverse o → o ≡ Equal
same_order Less is = absurd cc
same_order Equal is = refl
same_order Greater is = absurd cc

pub same_key : (key : List ℕ) → byte_order key key ≡ Equal
same_key key = same_order (byte_order key key) (nat_list_cmp_total.antisymm key key)

-- what stands under a key behind a row stands there with that row before it
behind_row : (e : List ℕ × List ℕ) (es : List (List ℕ × List ℕ)) (key value : List ℕ) → T (is_sorted byte_order (e ∷ es)) → find byte_order key es ≡ Some value
    → (o : Ordering) → byte_order key e.0 ≡ o → find byte_order key (e ∷ es) ≡ Some value
behind_row e es key value sorted is Less order = ap (λ o. cond (is_eq o) (Some e.1) (find byte_order key es)) order ∙ is
behind_row e es key value sorted is Greater order = ap (λ o. cond (is_eq o) (Some e.1) (find byte_order key es)) order ∙ is
behind_row e es key value sorted is Equal order =
    let none = find_below key es (subst (λ k. T (below_all byte_order k es)) (sym (same_bytes key e.0 order)) (both_first _ _ sorted)) in
    absurd (no_value (sym none ∙ is))
  where
    no_value : None ≡ Some value → ⊥
    no_value h = cc

each_fits : (es : List (List ℕ × List ℕ)) → T (is_sorted byte_order es)
    → ((key value : List ℕ) → find byte_order key es ≡ Some value → IsKey key × (length value < 2 ^ 32)) → AllFit (sets_of es)
each_fits [] sorted fit = tt
each_fits (e ∷ es) sorted fit = (
  fit e.0 e.1 (ap (λ o. cond (is_eq o) (Some e.1) (find byte_order e.0 es)) (same_key e.0)),
  each_fits es (both_second _ _ sorted) (λ key value is. fit key value (behind_row e es key value sorted is (byte_order key e.0) refl)),
)

pub rows_fit : (rows : Rows) → RowsFit rows → AllFit (row_sets rows)
rows_fit rows fit = each_fits (map.entries rows) (entries_sorted rows) (λ key value is. fit key value (get-entries rows key ∙ is))
