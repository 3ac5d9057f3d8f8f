-- Operations that have a spelling leave rows that do.
use Rattle.std.proofs.Common.{◌≡◌, ℕ, zero, suc, ◌<◌, ◌^◌, Bool, true, false, cond, List, [], ◌∷◌, length, Option, Some, None, refl, sym, ap, subst, ◌∙◌, arith}
use Rattle.std.specs.Prelude.{unwrap_or}
use Rattle.std.specs.Ordering.{is_eq, eq_by_cmp}
use Rattle.std.specs.declared.cmp.Ordering.{Ordering}
use Rattle.std.specs.declared.cmp.Ordering.TheVariants.{Less, Equal, Greater}
use Rattle.std.specs.FinMap as map
use Rattle.std.specs.FinMap.{get-empty}
use Rattle.byte_maps.specs.ByteMap.{byte_order}
use Rattle.byte_maps.proofs.Prelude.{same_bytes, after_insert, after_remove}
use Rattle.meta_rows.specs.declared.row_op.RowOp.{RowOp}
use Rattle.meta_rows.specs.declared.row_op.RowOp.TheVariants.{Set, Drop, Flip}
use Rattle.meta_rows.specs.Prelude.{Rows, xor_bytes, all_zero, row, row_after, rows_after, IsKey, FitsRowOp, AllFit, RowsFit}

equal : (o : Ordering) → is_eq o ≡ true → o ≡ Equal
equal Less is = absurd cc
equal Equal is = refl
equal Greater is = absurd cc

equal_keys : (a b : List ℕ) → eq_by_cmp byte_order a b ≡ true → a ≡ b
equal_keys a b same = same_bytes a b (equal (byte_order a b) same)

some_same : (a b : List ℕ) → Some a ≡ Some b → a ≡ b
some_same a b is = ap (λ (o : Option (List ℕ)). unwrap_or o []) is

-- a row that is set, with a key and a value that fit
fit_insert : (rows : Rows) (k v : List ℕ) → RowsFit rows → IsKey k → length v < 2 ^ 32 → RowsFit (map.insert rows k v)
fit_insert rows k v fit key short q value is = by (eq_by_cmp byte_order q k) refl (sym (after_insert rows k v q) ∙ is)
  where
    by : (b : Bool) → eq_by_cmp byte_order q k ≡ b → cond b (Some v) (map.get rows q) ≡ Some value → IsKey q × (length value < 2 ^ 32)
    by true same stands =
        (subst IsKey (sym (equal_keys q k same)) key, subst (λ (bytes : List ℕ). length bytes < 2 ^ 32) (some_same v value stands) short)
    by false same stands = fit q value stands

fit_remove : (rows : Rows) (k : List ℕ) → RowsFit rows → RowsFit (map.remove rows k)
fit_remove rows k fit q value is = by (eq_by_cmp byte_order q k) (sym (after_remove rows k q) ∙ is)
  where
    by : (b : Bool) → cond b None (map.get rows q) ≡ Some value → IsKey q × (length value < 2 ^ 32)
    by true stands = absurd cc
    by false stands = fit q value stands

xor_within : (xs ys : List ℕ) (n : ℕ) → length xs < n → length ys < n → length (xor_bytes xs ys) < n
xor_within xs ys zero a b = absurd (omega (arith, a))
xor_within [] ys (suc n) a b = b
xor_within (x ∷ xs) [] (suc n) a b = a
xor_within (x ∷ xs) (y ∷ ys) (suc n) a b = omega (arith, xor_within xs ys n (omega (arith, a)) (omega (arith, b)))

row_short : (rows : Rows) (k : List ℕ) → RowsFit rows → (held : Option (List ℕ)) → map.get rows k ≡ held → length (unwrap_or held []) < 2 ^ 32
row_short rows k fit None is = omega arith
row_short rows k fit (Some value) is = (fit k value is).1

fit_after : (rows : Rows) (op : RowOp) → RowsFit rows → FitsRowOp op → RowsFit (row_after rows op)
fit_after rows (Set k v) fit is = fit_insert rows k v fit is.0 is.1
fit_after rows (Drop k) fit is = fit_remove rows k fit
fit_after rows (Flip k mask) fit is =
    let value : List ℕ = xor_bytes (row rows k) mask in
    let short = xor_within (row rows k) mask (2 ^ 32) (row_short rows k fit (map.get rows k) refl) is.1 in
    elim (all_zero value) as (λ b. RowsFit (cond b (map.remove rows k) (map.insert rows k value))) [
      | true ↦ fit_remove rows k fit
      | false ↦ fit_insert rows k value fit is.0 short
    ]

pub fit_still : (rows : Rows) (ops : List RowOp) → RowsFit rows → AllFit ops → RowsFit (rows_after rows ops)
fit_still rows [] fit all = fit
fit_still rows (op ∷ ops) fit all = fit_still (row_after rows op) ops (fit_after rows op fit all.0) all.1

pub fit_none : RowsFit map.empty
fit_none key value is = absurd (no_value (sym (get-empty byte_order key) ∙ is))
  where
    no_value : None ≡ Some value → ⊥
    no_value h = cc
