-- One row after operations, whatever the others are.
use Rattle.std.proofs.Common.{◌≡◌, ◌⊎◌, inl, inr, ℕ, true, false, cond, List, [], ◌∷◌, Option, Some, None, sym, ap, subst, ◌∙◌}
use Rattle.std.specs.Prelude.{unwrap_or}
use Rattle.std.specs.List.{AllByRecursion}
use Rattle.std.specs.FinMap as finite
use Rattle.meta_rows.specs.Prelude.{Rows, row, row_after, rows_after, key_of, LeaveAlone, xor_bytes, all_zero}
use Rattle.meta_rows.specs.declared.row_op.RowOp.{RowOp}
use Rattle.meta_rows.specs.declared.row_op.RowOp.TheVariants.{Set, Drop, Flip}
use Rattle.meta_rows.proofs.RowLemmas.{get-insert_same, get-remove_same, get-row_after_other}
use Rattle.bitmap_freelist.proofs.Turning.{cases_key}

pub get-flip : (rows : Rows) (key mask : List ℕ)
    → finite.get (row_after rows (Flip key mask)) key ≡ cond (all_zero (xor_bytes (unwrap_or (finite.get rows key) []) mask)) None
    (Some (xor_bytes (unwrap_or (finite.get rows key) []) mask))
get-flip rows key mask =
    let value : List ℕ = xor_bytes (row rows key) mask in
    elim (all_zero value) as (λ b. finite.get (cond b (finite.remove rows key) (finite.insert rows key value)) key ≡ cond b None (Some value)) [
      | true ↦ get-remove_same rows key
      | false ↦ get-insert_same rows key value
    ]

own_alike : (rows other : Rows) (op : RowOp) → finite.get rows (key_of op) ≡ finite.get other (key_of op)
    → finite.get (row_after rows op) (key_of op) ≡ finite.get (row_after other op) (key_of op)
own_alike rows other (Set key value) e = get-insert_same rows key value ∙ sym (get-insert_same other key value)
own_alike rows other (Drop key) e = get-remove_same rows key ∙ sym (get-remove_same other key)
own_alike rows other (Flip key mask) e =
    get-flip rows key mask
    ∙ ap (λ (held : Option (List ℕ)). cond (all_zero (xor_bytes (unwrap_or held []) mask)) None (Some (xor_bytes (unwrap_or held []) mask))) e
    ∙ sym (get-flip other key mask)

one_alike : (rows other : Rows) (op : RowOp) (key : List ℕ) → finite.get rows key ≡ finite.get other key
    → finite.get (row_after rows op) key ≡ finite.get (row_after other op) key
one_alike rows other op key e = elim (cases_key (key_of op) key) [
  | inl is ↦ subst (λ k. finite.get (row_after rows op) k ≡ finite.get (row_after other op) k) is
      (own_alike rows other op (subst (λ k. finite.get rows k ≡ finite.get other k) (sym is) e))
  | inr differ ↦ get-row_after_other rows op key differ ∙ e ∙ sym (get-row_after_other other op key differ)
]

-- it depends on what it was alone
pub after_alike : (ops : List RowOp) (rows other : Rows) (key : List ℕ) → finite.get rows key ≡ finite.get other key
    → finite.get (rows_after rows ops) key ≡ finite.get (rows_after other ops) key
after_alike [] rows other key e = e
after_alike (op ∷ ops) rows other key e = after_alike ops (row_after rows op) (row_after other op) key (one_alike rows other op key e)

-- it is left alone, or its key is one of theirs
pub alone_or : (P : List ℕ → Type 0) (ops : List RowOp) (key : List ℕ) → AllByRecursion (λ op. P (key_of op)) ops → LeaveAlone ops key ⊎ P key
alone_or P [] key all = inl tt
alone_or P (op ∷ ops) key all = elim (cases_key (key_of op) key) [
  | inl is ↦ inr (subst P is all.0)
  | inr differ ↦ elim (alone_or P ops key all.1) [ inl alone ↦ inl (differ, alone) | inr p ↦ inr p ]
]
