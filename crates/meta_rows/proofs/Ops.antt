-- No spelling of a row operation begins another.
use Rattle.std.proofs.Common.{◌≡◌, ℕ, ◌^◌, ◌<◌, List, [], ◌∷◌, ◌++◌, length, drop, refl, sym, ap, ◌∙◌, append_assoc, arith}
use Rattle.std.specs.Int.{w16, w32}
use Rattle.std.proofs.lemmas.List.{length-append}
use Rattle.std.proofs.lemmas.List.Concat.{flat_map-cons}
use Rattle.meta_rows.specs.declared.row_op.RowOp.{RowOp}
use Rattle.meta_rows.specs.declared.row_op.RowOp.TheVariants.{Set, Drop, Flip}
use Rattle.meta_rows.specs.Prelude.{key_bytes, value_bytes, op_bytes, ops_bytes, IsKey, FitsRowOp, AllFit}
use Rattle.meta_rows.proofs.FieldLemmas.{text_front, wide16, wide32}

rest_of : (a b : ℕ) (x y : List ℕ) → a ∷ x ≡ b ∷ y → x ≡ y
rest_of a b x y e = ap (λ l. drop 1 l) e

pub key_front : (a b x y : List ℕ) → IsKey a → IsKey b → key_bytes a ++ x ≡ key_bytes b ++ y → (a ≡ b) × (x ≡ y)
key_front a b x y fa fb e = text_front w16 (2 ^ 16) wide16 a b x y (omega (arith, fa.short)) (omega (arith, fb.short)) e

both_front : (a b v w x y : List ℕ) → IsKey a → IsKey b → length v < 2 ^ 32 → length w < 2 ^ 32 → (key_bytes a ++ value_bytes v) ++ x ≡ (key_bytes b ++ value_bytes w) ++ y → (a ≡ b) × (v ≡ w) × (x ≡ y)
both_front a b v w x y fa fb fv fw e =
    let k = key_front a b (value_bytes v ++ x) (value_bytes w ++ y) fa fb (sym (append_assoc (key_bytes a) (value_bytes v) x) ∙ e ∙ append_assoc (key_bytes b) (value_bytes w) y) in
    let r = text_front w32 (2 ^ 32) wide32 v w x y fv fw k.1 in
    (k.0, r.0, r.1)

pub op_front : (a b : RowOp) (x y : List ℕ) → FitsRowOp a → FitsRowOp b → op_bytes a ++ x ≡ op_bytes b ++ y → (a ≡ b) × (x ≡ y)
op_front (Set k v) (Set l w) x y fa fb e = let f = both_front k l v w x y fa.0 fb.0 fa.1 fb.1 (rest_of _ _ _ _ e) in (λ i. Set (f.0 i) (f.1 i), f.2)
op_front (Set k v) (Drop l) x y fa fb e = absurd cc
op_front (Set k v) (Flip l w) x y fa fb e = absurd cc
op_front (Drop k) (Set l w) x y fa fb e = absurd cc
op_front (Drop k) (Drop l) x y fa fb e = let f = key_front k l x y fa fb (rest_of _ _ _ _ e) in (ap Drop f.0, f.1)
op_front (Drop k) (Flip l w) x y fa fb e = absurd cc
op_front (Flip k v) (Set l w) x y fa fb e = absurd cc
op_front (Flip k v) (Drop l) x y fa fb e = absurd cc
op_front (Flip k v) (Flip l w) x y fa fb e = let f = both_front k l v w x y fa.0 fb.0 fa.1 fb.1 (rest_of _ _ _ _ e) in (λ i. Flip (f.0 i) (f.1 i), f.2)

pub ops_front : (a b : List RowOp) (x y : List ℕ) → length a ≡ length b → AllFit a → AllFit b → ops_bytes a ++ x ≡ ops_bytes b ++ y → (a ≡ b) × (x ≡ y)
ops_front [] [] x y long fa fb e = (refl, e)
ops_front [] (q ∷ b) x y long fa fb e = absurd (omega (arith, long))
ops_front (p ∷ a) [] x y long fa fb e = absurd (omega (arith, long))
ops_front (p ∷ a) (q ∷ b) x y long fa fb e =
    let regrouped : op_bytes p ++ (ops_bytes a ++ x) ≡ op_bytes q ++ (ops_bytes b ++ y) =
    sym (ap (λ l. l ++ x) (flat_map-cons op_bytes p a) ∙ append_assoc (op_bytes p) (ops_bytes a) x) ∙ e ∙ ap (λ l. l ++ y) (flat_map-cons op_bytes q b) ∙ append_assoc (op_bytes q) (ops_bytes b) y in
    let first = op_front p q (ops_bytes a ++ x) (ops_bytes b ++ y) fa.0 fb.0 regrouped in
    let others = ops_front a b x y (omega (arith, long)) fa.1 fb.1 first.1 in
    (λ i. first.0 i ∷ others.0 i, others.1)

pub length-op_bytes : (op : RowOp) → 0 < length (op_bytes op)
length-op_bytes (Set k v) = omega arith
length-op_bytes (Drop k) = omega arith
length-op_bytes (Flip k v) = omega arith

nothing_spelled : (op : RowOp) (ops : List RowOp) → ops_bytes (op ∷ ops) ≡ [] → ⊥
nothing_spelled op ops e = absurd (omega (arith, length-op_bytes op, length-append (op_bytes op) (ops_bytes ops), ap length (sym (flat_map-cons op_bytes op ops) ∙ e)))

pub ops_bytes-same : (a b : List RowOp) → AllFit a → AllFit b → ops_bytes a ≡ ops_bytes b → a ≡ b
ops_bytes-same [] [] fa fb e = refl
ops_bytes-same [] (q ∷ b) fa fb e = absurd (nothing_spelled q b (sym e))
ops_bytes-same (p ∷ a) [] fa fb e = absurd (nothing_spelled p a e)
ops_bytes-same (p ∷ a) (q ∷ b) fa fb e =
    let first = op_front p q (ops_bytes a) (ops_bytes b) fa.0 fb.0 (sym (flat_map-cons op_bytes p a) ∙ e ∙ flat_map-cons op_bytes q b) in
    let others = ops_bytes-same a b fa.1 fb.1 first.1 in
    λ i. first.0 i ∷ others i
