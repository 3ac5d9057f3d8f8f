-- The records that stand one behind the other are determined.
use Rattle.std.proofs.Common.{◌≡◌, ℕ, ◌+◌, ◌-◌, ◌*◌, ◌^◌, ◌≤◌, List, [], ◌∷◌, ◌++◌, length, drop, refl, sym, ap, subst, ◌∙◌, append_assoc, arith}
use Rattle.std.specs.Int.{w32, w64, to_le_bytes}
use Rattle.std.proofs.lemmas.List.{length-append}
use Rattle.std.proofs.lemmas.List.Concat.{flat_map-cons}
use Rattle.crc32c_csum.specs.Prelude.{crc32c}
use Rattle.meta_rows.specs.declared.row_op.RowOp.{RowOp}
use Rattle.meta_rows.specs.Prelude.{op_bytes, ops_bytes}
use Rattle.byte_maps.specs.Units.{zeros, units_for}
use Rattle.meta_log.specs.Prelude.{record_head, record_bytes, record_units, BeginsWithRecord, AreRecords}
use Rattle.meta_rows.proofs.FieldLemmas.{same_front, number_front, wide32, wide64}
use Rattle.meta_rows.proofs.Ops.{ops_front, length-op_bytes}

pub count_below : (ops : List RowOp) → length ops ≤ length (ops_bytes ops)
count_below [] = omega arith
count_below (op ∷ ops) = omega (arith, count_below ops, length-op_bytes op, ap length (flat_map-cons op_bytes op ops), length-append (op_bytes op) (ops_bytes ops))

-- the fields of a record, one behind the other
abbrev fields : ℕ → List RowOp → List ℕ → List ℕ
fields number ops tail =
    to_le_bytes w32 (length (ops_bytes ops)) ++ (to_le_bytes w64 number ++ (to_le_bytes w32 (length ops) ++ (to_le_bytes w32 (crc32c (record_head number ops ++ ops_bytes ops)) ++ (ops_bytes ops ++ tail))))

abbrev pad : ℕ → List RowOp → List ℕ
pad number ops = zeros (4096 * units_for (length (record_bytes number ops)) - length (record_bytes number ops))

as_fields : (number : ℕ) (ops : List RowOp) (rest : List ℕ) → record_units number ops ++ rest ≡ 0x42 ∷ 0x52 ∷ 0x45 ∷ 0x43 ∷ fields number ops (pad number ops ++ rest)
as_fields number ops rest =
    let sum = to_le_bytes w32 (crc32c (record_head number ops ++ ops_bytes ops)) in
    append_assoc (record_bytes number ops) (pad number ops) rest
    ∙ append_assoc (record_head number ops ++ sum) (ops_bytes ops) (pad number ops ++ rest)
    ∙ append_assoc (record_head number ops) sum (ops_bytes ops ++ (pad number ops ++ rest))

pub same_record : (bytes : List ℕ) (number : ℕ) (a b : List RowOp) (x y : List ℕ) → BeginsWithRecord bytes number a x → BeginsWithRecord bytes number b y → (a ≡ b) × (x ≡ y)
same_record bytes number a b x y p q =
    let e : record_units number a ++ x ≡ record_units number b ++ y = sym p.spelled ∙ q.spelled in
    let f : fields number a (pad number a ++ x) ≡ fields number b (pad number b ++ y) = ap (drop 4) (sym (as_fields number a x) ∙ e ∙ as_fields number b y) in
    let len = number_front w32 (2 ^ 32) wide32 (length (ops_bytes a)) (length (ops_bytes b)) _ _ p.body_below q.body_below f in
    let num = number_front w64 (2 ^ 64) wide64 number number _ _ (omega (arith, p.number_below)) (omega (arith, p.number_below)) len.1 in
    let count = number_front w32 (2 ^ 32) wide32 (length a) (length b) _ _ (omega (arith, count_below a, p.body_below)) (omega (arith, count_below b, q.body_below)) num.1 in
    let sum = same_front (to_le_bytes w32 (crc32c (record_head number a ++ ops_bytes a))) (to_le_bytes w32 (crc32c (record_head number b ++ ops_bytes b))) _ _ refl count.1 in
    let ops = ops_front a b _ _ count.0 p.fit q.fit sum.1 in
    let rest = same_front (record_units number a) (record_units number b) x y (ap (λ o. length (record_units number o)) ops.0) e in
    (ops.0, rest.1)

pub same_records : (a b : List (List RowOp)) (number : ℕ) (bytes : List ℕ) → AreRecords a number bytes → AreRecords b number bytes → a ≡ b
same_records [] [] number bytes p q = refl
same_records [] (ops ∷ b) number bytes p q = absurd (p ops q.0 q.1)
same_records (ops ∷ a) [] number bytes p q = absurd (q ops p.0 p.1)
same_records (o ∷ a) (u ∷ b) number bytes p q =
    let first = same_record bytes number o u p.0 q.0 p.1 q.1 in
    let others = same_records a b (number + 1) q.0 (subst (AreRecords a (number + 1)) first.1 p.2) q.2 in
    λ i. first.0 i ∷ others i
