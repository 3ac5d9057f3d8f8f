-- Records one behind the other, as bytes.
use Rattle.std.proofs.Common.{◌≡◌, ℕ, ◌+◌, ◌-◌, ◌*◌, ◌<◌, List, [], ◌∷◌, ◌++◌, length, drop, get_or, refl, sym, ap, subst, ◌∙◌, append_assoc, arith}
use Rattle.std.proofs.lemmas.List.{append-nil, length-append, get_or-take, get_or-replicate}
use Rattle.byte_maps.specs.Units.{unit_at, zeros, IsUnits}
use Rattle.byte_maps.proofs.Prelude.{length-in_units}
use Rattle.meta_rows.specs.declared.row_op.RowOp.{RowOp}
use Rattle.meta_log.specs.Prelude.{record_bytes, record_units, unit_count, BeginsWithRecord, BeginsWithRecords, AreRecords, records_units}
use Rattle.store_image.specs.Prelude.{HoldsAsWritten, AreAsWritten}
use Rattle.log_facts.specs.Prelude.{IsSpellable, AreSpellable}

pub length-record_units : (number : ℕ) (ops : List RowOp) → length (record_units number ops) ≡ 4096 * unit_count number ops
length-record_units number ops = length-in_units (record_bytes number ops)

-- ---- one more record

pub records_units-push : (number : ℕ) (recs : List (List RowOp)) (ops : List RowOp)
    → records_units number (recs ++ ops ∷ []) ≡ records_units number recs ++ record_units (number + length recs) ops
records_units-push number [] ops = append-nil (record_units number ops) ∙ ap (λ n. record_units n ops) (omega arith)
records_units-push number (first ∷ recs) ops =
    let more : records_units (number + 1) (recs ++ ops ∷ []) ≡ records_units (number + 1) recs ++ record_units (number + length (first ∷ recs)) ops =
    records_units-push (number + 1) recs ops ∙ ap (λ n. records_units (number + 1) recs ++ record_units n ops) (omega arith) in
    ap (λ l. record_units number first ++ l) more
    ∙ sym (append_assoc (record_units number first) (records_units (number + 1) recs) (record_units (number + length (first ∷ recs)) ops))

pub spellable-push : (number : ℕ) (recs : List (List RowOp)) (ops : List RowOp) → AreSpellable number recs
    → IsSpellable (number + length recs) ops → AreSpellable number (recs ++ ops ∷ [])
spellable-push number [] ops are is = (subst (λ n. IsSpellable n ops) (omega arith) is, tt)
spellable-push number (first ∷ recs) ops are is = (are.0, spellable-push (number + 1) recs ops are.1 (subst (λ n. IsSpellable n ops) (omega arith) is))

-- ---- what bytes begin with

begins : (number : ℕ) (ops : List RowOp) (rest : List ℕ) → IsSpellable number ops → BeginsWithRecord (record_units number ops ++ rest) number ops rest
begins number ops rest is = record { spelled = refl; number_below = is.number_below; body_below = is.body_below; fit = is.fit }

-- these are all the records, where none begins behind them
pub are_records : (number : ℕ) (recs : List (List RowOp)) (behind : List ℕ) → AreSpellable number recs
    → ((ops : List RowOp) (rest : List ℕ) → BeginsWithRecord behind (number + length recs) ops rest → ⊥)
    → AreRecords recs number (records_units number recs ++ behind)
are_records number [] behind are none = λ ops rest is. none ops rest (subst (λ n. BeginsWithRecord behind n ops rest) (omega arith) is)
are_records number (first ∷ recs) behind are none =
    let others = are_records (number + 1) recs behind are.1 (λ ops rest is. none ops rest (subst (λ n. BeginsWithRecord behind n ops rest) (omega arith) is)) in
    let bytes = records_units (number + 1) recs ++ behind in
    let spelled : (record_units number first ++ records_units (number + 1) recs) ++ behind ≡ record_units number first ++ bytes =
    append_assoc (record_units number first) (records_units (number + 1) recs) behind in
    (bytes, subst (λ l. BeginsWithRecord l number first bytes) (sym spelled) (begins number first bytes are.0), others)

-- a record that begins behind them is one more
pub begin_records : (number : ℕ) (recs : List (List RowOp)) (behind : List ℕ) (ops : List RowOp) (rest : List ℕ) → AreSpellable number recs
    → BeginsWithRecord behind (number + length recs) ops rest → BeginsWithRecords (recs ++ ops ∷ []) number (records_units number recs ++ behind)
begin_records number [] behind ops rest are is = (rest, subst (λ n. BeginsWithRecord behind n ops rest) (omega arith) is, tt)
begin_records number (first ∷ recs) behind ops rest are is =
    let others = begin_records (number + 1) recs behind ops rest are.1 (subst (λ n. BeginsWithRecord behind n ops rest) (omega arith) is) in
    let bytes = records_units (number + 1) recs ++ behind in
    let spelled : (record_units number first ++ records_units (number + 1) recs) ++ behind ≡ record_units number first ++ bytes =
    append_assoc (record_units number first) (records_units (number + 1) recs) behind in
    (bytes, subst (λ l. BeginsWithRecord l number first bytes) (sym spelled) (begins number first bytes are.0), others)

-- and if each stands as it was written, so does the last one
pub last_as_written : (number unit tail : ℕ) (recs : List (List RowOp)) (ops : List RowOp) (image written : List ℕ) → IsUnits tail (records_units number recs)
    → AreAsWritten (recs ++ ops ∷ []) number unit image written → HoldsAsWritten image written (unit + tail) (unit_count (number + length recs) ops)
last_as_written number unit tail [] ops image written whole all =
    let here : unit ≡ unit + tail = omega (arith, whole) in
    let same : number ≡ number + 0 = omega arith in
    subst (λ n. HoldsAsWritten image written (unit + tail) (unit_count n ops)) same
    (subst (λ u. HoldsAsWritten image written u (unit_count number ops)) here all.0)
last_as_written number unit tail (first ∷ recs) ops image written whole all =
    let count = unit_count number first in
    let sizes : 4096 * count + length (records_units (number + 1) recs) ≡ 4096 * tail =
    omega (arith, whole, length-append (record_units number first) (records_units (number + 1) recs), length-record_units number first) in
    let found = last_as_written (number + 1) (unit + count) (tail - count) recs ops image written (omega (arith, sizes)) all.1 in
    let here : unit + count + (tail - count) ≡ unit + tail = omega (arith, sizes) in
    let same : number + 1 + length recs ≡ number + length (first ∷ recs) = omega arith in
    subst (λ n. HoldsAsWritten image written (unit + tail) (unit_count n ops)) same
    (subst (λ u. HoldsAsWritten image written u (unit_count (number + 1 + length recs) ops)) here found)

-- ---- where no record begins

head_of_unit : (xs : List ℕ) → get_or (unit_at 0 xs) 0 0 ≡ get_or xs 0 0
unfolding unit_at
head_of_unit xs = get_or-take 4096 (drop (4096 * 0) xs) 0 0 (omega arith)

head_of_zeros : get_or (zeros 4096) 0 0 ≡ 0
unfolding zeros
head_of_zeros = get_or-replicate 4096 0 0 0 (omega arith)

pub no_record_in_zeros : (bytes : List ℕ) (number : ℕ) (ops : List RowOp) (rest : List ℕ) → unit_at 0 bytes ≡ zeros 4096
    → BeginsWithRecord bytes number ops rest → ⊥
no_record_in_zeros bytes number ops rest zero is =
    let never = sym head_of_zeros ∙ ap (λ l. get_or l 0 0) (sym zero) ∙ head_of_unit bytes ∙ ap (λ l. get_or l 0 0) is.spelled in omega (arith, never)

pub no_record_in_nothing : (bytes : List ℕ) (number : ℕ) (ops : List RowOp) (rest : List ℕ) → length bytes ≡ 0 → BeginsWithRecord bytes number ops rest → ⊥
no_record_in_nothing bytes number ops rest none is = let never = sym none ∙ ap length is.spelled in omega (arith, never)

-- a record is some units long
pub record_has_units : (number : ℕ) (ops : List RowOp) → 0 < unit_count number ops
record_has_units number ops = let some : 0 < length (record_bytes number ops) = omega arith in omega (arith, some)
