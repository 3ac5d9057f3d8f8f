-- Records one behind the other, as far as they were read.
use Rattle.std.proofs.Common.{◌≡◌, ℕ, ◌+◌, ◌*◌, List, [], ◌∷◌, ◌++◌, length, refl, sym, ap, subst, arith}
use Rattle.std.proofs.lemmas.List.{length-append}
use Rattle.meta_rows.specs.declared.row_op.RowOp.{RowOp}
use Rattle.meta_log.specs.Prelude.{record_units, unit_count, BeginsWithRecord, AreRecords, units_of_records}
use Rattle.meta_log.proofs.SealLemmas.{length-record_units}

-- the bytes are records of consecutive numbers from this one on, and these bytes behind them
abbrev pub StandUpTo : List (List RowOp) → ℕ → List ℕ → List ℕ → Type 0
StandUpTo [] number bytes left = bytes ≡ left
StandUpTo (ops ∷ more) number bytes left = (rest : List ℕ) × BeginsWithRecord bytes number ops rest × StandUpTo more (number + 1) rest left

-- one more
pub one_more : (records : List (List RowOp)) (number next : ℕ) (bytes left rest : List ℕ) (ops : List RowOp) → StandUpTo records number bytes left
    → next ≡ number + length records → BeginsWithRecord left next ops rest → StandUpTo (records ++ ops ∷ []) number bytes rest
one_more [] number next bytes left rest ops stand is here =
    let same : next ≡ number = omega (arith, is) in
    (rest, subst (λ (b : List ℕ). BeginsWithRecord b number ops rest) (sym stand) (subst (λ (n : ℕ). BeginsWithRecord left n ops rest) same here), refl)
one_more (first ∷ records) number next bytes left rest ops stand is here =
    (stand.0, stand.1, one_more records (number + 1) next stand.0 left rest ops stand.2 (omega (arith, is)) here)

-- where no further record stands, they are all
pub these_are_all : (records : List (List RowOp)) (number next : ℕ) (bytes left : List ℕ) → StandUpTo records number bytes left
    → next ≡ number + length records → ((ops : List RowOp) (rest : List ℕ) → ¬ (BeginsWithRecord left next ops rest)) → AreRecords records number bytes
these_are_all [] number next bytes left stand is none = λ ops rest here.
    let same : number ≡ next = omega (arith, is) in
    none ops rest (subst (λ (b : List ℕ). BeginsWithRecord b next ops rest) stand (subst (λ (n : ℕ). BeginsWithRecord bytes n ops rest) same here))
these_are_all (first ∷ records) number next bytes left stand is none =
    (stand.0, stand.1, these_are_all records (number + 1) next stand.0 left stand.2 (omega (arith, is)) none)

-- the units of one more
pub units-one_more : (records : List (List RowOp)) (number next : ℕ) (ops : List RowOp) → next ≡ number + length records
    → units_of_records number (records ++ ops ∷ []) ≡ units_of_records number records + unit_count next ops
units-one_more [] number next ops is = let same : number ≡ next = omega (arith, is) in omega (arith, ap (λ (n : ℕ). unit_count n ops) same)
units-one_more (first ∷ records) number next ops is = omega (arith, units-one_more records (number + 1) next ops (omega (arith, is)))

-- a record and what is behind it
pub length-with_record : (bytes : List ℕ) (number : ℕ) (ops : List RowOp) (rest : List ℕ) → BeginsWithRecord bytes number ops rest
    → length bytes ≡ 4096 * unit_count number ops + length rest
length-with_record bytes number ops rest here =
    omega (arith, ap length here.spelled, length-append (record_units number ops) rest, length-record_units number ops)
