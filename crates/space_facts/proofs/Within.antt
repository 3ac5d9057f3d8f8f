-- Operations make rows longer by their own bytes at most, so that the rows as one record take no more units than the records that made them.
use Rattle.std.proofs.Common.{◌≡◌, ℕ, zero, suc, ◌+◌, ◌-◌, ◌*◌, ◌<◌, ◌≤◌, List, [], ◌∷◌, ◌++◌, length, refl, sym, ap, subst, ◌∙◌, length-append, arith}
use Rattle.std.proofs.lemmas.List.Concat.{flat_map-cons}
use Rattle.std.specs.List.{AllByRecursion}
use Rattle.std.specs.FinMap as finite
use Rattle.byte_maps.specs.Units.{units_for}
use Rattle.meta_rows.specs.declared.row_op.RowOp.{RowOp}
use Rattle.meta_rows.specs.Prelude.{Rows, rows_after, rows_of_records, op_bytes, ops_bytes, row_sets, rows_size}
use Rattle.meta_rows.proofs.Ops.{length-op_bytes}
use Rattle.meta_rows.proofs.SetLemmas.{row_sets_size}
use Rattle.meta_rows.proofs.RowLemmas.{size-rows_after, rows_size-empty}
use Rattle.meta_log.specs.Prelude.{unit_count, units_of_records, one_record, check_units}
use Rattle.meta_log.proofs.SealLemmas.{length-record_bytes}
use Rattle.store_steps.specs.Prelude.{Intent, rows_by, ops_by, needs_by, RowsPart, with_accepted, applied, rewritten, body_units, rows_units, NeedsEnough, AreRowsWithin}
use Rattle.space_facts.proofs.Rows.{rows_append, rows_by_ops}

-- ---- units

-- the bytes of two records as one
body_units-more : (c a b : ℕ) → c ≤ a + b → body_units c ≤ body_units a + units_for (24 + b)
body_units-more zero a b le = omega arith
body_units-more (suc c) zero b le = omega (arith, le)
body_units-more (suc c) (suc a) b le = omega (arith, le)

body_units-bytes : (n : ℕ) → n ≤ 4096 * body_units n
body_units-bytes zero = omega arith
body_units-bytes (suc n) = omega arith

-- ---- rows

pub rows_units-bytes : (rows : Rows) → rows_size rows ≤ 4096 * rows_units rows
rows_units-bytes rows = body_units-bytes (rows_size rows)

-- after the operations of one record
pub rows_units-after : (rows : Rows) (number : ℕ) (ops : List RowOp) → rows_units (rows_after rows ops) ≤ rows_units rows + unit_count number ops
rows_units-after rows number ops = subst (λ n. rows_units (rows_after rows ops) ≤ rows_units rows + units_for n) (sym (length-record_bytes number ops))
    (body_units-more (rows_size (rows_after rows ops)) (rows_size rows) (length (ops_bytes ops)) (size-rows_after rows ops))

-- after those of records
units_after_records : (rows : Rows) (number : ℕ) (records : List (List RowOp))
    → rows_units (rows_of_records rows records) ≤ rows_units rows + units_of_records number records
units_after_records rows number [] = omega arith
units_after_records rows number (ops ∷ records) =
    let one : rows_units (rows_after rows ops) ≤ rows_units rows + unit_count number ops = rows_units-after rows number ops in
    let rest : rows_units (rows_of_records (rows_after rows ops) records) ≤ rows_units (rows_after rows ops) + units_of_records (number + 1) records =
    units_after_records (rows_after rows ops) (number + 1) records in
    both (rows_units (rows_of_records (rows_after rows ops) records)) (rows_units (rows_after rows ops)) (rows_units rows) (unit_count number ops)
    (units_of_records (number + 1) records) one rest
  where
    both : (last next first one rest : ℕ) → next ≤ first + one → last ≤ next + rest → last ≤ first + (one + rest)
    both last next first one rest le more = omega (arith, le, more)

pub rows_units-records : (number : ℕ) (records : List (List RowOp)) → rows_units (rows_of_records finite.empty records) ≤ units_of_records number records
rows_units-records number records =
    none (rows_units (rows_of_records finite.empty records)) (rows_units finite.empty) (units_of_records number records) (ap body_units rows_size-empty)
    (units_after_records finite.empty number records)
  where
    none : (last first units : ℕ) → first ≡ 0 → last ≤ first + units → last ≤ units
    none last first units is le = omega (arith, is, le)

some_bytes : (op : RowOp) (ops : List RowOp) → length (ops_bytes (op ∷ ops)) ≡ 0 → ⊥
some_bytes op ops none = never (length (op_bytes op)) (length (ops_bytes ops)) (length (ops_bytes (op ∷ ops)))
    (ap (λ (bytes : List ℕ). length bytes) (flat_map-cons op_bytes op ops) ∙ length-append (op_bytes op) (ops_bytes ops)) (length-op_bytes op) none
  where
    never : (one rest all : ℕ) → all ≡ one + rest → 0 < one → all ≡ 0 → ⊥
    never one rest all is some none = omega (arith, is, some, none)

-- as one record, whatever its number is
check_body : (number : ℕ) (ops : List RowOp) → units_of_records number (one_record ops) ≡ body_units (length (ops_bytes ops))
check_body number [] = refl
check_body number (op ∷ ops) = of_size (length (ops_bytes (op ∷ ops))) refl
  where
    of_size : (n : ℕ) → length (ops_bytes (op ∷ ops)) ≡ n → unit_count number (op ∷ ops) + 0 ≡ body_units n
    of_size zero none = absurd (some_bytes op ops none)
    of_size (suc n) is = one (unit_count number (op ∷ ops)) (units_for (24 + suc n))
        (ap units_for (length-record_bytes number (op ∷ ops) ∙ ap (λ k. 24 + k) is))
      where
        one : (a b : ℕ) → a ≡ b → a + 0 ≡ b
        one a b is = omega (arith, is)

pub check_units_are : (number : ℕ) (rows : Rows) → check_units number rows ≡ rows_units rows
check_units_are number rows = check_body number (row_sets rows) ∙ ap body_units (row_sets_size rows)

-- after those of intents
rows_units-by : (rows : Rows) (xs : List Intent) → AllByRecursion NeedsEnough xs → rows_units (rows_by rows xs) ≤ rows_units rows + needs_by xs
rows_units-by rows [] enough = omega arith
rows_units-by rows (x ∷ xs) enough =
    both (rows_units (rows_by (rows_after rows x.ops) xs)) (rows_units (rows_after rows x.ops)) (rows_units rows) (unit_count 0 x.ops) x.need (needs_by xs)
    (rows_units-after rows 0 x.ops) (enough.0 0) (rows_units-by (rows_after rows x.ops) xs enough.1)
  where
    both : (last next first one need rest : ℕ) → next ≤ first + one → one ≤ need → last ≤ next + rest → last ≤ first + (need + rest)
    both last next first one need rest le few more = omega (arith, le, few, more)

-- ---- the kernel's rows

pub within_opened : (p : RowsPart) → p.submitted ≡ p.rows → rows_units p.rows ≤ p.tail → AreRowsWithin p
within_opened p same le = record {
  committed = le;
  submitted = more (rows_units p.submitted) (rows_units p.rows) p.reserved (ap rows_units same);
}
  where
    more : (a b reserved : ℕ) → a ≡ b → a ≤ b + reserved
    more a b reserved same = omega (arith, same)

pub within_joined : (p : RowsPart) (x : Intent) (more : ℕ) → NeedsEnough x → AreRowsWithin p → AreRowsWithin (with_accepted x more p)
within_joined p x makes enough within = record {
  committed = within.committed;
  submitted = more (rows_units (rows_after p.submitted x.ops)) (rows_units p.submitted) (unit_count 0 x.ops) (rows_units p.rows) p.reserved x.need
      (rows_units-after p.submitted 0 x.ops) (enough 0) within.submitted;
}
  where
    more : (a b one rows reserved need : ℕ) → a ≤ b + one → one ≤ need → b ≤ rows + reserved → a ≤ rows + (reserved + need)
    more a b one rows reserved need le few within = omega (arith, le, few, within)

pub within_applied : (p : RowsPart) (number : ℕ) (front back : List Intent) → p.submitted ≡ rows_by p.rows (front ++ back)
    → p.reserved ≡ needs_by front + needs_by back → AllByRecursion NeedsEnough back → AreRowsWithin p → AreRowsWithin (applied number front back p)
within_applied p number front back are reserved enough within = record {
  committed = committed;
  submitted = more (rows_units p.submitted) (rows_units later) p.reserved (needs_by front) (needs_by back)
      (subst (λ rows. rows_units rows ≤ rows_units later + needs_by back) (sym (are ∙ rows_append p.rows front back ∙ ap (λ rows. rows_by rows back)
      (sym (rows_by_ops p.rows front)))) (rows_units-by later back enough)) reserved;
}
  where
    later : Rows
    later = rows_after p.rows (ops_by front)

    committed : rows_units later ≤ p.tail + unit_count number (ops_by front)
    committed = one (rows_units later) (rows_units p.rows) (unit_count number (ops_by front)) p.tail (rows_units-after p.rows number (ops_by front)) within.committed
      where
        one : (a b units tail : ℕ) → a ≤ b + units → b ≤ tail → a ≤ tail + units
        one a b units tail le within = omega (arith, le, within)

    more : (a b reserved front back : ℕ) → a ≤ b + back → reserved ≡ front + back → a ≤ b + (reserved - front)
    more a b reserved front back le is = omega (arith, le, is)

pub within_rewritten : (p : RowsPart) (number : ℕ) → p.submitted ≡ rows_by p.rows p.intents → p.reserved ≡ needs_by p.intents
    → AllByRecursion NeedsEnough p.intents → AreRowsWithin (rewritten number p)
within_rewritten p number are reserved enough = record {
  committed = omega arith;
  submitted = subst (λ (rows : Rows). rows_units rows ≤ rows_units p.rows + p.reserved) (sym are)
      (subst (λ (n : ℕ). rows_units (rows_by p.rows p.intents) ≤ rows_units p.rows + n) (sym reserved) (rows_units-by p.rows p.intents enough));
}
