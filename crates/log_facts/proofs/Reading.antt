-- What is read of the slots and the log, in an image whose units are known.
use Rattle.std.proofs.Common.{◌≡◌, inl, inr, ℕ, ◌+◌, ◌-◌, ◌*◌, ◌%◌, ◌<◌, ◌≤◌, List, ◌++◌, length, sym, ap, subst, ◌∙◌, arith}
use Rattle.std.specs.FinMap as map
use Rattle.std.proofs.lemmas.Bool.{cases_lt, cases_eq}
use Rattle.std.proofs.lemmas.List.{take_at, length-append}
use Rattle.byte_maps.specs.Units.{unit_at, units_from, zeros, IsUnits}
use Rattle.byte_maps.proofs.Prelude.{length-units_from, unit_at-units_from, units_from-join, units_from-units_from}
use Rattle.block_device.proofs.RangeLemmas.{units_from-same}
use Rattle.meta_rows.specs.declared.row_op.RowOp.{RowOp}
use Rattle.meta_rows.specs.Prelude.{Rows, rows_of_records}
use Rattle.meta_log.specs.declared.slot.Super.{Super}
use Rattle.meta_log.specs.Prelude.{unit_count, record_units, BeginsWithRecord, AreRecords, active_half, AreRowsOf, super_bytes, IsSuper, IsSlotOf, IsActiveSlot, active_unit, other_slot, records_units}
use Rattle.meta_log.proofs.SlotLemmas.{same_super}
use Rattle.log_facts.specs.Prelude.{IsOlderSlot, AreSpellable}
use Rattle.log_facts.proofs.Keeping.{half_before_data}
use Rattle.log_facts.proofs.Joins.{length-record_units, are_records, no_record_in_zeros, no_record_in_nothing}

-- ---- where the active half lies

pub half_inside : (s : Super) (bytes : List ℕ) → IsSuper s → IsUnits s.units bytes → 4096 * (active_unit s + s.half) ≤ length bytes
half_inside s bytes limits whole = omega (arith, half_before_data s, limits.room, whole)

-- ---- the slots

pub slots_read : (image : List ℕ) (s : Super) → IsSuper s → IsUnits s.units image → unit_at (s.epoch % 2) image ≡ super_bytes s
    → IsOlderSlot s (unit_at (other_slot s) image) → IsActiveSlot image s
slots_read image s limits whole holds older = record {
  here = record { holds = record { spelled = holds; limits = limits; own_epoch = λ i. s.epoch % 2 }; same_size = whole };
  greatest = λ at other below valid. elim (cases_eq at (s.epoch % 2)) [
    | inl same ↦
        let spelled : super_bytes other ≡ super_bytes s = sym valid.holds.spelled ∙ ap (λ n. unit_at n image) same ∙ holds in
        omega (arith, ap (λ (t : Super). t.epoch) (same_super other s valid.holds.limits limits spelled))
    | inr differs ↦
        let there : at ≡ other_slot s = omega (arith, below, differs) in
        omega (arith, older other (subst (λ n. IsSlotOf n (unit_at n image) other) there valid.holds) (omega (arith, valid.same_size, whole)))
  ];
}

-- ---- the half

-- the units of the half behind the tail
abbrev pub behind_units : List ℕ → Super → ℕ → List ℕ
behind_units image s tail = units_from (active_unit s + tail) (s.half - tail) image

-- the half is the records that stand there, and what is behind them
pub half_parts : (image : List ℕ) (s : Super) (tail : ℕ) (front : List ℕ) → IsUnits tail front → tail ≤ s.half
    → 4096 * (active_unit s + s.half) ≤ length image
    → ((k : ℕ) → k < tail → unit_at (active_unit s + k) image ≡ unit_at k front)
    → active_half image s ≡ front ++ behind_units image s tail
half_parts image s tail front whole within inside same =
    ap (λ n. units_from (active_unit s) n image) (omega (arith, within))
    ∙ sym (units_from-join (active_unit s) tail (s.half - tail) image (omega (arith, inside, within)))
    ∙ ap (λ l. l ++ behind_units image s tail) (units_from-same (active_unit s) tail image front whole (omega (arith, inside, within)) same)

-- where the unit behind them is zero, or there is none, no record begins
pub no_record_behind : (image : List ℕ) (s : Super) (tail : ℕ) → tail ≤ s.half → 4096 * (active_unit s + s.half) ≤ length image
    → (tail < s.half → unit_at (active_unit s + tail) image ≡ zeros 4096)
    → (number : ℕ) (ops : List RowOp) (rest : List ℕ) → BeginsWithRecord (behind_units image s tail) number ops rest → ⊥
no_record_behind image s tail within inside zeroed number ops rest is = elim (cases_lt tail s.half) [
  | inl some ↦
      let first : unit_at 0 (behind_units image s tail) ≡ zeros 4096 =
      unit_at-units_from (active_unit s + tail) (s.half - tail) 0 image (omega (arith, some)) ∙ ap (λ n. unit_at n image) (omega arith) ∙ zeroed some in
      no_record_in_zeros (behind_units image s tail) number ops rest first is
  | inr none ↦
      let size : length (behind_units image s tail) ≡ 4096 * (s.half - tail) =
      length-units_from (active_unit s + tail) (s.half - tail) image (omega (arith, inside, within)) in
      no_record_in_nothing (behind_units image s tail) number ops rest (omega (arith, size, none)) is
]

-- so the records are all that is read
pub rows_read : (image : List ℕ) (s : Super) (rows : Rows) (recs : List (List RowOp)) (behind : List ℕ) → rows ≡ rows_of_records map.empty recs
    → AreSpellable s.first recs
    → active_half image s ≡ records_units s.first recs ++ behind
    → ((ops : List RowOp) (rest : List ℕ) → BeginsWithRecord behind (s.first + length recs) ops rest → ⊥) → AreRowsOf image s rows
rows_read image s rows recs behind made spellable parts none = record {
  records = recs;
  stand = subst (AreRecords recs s.first) (sym parts) (are_records s.first recs behind spellable none);
  made = made;
}

-- ---- a run of units that begins with a record

front_units : (count : ℕ) (xs ys : List ℕ) → IsUnits count xs → units_from 0 count (xs ++ ys) ≡ xs
unfolding units_from
front_units count xs ys whole = take_at xs ys (4096 * count) whole

-- its first units are that record's
pub record_in_run : (image : List ℕ) (first n number : ℕ) (ops : List RowOp) (rest : List ℕ) → 4096 * (first + n) ≤ length image
    → BeginsWithRecord (units_from first n image) number ops rest
    → (unit_count number ops ≤ n) × (units_from first (unit_count number ops) image ≡ record_units number ops)
record_in_run image first n number ops rest inside is =
    let count = unit_count number ops in
    let spelled : units_from first n image ≡ record_units number ops ++ rest = is.spelled in
    let size : length (units_from first n image) ≡ 4096 * n = length-units_from first n image (omega (arith, inside)) in
    let within : count ≤ n = omega (arith, size, ap length spelled, length-append (record_units number ops) rest, length-record_units number ops) in (
      within,
      ap (λ k. units_from k count image) (omega arith)
          ∙ sym (units_from-units_from first n 0 count image (omega (arith, within)))
          ∙ ap (units_from 0 count) spelled
          ∙ front_units count (record_units number ops) rest (length-record_units number ops),
    )

-- and a run whose first units are a record's begins with it
pub run_of_record : (image : List ℕ) (first n number : ℕ) (ops : List RowOp) → 4096 * (first + n) ≤ length image → unit_count number ops ≤ n
    → units_from first (unit_count number ops) image ≡ record_units number ops
    → units_from first n image ≡ record_units number ops ++ units_from (first + unit_count number ops) (n - unit_count number ops) image
run_of_record image first n number ops inside within same =
    let count = unit_count number ops in
    ap (λ k. units_from first k image) (omega (arith, within))
    ∙ sym (units_from-join first count (n - count) image (omega (arith, inside, within)))
    ∙ ap (λ l. l ++ units_from (first + count) (n - count) image) same
