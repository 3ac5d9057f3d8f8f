-- What the log stands for, and what a crash leaves of it.
use Rattle.std.proofs.Common.{◌≡◌, ◌⊎◌, inl, inr, ℕ, zero, suc, ◌+◌, ◌-◌, ◌*◌, ◌%◌, ◌<◌, ◌≤◌, List, [], ◌∷◌, ◌++◌, length, Option, Some, None, refl, sym, ap, ap₂, subst, ◌∙◌, append_assoc, arith}
use Rattle.std.specs.FinMap as map
use Rattle.byte_maps.specs.Units.{unit_at, units_from, zeros, IsUnits}
use Rattle.block_device.specs.Prelude.{last, IsCrashImage, History, last_at, SurelyHolds}
use Rattle.block_device.proofs.LogLemmas.{surely_image}
use Rattle.block_device.proofs.RangeLemmas.{units_from-same}
use Rattle.object_model.specs.Prelude.{Objects}
use Rattle.meta_rows.specs.declared.row_op.RowOp.{RowOp}
use Rattle.meta_rows.specs.Prelude.{Rows, rows_after}
use Rattle.meta_rows.proofs.Folds.{rows_of_records-push}
use Rattle.meta_log.specs.declared.slot.Super.{Super}
use Rattle.meta_log.specs.Prelude.{record_units, unit_count, BeginsWithRecord, BeginsWithRecords, active_half, AreRowsOf, width_of, super_bytes, IsSuper, IsActiveSlot, active_unit, other_slot, records_units}
use Rattle.meta_log.proofs.RecordLemmas.{same_record}
use Rattle.store_image.specs.Prelude.{NoBadRow, ObjectsStand, StandsFor, NoChanceMatch}
use Rattle.store_image.proofs.Prelude.{equal_or_not}
use Rattle.log_facts.specs.Prelude.{FlushState, IsOlderSlot, SlotsStand, IsSpellable, ActiveHalfStands, HasBegunRecord, LeavesRows}
use Rattle.log_facts.proofs.Joins.{length-record_units, records_units-push, spellable-push, begin_records, last_as_written}
use Rattle.log_facts.proofs.Reading.{behind_units, half_inside, slots_read, half_parts, no_record_behind, rows_read, record_in_run, run_of_record}

-- ---- what the device holds stands for the objects

pub log_reads : (h : History) (s : Super) (rows : Rows) (tail number given_from : ℕ) (second : FlushState) (recs : List (List RowOp))
    → IsUnits s.units (last h.start h.log) → SlotsStand h s → ActiveHalfStands h s rows tail number None given_from second recs
    → IsActiveSlot (last h.start h.log) s × AreRowsOf (last h.start h.log) s rows
log_reads h s rows tail number given_from second recs whole slots half =
    let contents = last h.start h.log in
    let inside = half_inside s contents slots.limits whole in
    let within : tail ≤ s.half = omega (arith, half.room) in
    let parts = half_parts contents s tail (records_units s.first recs) half.whole within inside (λ k below. (half.front k below).last) in
    let behind = behind_units contents s tail in (
      slots_read contents s slots.limits whole slots.active.last slots.other.last,
      rows_read contents s rows recs behind half.made half.spellable parts
          (no_record_behind contents s tail within inside (λ some. (half.zero_behind tail (omega arith) some).last)
          (s.first + length recs)),
    )

pub log_stands : (h : History) (s : Super) (rows : Rows) (tail number given_from : ℕ) (second : FlushState) (recs : List (List RowOp))
    (objects : Objects) → IsUnits s.units (last h.start h.log)
    → SlotsStand h s → ActiveHalfStands h s rows tail number None given_from second recs
    → NoBadRow s rows → ObjectsStand (width_of s) (last_at h) rows objects → StandsFor (last h.start h.log) objects
log_stands h s rows tail number given_from second recs objects whole slots half good stand =
    let found = log_reads h s rows tail number given_from second recs whole slots half in
    record { super = s; active = found.0; rows = rows; read = found.1; good = good; stand = stand }

-- ---- a crash

module _ (h : History) (s : Super) (rows : Rows) (tail number : ℕ) (begun : Option (List RowOp)) (given_from : ℕ)
    (second : FlushState) (recs : List (List RowOp)) (image : List ℕ) (half : ActiveHalfStands h s rows tail number begun given_from second recs)
    (limits : IsSuper s) (whole : IsUnits s.units h.start) (is : IsCrashImage h.start h.log image) where
  inside : 4096 * (active_unit s + s.half) ≤ length image
  inside = half_inside s image limits (is.size ∙ whole)

  parts : active_half image s ≡ records_units s.first recs ++ behind_units image s tail
  parts = half_parts image s tail (records_units s.first recs) half.whole (omega (arith, half.room)) inside
      (λ k below. surely_image h (active_unit s + k) (λ unit. unit ≡ unit_at k (records_units s.first recs)) image (half.front k below) is)

  -- where no record begins behind the tail
  kept : ((ops : List RowOp) (rest : List ℕ) → BeginsWithRecord (behind_units image s tail) number ops rest → ⊥)
      → AreRowsOf image s rows
  kept none = rows_read image s rows recs (behind_units image s tail) half.made half.spellable parts
      (λ ops rest begins. none ops rest (subst (λ n. BeginsWithRecord (behind_units image s tail) n ops rest) (sym half.next) begins))

  -- so it is where the first unit behind the tail surely is zero
  kept_by_zero : (tail < s.half → SurelyHolds h (active_unit s + tail) (λ unit. unit ≡ zeros 4096)) → AreRowsOf image s rows
  kept_by_zero zeroed = kept (no_record_behind image s tail (omega (arith, half.room)) inside
      (λ some. surely_image h (active_unit s + tail) (λ unit. unit ≡ zeros 4096) image (zeroed some) is) number)

-- where no record is begun the rows are as they were
pub half_left : (h : History) (s : Super) (rows : Rows) (tail number given_from : ℕ) (second : FlushState) (recs : List (List RowOp)) (image : List ℕ)
    → IsSuper s → IsUnits s.units h.start → IsCrashImage h.start h.log image
    → ActiveHalfStands h s rows tail number None given_from second recs → AreRowsOf image s rows
half_left h s rows tail number given_from second recs image limits whole is half =
    kept_by_zero h s rows tail number None given_from second recs image half limits whole is (λ some. half.zero_behind tail (omega arith) some)

-- a record that was wholly given is there, or none is
module _ (h : History) (s : Super) (rows : Rows) (tail number : ℕ) (ops : List RowOp) (second : FlushState) (recs : List (List RowOp)) (image : List ℕ)
    (half : ActiveHalfStands h s rows tail number (Some ops) 0 second recs)
    (limits : IsSuper s) (whole : IsUnits s.units h.start) (whole_now : IsUnits s.units (last h.start h.log))
    (is : IsCrashImage h.start h.log image) where
  -- what was last written there is the record
  written : units_from (active_unit s + tail) (unit_count number ops) (last h.start h.log) ≡ record_units number ops
  written = units_from-same (active_unit s + tail) (unit_count number ops) (last h.start h.log) (record_units number ops) (length-record_units number ops)
      (omega (arith, half_inside s (last h.start h.log) limits whole_now, half.room))
      (λ j below. ap (last_at h) (omega arith) ∙ half.given j (omega arith) below)

  -- by the premise on chance a record in its place is that record
  only_that : NoChanceMatch h.start h.log image → IsActiveSlot image s → (found : List RowOp) (rest : List ℕ)
      → BeginsWithRecord (behind_units image s tail) number found rest
      → units_from (active_unit s + tail) (unit_count number ops) image ≡ record_units number ops
  only_that chance active found rest begins =
      let now = last h.start h.log in
      let first = active_unit s + tail in
      let n = s.half - tail in
      let room : 4096 * (first + n) ≤ length image =
      omega (arith, inside h s rows tail number (Some ops) 0 second recs image half limits whole is, half.room) in
      let room_now : 4096 * (first + n) ≤ length now = omega (arith, half_inside s now limits whole_now, half.room) in
      let all = begin_records s.first recs (units_from first n image) found rest half.spellable
      (subst (λ m. BeginsWithRecord (units_from first n image) m found rest) half.next begins) in
      let half_is = parts h s rows tail number (Some ops) 0 second recs image half limits whole is in
      let as_written = chance.records s (recs ++ found ∷ []) active (subst (λ l. BeginsWithRecords (recs ++ found ∷ []) s.first l) (sym half_is) all) in
      let held : units_from first (unit_count number found) image ≡ units_from first (unit_count number found) now =
      subst (λ m. units_from first (unit_count m found) image ≡ units_from first (unit_count m found) now) (sym half.next)
      (last_as_written s.first (active_unit s) tail recs found image now half.whole as_written) in
      let own : IsSpellable number ops = half.begun_spellable in
      let there = record_in_run image first n number found rest room begins in
      let found_now = run_of_record now first n number found room_now there.0 (sym held ∙ there.1) in
      let ops_now = run_of_record now first n number ops room_now (omega (arith, half.room)) written in
      let same = same_record (units_from first n now) number found ops
      (units_from (first + unit_count number found) (n - unit_count number found) now)
      (units_from (first + unit_count number ops) (n - unit_count number ops) now)
      (record { spelled = found_now; number_below = begins.number_below; body_below = begins.body_below; fit = begins.fit })
      (record { spelled = ops_now; number_below = own.number_below; body_below = own.body_below; fit = own.fit }) in
      subst (λ (o : List RowOp). units_from first (unit_count number o) image ≡ record_units number o) same.0 there.1

  -- the image has it
  grown_rows : units_from (active_unit s + tail) (unit_count number ops) image ≡ record_units number ops → AreRowsOf image s (rows_after rows ops)
  grown_rows there =
      let first = active_unit s + tail in
      let n = s.half - tail in
      let count = unit_count number ops in
      let inside_image = inside h s rows tail number (Some ops) 0 second recs image half limits whole is in
      let behind = behind_units image s (tail + count) in
      let run = run_of_record image first n number ops (omega (arith, inside_image, half.room)) (omega (arith, half.room)) there in
      let rest : units_from (first + count) (n - count) image ≡ behind = ap₂ (λ (a b : ℕ). units_from a b image) (omega arith) (omega arith) in
      let joined : records_units s.first (recs ++ ops ∷ []) ≡ records_units s.first recs ++ record_units number ops =
      records_units-push s.first recs ops ∙ ap (λ m. records_units s.first recs ++ record_units m ops) (sym half.next) in
      let half_is : active_half image s ≡ records_units s.first (recs ++ ops ∷ []) ++ behind =
      parts h s rows tail number (Some ops) 0 second recs image half limits whole is
      ∙ ap (λ l. records_units s.first recs ++ l) (run ∙ ap (λ l. record_units number ops ++ l) rest)
      ∙ sym (append_assoc (records_units s.first recs) (record_units number ops) behind)
      ∙ ap (λ l. l ++ behind) (sym joined) in
      rows_read image s (rows_after rows ops) (recs ++ ops ∷ []) behind
      (ap (λ r. rows_after r ops) half.made ∙ sym (rows_of_records-push map.empty recs ops))
      (spellable-push s.first recs ops half.spellable (subst (λ m. IsSpellable m ops) half.next half.begun_spellable))
      half_is
      (no_record_behind image s (tail + count) half.room inside_image
      (λ some. surely_image h (active_unit s + (tail + count)) (λ unit. unit ≡ zeros 4096) image (half.zero_behind (tail + count) (omega arith) some) is)
      (s.first + length (recs ++ ops ∷ [])))

  given_record : NoChanceMatch h.start h.log image → IsActiveSlot image s → AreRowsOf image s rows ⊎ HasBegunRecord image s rows (Some ops) 0
  given_record chance active = elim (equal_or_not (units_from (active_unit s + tail) (unit_count number ops) image) (record_units number ops)) [
    | inl there ↦ inr (record { ops = ops; is_begun = refl; all_given = refl; read = grown_rows there })
    | inr differs ↦ inl (kept h s rows tail number (Some ops) 0 second recs image half limits whole is
        (λ found rest begins. differs (only_that chance active found rest begins)))
  ]

rows_left : (h : History) (s : Super) (rows : Rows) (tail number : ℕ) (begun : Option (List RowOp)) (given_from : ℕ)
    (second : FlushState) (recs : List (List RowOp)) (image : List ℕ) → IsSuper s
    → IsUnits s.units h.start → IsUnits s.units (last h.start h.log) → IsCrashImage h.start h.log image
    → NoChanceMatch h.start h.log image → IsActiveSlot image s
    → ActiveHalfStands h s rows tail number begun given_from second recs → AreRowsOf image s rows ⊎ HasBegunRecord image s rows begun given_from
rows_left h s rows tail number None given_from second recs image limits whole whole_now is chance active half =
    inl (kept_by_zero h s rows tail number None given_from second recs image half limits whole is (λ some. half.zero_behind tail (omega arith) some))
rows_left h s rows tail number (Some ops) zero second recs image limits whole whole_now is chance active half =
    given_record h s rows tail number ops second recs image half limits whole whole_now is chance active
rows_left h s rows tail number (Some ops) (suc from) second recs image limits whole whole_now is chance active half =
    inl (kept_by_zero h s rows tail number (Some ops) (suc from) second recs image half limits whole is (λ some.
    subst (λ n. SurelyHolds h (active_unit s + n) (λ unit. unit ≡ zeros 4096)) (omega arith) (half.zero_before 0 (omega arith))))

pub leaves_rows : (h : History) (s : Super) (rows : Rows) (tail number : ℕ) (begun : Option (List RowOp)) (given_from : ℕ)
    (second : FlushState) (recs : List (List RowOp)) (image : List ℕ)
    → IsUnits s.units h.start → IsUnits s.units (last h.start h.log) → SlotsStand h s
    → ActiveHalfStands h s rows tail number begun given_from second recs
    → IsCrashImage h.start h.log image → NoChanceMatch h.start h.log image → LeavesRows image s rows begun given_from
leaves_rows h s rows tail number begun given_from second recs image whole whole_now slots half is chance =
    let active : IsActiveSlot image s = slots_read image s slots.limits (is.size ∙ whole)
    (surely_image h (s.epoch % 2) (λ unit. unit ≡ super_bytes s) image slots.active is)
    (surely_image h (other_slot s) (IsOlderSlot s) image slots.other is) in
    record { active = active; read = rows_left h s rows tail number begun given_from second recs image slots.limits whole whole_now is chance active half }
