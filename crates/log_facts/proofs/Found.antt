-- A log as it is found, and what a crash leaves of it while the units behind its records are cleared.
use Rattle.std.proofs.Common.{◌≡◌, ℕ, ◌+◌, ◌*◌, ◌%◌, ◌<◌, ◌≤◌, List, [], ◌∷◌, ◌++◌, length, None, refl, sym, ap, subst, ◌∙◌, arith}
use Rattle.std.specs.FinMap as map
use Rattle.std.proofs.lemmas.List.{length-append}
use Rattle.byte_maps.specs.Units.{unit_at, units_from, IsUnits}
use Rattle.byte_maps.proofs.Prelude.{length-units_from, unit_at-units_from, unit_at-append_front}
use Rattle.block_device.specs.Prelude.{last, IsClean, IsCrashImage, History, with_event, last_at, EventFits}
use Rattle.block_device.specs.declared.event.Event.{Event}
use Rattle.block_device.proofs.LogLemmas.{surely_image}
use Rattle.object_model.specs.Prelude.{Objects}
use Rattle.meta_rows.specs.declared.row_op.RowOp.{RowOp}
use Rattle.meta_rows.specs.Prelude.{Rows, rows_of_records}
use Rattle.meta_log.specs.declared.slot.Super.{Super}
use Rattle.meta_log.specs.Prelude.{record_units, unit_count, BeginsWithRecord, BeginsWithRecords, AreRecords, active_half, AreRowsOf, units_of_records, super_bytes, active_unit, IsSuper, IsActiveSlot, other_slot, records_units}
use Rattle.store_image.specs.Prelude.{StandsFor, NoChanceMatch}
use Rattle.log_facts.specs.Prelude.{not_sent, WritesNoneOf, IsOlderSlot, SlotsStand, IsSurelyZero, ActiveHalfStands, RecordsStand, EndsInZeros, SoundFor}
use Rattle.log_facts.proofs.Keeping.{front_push}
use Rattle.log_facts.proofs.Joins.{length-record_units, record_has_units, begin_records, last_as_written}
use Rattle.log_facts.proofs.Reading.{behind_units, half_inside, slots_read, half_parts, no_record_behind, rows_read}
use Rattle.log_facts.proofs.Mounting.{records_spelled}
use Rattle.log_facts.proofs.Cuts.{sound_image}

-- ---- the records as they are found

-- records take so many units
pub length-records_units : (number : ℕ) (recs : List (List RowOp)) → IsUnits (units_of_records number recs) (records_units number recs)
length-records_units number [] = refl
length-records_units number (ops ∷ more) =
    let others = length-records_units (number + 1) more in
    length-append (record_units number ops) (records_units (number + 1) more) ∙ omega (arith, others, length-record_units number ops)

pub found_records : (h : History) (s : Super) (recs : List (List RowOp)) → ((unit : ℕ) → IsClean h.log unit) → IsSuper s
    → IsUnits s.units (last h.start h.log) → AreRecords recs s.first (active_half (last h.start h.log) s)
    → RecordsStand h s (rows_of_records map.empty recs) (units_of_records s.first recs) (s.first + length recs) recs
found_records h s recs clean limits whole are =
    let contents = last h.start h.log in
    let tail = units_of_records s.first recs in
    let sized = length-records_units s.first recs in
    let read = records_spelled recs s.first (active_half contents s) are in
    let inside = half_inside s contents limits whole in
    let size : length (active_half contents s) ≡ 4096 * s.half = length-units_from (active_unit s) s.half contents (omega (arith, inside)) in
    let within : tail ≤ s.half =
    omega (arith, size, sized, ap length read.spelled, length-append (records_units s.first recs) read.behind) in
    record {
      made = refl;
      next = refl;
      spellable = read.spellable;
      whole = sized;
      room = within;
      front = λ k below. record {
        clean = clean (active_unit s + k);
        last = sym (unit_at-units_from (active_unit s) s.half k contents (omega (arith, below, within)))
            ∙ ap (unit_at k) read.spelled
            ∙ unit_at-append_front k (records_units s.first recs) read.behind (omega (arith, below, sized));
      };
    }

-- ---- an event behind them

pub records_push : (h : History) (s : Super) (rows : Rows) (tail number : ℕ) (recs : List (List RowOp)) (event : Event)
    → EventFits (length (last h.start h.log)) event → WritesNoneOf (active_unit s) tail event → RecordsStand h s rows tail number recs
    → RecordsStand (with_event h event) s rows tail number recs
records_push h s rows tail number recs event fits spared stand = record {
  made = stand.made;
  next = stand.next;
  spellable = stand.spellable;
  whole = stand.whole;
  room = stand.room;
  front = λ k below. front_push h event s k (records_units s.first recs) fits
      (spared (active_unit s + k) (omega arith) (omega (arith, below))) (stand.front k below);
}

-- ---- a crash

module _ (h : History) (s : Super) (rows : Rows) (tail number : ℕ) (recs : List (List RowOp)) (image : List ℕ)
    (whole : IsUnits s.units h.start) (whole_now : IsUnits s.units (last h.start h.log)) (slots : SlotsStand h s)
    (stand : RecordsStand h s rows tail number recs) (ends : EndsInZeros h s tail) (is : IsCrashImage h.start h.log image)
    (chance : NoChanceMatch h.start h.log image) where
  inside : 4096 * (active_unit s + s.half) ≤ length image
  inside = half_inside s image slots.limits (is.size ∙ whole)

  parts : active_half image s ≡ records_units s.first recs ++ behind_units image s tail
  parts = half_parts image s tail (records_units s.first recs) stand.whole stand.room inside
      (λ k below. surely_image h (active_unit s + k) (λ unit. unit ≡ unit_at k (records_units s.first recs)) image (stand.front k below) is)

  active : IsActiveSlot image s
  active = slots_read image s slots.limits (is.size ∙ whole)
      (surely_image h (s.epoch % 2) (λ unit. unit ≡ super_bytes s) image slots.active is)
      (surely_image h (other_slot s) (IsOlderSlot s) image slots.other is)

  -- where a record follows them, its first unit stands as it was last written
  first_as_written : (ops : List RowOp) (rest : List ℕ) → BeginsWithRecord (behind_units image s tail) (s.first + length recs) ops rest
      → unit_at (active_unit s + tail) image ≡ last_at h (active_unit s + tail)
  first_as_written ops rest begins =
      let now = last h.start h.log in
      let first = active_unit s + tail in
      let count = unit_count (s.first + length recs) ops in
      let all = begin_records s.first recs (behind_units image s tail) ops rest stand.spellable begins in
      let as_written = chance.records s (recs ++ ops ∷ []) active (subst (λ l. BeginsWithRecords (recs ++ ops ∷ []) s.first l) (sym parts) all) in
      let held : units_from first count image ≡ units_from first count now =
      last_as_written s.first (active_unit s) tail recs ops image now stand.whole as_written in
      let some : 0 < count = record_has_units (s.first + length recs) ops in
      first_of first count image now some held
    where
      first_of : (first count : ℕ) (xs ys : List ℕ) → 0 < count → units_from first count xs ≡ units_from first count ys → unit_at first xs ≡ unit_at first ys
      first_of first count xs ys some same =
          let here : first ≡ first + 0 = omega arith in
          ap (λ n. unit_at n xs) here
          ∙ sym (unit_at-units_from first count 0 xs some)
          ∙ ap (unit_at 0) same
          ∙ unit_at-units_from first count 0 ys some
          ∙ ap (λ n. unit_at n ys) (sym here)

  none_follows : (ops : List RowOp) (rest : List ℕ) → BeginsWithRecord (behind_units image s tail) (s.first + length recs) ops rest → ⊥
  none_follows ops rest begins = no_record_behind image s tail stand.room inside
      (λ some. first_as_written ops rest begins ∙ ends some) (s.first + length recs) ops rest begins

  pub records_left : IsActiveSlot image s × AreRowsOf image s rows
  records_left = (active, rows_read image s rows recs (behind_units image s tail) stand.made stand.spellable parts none_follows)

pub objects_left : (h : History) (s : Super) (rows : Rows) (tail number : ℕ) (recs : List (List RowOp)) (objects : Objects) (image : List ℕ)
    → IsUnits s.units h.start → IsUnits s.units (last h.start h.log) → SlotsStand h s → RecordsStand h s rows tail number recs
    → EndsInZeros h s tail → SoundFor h s rows objects → IsCrashImage h.start h.log image → NoChanceMatch h.start h.log image → StandsFor image objects
objects_left h s rows tail number recs objects image whole whole_now slots stand ends sound is chance =
    let left = records_left h s rows tail number recs image whole whole_now slots stand ends is chance in
    sound_image h s rows objects image sound is left.0 left.1

-- ---- the half once what is behind them is cleared

pub cleared_half : (h : History) (s : Super) (rows : Rows) (tail number : ℕ) (recs : List (List RowOp)) → RecordsStand h s rows tail number recs
    → ((k : ℕ) → tail ≤ k → k < s.half → IsSurelyZero h s k) → ActiveHalfStands h s rows tail number None 0 not_sent recs
cleared_half h s rows tail number recs stand zeroed = record {
  made = stand.made;
  next = stand.next;
  spellable = stand.spellable;
  begun_spellable = tt;
  whole = stand.whole;
  room = omega (arith, stand.room);
  part = omega arith;
  front = stand.front;
  zero_before = λ j below. absurd (omega (arith, below));
  zero_behind = λ k past below. zeroed k (omega (arith, past)) below;
  given = λ j from below. absurd (omega (arith, below));
  given_flushed = λ j from below. absurd (omega (arith, below));
}
