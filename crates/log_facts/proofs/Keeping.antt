-- Events that write elsewhere keep what is known.
use Rattle.std.specs.Prelude.{Option}
use Rattle.std.proofs.Common.{◌≡◌, ℕ, ◌+◌, ◌*◌, ◌%◌, ◌<◌, ◌≤◌, List, length, ◌∙◌, ap, true, arith}
use Rattle.std.proofs.Math.Nat.{mul-le-mul_left}
use Rattle.byte_maps.specs.Units.{unit_at, zeros}
use Rattle.block_device.specs.Prelude.{last, WritesUnit, WritesNothing, History, Flight, with_event, last_at, SurelyHolds, EachWriteIsAnswered, QuietAt, IsUntouched, EventFits}
use Rattle.block_device.proofs.LogLemmas.{last-push, unit_at-after_event, clean_push, surely_push}
use Rattle.block_device.proofs.LawLemmas.{covered_push, covered_done}
use Rattle.block_device.proofs.QuietLemmas.{flush_covers_unit}
use Rattle.block_device.specs.declared.event.Event.{Event}
use Rattle.block_device.specs.declared.event.Event.TheVariants.{Write, Flush, Done}
use Rattle.meta_rows.specs.declared.row_op.RowOp.{RowOp}
use Rattle.meta_rows.specs.Prelude.{Rows}
use Rattle.meta_log.specs.declared.slot.Super.{Super}
use Rattle.meta_log.specs.Prelude.{super_bytes, active_unit, data_unit, other_slot, records_units}
use Rattle.log_facts.specs.Prelude.{FlushState, not_sent, sent, flushed, IsFlushed, WritesNoneOf, IsOlderSlot, SlotsStand, begun_count, IsSurelyZero, ActiveHalfStands}

-- ---- which units an event writes

pub nothing_written : (first count : ℕ) (event : Event) → WritesNothing event → WritesNoneOf first count event
nothing_written first count (Write at bytes) none unit from below covers = absurd none
nothing_written first count Flush none unit from below covers = covers
nothing_written first count (Done ticket ok) none unit from below covers = covers

pub written_before : (first count at : ℕ) (bytes : List ℕ) → 4096 * at + length bytes ≤ 4096 * first → WritesNoneOf first count (Write at bytes)
written_before first count at bytes before unit from below covers = omega (arith, covers.1, from, before)

pub written_behind : (first count at : ℕ) (bytes : List ℕ) → first + count ≤ at → WritesNoneOf first count (Write at bytes)
written_behind first count at bytes behind unit from below covers = omega (arith, covers.0, below, behind)

-- a write of data spares slots and log, and one of the log spares the slots

pub half_from_slots : (s : Super) → 2 ≤ active_unit s
half_from_slots s = omega arith

pub half_before_data : (s : Super) → active_unit s + s.half ≤ data_unit s
half_before_data s =
    let most : s.epoch % 2 ≤ 1 = omega arith in
    omega (arith, mul-le-mul_left s.half most)

pub data_spares_slots : (s : Super) (at : ℕ) (bytes : List ℕ) → data_unit s ≤ at → WritesNoneOf 0 2 (Write at bytes)
data_spares_slots s at bytes behind = written_behind 0 2 at bytes (omega (arith, behind))

pub data_spares_half : (s : Super) (at : ℕ) (bytes : List ℕ) → data_unit s ≤ at → WritesNoneOf (active_unit s) s.half (Write at bytes)
data_spares_half s at bytes behind = written_behind (active_unit s) s.half at bytes (omega (arith, behind, half_before_data s))

pub half_spares_slots : (s : Super) (at : ℕ) (bytes : List ℕ) → active_unit s ≤ at → WritesNoneOf 0 2 (Write at bytes)
half_spares_slots s at bytes behind = written_behind 0 2 at bytes (omega (arith, behind))

-- a write of the log spares the data
pub half_spares_data : (s : Super) (at unit : ℕ) (bytes : List ℕ) → 4096 * at + length bytes ≤ 4096 * (active_unit s + s.half) → data_unit s ≤ unit
    → ¬ WritesUnit unit (Write at bytes)
half_spares_data s at unit bytes inside behind covers = omega (arith, covers.1, inside, behind, half_before_data s)

-- ---- one unit

pub last_push : (h : History) (event : Event) (unit : ℕ) → EventFits (length (last h.start h.log)) event → ¬ WritesUnit unit event
    → last_at (with_event h event) unit ≡ last_at h unit
last_push h event unit fits spared =
    ap (λ (l : List ℕ). unit_at unit l) (last-push h.start h.log event) ∙ unit_at-after_event unit event (last h.start h.log) fits spared

-- a unit of the half that surely is zero
pub zero_push : (h : History) (event : Event) (s : Super) (k : ℕ) → EventFits (length (last h.start h.log)) event → ¬ WritesUnit (active_unit s + k) event
    → IsSurelyZero h s k → IsSurelyZero (with_event h event) s k
zero_push h event s k fits spared zeroed = surely_push h event (active_unit s + k) (λ unit. unit ≡ zeros 4096) zeroed fits spared

-- or surely is a unit of these bytes
pub front_push : (h : History) (event : Event) (s : Super) (k : ℕ) (bytes : List ℕ) → EventFits (length (last h.start h.log)) event
    → ¬ WritesUnit (active_unit s + k) event → SurelyHolds h (active_unit s + k) (λ unit. unit ≡ unit_at k bytes)
    → SurelyHolds (with_event h event) (active_unit s + k) (λ unit. unit ≡ unit_at k bytes)
front_push h event s k bytes fits spared holds = surely_push h event (active_unit s + k) (λ unit. unit ≡ unit_at k bytes) holds fits spared

-- ---- a flush

pub flushed_push : (h : History) (event : Event) (state : FlushState) (unit : ℕ) → ¬ WritesUnit unit event
    → IsFlushed h.log state unit → IsFlushed (with_event h event).log state unit
flushed_push h event not_sent unit spared is = tt
flushed_push h event (sent ticket) unit spared is = covered_push h.log event ticket unit is spared
flushed_push h event flushed unit spared is = clean_push h.log event unit is spared

-- submitted while no write of the unit is in flight it covers it
pub flush_sent : (h : History) (base : ℕ) (flights : List Flight) (unit : ℕ) → QuietAt base h → EachWriteIsAnswered base h flights
    → IsUntouched flights unit → IsFlushed (with_event h Flush).log (sent (length h.log)) unit
flush_sent h base flights unit quiet each untouched = flush_covers_unit base h flights unit quiet each untouched

-- and at its good end it cleans it
pub flush_ended : (h : History) (flush unit : ℕ) → IsFlushed h.log (sent flush) unit → IsFlushed (with_event h (Done flush true)).log flushed unit
flush_ended h flush unit is = covered_done h.log flush unit is

-- ---- slots and half

pub slots_push : (h : History) (s : Super) (event : Event) → EventFits (length (last h.start h.log)) event → WritesNoneOf 0 2 event
    → SlotsStand h s → SlotsStand (with_event h event) s
slots_push h s event fits spared stands = record {
  limits = stands.limits;
  active = surely_push h event (s.epoch % 2) (λ unit. unit ≡ super_bytes s) stands.active fits (spared (s.epoch % 2) (omega arith) (omega arith));
  other = surely_push h event (other_slot s) (IsOlderSlot s) stands.other fits (spared (other_slot s) (omega arith) (omega arith));
}

module _ (h : History) (s : Super) (rows : Rows) (tail number : ℕ) (begun : Option (List RowOp)) (given_from : ℕ)
    (second : FlushState) (recs : List (List RowOp)) where
  pub half_push : (event : Event) → EventFits (length (last h.start h.log)) event → WritesNoneOf (active_unit s) s.half event
      → ActiveHalfStands h s rows tail number begun given_from second recs
      → ActiveHalfStands (with_event h event) s rows tail number begun given_from second recs
  half_push event fits spared stands =
      let here : (k : ℕ) → k < s.half → ¬ WritesUnit (active_unit s + k) event =
      λ k below. spared (active_unit s + k) (omega arith) (omega (arith, below)) in
      let of_record : (j : ℕ) → j < begun_count number begun → ¬ WritesUnit (active_unit s + (tail + j)) event =
      λ j below. here (tail + j) (omega (arith, below, stands.room)) in
      record {
        made = stands.made;
        next = stands.next;
        spellable = stands.spellable;
        begun_spellable = stands.begun_spellable;
        whole = stands.whole;
        room = stands.room;
        part = stands.part;
        front = λ k below. front_push h event s k (records_units s.first recs) fits (here k (omega (arith, below, stands.room))) (stands.front k below);
        zero_before = λ j below. zero_push h event s (tail + j) fits (of_record j (omega (arith, below, stands.part))) (stands.zero_before j below);
        zero_behind = λ k behind below. zero_push h event s k fits (here k below) (stands.zero_behind k behind below);
        given = λ j from below. last_push h event (active_unit s + (tail + j)) fits (of_record j below) ∙ stands.given j from below;
        given_flushed = λ j from below.
            flushed_push h event second (active_unit s + (tail + j)) (of_record j below) (stands.given_flushed j from below);
      }

-- ---- an event that writes nothing

fits_nothing : (size : ℕ) (event : Event) → WritesNothing event → EventFits size event
fits_nothing size (Write at bytes) none = absurd none
fits_nothing size Flush none = tt
fits_nothing size (Done ticket ok) none = tt

pub slots_quiet : (h : History) (s : Super) (event : Event) → WritesNothing event → SlotsStand h s → SlotsStand (with_event h event) s
slots_quiet h s event none stands =
    slots_push h s event (fits_nothing (length (last h.start h.log)) event none) (nothing_written 0 2 event none) stands

pub half_quiet : (h : History) (s : Super) (rows : Rows) (tail number : ℕ) (begun : Option (List RowOp)) (given_from : ℕ) (second : FlushState)
    (recs : List (List RowOp)) (event : Event) → WritesNothing event
    → ActiveHalfStands h s rows tail number begun given_from second recs
    → ActiveHalfStands (with_event h event) s rows tail number begun given_from second recs
half_quiet h s rows tail number begun given_from second recs event none stands =
    half_push h s rows tail number begun given_from second recs event
    (fits_nothing (length (last h.start h.log)) event none) (nothing_written (active_unit s) s.half event none) stands
