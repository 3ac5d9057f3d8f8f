-- A checkpoint in the other half, from its first piece to the switch of halves.
use Rattle.std.proofs.Common.{◌≡◌, ◌⊎◌, inl, inr, ℕ, ◌+◌, ◌-◌, ◌*◌, ◌%◌, ◌<◌, ◌≤◌, true, false, Bool, nat_lt, List, length, None, refl, sym, ap, subst, ◌∙◌, arith}
use Rattle.std.specs.FinMap as map
use Rattle.std.proofs.lemmas.Bool.{cases_lt}
use Rattle.byte_maps.specs.Units.{unit_at, zeros, IsUnits}
use Rattle.byte_maps.proofs.Prelude.{unit_at-whole}
use Rattle.block_device.specs.Prelude.{last, WritesUnit, IsClean, History, Flight, with_event, last_at, SurelyHolds, EventFits, EachWriteIsAnswered, QuietAt, IsUntouched}
use Rattle.block_device.proofs.LogLemmas.{surely_push, clean_push}
use Rattle.block_device.proofs.QuietLemmas.{written_unit}
use Rattle.block_device.specs.declared.event.Event.{Event}
use Rattle.block_device.specs.declared.event.Event.TheVariants.{Write, Flush, Done}
use Rattle.meta_rows.specs.declared.row_op.RowOp.{RowOp}
use Rattle.meta_rows.specs.Prelude.{Rows, rows_of_records}
use Rattle.meta_log.specs.declared.slot.Super.{Super}
use Rattle.meta_log.specs.Prelude.{active_unit, super_bytes, IsSuper, other_slot, other_unit, next_super, records_units, target_unit}
use Rattle.meta_log.proofs.SlotLemmas.{same_super, length-super_bytes}
use Rattle.log_facts.specs.Prelude.{FlushState, not_sent, sent, flushed, IsFlushed, WritesNoneOf, IsOlderSlot, SlotsStand, AreSpellable, ActiveHalfStands, OtherHalfRests, CheckpointStands, NextSlotStands}
use Rattle.log_facts.proofs.Keeping.{last_push, flushed_push, flush_sent, flush_ended}

-- ---- where it lies

-- the other half is the active one of the superblock that follows
pub follows : (s : Super) (number : ℕ) → other_unit s ≡ active_unit (next_super s number)
follows s number =
    let slot : other_slot s ≡ (s.epoch + 1) % 2 = omega arith in
    ap (λ n. 2 + s.half * n) slot

pub slot_follows : (s : Super) (number : ℕ) → other_slot s ≡ (next_super s number).epoch % 2
slot_follows s number = omega arith

-- and the half in use is the one that isn't in use then
pub follows_back : (s : Super) (number : ℕ) → active_unit s ≡ other_unit (next_super s number)
follows_back s number =
    let slot : s.epoch % 2 ≡ 1 - (s.epoch + 1) % 2 = omega arith in
    ap (λ n. 2 + s.half * n) slot

-- ---- an event elsewhere

pub rests_push : (h : History) (s : Super) (is_stale : ℕ → Bool) (event : Event) → EventFits (length (last h.start h.log)) event
    → WritesNoneOf (other_unit s) s.half event → OtherHalfRests h s is_stale → OtherHalfRests (with_event h event) s is_stale
rests_push h s is_stale event fits spared rests = record {
  clean = λ k below. clean_push h.log event (other_unit s + k) (rests.clean k below) (spared (other_unit s + k) (omega arith) (omega (arith, below)));
  zero = λ k below fresh. last_push h event (other_unit s + k) fits (spared (other_unit s + k) (omega arith) (omega (arith, below))) ∙ rests.zero k below fresh;
}

pub check_push : (h : History) (t : Super) (rows : Rows) (tail : ℕ) (recs : List (List RowOp)) (is_left : ℕ → Bool) (flush : FlushState) (event : Event)
    → EventFits (length (last h.start h.log)) event → WritesNoneOf (active_unit t) t.half event
    → CheckpointStands h t rows tail recs is_left flush → CheckpointStands (with_event h event) t rows tail recs is_left flush
check_push h t rows tail recs is_left flush event fits spared stands =
    let here : (k : ℕ) → k < t.half → ¬ WritesUnit (active_unit t + k) event =
    λ k below. spared (active_unit t + k) (omega arith) (omega (arith, below)) in
    record {
      made = stands.made;
      spellable = stands.spellable;
      whole = stands.whole;
      room = stands.room;
      written = λ k below given. last_push h event (active_unit t + k) fits (here k below) ∙ stands.written k below given;
      flushes = λ k below given. flushed_push h event flush (active_unit t + k) (here k below) (stands.flushes k below given);
    }

pub next_slot_push : (h : History) (s : Super) (number : ℕ) (flush : FlushState) (event : Event) → EventFits (length (last h.start h.log)) event
    → WritesNoneOf 0 2 event → NextSlotStands h s number flush → NextSlotStands (with_event h event) s number flush
next_slot_push h s number flush event fits spared stands =
    let other : ¬ WritesUnit (other_slot s) event = spared (other_slot s) (omega arith) (omega arith) in
    record {
      limits = stands.limits;
      next_limits = stands.next_limits;
      active = surely_push h event (s.epoch % 2) (λ unit. unit ≡ super_bytes s) stands.active fits (spared (s.epoch % 2) (omega arith) (omega arith));
      written = last_push h event (other_slot s) fits other ∙ stands.written;
      flushes = flushed_push h event flush (other_slot s) other stands.flushes;
    }

-- ---- what the units are to hold

pub target_front : (tail first : ℕ) (recs : List (List RowOp)) (k : ℕ) → k < tail → target_unit tail first recs k ≡ unit_at k (records_units first recs)
target_front tail first recs k below = rw (lt_true below) refl
  where
    lt_true : k < tail → nat_lt k tail ≡ true
    lt_true l = search arith

pub target_behind : (tail first : ℕ) (recs : List (List RowOp)) (k : ℕ) → tail ≤ k → target_unit tail first recs k ≡ zeros 4096
target_behind tail first recs k from = rw (lt_false from) refl
  where
    lt_false : tail ≤ k → nat_lt k tail ≡ false
    lt_false l = search arith

-- ---- a checkpoint is written

pub check_begin : (h : History) (s : Super) (number : ℕ) (rows : Rows) (tail : ℕ) (recs : List (List RowOp)) (is_stale is_left : ℕ → Bool)
    → rows ≡ rows_of_records map.empty recs → AreSpellable number recs → IsUnits tail (records_units number recs) → tail ≤ s.half
    → ((k : ℕ) → k < s.half → is_left k ≡ false → (tail ≤ k) × (is_stale k ≡ false))
    → OtherHalfRests h s is_stale
    → CheckpointStands h (next_super s number) rows tail recs is_left not_sent
check_begin h s number rows tail recs is_stale is_left made spellable whole room beyond rests = record {
  made = made;
  spellable = spellable;
  whole = whole;
  room = room;
  written = λ k below given.
      let zeroed = beyond k below given in
      subst (λ u. last_at h (u + k) ≡ target_unit tail number recs k) (follows s number)
      (rests.zero k below zeroed.1 ∙ sym (target_behind tail number recs k zeroed.0));
  flushes = λ k below given. tt;
}

-- a run of units is given, each as it is to be
pub check_piece : (h : History) (t : Super) (rows : Rows) (tail : ℕ) (recs : List (List RowOp)) (is_left is_left' : ℕ → Bool) (from count : ℕ)
    (piece : List ℕ) → length piece ≡ 4096 * count
    → ((j : ℕ) → j < count → unit_at j piece ≡ target_unit tail t.first recs (from + j))
    → ((k : ℕ) → k < t.half → is_left' k ≡ false → (is_left k ≡ false) ⊎ ((from ≤ k) × (k < from + count)))
    → 4096 * (active_unit t + from) + length piece ≤ length (last h.start h.log)
    → CheckpointStands h t rows tail recs is_left not_sent
    → CheckpointStands (with_event h (Write (active_unit t + from) piece)) t rows tail recs is_left' not_sent
check_piece h t rows tail recs is_left is_left' from count piece size as_target given fits stands =
    let at = active_unit t + from in
    let event = Write at piece in
    let new : (k : ℕ) → from ≤ k → k < from + count → last_at (with_event h event) (active_unit t + k) ≡ target_unit tail t.first recs k =
    λ k after below.
    let j = k - from in
    let index : from + j ≡ k = omega (arith, after) in
    ap (last_at (with_event h event)) (omega (arith, after))
    ∙ written_unit h at j piece fits (omega (arith, size, after, below))
    ∙ as_target j (omega (arith, after, below))
    ∙ ap (target_unit tail t.first recs) index in
    record {
      made = stands.made;
      spellable = stands.spellable;
      whole = stands.whole;
      room = stands.room;
      written = λ k below now. elim (cases_lt k from) [
        | inl before ↦ elim (given k below now) [
          | inl old ↦ last_push h event (active_unit t + k) fits (λ covers. omega (arith, covers.0, before)) ∙ stands.written k below old
          | inr here ↦ absurd (omega (arith, before, here.0))
        ]
        | inr after ↦ elim (cases_lt k (from + count)) [
          | inl inside ↦ new k after inside
          | inr past ↦ elim (given k below now) [
            | inl old ↦ last_push h event (active_unit t + k) fits (λ covers. omega (arith, covers.1, past, size)) ∙ stands.written k below old
            | inr here ↦ absurd (omega (arith, past, here.1))
          ]
        ]
      ];
      flushes = λ k below now. tt;
    }

-- its flush is submitted, while no write of the half is in flight and nothing is left; and ends

check_moves : (k : History) (t : Super) (rows : Rows) (tail : ℕ) (recs : List (List RowOp)) (is_left : ℕ → Bool) (before after : FlushState)
    → CheckpointStands k t rows tail recs is_left before
    → ((j : ℕ) → j < t.half → is_left j ≡ false → IsFlushed k.log after (active_unit t + j))
    → CheckpointStands k t rows tail recs is_left after
check_moves k t rows tail recs is_left before after stands each = record {
  made = stands.made;
  spellable = stands.spellable;
  whole = stands.whole;
  room = stands.room;
  written = stands.written;
  flushes = each;
}

pub check_flush : (h : History) (t : Super) (rows : Rows) (tail : ℕ) (recs : List (List RowOp)) (is_left : ℕ → Bool) (base : ℕ) (flights : List Flight)
    → QuietAt base h → EachWriteIsAnswered base h flights → ((k : ℕ) → k < t.half → IsUntouched flights (active_unit t + k))
    → CheckpointStands h t rows tail recs is_left not_sent
    → CheckpointStands (with_event h Flush) t rows tail recs is_left (sent (length h.log))
check_flush h t rows tail recs is_left base flights quiet each untouched stands =
    check_moves (with_event h Flush) t rows tail recs is_left not_sent (sent (length h.log))
    (check_push h t rows tail recs is_left not_sent Flush tt (λ unit from below covers. covers) stands)
    (λ j below given. flush_sent h base flights (active_unit t + j) quiet each (untouched j below))

pub check_flushed : (h : History) (t : Super) (rows : Rows) (tail : ℕ) (recs : List (List RowOp)) (is_left : ℕ → Bool) (flush : ℕ)
    → CheckpointStands h t rows tail recs is_left (sent flush)
    → CheckpointStands (with_event h (Done flush true)) t rows tail recs is_left flushed
check_flushed h t rows tail recs is_left flush stands =
    check_moves (with_event h (Done flush true)) t rows tail recs is_left (sent flush) flushed
    (check_push h t rows tail recs is_left (sent flush) (Done flush true) tt (λ unit from below covers. covers) stands)
    (λ j below given. flush_ended h flush (active_unit t + j) (stands.flushes j below given))

-- then the half is one of the log under the superblock to come

pub check_half : (h : History) (t : Super) (rows : Rows) (tail : ℕ) (recs : List (List RowOp)) (is_left : ℕ → Bool)
    → ((k : ℕ) → k < t.half → is_left k ≡ false) → CheckpointStands h t rows tail recs is_left flushed
    → ActiveHalfStands h t rows tail (t.first + length recs) None 0 not_sent recs
check_half h t rows tail recs is_left none stands = record {
  made = stands.made;
  next = refl;
  spellable = stands.spellable;
  begun_spellable = tt;
  whole = stands.whole;
  room = omega (arith, stands.room);
  part = omega arith;
  front = λ k below.
      let inside : k < t.half = omega (arith, below, stands.room) in
      record {
        clean = stands.flushes k inside (none k inside);
        last = stands.written k inside (none k inside) ∙ target_front tail t.first recs k below;
      };
  zero_before = λ j below. absurd (omega (arith, below));
  zero_behind = λ k behind below. record {
    clean = stands.flushes k below (none k below);
    last = stands.written k below (none k below) ∙ target_behind tail t.first recs k (omega (arith, behind));
  };
  given = λ j from below. absurd (omega (arith, below));
  given_flushed = λ j from below. absurd (omega (arith, below));
}

-- ---- the slot

pub slot_write : (h : History) (s : Super) (number : ℕ) → IsSuper (next_super s number) → 4096 * 2 ≤ length (last h.start h.log) → SlotsStand h s
    → NextSlotStands (with_event h (Write (other_slot s) (super_bytes (next_super s number)))) s number not_sent
slot_write h s number limits size slots =
    let bytes = super_bytes (next_super s number) in
    let one : length bytes ≡ 4096 = length-super_bytes (next_super s number) in
    let fits : 4096 * other_slot s + length bytes ≤ length (last h.start h.log) = omega (arith, one, size) in
    let event = Write (other_slot s) bytes in
    let spared : ¬ WritesUnit (s.epoch % 2) event = λ covers. omega (arith, covers.0, covers.1, one) in
    record {
      limits = slots.limits;
      next_limits = limits;
      active = surely_push h event (s.epoch % 2) (λ unit. unit ≡ super_bytes s) slots.active fits spared;
      written = ap (last_at (with_event h event)) (omega arith) ∙ written_unit h (other_slot s) 0 bytes fits (omega (arith, one)) ∙ unit_at-whole bytes one;
      flushes = tt;
    }

next_slot_moves : (k : History) (s : Super) (number : ℕ) (before after : FlushState) → NextSlotStands k s number before → IsFlushed k.log after (other_slot s)
    → NextSlotStands k s number after
next_slot_moves k s number before after stands flush = record {
  limits = stands.limits;
  next_limits = stands.next_limits;
  active = stands.active;
  written = stands.written;
  flushes = flush;
}

pub next_slot_flush : (h : History) (s : Super) (number base : ℕ) (flights : List Flight) → QuietAt base h → EachWriteIsAnswered base h flights
    → IsUntouched flights (other_slot s) → NextSlotStands h s number not_sent → NextSlotStands (with_event h Flush) s number (sent (length h.log))
next_slot_flush h s number base flights quiet each untouched stands =
    next_slot_moves (with_event h Flush) s number not_sent (sent (length h.log))
    (next_slot_push h s number not_sent Flush tt (λ unit from below covers. covers) stands)
    (flush_sent h base flights (other_slot s) quiet each untouched)

pub next_slot_flushed : (h : History) (s : Super) (number flush : ℕ) → NextSlotStands h s number (sent flush)
    → NextSlotStands (with_event h (Done flush true)) s number flushed
next_slot_flushed h s number flush stands =
    next_slot_moves (with_event h (Done flush true)) s number (sent flush) flushed
    (next_slot_push h s number (sent flush) (Done flush true) tt (λ unit from below covers. covers) stands)
    (flush_ended h flush (other_slot s) stands.flushes)

-- ---- the switch

-- what the slot in use holds is older than the superblock that follows
pub older_than_next : (s : Super) (number : ℕ) (unit : List ℕ) → IsSuper s → unit ≡ super_bytes s → IsOlderSlot (next_super s number) unit
older_than_next s number unit limits holds other is same_units =
    let it : other ≡ s = same_super other s is.limits limits (sym is.spelled ∙ holds) in
    omega (arith, ap (λ (t : Super). t.epoch) it)

pub switch_slots : (h : History) (s : Super) (number : ℕ) → NextSlotStands h s number flushed → SlotsStand h (next_super s number)
switch_slots h s number stands =
    let t = next_super s number in
    let here : other_slot s ≡ t.epoch % 2 = omega arith in
    let back : s.epoch % 2 ≡ other_slot t = omega arith in
    record {
      limits = stands.next_limits;
      active = subst (λ n. SurelyHolds h n (λ unit. unit ≡ super_bytes t)) here (record { clean = stands.flushes; last = stands.written });
      other = subst (λ n. SurelyHolds h n (IsOlderSlot t)) back
          (record { clean = stands.active.clean; last = older_than_next s number (last_at h (s.epoch % 2)) stands.limits stands.active.last });
    }

pub switch_rests : (h : History) (s : Super) (number : ℕ) (rows : Rows) (tail next given_from : ℕ) (second : FlushState) (recs : List (List RowOp))
    → ActiveHalfStands h s rows tail next None given_from second recs → OtherHalfRests h (next_super s number) (λ k. nat_lt k tail)
switch_rests h s number rows tail next given_from second recs stands = record {
  clean = λ k below. subst (λ u. IsClean h.log (u + k)) (follows_back s number) (elim (cases_lt k tail) [
    | inl front ↦ (stands.front k front).clean
    | inr behind ↦ (stands.zero_behind k (omega (arith, behind)) below).clean
  ]);
  zero = λ k below fresh. subst (λ u. last_at h (u + k) ≡ zeros 4096) (follows_back s number) (elim (cases_lt k tail) [
    | inl front ↦ absurd (was_stale k front fresh)
    | inr behind ↦ (stands.zero_behind k (omega (arith, behind)) below).last
  ]);
}
  where
    was_stale : (k : ℕ) → k < tail → nat_lt k tail ≡ false → ⊥
    was_stale k l e = search (l, e, arith)
