-- A record from its beginning to its end: its pieces, its flush, and what the log is then.
use Rattle.std.proofs.Common.{◌≡◌, inl, inr, ℕ, ◌+◌, ◌-◌, ◌*◌, ◌<◌, ◌≤◌, true, List, [], ◌∷◌, ◌++◌, length, Some, None, sym, ap, subst, ◌∙◌, arith}
use Rattle.std.specs.FinMap as map
use Rattle.std.proofs.lemmas.Bool.{cases_lt}
use Rattle.std.proofs.lemmas.List.{length-append}
use Rattle.byte_maps.specs.Units.{unit_at, units_from}
use Rattle.byte_maps.proofs.Prelude.{length-units_from, unit_at-units_from, unit_at-append_front, unit_at-append_back}
use Rattle.block_device.specs.Prelude.{last, WritesUnit, IsClean, History, Flight, with_event, last_at, EachWriteIsAnswered, QuietAt, IsUntouched}
use Rattle.block_device.proofs.QuietLemmas.{written_unit}
use Rattle.block_device.specs.declared.event.Event.TheVariants.{Write, Flush, Done}
use Rattle.meta_rows.specs.declared.row_op.RowOp.{RowOp}
use Rattle.meta_rows.specs.Prelude.{Rows, rows_after}
use Rattle.meta_rows.proofs.Folds.{rows_of_records-push}
use Rattle.meta_log.specs.declared.slot.Super.{Super}
use Rattle.meta_log.specs.Prelude.{record_units, unit_count, active_unit, records_units}
use Rattle.log_facts.specs.Prelude.{FlushState, not_sent, sent, flushed, IsFlushed, IsSpellable, ActiveHalfStands}
use Rattle.log_facts.proofs.Keeping.{last_push, zero_push, front_push, half_quiet, flush_sent, flush_ended}
use Rattle.log_facts.proofs.Joins.{length-record_units, records_units-push, spellable-push}

module _ (h : History) (s : Super) (rows : Rows) (tail number : ℕ) (ops : List RowOp) (recs : List (List RowOp)) where
  -- ---- a record is begun

  pub half_begin : (given_from : ℕ) (second : FlushState) → IsSpellable number ops → tail + unit_count number ops ≤ s.half
      → ActiveHalfStands h s rows tail number None given_from second recs
      → ActiveHalfStands h s rows tail number (Some ops) (unit_count number ops) not_sent recs
  half_begin given_from second spellable fits stands = record {
    made = stands.made;
    next = stands.next;
    spellable = stands.spellable;
    begun_spellable = spellable;
    whole = stands.whole;
    room = fits;
    part = omega arith;
    front = stands.front;
    zero_before = λ j below. stands.zero_behind (tail + j) (omega arith) (omega (arith, below, fits));
    zero_behind = λ k behind below. stands.zero_behind k (omega (arith, behind)) below;
    given = λ j from below. absurd (omega (arith, from, below));
    given_flushed = λ j from below. absurd (omega (arith, from, below));
  }

  -- ---- the piece before those that were given

  module _ (given_from from : ℕ) (earlier : from ≤ given_from) (stands : ActiveHalfStands h s rows tail number (Some ops) given_from not_sent recs) where
    -- at its place, as it is cut from the record
    piece_there : let piece = units_from from (given_from - from) (record_units number ops) in
        4096 * (active_unit s + tail + from) + length piece ≤ length (last h.start h.log)
        → ActiveHalfStands (with_event h (Write (active_unit s + tail + from) piece)) s rows tail number (Some ops) from not_sent recs
    piece_there fits =
        let piece = units_from from (given_from - from) (record_units number ops) in
        let at = active_unit s + tail + from in
        let event = Write at piece in
        let size : length piece ≡ 4096 * (given_from - from) =
        length-units_from from (given_from - from) (record_units number ops) (omega (arith, earlier, stands.part, length-record_units number ops)) in
        let before : (k : ℕ) → k < tail + from → ¬ WritesUnit (active_unit s + k) event = λ k below covers. omega (arith, below, covers.0) in
        let behind : (k : ℕ) → tail + given_from ≤ k → ¬ WritesUnit (active_unit s + k) event =
        λ k above covers. omega (arith, above, covers.1, size, earlier) in
        record {
          made = stands.made;
          next = stands.next;
          spellable = stands.spellable;
          begun_spellable = stands.begun_spellable;
          whole = stands.whole;
          room = stands.room;
          part = omega (arith, earlier, stands.part);
          front = λ k below. front_push h event s k (records_units s.first recs) fits (before k (omega (arith, below))) (stands.front k below);
          zero_before = λ j below.
              zero_push h event s (tail + j) fits (before (tail + j) (omega (arith, below))) (stands.zero_before j (omega (arith, below, earlier)));
          zero_behind = λ k past below. zero_push h event s k fits (behind k (omega (arith, past, stands.part))) (stands.zero_behind k past below);
          given = λ j after below. elim (cases_lt j given_from) [
            | inl now ↦
                ap (last_at (with_event h event)) (omega (arith, after))
                ∙ written_unit h at (j - from) piece fits (omega (arith, size, now, after))
                ∙ unit_at-units_from from (given_from - from) (j - from) (record_units number ops) (omega (arith, now, after))
                ∙ ap (λ n. unit_at n (record_units number ops)) (omega (arith, after))
            | inr old ↦
                last_push h event (active_unit s + (tail + j)) fits (behind (tail + j) (omega (arith, old))) ∙ stands.given j old below
          ];
          given_flushed = λ j after below. tt;
        }

    pub half_piece : (at : ℕ) (piece : List ℕ) → at ≡ active_unit s + tail + from → piece ≡ units_from from (given_from - from) (record_units number ops)
        → 4096 * at + length piece ≤ length (last h.start h.log)
        → ActiveHalfStands (with_event h (Write at piece)) s rows tail number (Some ops) from not_sent recs
    half_piece at piece place cut fits =
        let there = active_unit s + tail + from in
        let bytes = units_from from (given_from - from) (record_units number ops) in
        let within : 4096 * there + length bytes ≤ length (last h.start h.log) = omega (arith, fits, place, ap length cut) in
        let Goal : ℕ → List ℕ → Type 0 = λ n l. ActiveHalfStands (with_event h (Write n l)) s rows tail number (Some ops) from not_sent recs in
        subst (λ n. Goal n piece) (sym place) (subst (Goal there) (sym cut) (piece_there within))

  -- ---- the flush

  -- a flush that the units given are for has come further
  flush_moves : (k : History) (given_from : ℕ) (before after : FlushState) → ActiveHalfStands k s rows tail number (Some ops) given_from before recs
      → ((j : ℕ) → given_from ≤ j → j < unit_count number ops → IsFlushed k.log after (active_unit s + (tail + j)))
      → ActiveHalfStands k s rows tail number (Some ops) given_from after recs
  flush_moves k given_from before after stands each = record {
    made = stands.made;
    next = stands.next;
    spellable = stands.spellable;
    begun_spellable = stands.begun_spellable;
    whole = stands.whole;
    room = stands.room;
    part = stands.part;
    front = stands.front;
    zero_before = stands.zero_before;
    zero_behind = stands.zero_behind;
    given = stands.given;
    given_flushed = each;
  }

  pub half_sync : (base : ℕ) (flights : List Flight) (given_from : ℕ) → QuietAt base h → EachWriteIsAnswered base h flights
      → ((j : ℕ) → given_from ≤ j → j < unit_count number ops → IsUntouched flights (active_unit s + (tail + j)))
      → ActiveHalfStands h s rows tail number (Some ops) given_from not_sent recs
      → ActiveHalfStands (with_event h Flush) s rows tail number (Some ops) given_from (sent (length h.log)) recs
  half_sync base flights given_from quiet each untouched stands =
      flush_moves (with_event h Flush) given_from not_sent (sent (length h.log))
      (half_quiet h s rows tail number (Some ops) given_from not_sent recs Flush tt stands)
      (λ j from below. flush_sent h base flights (active_unit s + (tail + j)) quiet each (untouched j from below))

  pub half_synced : (flush given_from : ℕ) → ActiveHalfStands h s rows tail number (Some ops) given_from (sent flush) recs
      → ActiveHalfStands (with_event h (Done flush true)) s rows tail number (Some ops) given_from flushed recs
  half_synced flush given_from stands =
      flush_moves (with_event h (Done flush true)) given_from (sent flush) flushed
      (half_quiet h s rows tail number (Some ops) given_from (sent flush) recs (Done flush true) tt stands)
      (λ j from below. flush_ended h flush (active_unit s + (tail + j)) (stands.given_flushed j from below))

  -- ---- the record is one of the log's

  pub half_commit : ActiveHalfStands h s rows tail number (Some ops) 0 flushed recs
      → ActiveHalfStands h s (rows_after rows ops) (tail + unit_count number ops) (number + 1) None 0 not_sent (recs ++ ops ∷ [])
  half_commit stands =
      let count = unit_count number ops in
      let joined : records_units s.first (recs ++ ops ∷ []) ≡ records_units s.first recs ++ record_units number ops =
      records_units-push s.first recs ops ∙ ap (λ n. records_units s.first recs ++ record_units n ops) (sym stands.next) in
      record {
        made = ap (λ r. rows_after r ops) stands.made ∙ sym (rows_of_records-push map.empty recs ops);
        next = omega (arith, stands.next, length-append recs (ops ∷ []));
        spellable = spellable-push s.first recs ops stands.spellable (subst (λ n. IsSpellable n ops) stands.next stands.begun_spellable);
        begun_spellable = tt;
        whole = ap length joined
            ∙ omega (arith, stands.whole, length-append (records_units s.first recs) (record_units number ops), length-record_units number ops);
        room = omega (arith, stands.room);
        part = omega arith;
        front = λ k below. elim (cases_lt k tail) [
          | inl old ↦
              let same : unit_at k (records_units s.first recs) ≡ unit_at k (records_units s.first (recs ++ ops ∷ [])) =
              sym (ap (unit_at k) joined ∙ unit_at-append_front k (records_units s.first recs) (record_units number ops) (omega (arith, stands.whole, old))) in
              record { clean = (stands.front k old).clean; last = (stands.front k old).last ∙ same }
          | inr new ↦
              let j = k - tail in
              let index : tail + j ≡ k = omega (arith, new) in
              let same : unit_at j (record_units number ops) ≡ unit_at k (records_units s.first (recs ++ ops ∷ [])) =
              sym (ap (unit_at k) joined ∙ unit_at-append_back tail k j (records_units s.first recs) (record_units number ops) stands.whole (sym index)) in
              record {
                clean = subst (λ n. IsClean h.log (active_unit s + n)) index (stands.given_flushed j (omega arith) (omega (arith, new, below)));
                last = subst (λ n. last_at h (active_unit s + n) ≡ unit_at j (record_units number ops)) index
                    (stands.given j (omega arith) (omega (arith, new, below))) ∙ same;
              }
        ];
        zero_before = λ j below. absurd (omega (arith, below));
        zero_behind = λ k behind below. stands.zero_behind k (omega (arith, behind)) below;
        given = λ j from below. absurd (omega (arith, below));
        given_flushed = λ j from below. absurd (omega (arith, below));
      }
