-- The half of the log that isn't in use rests while what is behind the records of the other one is cleared.
use Rattle.std.proofs.Common.{◌≡◌, ◌⊎◌, inl, inr, ℕ, zero, suc, ◌+◌, ◌-◌, ◌*◌, ◌%◌, ◌<◌, Bool, List, [], ◌∷◌, ◌++◌, length, sym, ap, ap₂, subst, ◌∙◌, append_assoc, arith}
use Rattle.std.specs.List.{AllByRecursion}
use Rattle.std.proofs.lemmas.List.{append-nil}
use Rattle.byte_maps.specs.Units.{IsUnits}
use Rattle.byte_maps.proofs.Prelude.{length-zeros}
use Rattle.block_device.specs.Prelude.{last, History, with_event, EventFits}
use Rattle.block_device.specs.declared.event.Event.{Event}
use Rattle.block_device.specs.declared.event.Event.TheVariants.{Write, Flush, Done}
use Rattle.block_device.proofs.LogLemmas.{last-push, length-after_event}
use Rattle.meta_log.specs.declared.runs.UnitRun.{UnitRun}
use Rattle.meta_log.specs.declared.slot.Super.{Super}
use Rattle.meta_log.specs.Prelude.{IsSuper, active_unit, other_unit, in_runs}
use Rattle.log_facts.specs.Prelude.{WritesNoneOf, OtherHalfRests}
use Rattle.log_facts.proofs.Switching.{rests_push}
use Rattle.log_facts.proofs.Reading.{half_inside}
use Rattle.log_replay.specs.Prelude.{IsAllClean, IsZeroing, ClearsSoFar, AreZeroOutside}

-- one half begins where the other one ends
halves_apart : (s : Super) → (other_unit s ≡ active_unit s + s.half) ⊎ (active_unit s ≡ other_unit s + s.half)
halves_apart s = by_number (s.epoch % 2) (omega arith)
  where
    by_number : (n : ℕ) → n < 2 → (2 + s.half * (1 - n) ≡ 2 + s.half * n + s.half) ⊎ (2 + s.half * n ≡ 2 + s.half * (1 - n) + s.half)
    by_number zero below = inl (omega arith)
    by_number (suc zero) below = inr (omega arith)
    by_number (suc (suc n)) below = absurd (omega (arith, below))

module _ (s : Super) (tail : ℕ) (is_stale : ℕ → Bool) (limits : IsSuper s) where
  abbrev Zeroes : Event → Type 0
  Zeroes event = IsZeroing (active_unit s + tail) (active_unit s + s.half) event

  zeros_spare : (event : Event) → Zeroes event → WritesNoneOf (other_unit s) s.half event
  zeros_spare (Write at bytes) is unit from below covers =
      let size : length bytes ≡ 4096 * is.0 = ap length is.1 ∙ length-zeros (4096 * is.0) in elim (halves_apart s) [
        | inl behind ↦ omega (arith, from, covers.1, size, is.3, behind)
        | inr before ↦ omega (arith, below, covers.0, is.2, before)
      ]
  zeros_spare Flush is unit from below covers = covers
  zeros_spare (Done ticket ok) is unit from below covers = covers

  zeros_fit : (h : History) (event : Event) → IsUnits s.units (last h.start h.log) → Zeroes event → EventFits (length (last h.start h.log)) event
  zeros_fit h (Write at bytes) whole is =
      let inside = half_inside s (last h.start h.log) limits whole in
      omega (arith, inside, is.3, ap length is.1 ∙ length-zeros (4096 * is.0))
  zeros_fit h Flush whole is = tt
  zeros_fit h (Done ticket ok) whole is = tt

  rests_more : (events : List Event) (h : History) → IsUnits s.units (last h.start h.log) → AllByRecursion Zeroes events → OtherHalfRests h s is_stale
      → OtherHalfRests (record { start = h.start; log = h.log ++ events }) s is_stale
  rests_more [] h whole each rests = subst (λ l. OtherHalfRests (record { start = h.start; log = l }) s is_stale) (sym (append-nil h.log)) rests
  rests_more (event ∷ events) h whole each rests =
      let next = with_event h event in
      let fits = zeros_fit h event whole each.0 in
      let whole_next : IsUnits s.units (last next.start next.log) =
      ap length (last-push h.start h.log event) ∙ length-after_event event (last h.start h.log) fits ∙ whole in
      subst (λ l. OtherHalfRests (record { start = h.start; log = l }) s is_stale) (append_assoc h.log (event ∷ []) events)
      (rests_more events next whole_next each.1 (rests_push h s is_stale event fits (zeros_spare event each.0) rests))

  pub rests_so_far : (bytes : List ℕ) (h k : History) → IsUnits s.units (last h.start h.log)
      → ClearsSoFar (active_unit s + tail) (active_unit s + s.half) bytes h k → OtherHalfRests h s is_stale → OtherHalfRests k s is_stale
  rests_so_far bytes h k whole so_far rests =
      let is : record { start = h.start; log = h.log ++ so_far.events } ≡ k =
      ap₂ (λ (a : List ℕ) (l : List Event). let t : History = record { start = a; log = l } in t) (sym so_far.by.same_start) (sym so_far.by.more) in
      subst (λ (t : History). OtherHalfRests t s is_stale) is (rests_more so_far.events h whole so_far.each rests)

-- where nothing is dirty
pub rests_clean : (s : Super) (runs : List UnitRun) (h : History) → IsAllClean h → AreZeroOutside (other_unit s) s.half runs (last h.start h.log)
    → OtherHalfRests h s (in_runs runs)
rests_clean s runs h clean zeroed = record { clean = λ k below. clean (other_unit s + k); zero = λ k below none. (zeroed k below).0 none }
