-- Where a call writes data units, or the active half, it writes neither slot, nor a unit of the other half.
use Rattle.std.proofs.Common.{◌≡◌, ◌⊎◌, inl, inr, true, ℕ, ◌+◌, ◌*◌, ◌%◌, ◌≤◌, List, length, sym, ap, subst, Some, arith}
use Rattle.std.proofs.lemmas.Bool.{cases_lt}
use Rattle.block_device.specs.Prelude.{WritesNothing}
use Rattle.block_device.specs.declared.event.Event.{Event}
use Rattle.block_device.specs.declared.event.Event.TheVariants.{Write, Flush, Done}
use Rattle.meta_log.specs.declared.slot.Super.{Super}
use Rattle.meta_log.specs.Prelude.{active_unit, data_unit, other_slot, other_unit, next_super}
use Rattle.log_facts.specs.Prelude.{WritesNoneOf}
use Rattle.log_facts.proofs.Keeping.{nothing_written, written_before, written_behind, data_spares_slots, data_spares_half, half_spares_slots}
use Rattle.log_facts.proofs.Switching.{follows}
use Rattle.switch_facts.specs.Prelude.{IsElsewhere}
use Rattle.store_steps.specs.Prelude.{unsent_units, run_bytes, Touch, nothing, ends, flushes, on_data, on_half, on_other, on_slot, event_of, IsPlaced, IsNoOther}

-- one half lies before the other
pub halves_apart : (s : Super) → (active_unit s + s.half ≤ other_unit s) ⊎ (other_unit s + s.half ≤ active_unit s)
halves_apart s = elim (cases_lt (s.epoch % 2) 1) [
  | inl first ↦
      let here : s.epoch % 2 ≡ 0 = omega (arith, first) in
      let there : other_slot s ≡ 1 = omega (arith, first) in
      inl (omega (arith, ap (λ n. s.half * n) here, ap (λ n. s.half * n) there))
  | inr second ↦
      let here : s.epoch % 2 ≡ 1 = omega (arith, second) in
      let there : other_slot s ≡ 0 = omega (arith, second) in
      inr (omega (arith, ap (λ n. s.half * n) here, ap (λ n. s.half * n) there))
]

half_spares_other : (s : Super) (at : ℕ) (bytes : List ℕ) → active_unit s ≤ at → 4096 * at + length bytes ≤ 4096 * (active_unit s + s.half)
    → WritesNoneOf (other_unit s) s.half (Write at bytes)
half_spares_other s at bytes behind inside = elim (halves_apart s) [
  | inl before ↦ written_before (other_unit s) s.half at bytes (omega (arith, inside, before))
  | inr later ↦ written_behind (other_unit s) s.half at bytes (omega (arith, behind, later))
]

data_spares_other : (s : Super) (at : ℕ) (bytes : List ℕ) → data_unit s ≤ at → WritesNoneOf (other_unit s) s.half (Write at bytes)
data_spares_other s at bytes behind =
    subst (λ n. WritesNoneOf n s.half (Write at bytes)) (sym (follows s 0)) (data_spares_half (next_super s 0) at bytes behind)

quiet_elsewhere : (s : Super) (e : Event) → WritesNothing e → IsElsewhere s (Some e)
quiet_elsewhere s e none = (nothing_written 0 2 e none, nothing_written (other_unit s) s.half e none)

pub placed_elsewhere : (s : Super) (t : Touch) → IsNoOther t → IsPlaced s t → IsElsewhere s (event_of t)
placed_elsewhere s nothing not placed = tt
placed_elsewhere s (ends ticket) not placed = quiet_elsewhere s (Done ticket true) tt
placed_elsewhere s (flushes ticket) not placed = quiet_elsewhere s Flush tt
placed_elsewhere s (on_data ticket run) not placed =
    let bytes : List ℕ = run_bytes (unsent_units run) in
    (data_spares_slots s run.first.unit bytes placed.0.0.0, data_spares_other s run.first.unit bytes placed.0.0.0)
placed_elsewhere s (on_half ticket unit bytes) not placed = (half_spares_slots s unit bytes placed.0, half_spares_other s unit bytes placed.0 placed.1)
placed_elsewhere s (on_other ticket unit bytes) not placed = absurd not
placed_elsewhere s (on_slot ticket unit bytes) not placed = absurd not
