-- The free units of a drained kernel are the data units whose bits are 0, by what its device holds.
use Rattle.std.proofs.Common.{◌≡◌, inl, inr, ℕ, ◌+◌, ◌≤◌, true, List, [], length, None, refl, sym, subst, ◌∙◌, arith}
use Rattle.byte_maps.specs.Units.{IsUnits}
use Rattle.block_device.specs.Prelude.{last, Disk, History}
use Rattle.meta_rows.specs.Prelude.{Rows}
use Rattle.meta_log.specs.declared.slot.Super.{Super}
use Rattle.store_image.specs.Prelude.{IsDataUnit, IsMarked, IsBusy}
use Rattle.meta_log.specs.Prelude.{records_units}
use Rattle.log_facts.proofs.Reading.{behind_units, half_inside, slots_read, half_parts, no_record_behind, rows_read}
use Rattle.unit_allocator.specs.Prelude.{Space, free_units, IsWithin}
use Rattle.unit_allocator.proofs.FreeUnits.{free_units_ascend, listed_is_free, free_is_listed}
use Rattle.store_steps.specs.declared.context.Context.{Context}
use Rattle.store_steps.specs.Prelude.{State, intents, SpaceIsCounted, HoldsAreCounted, free_count, is_drained}
use Rattle.run_facts.specs.Prelude.{IsSpaceOf, IsKept}
use Rattle.run_facts.proofs.Prelude.{idle_is_free, IsIdle, idle_uncommitted, known_idle, kept_rows, kept_space}
use Rattle.unit_facts.specs.Known.{KnownOfUnits}
use Rattle.unit_facts.proofs.Runs.{idle_half, idle_other}
use Rattle.crash_facts.proofs.Now.{size_now}
use Rattle.bstore_top.specs.Prelude.{AreUnmarked, HasFree}

-- a free unit is a data unit whose bit is 0, and the other way round
module _ (sup : Super) (rows submitted : Rows) (space : Space) (is : IsSpaceOf sup space) (counted : SpaceIsCounted sup rows [] space)
    (held : HoldsAreCounted sup submitted space) where
  data_of : (unit : ℕ) → IsWithin space unit → IsDataUnit sup unit
  data_of unit w = (omega (arith, w.from, is.first), omega (arith, w.to, is.first, is.count))

  within_of : (unit : ℕ) → IsDataUnit sup unit → IsWithin space unit
  within_of unit on = record { from = omega (arith, on.0, is.first); to = omega (arith, on.1, is.first, is.count) }

  -- nothing is under way, so that a unit is busy where its bit is 1
  unmarked_idle : (unit : ℕ) → ¬ IsMarked rows unit → ¬ IsBusy rows [] unit
  unmarked_idle unit out busy = elim busy [ inl marked ↦ out marked | inr any ↦ omega (arith, any.2) ]

  pub free_unmarked : AreUnmarked sup rows (free_units space)
  free_unmarked = record {
    ascend = free_units_ascend space;
    each = λ unit. (
      λ listed. let free = listed_is_free space unit listed in
          let on : IsDataUnit sup unit = data_of unit free.within in
          (on, λ marked. (counted unit on).0 (sym (idle_is_free sup submitted space unit held on) ∙ free.free) (inl marked)),
      λ unmarked.
          let idle = (counted unit unmarked.0).1 (unmarked_idle unit unmarked.1) in
          (free_is_listed space unit (within_of unit unmarked.0)).0 (idle_is_free sup submitted space unit held unmarked.0 ∙ idle),
    );
  }

-- what the device of a drained kernel holds says which units are free
pub drained_free : (base : ℕ) (s : State) (d : Disk) (h : History) → IsKept s d → KnownOfUnits base s d h → s.down ≡ None
    → is_drained d.depth s ≡ true → HasFree (last h.start h.log) (free_count s.space)
drained_free base s d h kept known up drained =
    let contents : List ℕ = last h.start h.log in
    let sup : Super = s.log.sup in
    let tail : ℕ = s.log.tail in
    let idle : IsIdle s = known_idle s d kept up drained in
    let found = idle_half base s d h known idle.begun in
    let half = found.1 in
    let slots = (idle_other base s d h known idle.switching).0 in
    let whole : IsUnits sup.units contents = size_now s d h kept known.told in
    let inside = half_inside sup contents slots.limits whole in
    let within : tail ≤ sup.half = omega (arith, half.room) in
    let parts = half_parts contents sup tail (records_units sup.first found.0) half.whole within inside (λ k below. (half.front k below).last) in
    let counted : SpaceIsCounted sup s.log.rows [] s.space =
    subst (λ (xs : List Context). SpaceIsCounted sup s.log.rows (intents xs) s.space) (idle_uncommitted s idle) (kept_rows s d kept up).counted in
    record {
      sup = sup;
      active = slots_read contents sup slots.limits whole slots.active.last slots.other.last;
      rows = s.log.rows;
      read = rows_read contents sup s.log.rows found.0 (behind_units contents sup tail) half.made half.spellable parts
          (no_record_behind contents sup tail within inside (λ some. (half.zero_behind tail (omega arith) some).last) (sup.first + length found.0));
      units = free_units s.space;
      unmarked = free_unmarked sup s.log.rows s.submitted s.space (kept_space s d kept up) counted (kept_rows s d kept up).held;
      count = refl;
    }
