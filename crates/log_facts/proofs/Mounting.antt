-- What is known of slots and log where no unit is dirty: of a device as it is found.
use Rattle.std.proofs.Common.{◌≡◌, ℕ, ◌+◌, ◌*◌, ◌%◌, ◌<◌, List, [], ◌∷◌, ◌++◌, length, None, refl, sym, ap, ◌∙◌, append_assoc, arith}
use Rattle.std.specs.FinMap as map
use Rattle.byte_maps.specs.Units.{zeros}
use Rattle.block_device.specs.Prelude.{last, IsClean, History, last_at}
use Rattle.meta_rows.specs.declared.row_op.RowOp.{RowOp}
use Rattle.meta_log.specs.declared.slot.Super.{Super}
use Rattle.meta_log.specs.Prelude.{record_units, AreRecords, active_unit, IsSlotOf, IsActiveSlot, other_slot, records_units}
use Rattle.log_facts.specs.Prelude.{not_sent, SlotsStand, AreSpellable, ActiveHalfStands}

-- ---- where the device is as it was found

pub fresh_slots : (h : History) (s : Super) → ((unit : ℕ) → IsClean h.log unit) → IsActiveSlot (last h.start h.log) s → SlotsStand h s
fresh_slots h s clean is = record {
  limits = is.here.holds.limits;
  active = record { clean = clean (s.epoch % 2); last = is.here.holds.spelled };
  other = record { clean = clean (other_slot s); last = λ other holds same_units. older other holds same_units };
}
  where
    older : (other : Super) → IsSlotOf (other_slot s) (last_at h (other_slot s)) other → other.units ≡ s.units → other.epoch < s.epoch
    older other holds same_units =
        let size : length (last h.start h.log) ≡ 4096 * other.units = omega (arith, is.here.same_size, same_units) in
        let least = is.greatest (other_slot s) other (omega arith) (record { holds = holds; same_size = size }) in
        omega (arith, least, holds.own_epoch)

pub fresh_half : (h : History) (s : Super) → ((unit : ℕ) → IsClean h.log unit) → ((k : ℕ) → k < s.half → last_at h (active_unit s + k) ≡ zeros 4096)
    → ActiveHalfStands h s map.empty 0 s.first None 0 not_sent []
fresh_half h s clean zeroed = record {
  made = refl;
  next = omega arith;
  spellable = tt;
  begun_spellable = tt;
  whole = refl;
  room = omega arith;
  part = omega arith;
  front = λ k below. absurd (omega (arith, below));
  zero_before = λ j below. absurd (omega (arith, below));
  zero_behind = λ k behind below. record { clean = clean (active_unit s + k); last = zeroed k below };
  given = λ j from below. absurd (omega (arith, below));
  given_flushed = λ j from below. absurd (omega (arith, below));
}

-- ---- where records stand

-- what bytes are that begin with records
pub record AreSpelled (recs : List (List RowOp)) (number : ℕ) (bytes : List ℕ) : Type 0 where
  pub spellable : AreSpellable number recs
  pub behind : List ℕ
  pub spelled : bytes ≡ records_units number recs ++ behind

pub records_spelled : (recs : List (List RowOp)) (number : ℕ) (bytes : List ℕ) → AreRecords recs number bytes → AreSpelled recs number bytes
records_spelled [] number bytes are = record { spellable = tt; behind = bytes; spelled = refl }
records_spelled (ops ∷ more) number bytes are =
    let others = records_spelled more (number + 1) are.0 are.2 in
    let one = are.1 in
    record {
      spellable = (record { number_below = one.number_below; body_below = one.body_below; fit = one.fit }, others.spellable);
      behind = others.behind;
      spelled = one.spelled
          ∙ ap (λ l. record_units number ops ++ l) others.spelled
          ∙ sym (append_assoc (record_units number ops) (records_units (number + 1) more) others.behind);
    }
