-- What is known of the half that isn't in use, at rest and while a checkpoint is written there, and of the slots while its superblock is written.
use Rattle.std.specs.Prelude.{◌≡◌, ◌⊎◌, ℕ, ◌+◌, ◌%◌, ◌<◌, ◌≤◌, Bool, false, List}
use Rattle.std.specs.FinMap as map
use Rattle.byte_maps.specs.Units.{zeros, IsUnits}
use Rattle.block_device.specs.Prelude.{History, last_at, SurelyHolds, IsClean}
use Rattle.meta_rows.specs.declared.row_op.RowOp.{RowOp}
use Rattle.meta_rows.specs.Prelude.{Rows, rows_of_records}
use Rattle.meta_log.specs.declared.slot.Super.{Super}
use Rattle.meta_log.specs.Prelude.{records_units, target_unit, active_unit, other_slot, other_unit, next_super, super_bytes, IsSuper, IsActiveSlot, AreRowsOf}
use Rattle.log_facts.specs.Flushing.{FlushState, IsFlushed}
use Rattle.log_facts.specs.HalfFacts.{AreSpellable}

-- While no checkpoint is written each unit of the other half is clean, and those that aren't stale are zero.
pub record OtherHalfRests (h : History) (s : Super) (is_stale : ℕ → Bool) : Type 0 where
  pub clean : (k : ℕ) → k < s.half → IsClean h.log (other_unit s + k)
  pub zero : (k : ℕ) → k < s.half → is_stale k ≡ false → last_at h (other_unit s + k) ≡ zeros 4096

-- The half of the superblock `t`, which is to come, is written: the records `recs` make the rows, and are to stand in its first `tail` units, with
-- zeros behind them. Each unit was last written with what it is to hold, but for those that are left; the flush is for all of them.
pub record CheckpointStands (h : History) (t : Super) (rows : Rows) (tail : ℕ) (recs : List (List RowOp)) (is_left : ℕ → Bool)
    (flush : FlushState) : Type 0 where
  pub made : rows ≡ rows_of_records map.empty recs
  pub spellable : AreSpellable t.first recs
  pub whole : IsUnits tail (records_units t.first recs)
  pub room : tail ≤ t.half
  pub written : (k : ℕ) → k < t.half → is_left k ≡ false → last_at h (active_unit t + k) ≡ target_unit tail t.first recs k
  pub flushes : (k : ℕ) → k < t.half → is_left k ≡ false → IsFlushed h.log flush (active_unit t + k)

-- The superblock that follows was last written to the other slot, in a write that the flush is for; the slot in use surely holds what it held.
pub record NextSlotStands (h : History) (s : Super) (number : ℕ) (flush : FlushState) : Type 0 where
  pub limits : IsSuper s
  pub next_limits : IsSuper (next_super s number)
  pub active : SurelyHolds h (s.epoch % 2) (λ unit. unit ≡ super_bytes s)
  pub written : last_at h (other_slot s) ≡ super_bytes (next_super s number)
  pub flushes : IsFlushed h.log flush (other_slot s)

-- The image has the rows, by the superblock in use or by the one that follows.
abbrev pub LeavesEither : List ℕ → Super → ℕ → Rows → Type 0
LeavesEither image s number rows = (IsActiveSlot image s × AreRowsOf image s rows)
    ⊎ (IsActiveSlot image (next_super s number) × AreRowsOf image (next_super s number) rows)
