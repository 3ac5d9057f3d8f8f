-- The part of the state that a switch of halves reads and changes: the slots, and the half that isn't in use.
use Rattle.std.specs.Prelude.{ℕ, ◌+◌, Bool, nat_lt, length, Option, None}
use Rattle.meta_rows.specs.Prelude.{Rows}
use Rattle.meta_log.specs.declared.slot.Super.{Super}
use Rattle.meta_log.specs.Prelude.{next_super, check_records, check_units}
use Rattle.log_facts.specs.Prelude.{FlushState, not_sent}

-- whether the next superblock was submitted, and how far its flush is
pub data SlotPhase : Type 0 where
  unwritten : SlotPhase
  written : (flush : FlushState) → SlotPhase

-- a checkpoint: the units of the other half that are left to be written, how far its flush is, and its slot
pub record CheckPart : Type 0 where
  pub is_left : ℕ → Bool
  pub flush : FlushState
  pub slot : SlotPhase

-- the committed rows, the units that their log takes in the active half, the next number, which units of the other half may not be zero, and the checkpoint
pub record OtherPart : Type 0 where
  pub sup : Super
  pub rows : Rows
  pub tail : ℕ
  pub number : ℕ
  pub is_stale : ℕ → Bool
  pub check : Option CheckPart

-- a checkpoint of which these units are left, and nothing was flushed
abbrev pub begun_check : (ℕ → Bool) → CheckPart
begun_check left = record { is_left = left; flush = not_sent; slot = unwritten }

-- The other half is in use, with the checkpoint's records; what was the active half is stale as far as its records reached.
abbrev pub switched_part : OtherPart → OtherPart
switched_part p = record {
  sup = next_super p.sup p.number;
  rows = p.rows;
  tail = check_units p.number p.rows;
  number = p.number + length (check_records p.rows);
  is_stale = λ k. nat_lt k p.tail;
  check = None;
}
