-- What is known of the slots and of the half that isn't in use.
use Rattle.std.specs.Prelude.{ℕ, ◌+◌, length, Option, Some, None}
use Rattle.block_device.specs.Prelude.{History, EventFits, with_event}
use Rattle.block_device.specs.declared.event.Event.{Event}
use Rattle.meta_log.specs.Prelude.{next_super, check_records, check_units}
use Rattle.log_facts.specs.Prelude.{not_sent, SlotsStand, ActiveHalfStands, OtherHalfRests, CheckpointStands, NextSlotStands}
use Rattle.switch_facts.specs.OtherPart.{SlotPhase, unwritten, written, CheckPart, OtherPart}

-- from the write of the slot on the other half is one of a log under the superblock that follows
abbrev pub IsWrittenOut : History → OtherPart → Type 0
IsWrittenOut h p = ActiveHalfStands h (next_super p.sup p.number) p.rows (check_units p.number p.rows) (p.number + length (check_records p.rows))
    None 0 not_sent (check_records p.rows)

-- by how far its slot is
abbrev pub IsSlotKnown : History → OtherPart → CheckPart → SlotPhase → Type 0
IsSlotKnown h p c unwritten = SlotsStand h p.sup
    × CheckpointStands h (next_super p.sup p.number) p.rows (check_units p.number p.rows) (check_records p.rows) c.is_left c.flush
IsSlotKnown h p c (written flush) = NextSlotStands h p.sup p.number flush × IsWrittenOut h p

-- by the checkpoint that is written, if one is
abbrev pub IsCheckKnown : History → OtherPart → Option CheckPart → Type 0
IsCheckKnown h p None = SlotsStand h p.sup × OtherHalfRests h p.sup p.is_stale
IsCheckKnown h p (Some c) = IsSlotKnown h p c c.slot

-- Without a checkpoint the slots stand, and the half rests. While one is written the slots stand still, and the half is as far as that has come; while
-- its slot is, both superblocks have their half.
abbrev pub OtherIsKnown : History → OtherPart → Type 0
OtherIsKnown h p = IsCheckKnown h p p.check

-- the history behind a call that makes an event of the device, or none
abbrev pub with_any : Option Event → History → History
with_any None h = h
with_any (Some event) h = with_event h event

-- the event's bytes lie inside a device of this length
abbrev pub IsFitting : ℕ → Option Event → Type 0
IsFitting size None = Unit {0}
IsFitting size (Some event) = EventFits size event
