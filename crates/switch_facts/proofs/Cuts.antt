-- The cut at any moment of a checkpoint.
use Rattle.std.proofs.Common.{◌≡◌, ℕ, ◌+◌, ◌≤◌, List, length, take, Some, None}
use Rattle.byte_maps.specs.Units.{IsUnits}
use Rattle.block_device.specs.Prelude.{last, History}
use Rattle.object_model.specs.Prelude.{Objects, replay, committed, HasAcked}
use Rattle.object_model.specs.declared.book.Book.{Book}
use Rattle.meta_rows.specs.declared.row_op.RowOp.{RowOp}
use Rattle.meta_log.specs.Prelude.{width_of, check_records, check_units}
use Rattle.store_image.specs.Prelude.{IsExactBut, IsLeakedIn, LeavesPrefix}
use Rattle.log_facts.specs.Prelude.{FlushState, not_sent, ActiveHalfStands, SoundFor}
use Rattle.log_facts.proofs.Cuts.{cut_stands}
use Rattle.log_facts.proofs.SwitchCuts.{switch_cut}
use Rattle.switch_facts.specs.Prelude.{SlotPhase, unwritten, written, CheckPart, OtherPart, IsSlotKnown, OtherIsKnown}
use Rattle.switch_facts.proofs.Steps.{known_as}

cut_slot : (h : History) (p : OtherPart) (c : CheckPart) (slot : SlotPhase) (from : ℕ) (second : FlushState) (recs : List (List RowOp)) (base : ℕ) (objects : Objects)
    (book : Book) (count : ℕ) → IsUnits p.sup.units h.start → IsUnits p.sup.units (last h.start h.log) → IsSlotKnown h p c slot
    → ActiveHalfStands h p.sup p.rows p.tail p.number None from second recs
    → count ≤ length book.commits → HasAcked base (length h.log) book.commits count
    → SoundFor h p.sup p.rows (replay objects (committed book.entries (take count book.commits)))
    → IsExactBut (width_of p.sup) (IsLeakedIn (last h.start (take base h.log))) p.rows
    → LeavesPrefix base h.start objects book h.log
cut_slot h p c unwritten from second recs base objects book count whole whole_now known half within acked sound exact =
    cut_stands h p.sup p.rows p.tail p.number None from second recs base objects book count whole whole_now known.0 half within acked sound
    (λ ops never. absurd cc) exact (λ ops never. absurd cc)
cut_slot h p c (written flush) from second recs base objects book count whole whole_now known half within acked sound exact =
    switch_cut h p.sup p.number flush p.rows p.tail p.number (check_units p.number p.rows) (p.number + length (check_records p.rows)) recs (check_records p.rows)
    from 0 second not_sent base objects book count whole known.0 half known.1 within acked sound exact

pub cut_of_check : (h : History) (p : OtherPart) (from : ℕ) (second : FlushState) (recs : List (List RowOp)) (base : ℕ) (objects : Objects) (book : Book)
    (count : ℕ) → IsUnits p.sup.units h.start → IsUnits p.sup.units (last h.start h.log) → OtherIsKnown h p → (c : CheckPart) → p.check ≡ Some c
    → ActiveHalfStands h p.sup p.rows p.tail p.number None from second recs
    → count ≤ length book.commits → HasAcked base (length h.log) book.commits count
    → SoundFor h p.sup p.rows (replay objects (committed book.entries (take count book.commits)))
    → IsExactBut (width_of p.sup) (IsLeakedIn (last h.start (take base h.log))) p.rows
    → LeavesPrefix base h.start objects book h.log
cut_of_check h p from second recs base objects book count whole whole_now known c opened half within acked sound exact =
    cut_slot h p c c.slot from second recs base objects book count whole whole_now (known_as h p (Some c) opened known) half within acked sound exact
