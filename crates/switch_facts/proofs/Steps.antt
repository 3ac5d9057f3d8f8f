-- The slots and the other half over each step of a switch.
use Rattle.std.proofs.Common.{◌≡◌, ℕ, ◌+◌, ◌*◌, ◌<◌, ◌≤◌, true, Bool, List, length, Option, Some, None, refl, sym, ap, subst, ◌∙◌, arith}
use Rattle.block_device.specs.Prelude.{last, History, Flight, with_event, EventFits, EachWriteIsAnswered, QuietAt, IsUntouched}
use Rattle.block_device.specs.declared.event.Event.{Event}
use Rattle.block_device.specs.declared.event.Event.TheVariants.{Write, Flush, Done}
use Rattle.meta_rows.specs.declared.row_op.RowOp.{RowOp}
use Rattle.meta_rows.specs.Prelude.{Rows}
use Rattle.meta_log.specs.Prelude.{active_unit, super_bytes, IsSuper, other_slot, other_unit, next_super, check_records, check_units}
use Rattle.meta_log.proofs.SlotLemmas.{length-super_bytes}
use Rattle.log_facts.specs.Prelude.{FlushState, not_sent, sent, flushed, WritesNoneOf, ActiveHalfStands, CheckpointStands}
use Rattle.log_facts.proofs.Keeping.{slots_push, slots_quiet, half_push, half_quiet, written_before, written_behind}
use Rattle.log_facts.proofs.Switching.{follows, rests_push, check_push, next_slot_push, check_piece, check_flush, check_flushed, check_half, slot_write, next_slot_flush, next_slot_flushed, switch_slots, switch_rests}
use Rattle.log_facts.proofs.RowsBegin.{rows_begin}
use Rattle.switch_facts.specs.Prelude.{SlotPhase, unwritten, written, CheckPart, OtherPart, with_any, IsElsewhere, GivesRun, IsNothingLeft, switched_part, OtherGoes, IsSlotKnown, IsCheckKnown, OtherIsKnown, IsFitting}
use Rattle.switch_facts.specs.OtherGoes.{same, commits, begins, gives, flushes, is_flushed, writes_slot, flushes_slot, slot_flushed, switches}

-- ---- by the checkpoint that is opened

pub known_as : (h : History) (p : OtherPart) (o : Option CheckPart) → p.check ≡ o → OtherIsKnown h p → IsCheckKnown h p o
known_as h p o is known = subst (IsCheckKnown h p) is known

pub slot_as : (h : History) (p : OtherPart) (c : CheckPart) (slot : SlotPhase) → p.check ≡ Some c → c.slot ≡ slot → OtherIsKnown h p → IsSlotKnown h p c slot
slot_as h p c slot opened is known = subst (IsSlotKnown h p c) is (known_as h p (Some c) opened known)

-- the half of the superblock that follows
abbrev Written : History → OtherPart → (ℕ → Bool) → FlushState → Type 0
Written h p left flush = CheckpointStands h (next_super p.sup p.number) p.rows (check_units p.number p.rows) (check_records p.rows) left flush

spares_next : (p : OtherPart) (event : Event) → WritesNoneOf (other_unit p.sup) p.sup.half event
    → WritesNoneOf (active_unit (next_super p.sup p.number)) p.sup.half event
spares_next p event spared = subst (λ u. WritesNoneOf u p.sup.half event) (follows p.sup p.number) spared

-- ---- no write in it

module _ (h : History) (p : OtherPart) where
  push_slot : (c : CheckPart) (slot : SlotPhase) (event : Event) → EventFits (length (last h.start h.log)) event → WritesNoneOf 0 2 event
      → WritesNoneOf (other_unit p.sup) p.sup.half event → IsSlotKnown h p c slot → IsSlotKnown (with_event h event) p c slot
  push_slot c unwritten event fits slots half known = (
    slots_push h p.sup event fits slots known.0,
    check_push h (next_super p.sup p.number) p.rows (check_units p.number p.rows) (check_records p.rows) c.is_left c.flush event fits
        (spares_next p event half) known.1,
  )
  push_slot c (written flush) event fits slots half known = (
    next_slot_push h p.sup p.number flush event fits slots known.0,
    half_push h (next_super p.sup p.number) p.rows (check_units p.number p.rows) (p.number + length (check_records p.rows)) None 0 not_sent
        (check_records p.rows) event fits (spares_next p event half) known.1,
  )

  push_check : (o : Option CheckPart) (event : Event) → EventFits (length (last h.start h.log)) event → WritesNoneOf 0 2 event
      → WritesNoneOf (other_unit p.sup) p.sup.half event → IsCheckKnown h p o → IsCheckKnown (with_event h event) p o
  push_check None event fits slots half known =
      (slots_push h p.sup event fits slots known.0, rests_push h p.sup p.is_stale event fits half known.1)
  push_check (Some c) event fits slots half known = push_slot c c.slot event fits slots half known

  elsewhere : (e : Option Event) → IsFitting (length (last h.start h.log)) e → IsElsewhere p.sup e → OtherIsKnown h p → OtherIsKnown (with_any e h) p
  elsewhere None fits spared known = known
  elsewhere (Some event) fits spared known = push_check p.check event fits spared.0 spared.1 known

  -- ---- a checkpoint

  committed : (rows : Rows) (tail number : ℕ) → p.check ≡ None → OtherIsKnown h p
      → OtherIsKnown h (record p { rows = rows; tail = tail; number = number })
  committed rows tail number none known =
      let q : OtherPart = record p { rows = rows; tail = tail; number = number } in
      subst (IsCheckKnown h q) (sym none) (known_as h p None none known)

  given : (at : ℕ) (piece : List ℕ) (q : OtherPart) (g : GivesRun at piece p q) → 4096 * at + length piece ≤ length (last h.start h.log)
      → OtherIsKnown h p → OtherIsKnown (with_event h (Write at piece)) (record p { check = Some (record g.now { is_left = g.left }) })
  given at piece q g fits known =
      let now : CheckPart = g.now in
      let left : ℕ → Bool = g.left in
      let t = next_super p.sup p.number in
      let was = slot_as h p now unwritten g.opened g.slot known in
      let stands : Written h p now.is_left not_sent = subst (Written h p now.is_left) g.flush was.1 in
      let there : active_unit t + g.from ≡ at = ap (λ u. u + g.from) (sym (follows p.sup p.number)) ∙ sym g.place in
      let fits_there : 4096 * (active_unit t + g.from) + length piece ≤ length (last h.start h.log) = omega (arith, fits, there) in
      let next = check_piece h t p.rows (check_units p.number p.rows) (check_records p.rows) now.is_left left g.from g.count piece g.size
      g.as_target g.given fits_there stands in
      let q' : OtherPart = record p { check = Some (record now { is_left = left }) } in
      let moved : Written (with_event h (Write at piece)) p left not_sent =
      subst (λ n. Written (with_event h (Write n piece)) p left not_sent) there next in
      subst (IsSlotKnown (with_event h (Write at piece)) q' (record now { is_left = left })) (sym g.slot) (
        slots_push h p.sup (Write at piece) fits (written_behind 0 2 at piece (omega (arith, g.place))) was.0,
        subst (Written (with_event h (Write at piece)) p left) (sym g.flush) moved,
      )

  flush_goes : (base : ℕ) (flights : List Flight) (c : CheckPart) → QuietAt base h → EachWriteIsAnswered base h flights → p.check ≡ Some c
      → c.flush ≡ not_sent → c.slot ≡ unwritten → ((k : ℕ) → k < p.sup.half → IsUntouched flights (other_unit p.sup + k)) → OtherIsKnown h p
      → OtherIsKnown (with_event h Flush) (record p { check = Some (record c { flush = sent (length h.log) }) })
  flush_goes base flights c quiet each opened unsent slot untouched known =
      let t = next_super p.sup p.number in
      let was = slot_as h p c unwritten opened slot known in
      let stands : Written h p c.is_left not_sent = subst (Written h p c.is_left) unsent was.1 in
      let none : (k : ℕ) → k < t.half → IsUntouched flights (active_unit t + k) =
      λ k below. subst (λ u. IsUntouched flights (u + k)) (follows p.sup p.number) (untouched k below) in
      let q : OtherPart = record p { check = Some (record c { flush = sent (length h.log) }) } in
      subst (IsSlotKnown (with_event h Flush) q (record c { flush = sent (length h.log) })) (sym slot) (
        slots_quiet h p.sup Flush tt was.0,
        check_flush h t p.rows (check_units p.number p.rows) (check_records p.rows) c.is_left base flights quiet each none stands,
      )

  flush_ends : (c : CheckPart) (ticket : ℕ) → p.check ≡ Some c → c.flush ≡ sent ticket → c.slot ≡ unwritten → OtherIsKnown h p
      → OtherIsKnown (with_event h (Done ticket true)) (record p { check = Some (record c { flush = flushed }) })
  flush_ends c ticket opened is slot known =
      let t = next_super p.sup p.number in
      let was = slot_as h p c unwritten opened slot known in
      let stands : Written h p c.is_left (sent ticket) = subst (Written h p c.is_left) is was.1 in
      let q : OtherPart = record p { check = Some (record c { flush = flushed }) } in
      subst (IsSlotKnown (with_event h (Done ticket true)) q (record c { flush = flushed })) (sym slot) (
        slots_quiet h p.sup (Done ticket true) tt was.0,
        check_flushed h t p.rows (check_units p.number p.rows) (check_records p.rows) c.is_left ticket stands,
      )

  -- ---- its slot

  slot_goes : (c : CheckPart) → p.check ≡ Some c → c.flush ≡ flushed → c.slot ≡ unwritten → IsNothingLeft p c → IsSuper (next_super p.sup p.number)
      → 4096 * 2 ≤ length (last h.start h.log) → OtherIsKnown h p
      → OtherIsKnown (with_event h (Write (other_slot p.sup) (super_bytes (next_super p.sup p.number))))
      (record p { check = Some (record c { slot = written not_sent }) })
  slot_goes c opened is slot all limits size known =
      let t = next_super p.sup p.number in
      let bytes = super_bytes t in
      let one : length bytes ≡ 4096 = length-super_bytes t in
      let was = slot_as h p c unwritten opened slot known in
      let stands : Written h p c.is_left flushed = subst (Written h p c.is_left) is was.1 in
      let half = check_half h t p.rows (check_units p.number p.rows) (check_records p.rows) c.is_left all stands in (
        slot_write h p.sup p.number limits size was.0,
        half_push h t p.rows (check_units p.number p.rows) (p.number + length (check_records p.rows)) None 0 not_sent (check_records p.rows)
            (Write (other_slot p.sup) bytes) (omega (arith, one, size))
            (written_before (active_unit t) t.half (other_slot p.sup) bytes (omega (arith, one))) half,
      )

  slot_flush_goes : (base : ℕ) (flights : List Flight) (c : CheckPart) → QuietAt base h → EachWriteIsAnswered base h flights → p.check ≡ Some c
      → c.slot ≡ written not_sent → IsUntouched flights (other_slot p.sup) → OtherIsKnown h p
      → OtherIsKnown (with_event h Flush) (record p { check = Some (record c { slot = written (sent (length h.log)) }) })
  slot_flush_goes base flights c quiet each opened slot untouched known =
      let was = slot_as h p c (written not_sent) opened slot known in (
        next_slot_flush h p.sup p.number base flights quiet each untouched was.0,
        half_quiet h (next_super p.sup p.number) p.rows (check_units p.number p.rows) (p.number + length (check_records p.rows)) None 0 not_sent
            (check_records p.rows) Flush tt was.1,
      )

  slot_flush_ends : (c : CheckPart) (ticket : ℕ) → p.check ≡ Some c → c.slot ≡ written (sent ticket) → OtherIsKnown h p
      → OtherIsKnown (with_event h (Done ticket true)) (record p { check = Some (record c { slot = written flushed }) })
  slot_flush_ends c ticket opened slot known =
      let was = slot_as h p c (written (sent ticket)) opened slot known in (
        next_slot_flushed h p.sup p.number ticket was.0,
        half_quiet h (next_super p.sup p.number) p.rows (check_units p.number p.rows) (p.number + length (check_records p.rows)) None 0 not_sent
            (check_records p.rows) (Done ticket true) tt was.1,
      )

-- ---- all of them

pub other_goes : (h : History) (base : ℕ) (flights : List Flight) (ticket : ℕ) (event : Option Event) (p q : OtherPart) (from : ℕ) (second : FlushState)
    (recs : List (List RowOp)) → QuietAt base h → EachWriteIsAnswered base h flights → IsFitting (length (last h.start h.log)) event
    → 4096 * 2 ≤ length (last h.start h.log)
    → ((c : CheckPart) → p.check ≡ Some c → ActiveHalfStands h p.sup p.rows p.tail p.number None from second recs)
    → (event ≡ Some Flush → ticket ≡ length h.log) → OtherGoes flights ticket event p q → OtherIsKnown h p → OtherIsKnown (with_any event h) q
other_goes h base flights ticket event p q from second recs quiet each fits size half next (same spared is) known =
    subst (OtherIsKnown (with_any event h)) (sym is) (elsewhere h p event fits spared known)
other_goes h base flights ticket event p q from second recs quiet each fits size half next (commits rows tail number none is) known =
    subst (OtherIsKnown h) (sym is) (committed h p rows tail number none known)
other_goes h base flights ticket event p q from second recs quiet each fits size half next (begins left none spells within whole is) known =
    let was = known_as h p None none known in
    subst (OtherIsKnown h) (sym is) (was.0, rows_begin h p.sup p.number p.rows p.is_stale left spells within whole was.1)
other_goes h base flights ticket event p q from second recs quiet each fits size half next (gives at piece g) known =
    subst (OtherIsKnown (with_event h (Write at piece))) (sym g.then) (given h p at piece q g fits known)
other_goes h base flights ticket event p q from second recs quiet each fits size half next (flushes c opened unsent slot untouched is) known =
    subst (OtherIsKnown (with_event h Flush)) (sym is)
    (subst (λ n. OtherIsKnown (with_event h Flush) (record p { check = Some (record c { flush = sent n }) })) (sym (next refl))
    (flush_goes h p base flights c quiet each opened unsent slot untouched known))
other_goes h base flights ticket event p q from second recs quiet each fits size half next (is_flushed c flush opened sent_is slot is) known =
    subst (OtherIsKnown (with_event h (Done flush true))) (sym is) (flush_ends h p c flush opened sent_is slot known)
other_goes h base flights ticket event p q from second recs quiet each fits size half next (writes_slot c opened done slot all limits is) known =
    subst (OtherIsKnown (with_event h (Write (other_slot p.sup) (super_bytes (next_super p.sup p.number))))) (sym is)
    (slot_goes h p c opened done slot all limits size known)
other_goes h base flights ticket event p q from second recs quiet each fits size half next (flushes_slot c opened slot untouched is) known =
    subst (OtherIsKnown (with_event h Flush)) (sym is)
    (subst (λ n. OtherIsKnown (with_event h Flush) (record p { check = Some (record c { slot = written (sent n) }) })) (sym (next refl))
    (slot_flush_goes h p base flights c quiet each opened slot untouched known))
other_goes h base flights ticket event p q from second recs quiet each fits size half next (slot_flushed c flush opened slot is) known =
    subst (OtherIsKnown (with_event h (Done flush true))) (sym is) (slot_flush_ends h p c flush opened slot known)
other_goes h base flights ticket event p q from second recs quiet each fits size half next (switches c opened slot is) known =
    let was = slot_as h p c (written flushed) opened slot known in
    subst (OtherIsKnown h) (sym is) (
      switch_slots h p.sup p.number was.0,
      switch_rests h p.sup p.number p.rows p.tail p.number from second recs (half c opened),
    )

pub switch_makes : (h : History) (p : OtherPart) (c : CheckPart) → p.check ≡ Some c → c.slot ≡ written flushed → OtherIsKnown h p
    → ActiveHalfStands h (switched_part p).sup (switched_part p).rows (switched_part p).tail (switched_part p).number None 0 not_sent (check_records p.rows)
switch_makes h p c opened slot known = (slot_as h p c (written flushed) opened slot known).1
