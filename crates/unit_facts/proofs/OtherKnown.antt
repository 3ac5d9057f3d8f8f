-- What is known of the slots and of the half that isn't in use is kept, whatever a call makes of them; and which units of the log are clean.
use Rattle.std.proofs.Common.{◌≡◌, inl, inr, ℕ, ◌+◌, ◌-◌, ◌*◌, ◌%◌, ◌<◌, ◌≤◌, List, length, Option, Some, None, ap, subst, arith}
use Rattle.std.proofs.lemmas.Bool.{cases_lt}
use Rattle.byte_maps.specs.Units.{IsUnits}
use Rattle.block_device.specs.Prelude.{last, IsClean, History, Flight, EachWriteIsAnswered, QuietAt}
use Rattle.block_device.specs.declared.event.Event.TheVariants.{Flush}
use Rattle.meta_rows.specs.declared.row_op.RowOp.{RowOp}
use Rattle.meta_log.specs.declared.slot.Super.{Super}
use Rattle.meta_log.specs.Prelude.{IsSuper, active_unit, data_unit, other_slot, other_unit}
use Rattle.log_facts.specs.Prelude.{FlushState, not_sent, sent, flushed, SlotsStand, ActiveHalfStands}
use Rattle.log_facts.proofs.Keeping.{half_before_data}
use Rattle.block_device.specs.declared.event.Event.{Event}
use Rattle.switch_facts.specs.Prelude.{written, CheckPart, begun_check, OtherPart, OtherGoes, OtherIsKnown, IsFitting}
use Rattle.switch_facts.specs.OtherGoes.{same, commits, begins, gives, flushes as flushes_check, is_flushed, writes_slot, flushes_slot, slot_flushed, switches}
use Rattle.switch_facts.proofs.Steps.{other_goes}
use Rattle.store_steps.specs.Prelude.{Touch, nothing, ends, flushes, on_data, on_half, on_other, on_slot, event_of, ticket_of, after, IsPlaced}
use Rattle.unit_facts.proofs.Units.{other_before_data}
use Rattle.unit_facts.proofs.Events.{HasNextTicket}

-- ---- each footprint

fitting : (s : Super) (t : Touch) (h : History) → IsPlaced s t → IsUnits s.units (last h.start h.log) → IsSuper s
    → IsFitting (length (last h.start h.log)) (event_of t)
fitting s nothing h placed size limits = tt
fitting s (ends ticket) h placed size limits = tt
fitting s (flushes ticket) h placed size limits = tt
fitting s (on_data ticket run) h placed size limits = omega (arith, placed.1, size)
fitting s (on_half ticket unit bytes) h placed size limits = omega (arith, placed.1, half_before_data s, limits.room, size)
fitting s (on_other ticket unit bytes) h placed size limits = omega (arith, placed.1, other_before_data s, limits.room, size)
fitting s (on_slot ticket unit bytes) h placed size limits = omega (arith, placed.0, placed.1, limits.room, size)

next_flush : (t : Touch) (h : History) → HasNextTicket h t → event_of t ≡ Some Flush → ticket_of t ≡ length h.log
next_flush nothing h next is = absurd cc
next_flush (ends ticket) h next is = absurd cc
next_flush (flushes ticket) h next is = next
next_flush (on_data ticket run) h next is = absurd cc
next_flush (on_half ticket unit bytes) h next is = absurd cc
next_flush (on_other ticket unit bytes) h next is = absurd cc
next_flush (on_slot ticket unit bytes) h next is = absurd cc

-- while a checkpoint is written the half in use has its records and no more
pub other_known : (base : ℕ) (flights : List Flight) (t : Touch) (p q : OtherPart) (h : History) → OtherGoes flights (ticket_of t) (event_of t) p q
    → IsPlaced p.sup t → IsUnits p.sup.units (last h.start h.log) → IsSuper p.sup → QuietAt base h → EachWriteIsAnswered base h flights
    → HasNextTicket h t → (from : ℕ) (second : FlushState) (recs : List (List RowOp))
    → ((c : CheckPart) → p.check ≡ Some c → ActiveHalfStands h p.sup p.rows p.tail p.number None from second recs)
    → OtherIsKnown h p → OtherIsKnown (after t h) q
other_known base flights t p q h goes placed size limits quiet_since each next from second recs half known =
    other_goes h base flights (ticket_of t) (event_of t) p q from second recs quiet_since each (fitting p.sup t h placed size limits)
    (omega (arith, size, limits.room)) half (next_flush t h next) goes known

-- the superblock stays
stays : (r q : OtherPart) → q ≡ r → q.sup.epoch ≡ r.sup.epoch + 1 → ⊥
stays r q is next = never q.sup.epoch r.sup.epoch (ap (λ (x : OtherPart). x.sup.epoch) is) next
  where
    never : (a b : ℕ) → a ≡ b → a ≡ b + 1 → ⊥
    never a b still more = omega (arith, still, more)

-- the halves change places where the superblock does
pub turned : (flights : List Flight) (ticket : ℕ) (e : Option Event) (p q : OtherPart) → OtherGoes flights ticket e p q → q.sup.epoch ≡ p.sup.epoch + 1
    → (c : CheckPart) × (p.check ≡ Some c) × (c.slot ≡ written flushed)
turned flights ticket e p q (switches c is slot then) next = (c, is, slot)
turned flights ticket e p q (same elsewhere is) next = absurd (stays p q is next)
turned flights ticket e p q (commits rows tail number none is) next = absurd (stays (record p { rows = rows; tail = tail; number = number }) q is next)
turned flights ticket e p q (begins left none spelled fits left_is is) next = absurd (stays (record p { check = Some (begun_check left) }) q is next)
turned flights ticket e p q (gives at piece g) next = absurd (stays (record p { check = Some (record g.now { is_left = g.left }) }) q g.then next)
turned flights ticket e p q (flushes_check c is none slot free then) next = absurd (stays (record p { check = Some (record c { flush = sent ticket }) }) q then next)
turned flights ticket e p q (is_flushed c flush is was slot then) next = absurd (stays (record p { check = Some (record c { flush = flushed }) }) q then next)
turned flights ticket e p q (writes_slot c is flush slot none limits then) next =
    absurd (stays (record p { check = Some (record c { slot = written not_sent }) }) q then next)
turned flights ticket e p q (flushes_slot c is slot free then) next = absurd (stays (record p { check = Some (record c { slot = written (sent ticket) }) }) q then next)
turned flights ticket e p q (slot_flushed c flush is slot then) next =
    absurd (stays (record p { check = Some (record c { slot = written flushed }) }) q then next)

-- ---- clean units

-- where the slots stand, the other half rests, and the active half is clean, so is each unit of the log
module _ (h : History) (s : Super) (slots : SlotsStand h s) (rests : (k : ℕ) → k < s.half → IsClean h.log (other_unit s + k))
    (active : (k : ℕ) → k < s.half → IsClean h.log (active_unit s + k)) where
  slot_clean : (unit : ℕ) → unit < 2 → IsClean h.log unit
  slot_clean unit below = elim (cases_lt unit 1) [
    | inl first ↦ elim (cases_lt (s.epoch % 2) 1) [
      | inl even ↦ subst (IsClean h.log) (omega (arith, first, even)) slots.active.clean
      | inr odd ↦ subst (IsClean h.log) (omega (arith, first, odd)) slots.other.clean
    ]
    | inr second ↦ elim (cases_lt (s.epoch % 2) 1) [
      | inl even ↦ subst (IsClean h.log) (omega (arith, below, second, even)) slots.other.clean
      | inr odd ↦ subst (IsClean h.log) (omega (arith, below, second, odd)) slots.active.clean
    ]
  ]

  -- the halves by the one in use
  half_clean : (first unit : ℕ) → ((k : ℕ) → k < s.half → IsClean h.log (first + k)) → first ≤ unit → unit < first + s.half → IsClean h.log unit
  half_clean first unit clean from below = subst (IsClean h.log) (omega (arith, from)) (clean (unit - first) (omega (arith, from, below)))

  pub log_clean : (unit : ℕ) → unit < data_unit s → IsClean h.log unit
  log_clean unit inside = elim (cases_lt unit 2) [
    | inl below ↦ slot_clean unit below
    | inr from ↦ elim (cases_lt (s.epoch % 2) 1) [
      | inl even ↦
          let here : s.half * (s.epoch % 2) ≡ s.half * 0 = ap (λ n. s.half * n) (omega (arith, even)) in
          let there : s.half * other_slot s ≡ s.half * 1 = ap (λ n. s.half * n) (omega (arith, even)) in
          elim (cases_lt unit (2 + s.half)) [
            | inl first ↦ half_clean (active_unit s) unit active (omega (arith, here, from)) (omega (arith, here, first))
            | inr later ↦ half_clean (other_unit s) unit rests (omega (arith, there, later)) (omega (arith, there, inside))
          ]
      | inr odd ↦
          let here : s.half * (s.epoch % 2) ≡ s.half * 1 = ap (λ n. s.half * n) (omega (arith, odd)) in
          let there : s.half * other_slot s ≡ s.half * 0 = ap (λ n. s.half * n) (omega (arith, odd)) in
          elim (cases_lt unit (2 + s.half)) [
            | inl first ↦ half_clean (other_unit s) unit rests (omega (arith, there, from)) (omega (arith, there, first))
            | inr later ↦ half_clean (active_unit s) unit active (omega (arith, here, later)) (omega (arith, here, inside))
          ]
    ]
  ]
