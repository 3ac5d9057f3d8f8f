-- What a call makes of the slots and of the half that isn't in use.
use Rattle.std.specs.Prelude.{◌≡◌, ◌⊎◌, ℕ, ◌+◌, ◌*◌, ◌<◌, ◌≤◌, Bool, false, true, List, length, Option, Some, None}
use Rattle.byte_maps.specs.Units.{unit_at}
use Rattle.block_device.specs.Prelude.{Flight, IsUntouched}
use Rattle.block_device.specs.declared.event.Event.{Event}
use Rattle.block_device.specs.declared.event.Event.TheVariants.{Write, Flush, Done}
use Rattle.meta_rows.specs.Prelude.{Rows, row_sets}
use Rattle.meta_log.specs.declared.slot.Super.{Super}
use Rattle.meta_log.specs.Prelude.{super_bytes, IsSuper, other_slot, other_unit, next_super, check_records, check_units, target_unit}
use Rattle.log_facts.specs.Prelude.{not_sent, sent, flushed, WritesNoneOf, IsSpellable}
use Rattle.switch_facts.specs.OtherPart.{unwritten, written, CheckPart, OtherPart, begun_check, switched_part}

-- the event, if there is one, writes neither slot, nor a unit of the other half
abbrev pub IsElsewhere : Super → Option Event → Type 0
IsElsewhere s None = Unit {0}
IsElsewhere s (Some event) = WritesNoneOf 0 2 event × WritesNoneOf (other_unit s) s.half event

-- A run of the checkpoint's units is submitted, each as it is to be. What isn't left behind it wasn't before, or is one of these.
pub record GivesRun (at : ℕ) (piece : List ℕ) (p q : OtherPart) : Type 0 where
  pub now : CheckPart
  pub opened : p.check ≡ Some now
  pub flush : now.flush ≡ not_sent
  pub slot : now.slot ≡ unwritten
  pub from : ℕ
  pub count : ℕ
  pub place : at ≡ other_unit p.sup + from
  pub size : length piece ≡ 4096 * count
  pub as_target : (j : ℕ) → j < count → unit_at j piece ≡ target_unit (check_units p.number p.rows) p.number (check_records p.rows) (from + j)
  pub left : ℕ → Bool
  pub given : (k : ℕ) → k < p.sup.half → left k ≡ false → (now.is_left k ≡ false) ⊎ ((from ≤ k) × (k < from + count))
  pub then : q ≡ record p { check = Some (record now { is_left = left }) }

-- what isn't left lies behind the checkpoint's records, and isn't stale
abbrev pub IsLeftToWrite : OtherPart → (ℕ → Bool) → Type 0
IsLeftToWrite p left = (k : ℕ) → k < p.sup.half → left k ≡ false → (check_units p.number p.rows ≤ k) × (p.is_stale k ≡ false)

-- nothing is left of it
abbrev pub IsNothingLeft : OtherPart → CheckPart → Type 0
IsNothingLeft p c = (k : ℕ) → k < p.sup.half → c.is_left k ≡ false

-- What one call makes of it that makes an event of the device, or none; a submission has this ticket. It stays, with no write in it; without a
-- checkpoint a batch is committed; a checkpoint begins, goes to the device run by run, is flushed; its slot is written and flushed; the halves change
-- places.
pub data OtherGoes (flights : List Flight) (ticket : ℕ) : Option Event → OtherPart → OtherPart → Type 0 where
  same : {e : Option Event} {p q : OtherPart} → IsElsewhere p.sup e → q ≡ p → OtherGoes flights ticket e p q
  commits : {p q : OtherPart} (rows : Rows) (tail number : ℕ) → p.check ≡ None → q ≡ record p { rows = rows; tail = tail; number = number }
      → OtherGoes flights ticket None p q
  begins : {p q : OtherPart} (left : ℕ → Bool) → p.check ≡ None → IsSpellable p.number (row_sets p.rows)
      → check_units p.number p.rows ≤ p.sup.half → IsLeftToWrite p left → q ≡ record p { check = Some (begun_check left) }
      → OtherGoes flights ticket None p q
  gives : {p q : OtherPart} (at : ℕ) (piece : List ℕ) → GivesRun at piece p q → OtherGoes flights ticket (Some (Write at piece)) p q
  flushes : {p q : OtherPart} (c : CheckPart) → p.check ≡ Some c → c.flush ≡ not_sent → c.slot ≡ unwritten
      → ((k : ℕ) → k < p.sup.half → IsUntouched flights (other_unit p.sup + k)) → q ≡ record p { check = Some (record c { flush = sent ticket }) }
      → OtherGoes flights ticket (Some Flush) p q
  is_flushed : {p q : OtherPart} (c : CheckPart) (flush : ℕ) → p.check ≡ Some c → c.flush ≡ sent flush → c.slot ≡ unwritten
      → q ≡ record p { check = Some (record c { flush = flushed }) } → OtherGoes flights ticket (Some (Done flush true)) p q
  writes_slot : {p q : OtherPart} (c : CheckPart) → p.check ≡ Some c → c.flush ≡ flushed → c.slot ≡ unwritten → IsNothingLeft p c
      → IsSuper (next_super p.sup p.number) → q ≡ record p { check = Some (record c { slot = written not_sent }) }
      → OtherGoes flights ticket (Some (Write (other_slot p.sup) (super_bytes (next_super p.sup p.number)))) p q
  flushes_slot : {p q : OtherPart} (c : CheckPart) → p.check ≡ Some c → c.slot ≡ written not_sent → IsUntouched flights (other_slot p.sup)
      → q ≡ record p { check = Some (record c { slot = written (sent ticket) }) } → OtherGoes flights ticket (Some Flush) p q
  slot_flushed : {p q : OtherPart} (c : CheckPart) (flush : ℕ) → p.check ≡ Some c → c.slot ≡ written (sent flush)
      → q ≡ record p { check = Some (record c { slot = written flushed }) } → OtherGoes flights ticket (Some (Done flush true)) p q
  switches : {p q : OtherPart} (c : CheckPart) → p.check ≡ Some c → c.slot ≡ written flushed → q ≡ switched_part p
      → OtherGoes flights ticket None p q
