-- What the steps of a switch of halves ask of the device and of the metadata store, and what they do to the state.
use Rattle.std.proofs.Common.{◌≡◌, ◌&&◌, ◌==◌, ℕ, ◌+◌, ◌*◌, ◌<◌, ◌≤◌, nat_lt, true, List, [], ◌∷◌, ◌++◌, length, Option, Some, None, refl, sym, ap, subst, arith}
use Rattle.std.specs.Prelude.{MatchOption}
use Rattle.std.specs.Option.{option_map}
use Rattle.std.proofs.lemmas.Bool.{and_parts, ltb-true}
use Rattle.block_device.specs.Prelude.{Disk, Submitted, IsNotInFlight}
use Rattle.block_device.specs.declared.device.Ticket.{Ticket}
use Rattle.block_device.specs.declared.event.Event.TheVariants as event
use Rattle.meta_log.specs.Prelude.{check_units, other_unit, other_slot, next_super, super_bytes, IsSuper}
use Rattle.meta_store.specs.Store as meta
use Rattle.meta_store.specs.Checks.{IsCheckLeft, IsCheckWritten, IsNextCheck, LiesInOtherHalf, check_count, with_check_given, switched_log}
use Rattle.store_steps.specs.declared.flight.FlushState.TheVariants as flush
use Rattle.store_steps.specs.declared.flight.Job.{Job}
use Rattle.store_steps.specs.declared.flight.Job.TheVariants as job
use Rattle.store_steps.specs.declared.flight.Switching.{Switching}
use Rattle.store_steps.specs.declared.step.Step.TheVariants.{Take, CheckWrite, CheckFlush, SlotWrite, SlotFlush, Switch}
use Rattle.store_steps.specs.Prelude.{State, switch_is, check_is, check_pieces, is_ready, is_not_sent, DoesCheckWrite, DoesCheckFlush, DoesSlotWrite, DoesSlotFlush, DoesSwitch}
use Rattle.store_steps.specs.Ready.{is_flushed}
use Rattle.flight_facts.specs.Prelude.{FlightsMatch}
use Rattle.flight_facts.proofs.Prelude.{some_is, test_of, IsSwitchOpen, switch_open, ended_all}
use Rattle.run_facts.specs.Prelude.{IsKept}
use Rattle.run_facts.proofs.Prelude.{ready_not_down}
use Rattle.run_facts.proofs.Conditions.{next_limits}
use Rattle.run_facts.proofs.SwitchFootprints.{check_fits}
use Rattle.run_facts.proofs.SwitchKnown.{next_run_untouched, next_slot_untouched}
use Rattle.store_kernel.specs.Ends.{with_flush, with_slot, with_slot_flush}
use Rattle.store_kernel.proofs.Sending.{CanWrite, table_of, room_where}

-- ---- a piece of the checkpoint

-- one is left
pub check_left : (s : State) (d : Disk) → is_ready CheckWrite d.depth s ≡ true → IsCheckLeft s.log
check_left s d ready =
    let table = table_of s d.depth CheckWrite refl ready in
    let left = (and_parts _ (nat_lt (length s.flying) d.depth) table).0 in
    let c = some_is (λ (c : meta.Checking). nat_lt c.given (length (check_pieces s.log))) s.log.check left in
    subst (λ (o : Option meta.Checking). MatchOption o ⊥ (λ k. k.given < check_count s.log)) (sym c.1)
    (ltb-true (c.0).given (check_count s.log) (test_of (λ (k : meta.Checking). nat_lt k.given (length (check_pieces s.log))) s.log.check c.0 c.1 left))

pub can_write_check : (s : State) (d : Disk) (unit : ℕ) (bytes : List ℕ) → IsKept s d → is_ready CheckWrite d.depth s ≡ true
    → IsNextCheck s.log unit bytes → LiesInOtherHalf s.log unit bytes → CanWrite d unit (length bytes)
can_write_check s d unit bytes kept ready next lies = record {
  room = room_where s d (check_is (λ c. nat_lt c.given (length (check_pieces s.log))) s) kept (table_of s d.depth CheckWrite refl ready);
  some = lies.some;
  few = lies.few;
  whole = lies.whole;
  inside = inside unit (length bytes) s.log.sup.half s.log.sup.units d.units lies.in_log kept.always.units kept.always.limits.room;
  free = subst (λ (size : ℕ). IsNotInFlight d unit size) (sym next.size)
      (subst (λ (u : ℕ). IsNotInFlight d u (4096 * (next.run).count)) (sym next.unit_is)
      (next_run_untouched s d next.now next.run kept ready next.is_open next.is_next));
}
  where
    inside : (unit size half units all : ℕ) → 4096 * unit + size ≤ 4096 * (2 + 2 * half) → units ≡ all → 2 * half + 3 ≤ units
        → 4096 * unit + size ≤ 4096 * all
    inside unit size half units all in_log is room = omega (arith, in_log, is, room)

pub check_does : (s : State) (d d' : Disk) (unit : ℕ) (bytes : List ℕ) (t : Ticket) → IsNextCheck s.log unit bytes → LiesInOtherHalf s.log unit bytes
    → Submitted d t.place (event.Write unit bytes) d'
    → DoesCheckWrite s d (record s {
      log = with_check_given s.log;
      flying = s.flying ++ record { ticket = t; job = job.Check } ∷ [];
      events = s.events + 1;
    }) d'
check_does s d d' unit bytes t next lies submitted = record {
  ticket = t;
  checking = next.now;
  begun = next.is_open;
  run = next.run;
  is_next = next.is_next;
  within = within (other_unit s.log.sup) (next.run).first (next.run).count s.log.sup.half unit (length bytes) next.unit_is next.size lies.in_half;
  bytes = bytes;
  target = record {
    size = next.size;
    each = next.bytes_are;
  };
  submitted = subst (λ (u : ℕ). Submitted d t.place (event.Write u bytes) d') next.unit_is submitted;
  after = ap (λ (o : Option meta.Checking). let later : State = record s {
    log = record s.log { check = option_map (λ (c : meta.Checking). record c { given = c.given + 1 }) o };
    flying = s.flying ++ record { ticket = t; job = job.Check } ∷ [];
    events = s.events + 1;
  } in later) next.is_open;
}
  where
    within : (other first count half unit size : ℕ) → unit ≡ other + first → size ≡ 4096 * count → 4096 * unit + size ≤ 4096 * (other + half)
        → first + count ≤ half
    within other first count half unit size is of le = omega (arith, is, of, le)

-- ---- what is submitted once for a switch

-- the switch that is under way, of which a test holds where a step is ready
abbrev of_switch : State → Type 0
of_switch s = (w : Switching) × (s.switching ≡ Some w)

-- the state where such a submission was made
abbrev one_sent : State → Option Switching → Ticket → Job → State
one_sent s o t j = record s { switching = o; flying = s.flying ++ record { ticket = t; job = j } ∷ []; events = s.events + 1 }

-- the switch is that which is under way, so far
sent_is : (s : State) (change : Switching → Switching) (w : Switching) (t : Ticket) (j : Job) → s.switching ≡ Some w
    → one_sent s (option_map change s.switching) t j ≡ one_sent s (Some (change w)) t j
sent_is s change w t j is = ap (λ (o : Option Switching). one_sent s (option_map change o) t j) is

pub check_flush_does : (s : State) (d d' : Disk) (t : Ticket) → is_ready CheckFlush d.depth s ≡ true → Submitted d t.place event.Flush d'
    → DoesCheckFlush s d (one_sent s (option_map (with_flush (flush.Sent t)) s.switching) t job.CheckFlush) d'
check_flush_does s d d' t ready submitted =
    let table = table_of s d.depth CheckFlush refl ready in
    let w = some_is (λ (w : Switching). is_not_sent w.flush) s.switching (and_parts _ _ (and_parts _ (nat_lt (length s.flying) d.depth) table).0).0 in
    record { ticket = t; switching = w.0; begun = w.1; submitted = submitted; after = sent_is s (with_flush (flush.Sent t)) w.0 t job.CheckFlush w.1 }

pub slot_flush_does : (s : State) (d d' : Disk) (t : Ticket) → is_ready SlotFlush d.depth s ≡ true → Submitted d t.place event.Flush d'
    → DoesSlotFlush s d (one_sent s (option_map (with_slot_flush (flush.Sent t)) s.switching) t job.SlotFlush) d'
slot_flush_does s d d' t ready submitted =
    let table = table_of s d.depth SlotFlush refl ready in
    let w = some_is (λ (w : Switching). is_flushed w.slot && is_not_sent w.slot_flush) s.switching (and_parts _ (nat_lt (length s.flying) d.depth) table).0 in
    record { ticket = t; switching = w.0; begun = w.1; submitted = submitted; after = sent_is s (with_slot_flush (flush.Sent t)) w.0 t job.SlotFlush w.1 }

-- the device takes them
pub check_flush_room : (s : State) (d : Disk) → IsKept s d → is_ready CheckFlush d.depth s ≡ true → length d.flights < d.depth
check_flush_room s d kept ready =
    room_where s d (switch_is (λ w. is_not_sent w.flush) s && check_is (λ c. c.written == length (check_pieces s.log)) s) kept
    (table_of s d.depth CheckFlush refl ready)

pub slot_flush_room : (s : State) (d : Disk) → IsKept s d → is_ready SlotFlush d.depth s ≡ true → length d.flights < d.depth
slot_flush_room s d kept ready =
    room_where s d (switch_is (λ w. is_flushed w.slot && is_not_sent w.slot_flush) s) kept (table_of s d.depth SlotFlush refl ready)

-- ---- the next superblock

-- the unit where it goes, and its bytes
pub record IsNextSlot (m : meta.Meta) (unit : ℕ) (bytes : List ℕ) : Type 0 where
  pub unit_is : unit ≡ other_slot m.sup
  pub bytes_are : bytes ≡ super_bytes (next_super m.sup m.number)
  pub size : length bytes ≡ 4096

pub can_write_slot : (s : State) (d : Disk) (unit : ℕ) (bytes : List ℕ) → IsKept s d → is_ready SlotWrite d.depth s ≡ true → IsNextSlot s.log unit bytes
    → CanWrite d unit (length bytes)
can_write_slot s d unit bytes kept ready next =
    subst (λ (size : ℕ). CanWrite d unit size) (sym next.size) (subst (λ (u : ℕ). CanWrite d u 4096) (sym next.unit_is) (record {
      room = room_where s d (switch_is (λ w. is_flushed w.flush && is_not_sent w.slot) s) kept (table_of s d.depth SlotWrite refl ready);
      some = omega arith;
      few = omega arith;
      whole = refl;
      inside = inside (other_slot s.log.sup) s.log.sup.half s.log.sup.units d.units (omega arith) kept.always.units kept.always.limits.room;
      free = next_slot_untouched s d kept ready;
    }))
  where
    inside : (slot half units all : ℕ) → slot ≤ 1 → units ≡ all → 2 * half + 3 ≤ units → 4096 * slot + 4096 ≤ 4096 * all
    inside slot half units all low is room = omega (arith, low, is, room)

pub slot_does : (s : State) (d d' : Disk) (unit : ℕ) (bytes : List ℕ) (t : Ticket) → is_ready SlotWrite d.depth s ≡ true → IsNextSlot s.log unit bytes
    → Submitted d t.place (event.Write unit bytes) d'
    → DoesSlotWrite s d (one_sent s (option_map (with_slot (flush.Sent t)) s.switching) t job.Slot) d'
slot_does s d d' unit bytes t ready next submitted =
    let table = table_of s d.depth SlotWrite refl ready in
    let w = some_is (λ (w : Switching). is_flushed w.flush && is_not_sent w.slot) s.switching (and_parts _ (nat_lt (length s.flying) d.depth) table).0 in
    record {
      ticket = t;
      switching = w.0;
      begun = w.1;
      submitted = subst (λ (b : List ℕ). Submitted d t.place (event.Write (other_slot s.log.sup) b) d') next.bytes_are
          (subst (λ (u : ℕ). Submitted d t.place (event.Write u bytes) d') next.unit_is submitted);
      after = sent_is s (with_slot (flush.Sent t)) w.0 t job.Slot w.1;
    }

-- it has its limits
pub slot_limits : (s : State) (d : Disk) → IsKept s d → IsSuper (next_super s.log.sup s.log.number)
slot_limits s d kept = next_limits s d kept.always

-- and the rows as one record fit a half
pub check_room : (s : State) (d : Disk) → IsKept s d → is_ready Take d.depth s ≡ true → check_units s.log.number s.log.rows ≤ s.log.sup.half
check_room s d kept ready = check_fits s d kept (ready_not_down s d.depth Take refl ready)

-- ---- the halves change places

-- each piece of the checkpoint is written then
pub check_all_written : (s : State) (d : Disk) → IsKept s d → is_ready Switch d.depth s ≡ true → IsCheckWritten s.log
check_all_written s d kept ready =
    let up : s.down ≡ None = ready_not_down s d.depth Switch refl ready in
    let table = table_of s d.depth Switch refl ready in
    let flights : FlightsMatch s d.flights = (kept.up up).flights in
    let w = some_is (λ (w : Switching). is_flushed w.slot_flush) s.switching table in
    let opened : IsSwitchOpen s w.0 = switch_open s d.flights w.0 flights w.1 in
    let ended = ended_all s w.0 opened (test_of (λ (v : Switching). is_flushed v.slot_flush) s.switching w.0 w.1 table) in
    subst (λ (o : Option meta.Checking). MatchOption o ⊥ (λ c. c.written ≡ check_count s.log)) (sym opened.check) (ended.0).1

pub switch_does : (s : State) (d : Disk) (m : meta.Meta) → m ≡ switched_log s.log → DoesSwitch s d (record s { log = m; switching = None }) d
switch_does s d m made =
    record { same = refl; after = ap (λ (l : meta.Meta). let later : State = record s { log = l; switching = None } in later) made }
