-- What the steps that submit ask of the device, and what they do to the state.
use Rattle.std.proofs.Common.{◌≡◌, ◌&&◌, is_none, is_some, ℕ, ◌+◌, ◌*◌, ◌%◌, ◌<◌, ◌≤◌, nat_lt, Bool, true, false, List, [], ◌∷◌, ◌++◌, length, map, Option, Some, None, refl, sym, ap, subst, ◌∙◌, arith}
use Rattle.std.specs.Option.{option_map, option_map_or}
use Rattle.std.specs.List.{AllByRecursion}
use Rattle.std.proofs.lemmas.Bool.{and_parts}
use Rattle.block_device.specs.Prelude.{Disk, Submitted, IsNotInFlight}
use Rattle.block_device.specs.declared.device.Ticket.{Ticket}
use Rattle.block_device.specs.declared.event.Event.TheVariants as event
use Rattle.unit_fields.specs.Prelude.{Ascends}
use Rattle.meta_store.specs.Store as meta
use Rattle.plan_rows.specs.declared.plan.FreshUnit.{FreshUnit}
use Rattle.store_steps.specs.declared.context.Context.{Context}
use Rattle.store_steps.specs.declared.flight.FlushState.TheVariants as flush
use Rattle.store_steps.specs.declared.flight.Job.TheVariants as job
use Rattle.store_steps.specs.declared.step.Step.{Step}
use Rattle.store_steps.specs.declared.step.Step.TheVariants.{Data, Flush, Seal, Record, Sync}
use Rattle.store_steps.specs.Prelude.{Batch, State, Unsent, unsent_units, run_bytes, next_unsent, with_context, given_more, is_ready_down, is_ready_up, is_ready, DoesData, DoesFlush, DoesSeal, DoesRecord, DoesSync, piece_unit}
use Rattle.store_steps.specs.Steps as steps
use Rattle.flight_facts.specs.Prelude.{FlightsMatch}
use Rattle.flight_facts.proofs.Prelude.{none_is, no_switch, rests_switch}
use Rattle.run_facts.specs.Prelude.{IsKept}
use Rattle.run_facts.proofs.Conditions.{room_at_device}
use Rattle.run_facts.proofs.Prelude.{HasRecord, number_low, known_data_room, known_record_room, known_seal, next_data_untouched, data_inside, few_units, whole_units, next_piece_untouched, ready_not_down, ready_by_table}
use Rattle.store_kernel.specs.declared.batch.OpenBatch.{OpenBatch}
use Rattle.txn_states.specs.declared.next_write.NextWrite.{NextWrite}
use Rattle.txn_states.specs.Writes.{IsWrite}
use Rattle.waiting_contexts.specs.Unsent.{IsOfNext}
use Rattle.kv_worker.specs.Batches.{CanSeal, ops_of_batch}
use Rattle.store_kernel.specs.Seen.{contexts_of, batch_of}
use Rattle.store_kernel.specs.Ends.{with_first, with_second}

-- what the device asks of a write of these bytes from this unit on
pub record CanWrite (d : Disk) (at size : ℕ) : Type 0 where
  pub room : length d.flights < d.depth
  pub some : 0 < size
  pub few : size ≤ 4096 * 64
  pub whole : size % 4096 ≡ 0
  pub inside : 4096 * at + size ≤ 4096 * d.units
  pub free : IsNotInFlight d at size

-- a step that isn't ready while the kernel is down is ready by the table
pub table_of : (s : State) (depth : ℕ) (step : Step) → is_ready_down step s ≡ false → is_ready step depth s ≡ true → is_ready_up step depth s ≡ true
table_of s depth step never ready = ready_by_table s depth step (ready_not_down s depth step never ready) ready

-- the device takes one more submission where the table says so
pub room_where : (s : State) (d : Disk) (other : Bool) → IsKept s d → (other && nat_lt (length s.flying) d.depth) ≡ true → length d.flights < d.depth
room_where s d other kept table = room_at_device s d kept.always (and_parts other (nat_lt (length s.flying) d.depth) table).1

-- ---- units in order

-- so many units are not more than those between two numbers that they lie between
pub few_between : (lo end : ℕ) (fs : List FreshUnit) → lo ≤ end → AllByRecursion (λ f. lo ≤ f.unit) fs → AllByRecursion (λ f. f.unit < end) fs
    → Ascends (map (λ f. f.unit) fs) → lo + length fs ≤ end
few_between lo end [] within above below ascend = omega (arith, within)
few_between lo end (f ∷ fs) within above below ascend =
    let rest : (lo + 1) + length fs ≤ end = few_between (lo + 1) end fs (omega (arith, above.0, below.0)) (higher fs ascend.0) below.1 ascend.1 in
    omega (arith, rest)
  where
    higher : (gs : List FreshUnit) → AllByRecursion (λ v. f.unit < v) (map (λ (g : FreshUnit). g.unit) gs) → AllByRecursion (λ g. lo + 1 ≤ g.unit) gs
    higher [] all = tt
    higher (g ∷ gs) all = (omega (arith, above.0, all.0), higher gs all.1)

-- ---- Data

pub can_write_data : (s : State) (d : Disk) (w : NextWrite) → IsKept s d → is_ready Data d.depth s ≡ true → IsWrite (next_unsent s.pending) w
    → CanWrite d w.unit (length w.bytes.items)
can_write_data s d w kept ready is =
    let n : Unsent = is.next in
    let few = few_units s d n kept ready is.is_next in
    let same : length w.bytes.items ≡ length (run_bytes (unsent_units n)) = ap (λ (bytes : List ℕ). length bytes) is.bytes in
    let size : length w.bytes.items ≡ 4096 * length (unsent_units n) = same ∙ whole_units s d n kept ready is.is_next in
    record {
      room = known_data_room s d kept ready;
      some = some_bytes (length (unsent_units n)) (length w.bytes.items) size few.0;
      few = few_bytes (length (unsent_units n)) (length w.bytes.items) size few.1;
      whole = whole_bytes (length (unsent_units n)) (length w.bytes.items) size;
      inside = there n.first.unit w.unit (length (run_bytes (unsent_units n))) (length w.bytes.items) d.units is.unit same
          (data_inside s d n kept ready is.is_next);
      free = subst (λ (size : ℕ). IsNotInFlight d w.unit size) (sym same)
          (subst (λ (u : ℕ). IsNotInFlight d u (length (run_bytes (unsent_units n)))) (sym is.unit) (next_data_untouched s d n kept ready is.is_next));
    }
  where
    some_bytes : (count size : ℕ) → size ≡ 4096 * count → 0 < count → 0 < size
    some_bytes count size is some = omega (arith, is, some)

    few_bytes : (count size : ℕ) → size ≡ 4096 * count → count ≤ 64 → size ≤ 4096 * 64
    few_bytes count size is few = omega (arith, is, few)

    whole_bytes : (count size : ℕ) → size ≡ 4096 * count → size % 4096 ≡ 0
    whole_bytes count size is = omega (arith, is)

    there : (first unit bytes size units : ℕ) → unit ≡ first → size ≡ bytes → 4096 * first + bytes ≤ 4096 * units → 4096 * unit + size ≤ 4096 * units
    there first unit bytes size units one two le = omega (arith, one, two, le)

-- its units are the first ones of the next write
pub is_of_next : (xs : List Context) (w : NextWrite) → IsWrite (next_unsent xs) w → IsOfNext w.place w.count (next_unsent xs)
is_of_next xs w is = record { next = is.next; is_next = is.is_next; of_place = sym is.place; within = omega (arith, is.count) }

-- one more data write is in flight
abbrev sent_as : State → Ticket → ℕ → ℕ → State
sent_as s t place count = record s {
  pending = with_context place (given_more count) s.pending;
  flying = s.flying ++ record { ticket = t; job = job.Data place count } ∷ [];
  events = s.events + 1;
}

pub data_does : (s : State) (d d' : Disk) (w : NextWrite) (t : Ticket) → IsWrite (next_unsent s.pending) w
    → Submitted d t.place (event.Write w.unit w.bytes.items) d'
    → DoesData s d (record s {
      pending = with_context w.place (given_more w.count) s.pending;
      flying = s.flying ++ record { ticket = t; job = job.Data w.place w.count } ∷ [];
      events = s.events + 1;
    }) d'
data_does s d d' w t is submitted = record {
  ticket = t;
  next = n;
  is_next = is.is_next;
  submitted = subst (λ (bytes : List ℕ). Submitted d t.place (event.Write n.first.unit bytes) d') is.bytes
      (subst (λ (u : ℕ). Submitted d t.place (event.Write u w.bytes.items) d') is.unit submitted);
  after = ap (λ (p : ℕ). sent_as s t p w.count) is.place ∙ ap (λ (count : ℕ). sent_as s t n.place count) is.count;
}
  where
    n : Unsent
    n = is.next

-- ---- the flushes

no_batch : (test : Batch → Bool) (o : Option Batch) → o ≡ None → option_map_or test o false ≡ true → ⊥
no_batch test None none is = cc
no_batch test (Some b) none is = cc

pub flush_does : (s : State) (d d' : Disk) (b : Option OpenBatch) (t : Ticket) → is_ready Flush d.depth s ≡ true → s.batch ≡ option_map batch_of b
    → Submitted d t.place event.Flush d'
    → DoesFlush s d (record s {
      batch = option_map batch_of (option_map (with_first (flush.Sent t)) b);
      flying = s.flying ++ record { ticket = t; job = job.DataFlush } ∷ [];
      events = s.events + 1;
    }) d'
flush_does s d d' None t ready batch submitted =
    let table = table_of s d.depth Flush refl ready in
    absurd (no_batch _ s.batch batch (and_parts _ (nat_lt (length s.flying) d.depth) table).0)
flush_does s d d' (Some b) t ready batch submitted =
    record { ticket = t; batch = batch_of b; begun = batch; submitted = submitted; after = refl }

pub sync_does : (s : State) (d d' : Disk) (b : Option OpenBatch) (t : Ticket) → is_ready Sync d.depth s ≡ true → s.batch ≡ option_map batch_of b
    → Submitted d t.place event.Flush d'
    → DoesSync s d (record s {
      batch = option_map batch_of (option_map (with_second (flush.Sent t)) b);
      flying = s.flying ++ record { ticket = t; job = job.RecordFlush } ∷ [];
      events = s.events + 1;
    }) d'
sync_does s d d' None t ready batch submitted =
    let table = table_of s d.depth Sync refl ready in
    absurd (no_batch _ s.batch batch (and_parts _ _ (and_parts _ (nat_lt (length s.flying) d.depth) table).0).0)
sync_does s d d' (Some b) t ready batch submitted =
    record { ticket = t; batch = batch_of b; begun = batch; submitted = submitted; after = refl }

-- ---- Seal

-- the record of the batch can be made, and fits
pub can_seal : (s : State) (d : Disk) (m : meta.Meta) (b : OpenBatch) → IsKept s d → is_ready Seal d.depth s ≡ true → s.batch ≡ Some (batch_of b)
    → s.log ≡ m → CanSeal (contexts_of b.stage) m
can_seal s d m b kept ready batch log =
    let up : s.down ≡ None = ready_not_down s d.depth Seal refl ready in
    let flights : FlightsMatch s d.flights = (kept.up up).flights in
    let facts : HasRecord s (batch_of b) = known_seal s d (batch_of b) kept ready batch in
    subst (CanSeal (contexts_of b.stage)) log (record {
      idle = none_is s.log.begun (and_parts (is_some s.batch) (is_none s.log.begun) (ready_by_table s d.depth Seal up ready)).1;
      resting = (rests_switch s d.flights flights (no_switch s d.flights (batch_of b) flights batch)).0;
      sealable = record { number_below = number_low s d kept.always; body_below = facts.body; fit = facts.fit };
      fits = facts.room;
    })

pub seal_does : (s : State) (d : Disk) (m m' : meta.Meta) (b : OpenBatch) (xs : List Context) → s.batch ≡ Some (batch_of b) → s.log ≡ m
    → m' ≡ meta.with_begun m (ops_of_batch (contexts_of b.stage)) → xs ≡ contexts_of b.stage
    → DoesSeal s d (record s { log = m'; batch = Some (record { contexts = xs; first = b.first; second = b.second }) }) d
seal_does s d m m' b xs batch log made same = record {
  batch = batch_of b;
  begun = batch;
  same = refl;
  after =
      ap (λ (ys : List Context). let later : State = record s { log = m'; batch = Some (record { contexts = ys; first = b.first; second = b.second }) } in later) same
      ∙ ap (λ (o : Option Batch). let later : State = record s { log = m'; batch = o } in later) (sym batch)
      ∙ ap (λ (l : meta.Meta). let later : State = record s { log = l } in later)
      (made ∙ ap (λ (l : meta.Meta). meta.with_begun l (ops_of_batch (contexts_of b.stage))) (sym log));
}

-- ---- Record

-- the piece that the metadata store makes is the next one of the log's record
pub record IsPieceOf (l : meta.Meta) (unit : ℕ) (bytes : List ℕ) : Type 0 where
  pub writing : meta.Begun
  pub begun : l.begun ≡ Some writing
  pub unit_is : unit ≡ piece_unit l writing
  pub bytes_are : bytes ≡ steps.begun_piece_bytes l.number writing

pub piece_of : (l : meta.Meta) (m : meta.Meta) (unit : ℕ) (bytes : List ℕ) → l ≡ m → meta.IsNextPiece m unit bytes → IsPieceOf l unit bytes
piece_of l m unit bytes log next = subst (λ (k : meta.Meta). IsPieceOf k unit bytes) (sym log) (record {
  writing = next.now;
  begun = next.is_begun;
  unit_is = next.unit_is;
  bytes_are = next.bytes_are;
})

pub can_write_record : (s : State) (d : Disk) (m : meta.Meta) (unit : ℕ) (bytes : List ℕ) → IsKept s d → is_ready Record d.depth s ≡ true
    → s.log ≡ m → meta.IsNextPiece m unit bytes → meta.LiesBehindTail m unit bytes → CanWrite d unit (length bytes)
can_write_record s d m unit bytes kept ready log next lies =
    let piece : IsPieceOf s.log unit bytes = piece_of s.log m unit bytes log next in
    let free : IsNotInFlight d (piece_unit s.log piece.writing) (length (steps.begun_piece_bytes s.log.number piece.writing)) =
    next_piece_untouched s d piece.writing kept ready piece.begun in
    record {
      room = known_record_room s d kept ready;
      some = lies.some;
      few = lies.few;
      whole = lies.whole;
      inside = omega (arith, lies.in_log, ap (λ (l : meta.Meta). l.sup.half) log, ap (λ (l : meta.Meta). l.sup.units) log, kept.always.units, kept.always.limits.room);
      free = subst (λ (b : List ℕ). IsNotInFlight d unit (length b)) (sym piece.bytes_are)
          (subst (λ (u : ℕ). IsNotInFlight d u (length (steps.begun_piece_bytes s.log.number piece.writing))) (sym piece.unit_is) free);
    }

pub record_does : (s : State) (d d' : Disk) (m : meta.Meta) (unit : ℕ) (bytes : List ℕ) (t : Ticket) → s.log ≡ m
    → meta.IsNextPiece m unit bytes → Submitted d t.place (event.Write unit bytes) d'
    → DoesRecord s d (record s {
      log = (meta.with_given m);
      flying = s.flying ++ record { ticket = t; job = job.Record } ∷ [];
      events = s.events + 1;
    }) d'
record_does s d d' m unit bytes t log next submitted = record {
  ticket = t;
  writing = w;
  begun = begun;
  submitted = subst (λ (b : List ℕ). Submitted d t.place (event.Write (piece_unit s.log w) b) d') piece.bytes_are
      (subst (λ (u : ℕ). Submitted d t.place (event.Write u bytes) d') piece.unit_is submitted);
  after = ap (λ (l : meta.Meta). let later : State = record s {
    log = l;
    flying = s.flying ++ record { ticket = t; job = job.Record } ∷ [];
    events = s.events + 1;
  } in later) log_later;
}
  where
    piece : IsPieceOf s.log unit bytes
    piece = piece_of s.log m unit bytes log next

    w : meta.Begun
    w = piece.writing

    begun : s.log.begun ≡ Some w
    begun = piece.begun

    one_given : Option meta.Begun → Option meta.Begun
    one_given o = option_map (λ (b : meta.Begun). record b { given = b.given + 1 }) o

    log_later : (meta.with_given m) ≡ (let l : meta.Meta = record s.log { begun = Some (record w { given = w.given + 1 }) } in l)
    log_later =
        ap (λ (o : Option meta.Begun). let l : meta.Meta = record m { begun = one_given o } in l) (ap (λ (l : meta.Meta). l.begun) (sym log) ∙ begun)
        ∙ ap (λ (k : meta.Meta). let l : meta.Meta = record k { begun = Some (record w { given = w.given + 1 }) } in l) (sym log)
