-- Each step for the log keeps what is in flight, part by part, for any number of contexts.
use Rattle.std.proofs.Common.{◌≡◌, inl, inr, ℕ, ◌+◌, ◌-◌, ◌*◌, ◌<◌, ◌≤◌, true, false, List, [], ◌∷◌, ◌++◌, length, Option, Some, None, IfSome, refl, sym, ap, subst, ◌∙◌, append-nil, arith}
use Rattle.flight_facts.proofs.Common.{AllByRecursion, cases_lt, Flight, flight_of, Ticket, unit_count, record_units, active_unit, piece_count, given_from, piece_first, piece_units, LiesInRecord, RowOp, Context, Flying, Meta, Begun, Checking, option_map_or, is_flushed}
use Rattle.byte_maps.proofs.Prelude.{length-units_from}
use Rattle.block_device.specs.declared.event.Event.TheVariants as event
use Rattle.meta_log.proofs.PieceLemmas.{lies}
use Rattle.meta_log.proofs.SealLemmas.{length-record_units}
use Rattle.store_steps.specs.declared.flight.FlushState.TheVariants as flush
use Rattle.store_steps.specs.declared.flight.Job.TheVariants as job
use Rattle.store_steps.specs.declared.flight.Switching.{Switching}
use Rattle.store_steps.specs.Prelude.{Batch, State, batch_ops, flush_sent, record_sent, sync_sent, sealed, committed_batch, log_after, is_not_sent, pieces_of, check_pieces, piece_unit, begun_piece_bytes}
use Rattle.flight_facts.specs.Prelude.{Stage, by_one, by_pieces, IsEnded, AreInTurn, batch_pieces, batch_stages, IsBatchOpen, IsBatchFar, IsSwitchFar, units_of_job, units_flying, is_of_batch, is_of_switch, flying_for, IsPartGiven, IsGivenPiece, TouchesOnlyOf, IsOfJob, AreOfJobs, FlightsMatch}
use Rattle.flight_facts.proofs.Pieces.{some_pieces}
use Rattle.flight_facts.proofs.Untouched.{apart_before, apart_behind}
use Rattle.flight_facts.proofs.Stages.{flight_for, all_ended, ended_ahead, written_ended, sends, not_sent_next, flushed_ended, flushed_begun}
use Rattle.flight_facts.proofs.Landing.{units_both, part_both, part_skip, none_of_part, jobs_then, jobs_sent}
use Rattle.flight_facts.proofs.OfJobs.{GoesOn, job_then, job_of_data}

-- ---- parts

-- a given piece of the record is one still, whatever the checkpoint and what is reserved are
pub pieces_kept : (m : Meta) (check : Option Checking) (o : Option Begun) (g : Flight) → TouchesOnlyOf (IsGivenPiece m) o g
    → (let m' : Meta = record m { check = check } in TouchesOnlyOf (IsGivenPiece m') o g)
pieces_kept m check None g is = absurd is
pieces_kept m check (Some r) g is = λ unit out. is unit (λ p. out (record { j = p.j; behind = p.behind; within = p.within; is = p.is }))

pub every : {A : Type 0} (P : A → Type 0) → ((x : A) → P x) → (xs : List A) → AllByRecursion P xs
every P all [] = tt
every P all (x ∷ xs) = (all x, every P all xs)

-- as many units of each context are in flight
pub waiting_same : (flying flying' : List Flying) (xs : List Context) → AllByRecursion (λ x. units_flying x.place flying' ≡ units_flying x.place flying) xs
    → AllByRecursion (IsPartGiven flying) xs → AllByRecursion (IsPartGiven flying') xs
waiting_same flying flying' [] same all = tt
waiting_same flying flying' (x ∷ xs) same all =
    (record { within = (all.0).within; counted = ap (λ (n : ℕ). x.done + n) same.0 ∙ (all.0).counted }, waiting_same flying flying' xs same.1 all.1)

log_units : (place : ℕ) (flying : List Flying) (f : Flying) → units_of_job place f.job ≡ 0 → units_flying place (flying ++ f ∷ []) ≡ units_flying place flying
log_units place flying f none = units_both place flying (f ∷ []) ∙ less (units_flying place flying) (units_of_job place f.job) none
  where
    less : (n m : ℕ) → m ≡ 0 → n + (m + 0) ≡ n
    less n m is = omega (arith, is)

pub jobs_change : (m m' : Meta) (pending later : List Context) → GoesOn m m' pending later → (flying : List Flying) (flights : List Flight)
    → AreOfJobs m pending flying flights → AreOfJobs m' later flying flights
jobs_change m m' pending later on flying flights =
    jobs_then m m' pending later flying flights
    (every (λ f. (g : Flight) → IsOfJob m pending f.job g → IsOfJob m' later f.job g) (λ f. job_then m m' pending later on f.job) flying)

-- where nothing flies for batch and switch, what flies touches what it touches, whatever the log is
pub data_alone : (m m' : Meta) (pending : List Context) (flying : List Flying) (flights : List Flight) → flying_for is_of_batch flying ≡ []
    → flying_for is_of_switch flying ≡ [] → AreOfJobs m pending flying flights → AreOfJobs m' pending flying flights
data_alone m m' pending flying flights batch switch = jobs_then m m' pending pending flying flights
    (both flying (none_of_part is_of_batch flying batch) (none_of_part is_of_switch flying switch))
  where
    both : (fs : List Flying) → AllByRecursion (λ f. is_of_batch f.job ≡ false) fs → AllByRecursion (λ f. is_of_switch f.job ≡ false) fs
        → AllByRecursion (λ f. (g : Flight) → IsOfJob m pending f.job g → IsOfJob m' pending f.job g) fs
    both [] none never = tt
    both (f ∷ fs) none never = (λ g of. job_of_data m m' pending f.job g none.0 never.0 of, both fs none.1 never.1)

-- one more submission for the log
pub log_sent : (s : State) (flights : List Flight) (f : Flying) (g : Flight) (m' : Meta) (batch : Option Batch) (switching : Option Switching)
    (events : ℕ) → ((place : ℕ) → units_of_job place f.job ≡ 0) → FlightsMatch s flights
    → IsBatchFar m'.sup.half m'.tail m'.number batch m'.begun (flying_for is_of_batch s.flying ++ flying_for is_of_batch (f ∷ []))
    → IsSwitchFar (length (check_pieces m')) m'.check switching (flying_for is_of_switch s.flying ++ flying_for is_of_switch (f ∷ []))
    → IfSome switching (λ w. batch ≡ None) → AreOfJobs m' s.pending s.flying flights → IsOfJob m' s.pending f.job g
    → (let t : State = record s { log = m'; batch = batch; switching = switching; flying = s.flying ++ f ∷ []; events = events } in
    FlightsMatch t (flights ++ g ∷ []))
log_sent s flights f g m' batch switching events none m far switch alone touches is = record {
  places = m.places;
  waiting = waiting_same s.flying (s.flying ++ f ∷ []) s.pending
      (every (λ x. units_flying x.place (s.flying ++ f ∷ []) ≡ units_flying x.place s.flying) (λ x. log_units x.place s.flying f (none x.place)) s.pending) m.waiting;
  batch = subst (IsBatchFar m'.sup.half m'.tail m'.number batch m'.begun) (sym (part_both is_of_batch s.flying (f ∷ []))) far;
  switch = subst (IsSwitchFar (length (check_pieces m')) m'.check switching) (sym (part_both is_of_switch s.flying (f ∷ []))) switch;
  alone = alone;
  touches = jobs_sent m' s.pending s.flying flights f g touches is;
}

-- ---- the log, where a batch is open

-- how far it is
pub open_far : (s : State) (flights : List Flight) (b : Batch) → FlightsMatch s flights → s.batch ≡ Some b
    → IsBatchOpen s.log.sup.half s.log.tail s.log.number b s.log.begun (flying_for is_of_batch s.flying)
open_far s flights b m is = subst (λ (o : Option Batch). IsBatchFar s.log.sup.half s.log.tail s.log.number o s.log.begun (flying_for is_of_batch s.flying)) is m.batch

-- no switch is under way then
pub no_switch : (s : State) (flights : List Flight) (b : Batch) → FlightsMatch s flights → s.batch ≡ Some b → s.switching ≡ None
no_switch s flights b m is = of_switching s.switching refl (subst (λ (o : Option Batch). IfSome s.switching (λ w. o ≡ None)) is m.alone)
  where
    of_switching : (o : Option Switching) → s.switching ≡ o → IfSome o (λ w. Some b ≡ None) → s.switching ≡ None
    of_switching None e alone = e
    of_switching (Some w) e alone = absurd (cc)

pub rests_switch : (s : State) (flights : List Flight) → FlightsMatch s flights → s.switching ≡ None
    → (s.log.check ≡ None) × (flying_for is_of_switch s.flying ≡ [])
rests_switch s flights m none = of_check s.log.check refl
    (subst (λ (w : Option Switching). IsSwitchFar (length (check_pieces s.log)) s.log.check w (flying_for is_of_switch s.flying)) none m.switch)
  where
    of_check : (o : Option Checking) → s.log.check ≡ o → IsSwitchFar (length (check_pieces s.log)) o None (flying_for is_of_switch s.flying)
        → (s.log.check ≡ None) × (flying_for is_of_switch s.flying ≡ [])
    of_check None e far = (e, far)
    of_check (Some c) e far = absurd far

-- it and its record
pub record IsMadeFar (number : ℕ) (b : Batch) (r : Begun) (flying : List Flying) : Type 0 where
  pub of : r.ops ≡ batch_ops b
  pub pieces : batch_pieces number b ≡ pieces_of number r
  pub far : AreInTurn (batch_stages (batch_pieces number b) b (Some r)) flying

pub made_far : (half tail number : ℕ) (b : Batch) (r : Begun) (flying : List Flying) → IsBatchOpen half tail number b (Some r) flying → IsMadeFar number b r flying
made_far half tail number b r flying opened = record {
  of = opened.made;
  pieces = ap (λ (ops : List RowOp). piece_count (unit_count number ops)) (sym opened.made);
  far = opened.far;
}

pub begun_far : (s : State) (flights : List Flight) (b : Batch) (o : Option Begun) → FlightsMatch s flights → s.batch ≡ Some b → s.log.begun ≡ o
    → IsBatchOpen s.log.sup.half s.log.tail s.log.number b o (flying_for is_of_batch s.flying)
begun_far s flights b o m is begun =
    subst (λ (o : Option Begun). IsBatchOpen s.log.sup.half s.log.tail s.log.number b o (flying_for is_of_batch s.flying)) begun (open_far s flights b m is)

-- a submission for the open batch
batch_sent : (s : State) (flights : List Flight) (b b' : Batch) (f : Flying) (g : Flight) (begun : Option Begun) → is_of_switch f.job ≡ false
    → ((place : ℕ) → units_of_job place f.job ≡ 0) → FlightsMatch s flights → s.batch ≡ Some b
    → IsBatchOpen s.log.sup.half s.log.tail s.log.number b' begun (flying_for is_of_batch s.flying ++ flying_for is_of_batch (f ∷ []))
    → (let m' : Meta = record s.log { begun = begun } in AreOfJobs m' s.pending s.flying flights × IsOfJob m' s.pending f.job g)
    → (let m' : Meta = record s.log { begun = begun } in
    let t : State = record s { log = m'; batch = Some b'; flying = s.flying ++ f ∷ []; events = s.events + 1 } in FlightsMatch t (flights ++ g ∷ []))
batch_sent s flights b b' f g begun other none m is far touches =
    let never : s.switching ≡ None = no_switch s flights b m is in
    let m' : Meta = record s.log { begun = begun } in
    let skip : flying_for is_of_switch s.flying ++ flying_for is_of_switch (f ∷ []) ≡ flying_for is_of_switch s.flying =
    ap (λ (fs : List Flying). flying_for is_of_switch s.flying ++ fs) (part_skip is_of_switch f [] other) ∙ append-nil (flying_for is_of_switch s.flying) in
    log_sent s flights f g m' (Some b') s.switching (s.events + 1) none m far
    (subst (IsSwitchFar (length (check_pieces s.log)) s.log.check s.switching) (sym skip) m.switch)
    (subst (λ (o : Option Switching). IfSome o (λ w. Some b' ≡ None)) (sym never) tt) touches.0 touches.1

-- ---- the two flushes

-- the stages behind the first flush
abbrev pub behind_first : ℕ → Batch → Option Begun → List Stage
behind_first pieces b begun =
    by_pieces job.Record pieces (option_map_or (λ r. r.given) begun 0) (option_map_or (λ r. r.written) begun 0) ∷ by_one job.RecordFlush b.second ∷ []

pub flush_matches : (s : State) (flights : List Flight) (b : Batch) (ticket : Ticket) → FlightsMatch s flights → s.batch ≡ Some b → is_not_sent b.first ≡ true
    → FlightsMatch (flush_sent b ticket s) (flights ++ flight_of ticket.place event.Flush ∷ [])
flush_matches s flights b ticket m is ready =
    let opened = open_far s flights b m is in
    batch_sent s flights b (record b { first = flush.Sent ticket }) (flight_for ticket job.DataFlush) (flight_of ticket.place event.Flush) s.log.begun refl
    (λ place. refl) m is (record {
      needed = opened.needed;
      fits = opened.fits;
      written = opened.written;
      made = opened.made;
      far = sends [] (by_one job.DataFlush b.first) (behind_first (batch_pieces s.log.number b) b s.log.begun) (flying_for is_of_batch s.flying) ticket tt
          (not_sent_next job.DataFlush b.first ready) opened.far;
    }) (m.touches, refl)

none_written : (number : ℕ) (ops : List RowOp) (written : ℕ) → written ≡ 0 → written ≡ piece_count (unit_count number ops) → ⊥
none_written number ops written none all = never (piece_count (unit_count number ops)) written none all (some_pieces number ops)
  where
    never : (pieces written : ℕ) → written ≡ 0 → written ≡ pieces → 0 < pieces → ⊥
    never pieces written none all some = omega (arith, none, all, some)

-- where all pieces of the record are written, it and the flush before it have ended
pub record_ended : (number : ℕ) (b : Batch) (r : Begun) (flying : List Flying) → IsMadeFar number b r flying → r.written ≡ pieces_of number r
    → IsEnded (by_one job.DataFlush b.first) × (IsEnded (by_pieces job.Record (batch_pieces number b) r.given r.written) × Unit {0})
record_ended number b r flying made all =
    let whole : r.written ≡ batch_pieces number b = all ∙ sym made.pieces in
    let first = ended_ahead (by_one job.DataFlush b.first ∷ []) (by_pieces job.Record (batch_pieces number b) r.given r.written)
    (by_one job.RecordFlush b.second ∷ []) flying (λ unsent. none_written number (batch_ops b) r.written unsent.1 whole) made.far in (
      first.0,
      (
        written_ended (by_one job.DataFlush b.first ∷ []) job.Record (batch_pieces number b) r.given r.written
            (by_one job.RecordFlush b.second ∷ []) flying whole made.far,
        tt,
      ),
    )

pub sync_matches : (s : State) (flights : List Flight) (b : Batch) (r : Begun) (ticket : Ticket) → FlightsMatch s flights → s.batch ≡ Some b → s.log.begun ≡ Some r
    → is_not_sent b.second ≡ true → r.written ≡ pieces_of s.log.number r → FlightsMatch (sync_sent b ticket s) (flights ++ flight_of ticket.place event.Flush ∷ [])
sync_matches s flights b r ticket m is begun ready all =
    let flying : List Flying = flying_for is_of_batch s.flying in
    let opened = open_far s flights b m is in
    let pieces : ℕ = batch_pieces s.log.number b in
    let made : IsMadeFar s.log.number b r flying = made_far s.log.sup.half s.log.tail s.log.number b r flying (begun_far s flights b (Some r) m is begun) in
    let b' : Batch = record b { second = flush.Sent ticket } in
    batch_sent s flights b b' (flight_for ticket job.RecordFlush) (flight_of ticket.place event.Flush) s.log.begun refl (λ place. refl) m is (record {
      needed = opened.needed;
      fits = opened.fits;
      written = opened.written;
      made = opened.made;
      far = subst (λ (o : Option Begun). AreInTurn (batch_stages pieces b' o) (flying ++ flight_for ticket job.RecordFlush ∷ [])) (sym begun)
          (sends (by_one job.DataFlush b.first ∷ by_pieces job.Record pieces r.given r.written ∷ []) (by_one job.RecordFlush b.second) [] flying ticket
          (record_ended s.log.number b r flying made all) (not_sent_next job.RecordFlush b.second ready) made.far);
    }) (m.touches, refl)

-- ---- the record

pub seal_matches : (s : State) (flights : List Flight) (b : Batch) → FlightsMatch s flights → s.batch ≡ Some b → s.log.begun ≡ None
    → FlightsMatch (sealed b s) flights
seal_matches s flights b m is none =
    let opened : IsBatchOpen s.log.sup.half s.log.tail s.log.number b None (flying_for is_of_batch s.flying) = begun_far s flights b None m is none in
    record {
      places = m.places;
      waiting = m.waiting;
      batch = subst (λ (o : Option Batch). IsBatchFar s.log.sup.half s.log.tail s.log.number o (sealed b s).log.begun (flying_for is_of_batch s.flying)) (sym is) (record {
        needed = opened.needed;
        fits = opened.fits;
        written = opened.written;
        made = refl;
        far = opened.far;
      });
      switch = m.switch;
      alone = m.alone;
      touches = jobs_change s.log (sealed b s).log s.pending s.pending (record {
        writes = λ place count g w. w;
        pieces = λ g p. absurd (subst (λ (o : Option Begun). TouchesOnlyOf (IsGivenPiece s.log) o g) none p);
        runs = λ g p. p;
        slot = refl;
      }) s.flying flights m.touches;
    }

given_from_falls : (units given : ℕ) → given_from units (given + 1) ≤ given_from units given
given_from_falls units given = omega arith

pub record_long : (number : ℕ) (r : Begun) → r.given < pieces_of number r
    → length (begun_piece_bytes number r) ≡ 4096 * piece_units (unit_count number r.ops) r.given
record_long number r more =
    let units : ℕ = unit_count number r.ops in
    length-units_from (piece_first units r.given) (piece_units units r.given) (record_units number r.ops)
    (within (piece_first units r.given) (piece_units units r.given) units (length (record_units number r.ops))
    (lies units r.given more).within (length-record_units number r.ops))
  where
    within : (first count units size : ℕ) → first + count ≤ units → size ≡ 4096 * units → 4096 * first + 4096 * count ≤ size
    within first count units size le is = omega (arith, le, is)

-- the next piece lies where the pieces lie that are given then
piece_of_record : (m : Meta) (r : Begun) (ticket : ℕ) → r.given < pieces_of m.number r
    → (let m' : Meta = record m { begun = Some (record r { given = r.given + 1 }) } in
    TouchesOnlyOf (IsGivenPiece m') m'.begun (flight_of ticket (event.Write (piece_unit m r) (begun_piece_bytes m.number r))))
piece_of_record m r ticket more unit out = elim (cases_lt unit (piece_unit m r)) [
  | inl before ↦ apart_before ticket (piece_unit m r) unit (begun_piece_bytes m.number r) before
  | inr from ↦ elim (cases_lt unit (piece_unit m r + piece_units units r.given)) [
    | inl inside ↦ absurd (out (record {
      j = unit - (active_unit m.sup + m.tail);
      behind = behind (active_unit m.sup) m.tail (piece_first units r.given) _ unit from lying.begins;
      within = within (active_unit m.sup) m.tail (piece_first units r.given) (piece_units units r.given) units unit from inside lying.within;
      is = place (active_unit m.sup) m.tail (piece_first units r.given) unit from;
    }))
    | inr past ↦ apart_behind ticket (piece_unit m r) (piece_units units r.given) unit (begun_piece_bytes m.number r) (record_long m.number r more) past
  ]
]
  where
    units : ℕ
    units = unit_count m.number r.ops

    lying : LiesInRecord units r.given
    lying = lies units r.given more

    behind : (active tail first start unit : ℕ) → active + tail + first ≤ unit → first ≡ start → start ≤ unit - (active + tail)
    behind active tail first start unit from is = omega (arith, from, is)

    within : (active tail first count units unit : ℕ) → active + tail + first ≤ unit → unit < active + tail + first + count → first + count ≤ units
        → unit - (active + tail) < units
    within active tail first count units unit from to le = omega (arith, from, to, le)

    place : (active tail first unit : ℕ) → active + tail + first ≤ unit → unit ≡ active + (tail + (unit - (active + tail)))
    place active tail first unit from = omega (arith, from)

-- a piece that was given before is one still
pieces_more : (m : Meta) (r : Begun) (g : Flight) → TouchesOnlyOf (IsGivenPiece m) (Some r) g
    → (let m' : Meta = record m { begun = Some (record r { given = r.given + 1 }) } in TouchesOnlyOf (IsGivenPiece m') m'.begun g)
pieces_more m r g is unit out = is unit (λ p. out (record {
  j = p.j;
  behind = further _ _ p.j (given_from_falls (unit_count m.number r.ops) r.given) p.behind;
  within = p.within;
  is = p.is;
}))
  where
    further : (a b c : ℕ) → a ≤ b → b ≤ c → a ≤ c
    further a b c le more = omega (arith, le, more)

pub record_matches : (s : State) (flights : List Flight) (b : Batch) (r : Begun) (ticket : Ticket) → FlightsMatch s flights → s.batch ≡ Some b
    → s.log.begun ≡ Some r → is_flushed b.first ≡ true → r.given < pieces_of s.log.number r
    → FlightsMatch (record_sent r ticket s) (flights ++ flight_of ticket.place (event.Write (piece_unit s.log r) (begun_piece_bytes s.log.number r)) ∷ [])
record_matches s flights b r ticket m is begun ready more =
    let flying : List Flying = flying_for is_of_batch s.flying in
    let r' : Begun = record r { given = r.given + 1 } in
    let m' : Meta = record s.log { begun = Some r' } in
    let g : Flight = flight_of ticket.place (event.Write (piece_unit s.log r) (begun_piece_bytes s.log.number r)) in
    let opened : IsBatchOpen s.log.sup.half s.log.tail s.log.number b (Some r) flying = begun_far s flights b (Some r) m is begun in
    let made : IsMadeFar s.log.number b r flying = made_far s.log.sup.half s.log.tail s.log.number b r flying opened in
    let pieces : ℕ = batch_pieces s.log.number b in
    subst (λ (o : Option Batch). let t : State = record s { log = m'; batch = o; flying = s.flying ++ flight_for ticket job.Record ∷ []; events = s.events + 1 } in
    FlightsMatch t (flights ++ g ∷ []))
    (sym is)
    (batch_sent s flights b b (flight_for ticket job.Record) g (Some r') refl (λ place. refl) m is (record {
      needed = opened.needed;
      fits = opened.fits;
      written = opened.written;
      made = opened.made;
      far = sends (by_one job.DataFlush b.first ∷ []) (by_pieces job.Record pieces r.given r.written) (by_one job.RecordFlush b.second ∷ []) flying ticket
          (flushed_ended job.DataFlush b.first ready, tt) (subst (λ (n : ℕ). r.given < n) (sym made.pieces) more) opened.far;
    }) (
      jobs_change s.log m' s.pending s.pending (record {
        writes = λ place count g w. w;
        pieces = λ h p. pieces_more s.log r h (subst (λ (o : Option Begun). TouchesOnlyOf (IsGivenPiece s.log) o h) begun p);
        runs = λ h p. p;
        slot = refl;
      }) s.flying flights m.touches,
      piece_of_record s.log r ticket.place more,
    ))

-- ---- Commit

-- behind the second flush all stages have ended
pub synced_far : (half tail number : ℕ) (b : Batch) (o : Option Begun) (flying : List Flying) → IsBatchOpen half tail number b o flying → is_flushed b.second ≡ true
    → AllByRecursion IsEnded (batch_stages (batch_pieces number b) b o)
synced_far half tail number b o flying opened ready =
    let first : Stage = by_one job.DataFlush b.first in
    let made : Stage = by_pieces job.Record (batch_pieces number b) (option_map_or (λ r. r.given) o 0) (option_map_or (λ r. r.written) o 0) in
    let last : IsEnded (by_one job.RecordFlush b.second) = flushed_ended job.RecordFlush b.second ready in
    let ahead = ended_ahead (first ∷ made ∷ []) (by_one job.RecordFlush b.second) [] flying (flushed_begun job.RecordFlush b.second ready) opened.far in
    (ahead.0, (ahead.1.0, (last, tt)))

pub commit_matches : (s : State) (flights : List Flight) (b : Batch) → FlightsMatch s flights → s.batch ≡ Some b → is_flushed b.second ≡ true
    → FlightsMatch (committed_batch b s) flights
commit_matches s flights b m is ready =
    let opened = open_far s flights b m is in
    let landed : flying_for is_of_batch s.flying ≡ [] =
    all_ended (batch_stages (batch_pieces s.log.number b) b s.log.begun) (flying_for is_of_batch s.flying) (synced_far s.log.sup.half s.log.tail s.log.number b s.log.begun (flying_for is_of_batch s.flying) opened ready) opened.far in
    let none : s.switching ≡ None = no_switch s flights b m is in
    let rest = rests_switch s flights m none in
    record {
      places = m.places;
      waiting = m.waiting;
      batch = (refl, landed);
      switch = subst (λ (w : Option Switching). IsSwitchFar (length (check_pieces (log_after b s.log))) s.log.check w (flying_for is_of_switch s.flying)) (sym none)
          (subst (λ (c : Option Checking). IsSwitchFar (length (check_pieces (log_after b s.log))) c None (flying_for is_of_switch s.flying)) (sym rest.0) rest.1);
      alone = subst (λ (w : Option Switching). IfSome w (λ v. ◌≡◌ {A = Option Batch} None None)) (sym none) tt;
      touches = data_alone s.log (log_after b s.log) s.pending s.flying flights landed rest.1 m.touches;
    }
