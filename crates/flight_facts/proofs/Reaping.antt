-- The end of a submission keeps what is in flight, part by part, for any number of contexts.
use Rattle.std.proofs.Common.{◌≡◌, inl, inr, ℕ, ◌+◌, ◌<◌, ◌==◌, Bool, true, false, cond, List, [], ◌∷◌, ◌++◌, length, Option, Some, None, IfSome, refl, sym, ap, subst, ◌∙◌, arith}
use Rattle.flight_facts.proofs.Common.{AllByRecursion, option_map, option_map_or, eq-eqb, Flight, without, Ticket, Context, Flying, Job, Meta, Begun, Checking}
use Rattle.store_steps.specs.declared.flight.Job.TheVariants as job
use Rattle.store_steps.specs.declared.flight.Switching.{Switching}
use Rattle.store_steps.specs.Prelude.{Batch, State, with_context, done_more, after_done, written_more, checked_more, first_flushed, second_flushed, check_flushed, slot_written, slot_flushed, check_pieces}
use Rattle.flight_facts.specs.Prelude.{by_one, by_pieces, AreInTurn, AreFlights, batch_pieces, batch_stages, IsBatchOpen, IsBatchFar, switch_stages, IsSwitchFar, units_of_job, units_flying, is_of_batch, is_of_switch, flying_for, TouchesGiven, IsWriteOf, IsGivenPiece, IsGivenRun, IsOfJob, AreOfJobs, FlightsMatch}
use Rattle.flight_facts.proofs.Untouched.{all_then}
use Rattle.flight_facts.proofs.Lists.{StandsIn, any_stands, with_in}
use Rattle.flight_facts.proofs.Flying.{others_of}
use Rattle.flight_facts.proofs.Landing.{units_both, part_with, part_rest, part_stays, IsLeftOut, jobs_left, IsFlown, jobs_found}
use Rattle.flight_facts.proofs.OfJobs.{piece_more}
use Rattle.flight_facts.proofs.Stages.{EndsIn, ends, no_front}
use Rattle.flight_facts.proofs.Matching.{pieces_kept, every, waiting_same, jobs_change}
use Rattle.flight_facts.proofs.MatchingMore.{others_none, writes_more, writes_go_on, one_changed}

-- ---- a data write

-- the units that fly but for it
pub left_units : (place : ℕ) (ticket : Ticket) (fs : List Flying) (out : IsLeftOut ticket fs)
    → units_flying place (others_of ticket fs) + units_of_job place out.flight.job ≡ units_flying place fs
left_units place ticket fs out =
    sums (units_flying place out.front) (units_flying place out.back) (units_of_job place out.flight.job) _ _
    (ap (λ (gs : List Flying). units_flying place gs) out.left ∙ units_both place out.front out.back)
    (ap (λ (gs : List Flying). units_flying place gs) out.is ∙ units_both place out.front (out.flight ∷ out.back))
  where
    sums : (front back one others all : ℕ) → others ≡ front + back → all ≡ front + (one + back) → others + one ≡ all
    sums front back one others all is is' = omega (arith, is, is')

left_same : (ticket : Ticket) (fs : List Flying) (out : IsLeftOut ticket fs) (xs : List Context)
    → AllByRecursion (λ y. units_of_job y.place out.flight.job ≡ 0) xs
    → AllByRecursion (λ y. units_flying y.place (others_of ticket fs) ≡ units_flying y.place fs) xs
left_same ticket fs out xs none = all_then (λ y. units_of_job y.place out.flight.job ≡ 0) (λ y. units_flying y.place (others_of ticket fs) ≡ units_flying y.place fs)
    (λ y e. same _ _ _ (left_units y.place ticket fs out) e) xs none
  where
    same : (others one all : ℕ) → others + one ≡ all → one ≡ 0 → others ≡ all
    same others one all is none = omega (arith, is, none)

-- the end of a data write: so many more units of its context have reached the device
data_left : (s : State) (flights : List Flight) (ticket : Ticket) (out : IsLeftOut ticket s.flying) (front : List Context) (x : Context) (back : List Context)
    (count : ℕ) → s.pending ≡ front ++ x ∷ back → out.flight.job ≡ job.Data x.place count → AreFlights s.flying flights → FlightsMatch s flights
    → (events : ℕ)
    → (let t : State = record s { pending = front ++ done_more count x ∷ back; flying = others_of ticket s.flying; events = events } in
    FlightsMatch t (without ticket.place flights))
data_left s flights ticket out front x back count is its mirror m events =
    let y : Context = done_more count x in
    let left : List Flying = others_of ticket s.flying in
    one_changed s flights front x y back left (without ticket.place flights) events is m refl
    (λ xs away. left_same ticket s.flying out xs (none_of xs away))
    (λ part. record {
      within = part.within;
      counted = counted x.done count (units_flying x.place left) (units_flying x.place s.flying) x.given _ (left_units x.place ticket s.flying out)
          (ap (λ (j : Job). units_of_job x.place j) its ∙ ap (λ (b : Bool). cond b count 0) (eq-eqb x.place x.place refl)) part.counted;
    })
    (part_stays is_of_batch ticket s.flying out (ap is_of_batch its)) (part_stays is_of_switch ticket s.flying out (ap is_of_switch its))
    (λ of. jobs_change s.log s.log (front ++ x ∷ back) (front ++ y ∷ back)
    (writes_go_on s.log (front ++ x ∷ back) (front ++ y ∷ back) (writes_more front x y back refl (λ h t. t))) left (without ticket.place flights)
    (jobs_left s.log (front ++ x ∷ back) ticket s.flying flights mirror of))
  where
    none_of : (xs : List Context) → AllByRecursion (λ z. z.place == x.place ≡ false) xs → AllByRecursion (λ z. units_of_job z.place out.flight.job ≡ 0) xs
    none_of xs away = subst (λ (j : Job). AllByRecursion (λ z. units_of_job z.place j ≡ 0) xs) (sym its) (others_none count x.place xs away)

    counted : (done count rest all given one : ℕ) → rest + one ≡ all → one ≡ count → done + all ≡ given → (done + count) + rest ≡ given
    counted done count rest all given one is same was = omega (arith, is, same, was)

data_ended : (s : State) (flights : List Flight) (ticket : Ticket) (out : IsLeftOut ticket s.flying) (place count : ℕ) → out.flight.job ≡ job.Data place count
    → AreFlights s.flying flights → FlightsMatch s flights → (events : ℕ)
    → (let t : State = record s { pending = with_context place (done_more count) s.pending; flying = others_of ticket s.flying; events = events } in
    FlightsMatch t (without ticket.place flights))
data_ended s flights ticket out place count its mirror m events =
    let flown : IsFlown s.log s.pending out.flight =
    jobs_found s.log s.pending out.front out.flight out.back flights (subst (λ (fs : List Flying). AreOfJobs s.log s.pending fs flights) out.is m.touches) in
    let of : IsWriteOf s.pending place count flown.flight = subst (λ (j : Job). IsOfJob s.log s.pending j flown.flight) its flown.of in
    let at : StandsIn (λ z. (z.place ≡ place) × TouchesGiven z flown.flight) s.pending = any_stands (λ z. (z.place ≡ place) × TouchesGiven z flown.flight) s.pending of.of in
    let x : Context = at.item in
    let after : List Context → State = λ xs. record s { pending = xs; flying = others_of ticket s.flying; events = events } in
    subst (λ (p : ℕ). FlightsMatch (after (with_context p (done_more count) s.pending)) (without ticket.place flights)) at.holds.0
    (subst (λ (xs : List Context). FlightsMatch (after xs) (without ticket.place flights))
    (sym (with_in (done_more count) at.front x at.back s.pending at.is m.places.ascend))
    (data_left s flights ticket out at.front x at.back count at.is (its ∙ ap (λ (p : ℕ). job.Data p count) (sym at.holds.0)) mirror m events))

-- ---- the batch, behind the end of one of its submissions

module _ (t : State) (front : List Flying) (f : Flying) (back : List Flying) where
  abbrev IsBatchLeft : Job → Type 0
  IsBatchLeft j = (let u : State = after_done j t in IsBatchFar u.log.sup.half u.log.tail u.log.number u.batch u.log.begun (front ++ back))

  piece_left : (b : Batch) (o : Option Begun) → IsBatchOpen t.log.sup.half t.log.tail t.log.number b o (front ++ f ∷ back)
      → option_map_or (λ r. r.written) o 0 < option_map_or (λ r. r.given) o 0
      → AreInTurn (by_one job.DataFlush b.first
      ∷ by_pieces job.Record (batch_pieces t.log.number b) (option_map_or (λ r. r.given) o 0) (option_map_or (λ r. r.written) o 0 + 1)
      ∷ by_one job.RecordFlush b.second ∷ []) (front ++ back)
      → IsBatchOpen t.log.sup.half t.log.tail t.log.number b (option_map written_more o) (front ++ back)
  piece_left b None opened given turn = absurd (omega (arith, given))
  piece_left b (Some r) opened given turn = record { needed = opened.needed; fits = opened.fits; written = opened.written; made = opened.made; far = turn }

  batch_ended : IsBatchFar t.log.sup.half t.log.tail t.log.number t.batch t.log.begun (front ++ f ∷ back) → IsBatchLeft f.job
  batch_ended far = of_batch t.batch refl far
    where
      of_end : (b : Batch) → t.batch ≡ Some b → IsBatchOpen t.log.sup.half t.log.tail t.log.number b t.log.begun (front ++ f ∷ back)
          → EndsIn (batch_stages (batch_pieces t.log.number b) b t.log.begun) f (λ later. AreInTurn later (front ++ back)) → IsBatchLeft f.job
      of_end b is o (inl end) = subst IsBatchLeft (sym end.0)
          (subst (λ (p : Option Batch). IsBatchFar t.log.sup.half t.log.tail t.log.number (option_map first_flushed p) t.log.begun (front ++ back)) (sym is)
          (record { needed = o.needed; fits = o.fits; written = o.written; made = o.made; far = end.2 }))
      of_end b is o (inr (inl end)) = subst IsBatchLeft (sym end.0)
          (subst (λ (p : Option Batch). IsBatchFar t.log.sup.half t.log.tail t.log.number p (option_map written_more t.log.begun) (front ++ back)) (sym is)
          (piece_left b t.log.begun o end.1 end.2))
      of_end b is o (inr (inr (inl end))) = subst IsBatchLeft (sym end.0)
          (subst (λ (p : Option Batch). IsBatchFar t.log.sup.half t.log.tail t.log.number (option_map second_flushed p) t.log.begun (front ++ back)) (sym is)
          (record { needed = o.needed; fits = o.fits; written = o.written; made = o.made; far = end.2 }))
      of_end b is o (inr (inr (inr never))) = absurd never

      of_batch : (o : Option Batch) → t.batch ≡ o → IsBatchFar t.log.sup.half t.log.tail t.log.number o t.log.begun (front ++ f ∷ back) → IsBatchLeft f.job
      of_batch None is h = absurd (no_front front f back h.1)
      of_batch (Some b) is h = of_end b is h
          (ends (batch_stages (batch_pieces t.log.number b) b t.log.begun) front f back (λ later. AreInTurn later (front ++ back)) (λ later turn. turn) h.far)

  -- ---- and the switch

  abbrev IsSwitchLeft : Job → Type 0
  IsSwitchLeft j = (let u : State = after_done j t in IsSwitchFar (length (check_pieces u.log)) u.log.check u.switching (front ++ back))

  switch_ended : IsSwitchFar (length (check_pieces t.log)) t.log.check t.switching (front ++ f ∷ back) → IsSwitchLeft f.job
  switch_ended far = of_parts t.log.check refl t.switching refl far
    where
      pieces : ℕ
      pieces = length (check_pieces t.log)

      -- by what the job changes
      left : (checked : Option Checking → Option Checking) (gone : Option Switching → Option Switching) (c : Checking) (w : Switching) → t.log.check ≡ Some c
          → t.switching ≡ Some w → IsSwitchFar pieces (checked (Some c)) (gone (Some w)) (front ++ back)
          → IsSwitchFar pieces (checked t.log.check) (gone t.switching) (front ++ back)
      left checked gone c w is has h = subst (λ (o : Option Checking). IsSwitchFar pieces (checked o) (gone t.switching) (front ++ back)) (sym is)
          (subst (λ (o : Option Switching). IsSwitchFar pieces (checked (Some c)) (gone o) (front ++ back)) (sym has) h)

      of_end : (c : Checking) (w : Switching) → t.log.check ≡ Some c → t.switching ≡ Some w
          → EndsIn (switch_stages pieces c w) f (λ later. AreInTurn later (front ++ back)) → IsSwitchLeft f.job
      of_end c w is has (inl end) = subst IsSwitchLeft (sym end.0) (left (option_map checked_more) (λ o. o) c w is has end.2)
      of_end c w is has (inr (inl end)) = subst IsSwitchLeft (sym end.0) (left (λ o. o) (option_map check_flushed) c w is has end.2)
      of_end c w is has (inr (inr (inl end))) = subst IsSwitchLeft (sym end.0) (left (λ o. o) (option_map slot_written) c w is has end.2)
      of_end c w is has (inr (inr (inr (inl end)))) = subst IsSwitchLeft (sym end.0) (left (λ o. o) (option_map slot_flushed) c w is has end.2)
      of_end c w is has (inr (inr (inr (inr never)))) = absurd never

      of_parts : (o : Option Checking) → t.log.check ≡ o → (p : Option Switching) → t.switching ≡ p → IsSwitchFar pieces o p (front ++ f ∷ back) → IsSwitchLeft f.job
      of_parts None is None has h = absurd (no_front front f back h)
      of_parts (Some c) is (Some w) has h =
          of_end c w is has (ends (switch_stages pieces c w) front f back (λ later. AreInTurn later (front ++ back)) (λ later turn. turn) h)
      of_parts o is p has h = absurd h

-- ---- the end of any submission

module _ (s : State) (flights : List Flight) (ticket : Ticket) (events : ℕ) (out : IsLeftOut ticket s.flying) where
  abbrev reaped_state : State
  reaped_state = record s { flying = others_of ticket s.flying; events = events }

  -- where it is no data write, and batch and switch are so far
  log_left : (m' : Meta) (batch : Option Batch) (switching : Option Switching) → ((place : ℕ) → units_of_job place out.flight.job ≡ 0) → FlightsMatch s flights
      → IsBatchFar m'.sup.half m'.tail m'.number batch m'.begun (flying_for is_of_batch (others_of ticket s.flying))
      → IsSwitchFar (length (check_pieces m')) m'.check switching (flying_for is_of_switch (others_of ticket s.flying))
      → IfSome switching (λ w. batch ≡ None) → AreOfJobs m' s.pending (others_of ticket s.flying) (without ticket.place flights)
      → (let t : State = record reaped_state { log = m'; batch = batch; switching = switching } in FlightsMatch t (without ticket.place flights))
  log_left m' batch switching none m far switch alone of = record {
    places = m.places;
    waiting = waiting_same s.flying (others_of ticket s.flying) s.pending
        (left_same ticket s.flying out s.pending (every (λ y. units_of_job y.place out.flight.job ≡ 0) (λ y. none y.place) s.pending)) m.waiting;
    batch = far;
    switch = switch;
    alone = alone;
    touches = of;
  }

  pub reap_matches : AreFlights s.flying flights → FlightsMatch s flights → FlightsMatch (after_done out.flight.job reaped_state) (without ticket.place flights)
  reap_matches mirror m = of_job out.flight.job refl
    where
      touches : AreOfJobs s.log s.pending (others_of ticket s.flying) (without ticket.place flights)
      touches = jobs_left s.log s.pending ticket s.flying flights mirror m.touches

      -- the part that it was for, and the other one
      batch_left : (j : Job) → out.flight.job ≡ j → is_of_batch j ≡ true
          → (let u : State = after_done j reaped_state in IsBatchFar u.log.sup.half u.log.tail u.log.number u.batch u.log.begun (flying_for is_of_batch (others_of ticket s.flying)))
      batch_left j its own =
          let u : State = after_done j reaped_state in
          subst (IsBatchFar u.log.sup.half u.log.tail u.log.number u.batch u.log.begun) (sym (part_rest is_of_batch ticket s.flying out))
          (subst (IsBatchLeft reaped_state (flying_for is_of_batch out.front) out.flight (flying_for is_of_batch out.back)) its
          (batch_ended reaped_state (flying_for is_of_batch out.front) out.flight (flying_for is_of_batch out.back)
          (subst (IsBatchFar s.log.sup.half s.log.tail s.log.number s.batch s.log.begun) (part_with is_of_batch ticket s.flying out (ap is_of_batch its ∙ own)) m.batch)))

      switch_stays : (j : Job) → out.flight.job ≡ j → is_of_switch j ≡ false
          → IsSwitchFar (length (check_pieces s.log)) s.log.check s.switching (flying_for is_of_switch (others_of ticket s.flying))
      switch_stays j its other = subst (IsSwitchFar (length (check_pieces s.log)) s.log.check s.switching)
          (sym (part_stays is_of_switch ticket s.flying out (ap is_of_switch its ∙ other))) m.switch

      switch_left : (j : Job) → out.flight.job ≡ j → is_of_switch j ≡ true
          → (let u : State = after_done j reaped_state in
          IsSwitchFar (length (check_pieces u.log)) u.log.check u.switching (flying_for is_of_switch (others_of ticket s.flying)))
      switch_left j its own =
          let u : State = after_done j reaped_state in
          subst (IsSwitchFar (length (check_pieces u.log)) u.log.check u.switching) (sym (part_rest is_of_switch ticket s.flying out))
          (subst (IsSwitchLeft reaped_state (flying_for is_of_switch out.front) out.flight (flying_for is_of_switch out.back)) its
          (switch_ended reaped_state (flying_for is_of_switch out.front) out.flight (flying_for is_of_switch out.back)
          (subst (IsSwitchFar (length (check_pieces s.log)) s.log.check s.switching) (part_with is_of_switch ticket s.flying out (ap is_of_switch its ∙ own)) m.switch)))

      batch_stays : (j : Job) → out.flight.job ≡ j → is_of_batch j ≡ false
          → IsBatchFar s.log.sup.half s.log.tail s.log.number s.batch s.log.begun (flying_for is_of_batch (others_of ticket s.flying))
      batch_stays j its other = subst (IsBatchFar s.log.sup.half s.log.tail s.log.number s.batch s.log.begun)
          (sym (part_stays is_of_batch ticket s.flying out (ap is_of_batch its ∙ other))) m.batch

      no_units_of : (j : Job) → out.flight.job ≡ j → ((place : ℕ) → units_of_job place j ≡ 0) → (place : ℕ) → units_of_job place out.flight.job ≡ 0
      no_units_of j its none place = ap (λ (k : Job). units_of_job place k) its ∙ none place

      -- a switch stands alone still, whatever the batch and it have come to
      alone_batch : (change : Batch → Batch) (o : Option Switching) (p : Option Batch) → IfSome o (λ w. p ≡ None) → IfSome o (λ w. option_map change p ≡ None)
      alone_batch change None p alone = tt
      alone_batch change (Some w) p alone = ap (option_map change) alone

      alone_switch : (change : Switching → Switching) (o : Option Switching) → IfSome o (λ w. s.batch ≡ None) → IfSome (option_map change o) (λ w. s.batch ≡ None)
      alone_switch change None alone = tt
      alone_switch change (Some w) alone = alone

      of_batch_flush : (j : Job) (change : Batch → Batch) → out.flight.job ≡ j → ((place : ℕ) → units_of_job place j ≡ 0) → is_of_switch j ≡ false
          → IsBatchFar s.log.sup.half s.log.tail s.log.number (option_map change s.batch) s.log.begun (flying_for is_of_batch (others_of ticket s.flying))
          → (let t : State = record reaped_state { batch = option_map change s.batch } in FlightsMatch t (without ticket.place flights))
      of_batch_flush j change its none other far = log_left s.log (option_map change s.batch) s.switching (no_units_of j its none) m far
          (switch_stays j its other) (alone_batch change s.switching s.batch m.alone) touches

      of_switch_one : (j : Job) (change : Switching → Switching) → out.flight.job ≡ j → ((place : ℕ) → units_of_job place j ≡ 0) → is_of_batch j ≡ false
          → IsSwitchFar (length (check_pieces s.log)) s.log.check (option_map change s.switching) (flying_for is_of_switch (others_of ticket s.flying))
          → (let t : State = record reaped_state { switching = option_map change s.switching } in FlightsMatch t (without ticket.place flights))
      of_switch_one j change its none other far = log_left s.log s.batch (option_map change s.switching) (no_units_of j its none) m
          (batch_stays j its other) far (alone_switch change s.switching m.alone) touches

      of_job : (j : Job) → out.flight.job ≡ j → FlightsMatch (after_done j reaped_state) (without ticket.place flights)
      of_job (job.Data place count) its = data_ended s flights ticket out place count its mirror m events
      of_job job.DataFlush its = of_batch_flush job.DataFlush first_flushed its (λ place. refl) refl (batch_left job.DataFlush its refl)
      of_job job.Record its =
          let m' : Meta = record s.log { begun = option_map written_more s.log.begun } in
          log_left m' s.batch s.switching (no_units_of job.Record its (λ place. refl)) m (batch_left job.Record its refl) (switch_stays job.Record its refl) m.alone
          (jobs_change s.log m' s.pending s.pending (record {
            writes = λ place count g w. w;
            pieces = piece_more (IsGivenPiece s.log) (IsGivenPiece m') s.log.begun written_more
                (λ r unit p. record { j = p.j; behind = p.behind; within = p.within; is = p.is });
            runs = λ g p. p;
            slot = refl;
          }) (others_of ticket s.flying) (without ticket.place flights) touches)
      of_job job.RecordFlush its = of_batch_flush job.RecordFlush second_flushed its (λ place. refl) refl (batch_left job.RecordFlush its refl)
      of_job job.Check its =
          let m' : Meta = record s.log { check = option_map checked_more s.log.check } in
          log_left m' s.batch s.switching (no_units_of job.Check its (λ place. refl)) m (batch_stays job.Check its refl) (switch_left job.Check its refl) m.alone
          (jobs_change s.log m' s.pending s.pending (record {
            writes = λ place count g w. w;
            pieces = λ g p. pieces_kept s.log m'.check s.log.begun g p;
            runs = piece_more (IsGivenRun s.log) (IsGivenRun m') s.log.check checked_more (λ c unit p. p);
            slot = refl;
          }) (others_of ticket s.flying) (without ticket.place flights) touches)
      of_job job.CheckFlush its = of_switch_one job.CheckFlush check_flushed its (λ place. refl) refl (switch_left job.CheckFlush its refl)
      of_job job.Slot its = of_switch_one job.Slot slot_written its (λ place. refl) refl (switch_left job.Slot its refl)
      of_job job.SlotFlush its = of_switch_one job.SlotFlush slot_flushed its (λ place. refl) refl (switch_left job.SlotFlush its refl)
