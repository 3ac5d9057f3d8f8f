-- What each step pays: it leaves less work, for any number of contexts, and what else it does to the device and to the counts.
use Rattle.std.proofs.Common.{◌≡◌, ◌⊎◌, inl, inr, ℕ, ◌+◌, ◌-◌, ◌*◌, ◌<◌, ◌≤◌, ◌==◌, Bool, true, false, cond, suc, List, [], ◌∷◌, ◌++◌, length, map, Option, Some, None, is_some, is_none, refl, sym, ap, subst, ◌∙◌, length-append, arith}
use Rattle.flight_facts.proofs.Common.{AllByRecursion, option_map_or, eq-eqb, ltb-true, ne_eqb, Disk, Ticket, piece_count, check_units, RowOp, Context, FlushState, Flying, Job, Meta, Begun, Checking, is_flushed}
use Rattle.std.proofs.lemmas.List.{length-map}
use Rattle.object_model.specs.declared.book.Commit.{Commit}
use Rattle.block_device.specs.Prelude.{Submitted}
use Rattle.block_device.specs.declared.event.Event.{Event}
use Rattle.block_device.specs.declared.event.Event.TheVariants as event
use Rattle.meta_rows.specs.Prelude.{row_sets}
use Rattle.meta_log.specs.declared.slot.Super.{Super}
use Rattle.meta_log.specs.Prelude.{one_record, check_records, units_of_records, front_run}
use Rattle.store_steps.specs.declared.flight.FlushState.TheVariants as flush
use Rattle.store_steps.specs.declared.flight.Job.TheVariants as job
use Rattle.store_steps.specs.declared.step.Step.TheVariants.{Take, Flush, Record, Sync, Finish, CheckWrite, CheckFlush, SlotWrite, SlotFlush, Switch}
use Rattle.meta_store.specs.Checks as checks
use Rattle.store_steps.specs.declared.flight.Switching.{Switching}
use Rattle.store_steps.specs.Prelude.{Batch, State, Unsent, unsent_units, run_bytes, given_more, with_context, choice, left_by, most_grouped, units_taken, sum_needs, after_done, record_sent, sealed, commit_of, acknowledged, log_after, is_not_sent, check_pieces, applied_count, is_ready_up, Takes, DoesData, OpensBatch, OpensCheck, DoesTake, DoesFlush, DoesSeal, DoesRecord, DoesSync, DoesCommit, DoesFinish, DoesCheckWrite, DoesCheckFlush, DoesSlotWrite, DoesSlotFlush, DoesSwitch, intent_of}
use Rattle.flight_facts.specs.Prelude.{Stage, by_one, by_pieces, stages_work, AreFlights, batch_pieces, batch_stages, switch_stages, flying_for, is_of_batch, FitsRecord, FlightsMatch, HasCheckRoom, check_most, work_of, sum_work, batch_work, switch_work, check_due, work_left}
use Rattle.flight_facts.proofs.Flying.{sent_flight, sent_units, others_of, Landed, landed_flight, reaped_good}
use Rattle.flight_facts.proofs.Landing.{IsLeftOut, left_out}
use Rattle.flight_facts.proofs.Ends.{DoneLeaves, done_alone, done_leaves}
use Rattle.flight_facts.proofs.Lists.{StandsIn, with_in, length_push, length_middle}
use Rattle.flight_facts.proofs.Pieces.{same_units, more_pieces}
use Rattle.flight_facts.proofs.Stages.{flight_for, sends_paid, not_sent_next}
use Rattle.flight_facts.proofs.Runs.{check_few}
use Rattle.flight_facts.proofs.RunUnits.{IsRunOf}
use Rattle.flight_facts.proofs.Picking.{ArePicked, picked, all_picked, sum_picked, count_picked}
use Rattle.flight_facts.proofs.Needs.{needs_both, sum_both, needs_most, work_least}
use Rattle.flight_facts.proofs.Matching.{behind_first, no_switch, IsMadeFar, made_far, begun_far}
use Rattle.flight_facts.proofs.Switching.{IsSwitchOpen, switch_open, rests_batch, check_stage, behind_check}
use Rattle.flight_facts.proofs.MatchingMore.{next_stands, new_batch}
use Rattle.flight_facts.proofs.MatchingSteps.{test_of, some_is, first_waits, sync_tests, pieces_left, take_tests, runs_left_over, check_flush_tests, slot_tests, slot_flush_tests, check_switches}

-- No entry is made, what waits becomes a commit at most, and events, records and superblocks come one by one. What is stale stays so, or it is what was
-- the log.
pub record IsNear (s s' : State) : Type 0 where
  pub entries : s'.book.entries ≡ s.book.entries
  pub under : length s'.book.commits + length s'.pending ≡ length s.book.commits + length s.pending
  pub events : s'.events ≤ s.events + 1
  pub number : s'.log.number ≤ s.log.number + 1
  pub epoch : s'.log.sup.epoch ≤ s.log.sup.epoch + 1
  pub stale : (s'.log.stale ≡ s.log.stale) ⊎ (s'.log.stale ≡ front_run s.log.tail)
  pub up : s'.down ≡ s.down

-- what a step of a kernel that stays up leaves
pub record Paid (s : State) (d : Disk) (s' : State) (d' : Disk) : Type 0 where
  pub falls : work_left s' < work_left s
  pub flights : AreFlights s'.flying d'.flights
  pub units : d'.units ≡ d.units
  pub near : IsNear s s'

-- ---- sums over contexts

sum_middle : (front : List Context) (x : Context) (back : List Context) → sum_work (front ++ x ∷ back) ≡ sum_work front + (work_of x + sum_work back)
sum_middle front x back = sum_both front (x ∷ back)

-- as many commits, whichever are acknowledged
pub acknowledged_length : (events : ℕ) (cs : List Commit) → length (acknowledged events cs) ≡ length cs
acknowledged_length events [] = refl
acknowledged_length events (c ∷ cs) = of_test (is_some c.acked_at) (acknowledged_length events cs)
  where
    of_test : (b : Bool) → length (acknowledged events cs) ≡ length cs
        → length (cond b (c ∷ acknowledged events cs) (record c { acked_at = Some events } ∷ cs)) ≡ suc (length cs)
    of_test true rest = ap suc rest
    of_test false rest = refl

-- ---- the open batch, and a checkpoint that may be due

batch_work_is : (s : State) (b : Batch) → s.batch ≡ Some b → option_map_or (batch_work s.log) s.batch 0 ≡ batch_work s.log b
batch_work_is s b is = ap (λ (o : Option Batch). option_map_or (batch_work s.log) o 0) is

applied_is : (s : State) (b : Batch) → s.batch ≡ Some b → applied_count s ≡ length s.book.commits - length b.contexts
applied_is s b is = ap (λ (o : Option Batch). length s.book.commits - option_map_or (λ (c : Batch). length c.contexts) o 0) is

pub due_most : (m : Meta) → check_due m ≤ check_most
due_most m = of_test (m.tail == check_units m.number m.rows)
  where
    of_test : (b : Bool) → cond b 0 check_most ≤ check_most
    of_test true = omega arith
    of_test false = omega arith

-- none is due where the rows take just the units of the log, whatever the next record's number is
same_check : (a b : ℕ) (ops : List RowOp) → units_of_records a (one_record ops) ≡ units_of_records b (one_record ops)
same_check a b [] = refl
same_check a b (op ∷ ops) = ap (λ (n : ℕ). n + 0) (same_units a b (op ∷ ops))

switched_due : (m : Meta) → check_due (checks.switched_log m) ≡ 0
switched_due m = ap (λ (t : Bool). cond t 0 check_most)
    (eq-eqb (check_units m.number m.rows) (check_units (m.number + length (check_records m.rows)) m.rows)
    (same_check m.number (m.number + length (check_records m.rows)) (row_sets m.rows)))

one_at_most : (ops : List RowOp) → length (one_record ops) ≤ 1
one_at_most [] = omega arith
one_at_most (op ∷ ops) = omega arith

-- ---- Data

module _ (s : State) (d : Disk) where
  pub data_pays : (s' : State) (d' : Disk) → AreFlights s.flying d.flights → FlightsMatch s d.flights → DoesData s d s' d' → Paid s d s' d'
  data_pays s' d' mirror m does =
      let n : Unsent = does.next in
      let at : StandsIn (λ x. IsRunOf x n) s.pending = next_stands s.pending n does.is_next in
      let x : Context = at.item in
      let count : ℕ = length (unsent_units n) in
      let then : with_context n.place (given_more count) s.pending ≡ at.front ++ given_more count x ∷ at.back =
      ap (λ (place : ℕ). with_context place (given_more count) s.pending) (sym at.holds.place)
      ∙ with_in (given_more count) at.front x at.back s.pending at.is m.places.ascend in
      let f : Flying = record { ticket = does.ticket; job = job.Data n.place count } in
      let e : Event = event.Write n.first.unit (run_bytes (unsent_units n)) in
      subst (λ (t : State). Paid s d t d') (sym does.after) (record {
        falls = less (length s.flying) (length (s.flying ++ f ∷ [])) (sum_work s.pending) (sum_work (with_context n.place (given_more count) s.pending))
            (sum_work at.front) (sum_work at.back) (length x.fresh) x.given (length n.more) (2 * piece_count x.need)
            (option_map_or (batch_work s.log) s.batch 0) (option_map_or (switch_work s.log) s.switching (check_due s.log)) (applied_count s - s.acked)
            (length_push s.flying f)
            (ap sum_work at.is ∙ sum_middle at.front x at.back) (ap sum_work then ∙ sum_middle at.front (given_more count x) at.back) at.holds.within;
        flights = sent_flight s.flying d d' does.ticket (job.Data n.place count) e mirror does.submitted;
        units = sent_units d d' does.ticket.place e does.submitted;
        near = record { entries = refl; under = ap (λ (k : ℕ). length s.book.commits + k) (ap (λ (xs : List Context). length xs) then ∙ length_middle at.front (given_more count x) at.back ∙ sym (length_middle at.front x at.back) ∙ ap (λ (xs : List Context). length xs) (sym at.is)); events = omega arith; number = omega arith; epoch = omega arith; stale = inl refl; up = refl };
      })
    where
      less : (flies flies' work work' front back all given more pieces batch switch left : ℕ) → flies' ≡ flies + 1
          → work ≡ front + ((2 * (all - given) + 8 + pieces + check_most) + back)
          → work' ≡ front + ((2 * (all - (given + suc more)) + 8 + pieces + check_most) + back)
          → given + suc more ≤ all → flies' + work' + batch + switch + left < flies + work + batch + switch + left
      less flies flies' work work' front back all given more pieces batch switch left is was then within = omega (arith, is, was, then, within)

  -- ---- Reap, where the submission has ended well

  pub reap_pays : (s' : State) (d' : Disk) → AreFlights s.flying d.flights → s.down ≡ None → Takes s d true s' d' → Paid s d s' d'
  reap_pays s' d' mirror up ended =
      let land : Landed s.flying ended.ticket d d' = landed_flight d d' ended.ticket true s.flying mirror ended.ended in
      let out : IsLeftOut ended.ticket s.flying = left_out ended.ticket s.flying land.fewer in
      let j : Job = out.flight.job in
      let u : State = record s { flying = others_of ended.ticket s.flying; events = s.events + 1 } in
      let m' : Meta = record s.log { begun = (after_done j u).log.begun; check = (after_done j u).log.check } in
      let left : DoneLeaves u (after_done j u) = done_leaves j u in
      subst (λ (t : State). Paid s d t d') (sym (ended.after ∙ reaped_good s ended.ticket out.flight up out.found ∙ done_alone j u)) (record {
        falls = ending (length (others_of ended.ticket s.flying)) (length s.flying) (sum_work s.pending) (sum_work (after_done j u).pending)
            (option_map_or (batch_work s.log) s.batch 0) (option_map_or (batch_work m') (after_done j u).batch 0)
            (option_map_or (switch_work s.log) s.switching (check_due s.log)) (option_map_or (switch_work m') (after_done j u).switching (check_due s.log))
            (length s.book.commits)
            (option_map_or (λ (b : Batch). length b.contexts) s.batch 0)
            (option_map_or (λ (b : Batch). length b.contexts) (after_done j u).batch 0) s.acked land.fewer left.work left.batch left.switch left.contexts;
        flights = land.flights;
        units = land.units;
        near = record { entries = refl; under = ap (λ (k : ℕ). length s.book.commits + k) left.many; events = omega arith; number = omega arith; epoch = omega arith; stale = inl refl; up = refl };
      })
    where
      ending : (rest all work work' batch batch' switch switch' commits gone gone' acked : ℕ) → rest + 1 ≡ all → work' ≡ work → batch' ≤ batch
          → switch' ≤ switch → gone' ≡ gone
          → rest + work' + batch' + switch' + ((commits - gone') - acked) < all + work + batch + switch + ((commits - gone) - acked)
      ending rest all work work' batch batch' switch switch' commits gone gone' acked is still le less same =
          subst (λ (n : ℕ). rest + work' + batch' + switch' + ((commits - n) - acked) < all + work + batch + switch + ((commits - gone) - acked)) (sym same)
          (omega (arith, is, still, le, less))

  -- ---- Take

  take_batch_pays : (s' : State) (d' : Disk) → AreFlights s.flying d.flights → FlightsMatch s d.flights → AllByRecursion (λ x. FitsRecord (intent_of x)) s.pending
      → s.batch ≡ None → OpensBatch s d s' d' → Paid s d s' d'
  take_batch_pays s' d' mirror m fits none does =
      let ys : List Context = choice most_grouped s.pending in
      let left : List Context = left_by most_grouped s.pending in
      let are : ArePicked s.pending ys left = picked most_grouped s.pending m.places.ascend in
      let begun : s.log.begun ≡ None = (rests_batch s d.flights m none).0 in
      let units : ℕ = units_taken s in
      let needed : units ≤ sum_needs ys = needs_most s.log.number ys does.some (all_picked (λ x. FitsRecord (intent_of x)) s.pending ys left are fits).0 in
      let more : length (s.book.commits ++ map commit_of ys) ≡ length s.book.commits + length ys =
      length-append s.book.commits (map commit_of ys) ∙ ap (λ (n : ℕ). length s.book.commits + n) (length-map ys commit_of) in
      subst (λ (t : State). Paid s d t d') (sym does.after) (record {
        falls = less (length s.flying) (sum_work s.pending) (sum_work ys) (sum_work left) (piece_count (sum_needs ys)) (piece_count units) (length ys)
            (option_map_or (batch_work s.log) s.batch 0) (batch_work s.log (new_batch ys)) (option_map_or (switch_work s.log) s.switching (check_due s.log))
            (length s.book.commits) (length (s.book.commits ++ map commit_of ys)) s.acked (applied_count s)
            (sum_picked sum_work sum_both s.pending ys left are) (work_least ys does.some) (more_pieces units (sum_needs ys) needed)
            (ap (λ (o : Option Batch). option_map_or (batch_work s.log) o 0) none)
            (ap (λ (o : Option Begun). let k : Meta = record s.log { begun = o } in batch_work k (new_batch ys)) begun) more
            (ap (λ (o : Option Batch). length s.book.commits - option_map_or (λ (b : Batch). length b.contexts) o 0) none);
        flights = subst (λ (e : Disk). AreFlights s.flying e.flights) (sym does.same) mirror;
        units = ap (λ (e : Disk). e.units) does.same;
        near = record {
          entries = refl;
          under = same (length s.book.commits) (length (s.book.commits ++ map commit_of ys)) (length s.pending) (length ys) (length left) more
              (count_picked s.pending ys left are);
          events = omega arith;
          number = omega arith;
          epoch = omega arith;
          stale = inl refl;
          up = refl;
        };
      })
    where
      less : (flies work own work' needs pieces count batch batch' switch commits commits' acked applied : ℕ)
          → work ≡ own + work' → 2 * needs + count + 7 + check_most ≤ own → pieces ≤ needs → batch ≡ 0
          → batch' ≡ (2 + (2 * (pieces - 0) + (2 + 0))) + 1 + 1 + count + check_most → commits' ≡ commits + count → applied ≡ commits - 0
          → flies + work' + batch' + switch + ((commits' - count) - acked) < flies + work + batch + switch + (applied - acked)
      less flies work own work' needs pieces count batch batch' switch commits commits' acked applied was pay few none opened more is =
          omega (arith, was, pay, few, none, opened, more, is)

      same : (commits commits' waiting taken left : ℕ) → commits' ≡ commits + taken → waiting ≡ taken + left → commits' + left ≡ commits + waiting
      same commits commits' waiting taken left more cut = omega (arith, more, cut)

  -- a checkpoint is due where the record of those that come next is too long behind the tail, since there is room for it behind the rows
  take_check_pays : (s' : State) (d' : Disk) → AreFlights s.flying d.flights → FlightsMatch s d.flights → AllByRecursion (λ x. FitsRecord (intent_of x)) s.pending
      → HasCheckRoom s.log s.pending → s.switching ≡ None → OpensCheck s d s' d' → Paid s d s' d'
  take_check_pays s' d' mirror m fits room none does =
      let ys : List Context = choice most_grouped s.pending in
      let left : List Context = left_by most_grouped s.pending in
      let are : ArePicked s.pending ys left = picked most_grouped s.pending m.places.ascend in
      let units : ℕ = check_units s.log.number s.log.rows in
      let needed : units_taken s ≤ sum_needs ys = needs_most s.log.number ys does.some (all_picked (λ x. FitsRecord (intent_of x)) s.pending ys left are fits).0 in
      let behind : units < s.log.tail =
      longer units (sum_needs s.pending) (sum_needs ys) (sum_needs left) s.log.sup.half s.log.tail (units_taken s) room.rows
      (sum_picked sum_needs needs_both s.pending ys left are) does.too_long needed in
      let due : check_due s.log ≡ check_most =
      ap (λ (t : Bool). cond t 0 check_most) (ne_eqb s.log.tail units (apart units s.log.tail behind)) in
      let few : 2 * length (check_pieces s.log) + 7 < check_most = check_few s.log room.half (shorter units (sum_needs s.pending) s.log.sup.half room.rows) room.stale in
      subst (λ (t : State). Paid s d t d') (sym does.after) (record {
        falls = less (length s.flying) (sum_work s.pending) (option_map_or (batch_work s.log) s.batch 0)
            (option_map_or (switch_work s.log) s.switching (check_due s.log)) (length (check_pieces s.log)) (applied_count s - s.acked)
            (ap (λ (o : Option Switching). option_map_or (switch_work s.log) o (check_due s.log)) none ∙ due) few;
        flights = subst (λ (e : Disk). AreFlights s.flying e.flights) (sym does.same) mirror;
        units = ap (λ (e : Disk). e.units) does.same;
        near = record { entries = refl; under = refl; events = omega arith; number = omega arith; epoch = omega arith; stale = inl refl; up = refl };
      })
    where
      longer : (units all needs rest half tail taken : ℕ) → units + all ≤ half → all ≡ needs + rest → half < tail + taken → taken ≤ needs → units < tail
      longer units all needs rest half tail taken room cut long few = omega (arith, room, cut, long, few)

      shorter : (units need half : ℕ) → units + need ≤ half → units ≤ half
      shorter units need half room = omega (arith, room)

      apart : (units tail : ℕ) → units < tail → ¬ (tail ≡ units)
      apart units tail behind is = omega (arith, behind, is)

      less : (flies work batch switch pieces left : ℕ) → switch ≡ check_most → 2 * pieces + 7 < check_most
          → flies + work + batch + (((2 * (pieces - 0)) + (2 + (2 + (2 + 0)))) + 1) + left < flies + work + batch + switch + left
      less flies work batch switch pieces left was few = omega (arith, was, few)

  pub take_pays : (s' : State) (d' : Disk) → AreFlights s.flying d.flights → FlightsMatch s d.flights → AllByRecursion (λ x. FitsRecord (intent_of x)) s.pending
      → HasCheckRoom s.log s.pending → is_ready_up Take d.depth s ≡ true → DoesTake s d s' d' → Paid s d s' d'
  take_pays s' d' mirror m fits room ready (inl batch) = take_batch_pays s' d' mirror m fits (take_tests s d.depth ready).0 batch
  take_pays s' d' mirror m fits room ready (inr check) = take_check_pays s' d' mirror m fits room (take_tests s d.depth ready).1 check

  -- ---- a submission for the log

  -- it pays for itself and for its end
  log_pays : (d' : Disk) (ticket : Ticket) (j : Job) (e : Event) (m' : Meta) (b' : Option Batch) (w' : Option Switching) → AreFlights s.flying d.flights
      → Submitted d ticket.place e d' → m'.number ≡ s.log.number → m'.sup ≡ s.log.sup → m'.stale ≡ s.log.stale
      → option_map_or (λ (b : Batch). length b.contexts) b' 0 ≡ option_map_or (λ (b : Batch). length b.contexts) s.batch 0
      → option_map_or (batch_work m') b' 0 + option_map_or (switch_work m') w' (check_due m') + 2
      ≡ option_map_or (batch_work s.log) s.batch 0 + option_map_or (switch_work s.log) s.switching (check_due s.log)
      → (let t : State = record s { log = m'; batch = b'; switching = w'; flying = s.flying ++ flight_for ticket j ∷ []; events = s.events + 1 } in
      Paid s d t d')
  log_pays d' ticket j e m' b' w' mirror submitted number sup stale contexts paid = record {
    falls = less (length s.flying) (length (s.flying ++ flight_for ticket j ∷ [])) (sum_work s.pending) (option_map_or (batch_work s.log) s.batch 0)
        (option_map_or (batch_work m') b' 0) (option_map_or (switch_work s.log) s.switching (check_due s.log))
        (option_map_or (switch_work m') w' (check_due m')) (length s.book.commits) _ _ s.acked (length_push s.flying (flight_for ticket j)) paid contexts;
    flights = sent_flight s.flying d d' ticket j e mirror submitted;
    units = sent_units d d' ticket.place e submitted;
    near = record {
      entries = refl;
      under = refl;
      events = omega arith;
      number = no_more s.log.number m'.number number;
      epoch = no_more s.log.sup.epoch m'.sup.epoch (ap (λ (p : Super). p.epoch) sup);
      stale = inl stale;
      up = refl;
    };
  }
    where
      less : (flies flies' work batch batch' switch switch' commits gone gone' acked : ℕ) → flies' ≡ flies + 1 → batch' + switch' + 2 ≡ batch + switch
          → gone' ≡ gone
          → flies' + work + batch' + switch' + ((commits - gone') - acked) < flies + work + batch + switch + ((commits - gone) - acked)
      less flies flies' work batch batch' switch switch' commits gone gone' acked is paid same =
          subst (λ (n : ℕ). flies' + work + batch' + switch' + ((commits - n) - acked) < flies + work + batch + switch + ((commits - gone) - acked)) (sym same)
          (omega (arith, is, paid))

      no_more : (a b : ℕ) → b ≡ a → b ≤ a + 1
      no_more a b is = omega (arith, is)

  -- for the batch, whose stages are advanced by it
  batch_paid : (b : Batch) (work work' seal : ℕ) → s.batch ≡ Some b
      → batch_work s.log b ≡ work + seal + 1 + length b.contexts + check_most → work' + 2 ≡ work
      → (work' + seal + 1 + length b.contexts + check_most) + option_map_or (switch_work s.log) s.switching (check_due s.log) + 2
      ≡ option_map_or (batch_work s.log) s.batch 0 + option_map_or (switch_work s.log) s.switching (check_due s.log)
  batch_paid b work work' seal is was paid =
      sum (length b.contexts) (option_map_or (switch_work s.log) s.switching (check_due s.log)) (option_map_or (batch_work s.log) s.batch 0)
      (batch_work_is s b is ∙ was)
    where
      sum : (n switch batch : ℕ) → batch ≡ work + seal + 1 + n + check_most
          → (work' + seal + 1 + n + check_most) + switch + 2 ≡ batch + switch
      sum n switch batch is = omega (arith, is, paid)

  count_is : (b b' : Batch) → s.batch ≡ Some b → b'.contexts ≡ b.contexts
      → length b'.contexts ≡ option_map_or (λ (b : Batch). length b.contexts) s.batch 0
  count_is b b' is same = ap (λ (xs : List Context). length xs) same ∙ ap (λ (o : Option Batch). option_map_or (λ (b : Batch). length b.contexts) o 0) (sym is)

  pub flush_pays : (s' : State) (d' : Disk) → AreFlights s.flying d.flights → is_ready_up Flush d.depth s ≡ true → DoesFlush s d s' d' → Paid s d s' d'
  flush_pays s' d' mirror ready does =
      let b : Batch = does.batch in
      let b' : Batch = record b { first = flush.Sent does.ticket } in
      let behind : List Stage = behind_first (batch_pieces s.log.number b) b s.log.begun in
      subst (λ (t : State). Paid s d t d') (sym does.after)
      (log_pays d' does.ticket job.DataFlush event.Flush s.log (Some b') s.switching mirror does.submitted refl refl refl (count_is b b' does.begun refl)
      (batch_paid b (stages_work (by_one job.DataFlush b.first ∷ behind)) (stages_work (by_one job.DataFlush (flush.Sent does.ticket) ∷ behind))
      (cond (is_none s.log.begun) 1 0) does.begun refl
      (sends_paid [] (by_one job.DataFlush b.first) behind does.ticket (not_sent_next job.DataFlush b.first (first_waits s d.depth b ready does.begun)))))

  pub sync_pays : (s' : State) (d' : Disk) → AreFlights s.flying d.flights → is_ready_up Sync d.depth s ≡ true → DoesSync s d s' d' → Paid s d s' d'
  sync_pays s' d' mirror ready does =
      let b : Batch = does.batch in
      let b' : Batch = record b { second = flush.Sent does.ticket } in
      let pieces : ℕ = batch_pieces s.log.number b in
      let ahead : List Stage = by_one job.DataFlush b.first
      ∷ by_pieces job.Record pieces (option_map_or (λ r. r.given) s.log.begun 0) (option_map_or (λ r. r.written) s.log.begun 0) ∷ [] in
      subst (λ (t : State). Paid s d t d') (sym does.after)
      (log_pays d' does.ticket job.RecordFlush event.Flush s.log (Some b') s.switching mirror does.submitted refl refl refl (count_is b b' does.begun refl)
      (batch_paid b (stages_work (ahead ++ by_one job.RecordFlush b.second ∷ [])) (stages_work (ahead ++ by_one job.RecordFlush (flush.Sent does.ticket) ∷ []))
      (cond (is_none s.log.begun) 1 0) does.begun refl
      (sends_paid ahead (by_one job.RecordFlush b.second) [] does.ticket
      (not_sent_next job.RecordFlush b.second (test_of (λ c. is_not_sent c.second) s.batch b does.begun (sync_tests s d.depth ready).0)))))

  pub record_pays : (s' : State) (d' : Disk) → AreFlights s.flying d.flights → FlightsMatch s d.flights → (b : Batch) → s.batch ≡ Some b
      → is_ready_up Record d.depth s ≡ true → DoesRecord s d s' d' → Paid s d s' d'
  record_pays s' d' mirror m b is ready does =
      let r : Begun = does.writing in
      let m' : Meta = (record_sent r does.ticket s).log in
      let pieces : ℕ = batch_pieces s.log.number b in
      let first : List Stage = by_one job.DataFlush b.first ∷ [] in
      let last : List Stage = by_one job.RecordFlush b.second ∷ [] in
      let made : IsMadeFar s.log.number b r (flying_for is_of_batch s.flying) =
      made_far s.log.sup.half s.log.tail s.log.number b r (flying_for is_of_batch s.flying) (begun_far s d.flights b (Some r) m is does.begun) in
      let more : r.given < pieces = subst (λ (n : ℕ). r.given < n) (sym made.pieces) (pieces_left s d.depth r ready does.begun) in
      let was : batch_work s.log b ≡ stages_work (first ++ by_pieces job.Record pieces r.given r.written ∷ last) + 0 + 1 + length b.contexts + check_most =
      ap (λ (o : Option Begun). let k : Meta = record s.log { begun = o } in batch_work k b) does.begun in
      subst (λ (t : State). Paid s d t d') (sym does.after)
      (subst (λ (o : Option Batch). let t : State = record s { log = m'; batch = o; flying = s.flying ++ flight_for does.ticket job.Record ∷ []; events = s.events + 1 } in
      Paid s d t d') (sym is)
      (log_pays d' does.ticket job.Record _ m' (Some b) s.switching mirror does.submitted refl refl refl (count_is b b is refl)
      (batch_paid b (stages_work (first ++ by_pieces job.Record pieces r.given r.written ∷ last))
      (stages_work (first ++ by_pieces job.Record pieces (r.given + 1) r.written ∷ last)) 0 is was
      (sends_paid first (by_pieces job.Record pieces r.given r.written) last does.ticket more))))

  pub seal_pays : (s' : State) (d' : Disk) → AreFlights s.flying d.flights → s.log.begun ≡ None → DoesSeal s d s' d' → Paid s d s' d'
  seal_pays s' d' mirror none does =
      let b : Batch = does.batch in
      let work : ℕ = stages_work (batch_stages (batch_pieces s.log.number b) b None) in
      let was : option_map_or (batch_work s.log) s.batch 0 ≡ work + 1 + 1 + length b.contexts + check_most =
      batch_work_is s b does.begun ∙ ap (λ (o : Option Begun). let k : Meta = record s.log { begun = o } in batch_work k b) none in
      let then : option_map_or (batch_work (sealed b s).log) s.batch 0 ≡ work + 0 + 1 + length b.contexts + check_most =
      ap (λ (o : Option Batch). option_map_or (batch_work (sealed b s).log) o 0) does.begun in
      subst (λ (t : State). Paid s d t d') (sym does.after) (record {
        falls = less (length s.flying) (sum_work s.pending) work (length b.contexts) (option_map_or (batch_work s.log) s.batch 0)
            (option_map_or (batch_work (sealed b s).log) s.batch 0) (option_map_or (switch_work s.log) s.switching (check_due s.log))
            (applied_count s - s.acked) was then;
        flights = subst (λ (e : Disk). AreFlights s.flying e.flights) (sym does.same) mirror;
        units = ap (λ (e : Disk). e.units) does.same;
        near = record { entries = refl; under = refl; events = omega arith; number = omega arith; epoch = omega arith; stale = inl refl; up = refl };
      })
    where
      less : (flies waits work count batch batch' switch left : ℕ) → batch ≡ work + 1 + 1 + count + check_most → batch' ≡ work + 0 + 1 + count + check_most
          → flies + waits + batch' + switch + left < flies + waits + batch + switch + left
      less flies waits work count batch batch' switch left was then = omega (arith, was, then)

  -- for a switch, whose stages are advanced by it
  switch_paid : (w : Switching) (work work' : ℕ) → s.switching ≡ Some w → switch_work s.log w ≡ work + 1 → work' + 2 ≡ work
      → option_map_or (batch_work s.log) s.batch 0 + (work' + 1) + 2
      ≡ option_map_or (batch_work s.log) s.batch 0 + option_map_or (switch_work s.log) s.switching (check_due s.log)
  switch_paid w work work' is was paid =
      sum (option_map_or (batch_work s.log) s.batch 0) (option_map_or (switch_work s.log) s.switching (check_due s.log))
      (ap (λ (o : Option Switching). option_map_or (switch_work s.log) o (check_due s.log)) is ∙ was)
    where
      sum : (batch switch : ℕ) → switch ≡ work + 1 → batch + (work' + 1) + 2 ≡ batch + switch
      sum batch switch is = omega (arith, is, paid)

  -- its work, where its checkpoint is this one
  switch_work_is : (w : Switching) (c : Checking) → s.log.check ≡ Some c
      → switch_work s.log w ≡ stages_work (switch_stages (length (check_pieces s.log)) c w) + 1
  switch_work_is w c is = ap (λ (o : Option Checking). let k : Meta = record s.log { check = o } in switch_work k w) is

  pub check_pays : (s' : State) (d' : Disk) → AreFlights s.flying d.flights → FlightsMatch s d.flights → is_ready_up CheckWrite d.depth s ≡ true
      → DoesCheckWrite s d s' d' → Paid s d s' d'
  check_pays s' d' mirror m ready does =
      let c : Checking = does.checking in
      let w = check_switches s d.flights c m does.begun in
      let pieces : ℕ = length (check_pieces s.log) in
      let m' : Meta = record s.log { check = Some (record c { given = c.given + 1 }) } in
      let behind : List Stage = behind_check w.0 in
      subst (λ (t : State). Paid s d t d') (sym does.after)
      (subst (λ (o : Option Switching). let t : State = record s { log = m'; switching = o; flying = s.flying ++ flight_for does.ticket job.Check ∷ []; events = s.events + 1 } in
      Paid s d t d') (sym w.1)
      (log_pays d' does.ticket job.Check _ m' s.batch (Some w.0) mirror does.submitted refl refl refl refl
      (switch_paid w.0 (stages_work (by_pieces job.Check pieces c.given c.written ∷ behind)) (stages_work (by_pieces job.Check pieces (c.given + 1) c.written ∷ behind))
      w.1 (switch_work_is w.0 c does.begun)
      (sends_paid [] (by_pieces job.Check pieces c.given c.written) behind does.ticket (runs_left_over s d.depth c ready does.begun)))))

  -- a flush of it, or the superblock
  one_pays : (d' : Disk) (ticket : Ticket) (j : Job) (e : Event) (w w' : Switching) (c : Checking) (ahead : List Stage) (state : FlushState) (behind : List Stage)
      → AreFlights s.flying d.flights → Submitted d ticket.place e d' → s.switching ≡ Some w → s.log.check ≡ Some c → is_not_sent state ≡ true
      → switch_stages (length (check_pieces s.log)) c w ≡ ahead ++ by_one j state ∷ behind
      → switch_stages (length (check_pieces s.log)) c w' ≡ ahead ++ by_one j (flush.Sent ticket) ∷ behind
      → (let t : State = record s { switching = Some w'; flying = s.flying ++ flight_for ticket j ∷ []; events = s.events + 1 } in Paid s d t d')
  one_pays d' ticket j e w w' c ahead state behind mirror submitted is begun waits was then =
      log_pays d' ticket j e s.log s.batch (Some w') mirror submitted refl refl refl refl
      (ap (λ (n : ℕ). option_map_or (batch_work s.log) s.batch 0 + n + 2) (switch_work_is w' c begun ∙ ap (λ (ss : List Stage). stages_work ss + 1) then)
      ∙ switch_paid w (stages_work (ahead ++ by_one j state ∷ behind)) (stages_work (ahead ++ by_one j (flush.Sent ticket) ∷ behind)) is
      (switch_work_is w c begun ∙ ap (λ (ss : List Stage). stages_work ss + 1) was) (sends_paid ahead (by_one j state) behind ticket (not_sent_next j state waits)))

  pub check_flush_pays : (s' : State) (d' : Disk) → AreFlights s.flying d.flights → FlightsMatch s d.flights → is_ready_up CheckFlush d.depth s ≡ true
      → DoesCheckFlush s d s' d' → Paid s d s' d'
  check_flush_pays s' d' mirror m ready does =
      let w : Switching = does.switching in
      let opened : IsSwitchOpen s w = switch_open s d.flights w m does.begun in
      subst (λ (t : State). Paid s d t d') (sym does.after)
      (one_pays d' does.ticket job.CheckFlush event.Flush w (record w { flush = flush.Sent does.ticket }) opened.checking (check_stage s.log opened.checking ∷ []) w.flush
      (by_one job.Slot w.slot ∷ by_one job.SlotFlush w.slot_flush ∷ []) mirror does.submitted does.begun opened.check
      (test_of (λ v. is_not_sent v.flush) s.switching w does.begun (check_flush_tests s d.depth ready).0) refl refl)

  pub slot_pays : (s' : State) (d' : Disk) → AreFlights s.flying d.flights → FlightsMatch s d.flights → is_ready_up SlotWrite d.depth s ≡ true
      → DoesSlotWrite s d s' d' → Paid s d s' d'
  slot_pays s' d' mirror m ready does =
      let w : Switching = does.switching in
      let opened : IsSwitchOpen s w = switch_open s d.flights w m does.begun in
      subst (λ (t : State). Paid s d t d') (sym does.after)
      (one_pays d' does.ticket job.Slot _ w (record w { slot = flush.Sent does.ticket }) opened.checking
      (check_stage s.log opened.checking ∷ by_one job.CheckFlush w.flush ∷ []) w.slot (by_one job.SlotFlush w.slot_flush ∷ []) mirror does.submitted does.begun
      opened.check (slot_tests s d.depth w ready does.begun).1 refl refl)

  pub slot_flush_pays : (s' : State) (d' : Disk) → AreFlights s.flying d.flights → FlightsMatch s d.flights → is_ready_up SlotFlush d.depth s ≡ true
      → DoesSlotFlush s d s' d' → Paid s d s' d'
  slot_flush_pays s' d' mirror m ready does =
      let w : Switching = does.switching in
      let opened : IsSwitchOpen s w = switch_open s d.flights w m does.begun in
      subst (λ (t : State). Paid s d t d') (sym does.after)
      (one_pays d' does.ticket job.SlotFlush event.Flush w (record w { slot_flush = flush.Sent does.ticket }) opened.checking
      (check_stage s.log opened.checking ∷ by_one job.CheckFlush w.flush ∷ by_one job.Slot w.slot ∷ []) w.slot_flush [] mirror does.submitted does.begun
      opened.check (slot_flush_tests s d.depth w ready does.begun).1 refl refl)

  pub switch_pays : (s' : State) (d' : Disk) → AreFlights s.flying d.flights → FlightsMatch s d.flights → is_ready_up Switch d.depth s ≡ true
      → DoesSwitch s d s' d' → Paid s d s' d'
  switch_pays s' d' mirror m ready does =
      let w = some_is (λ v. is_flushed v.slot_flush) s.switching ready in
      let opened : IsSwitchOpen s w.0 = switch_open s d.flights w.0 m w.1 in
      let work : ℕ = stages_work (switch_stages (length (check_pieces s.log)) opened.checking w.0) in
      let m' : Meta = checks.switched_log s.log in
      subst (λ (t : State). Paid s d t d') (sym does.after) (record {
        falls = less (length s.flying) (sum_work s.pending) (option_map_or (batch_work s.log) s.batch 0) (option_map_or (batch_work m') s.batch 0) work
            (option_map_or (switch_work s.log) s.switching (check_due s.log)) (check_due m') (applied_count s - s.acked)
            (ap (λ (o : Option Batch). option_map_or (batch_work s.log) o 0) opened.batch) (ap (λ (o : Option Batch). option_map_or (batch_work m') o 0) opened.batch)
            (ap (λ (o : Option Switching). option_map_or (switch_work s.log) o (check_due s.log)) w.1 ∙ switch_work_is w.0 opened.checking opened.check)
            (switched_due s.log);
        flights = subst (λ (e : Disk). AreFlights s.flying e.flights) (sym does.same) mirror;
        units = ap (λ (e : Disk). e.units) does.same;
        near = record {
          entries = refl;
          under = refl;
          events = omega arith;
          number = next s.log.number (length (check_records s.log.rows)) (one_at_most (row_sets s.log.rows));
          epoch = omega arith;
          stale = inr refl;
          up = refl;
        };
      })
    where
      less : (flies waits batch batch' work switch due left : ℕ) → batch ≡ 0 → batch' ≡ 0 → switch ≡ work + 1 → due ≡ 0
          → flies + waits + batch' + due + left < flies + waits + batch + switch + left
      less flies waits batch batch' work switch due left none none' was then = omega (arith, none, none', was, then)

      next : (number records : ℕ) → records ≤ 1 → number + records ≤ number + 1
      next number records few = omega (arith, few)

  -- ---- Commit and Finish

  pub commit_pays : (s' : State) (d' : Disk) → AreFlights s.flying d.flights → FlightsMatch s d.flights → s.acked ≤ applied_count s → DoesCommit s d s' d'
      → Paid s d s' d'
  commit_pays s' d' mirror m within does =
      let b : Batch = does.batch in
      let none : s.switching ≡ None = no_switch s d.flights b m does.begun in
      let m' : Meta = log_after b s.log in
      subst (λ (t : State). Paid s d t d') (sym does.after) (record {
        falls = less (length s.flying) (sum_work s.pending) (stages_work (batch_stages (batch_pieces s.log.number b) b s.log.begun))
            (cond (is_none s.log.begun) 1 0) (length b.contexts) (option_map_or (batch_work s.log) s.batch 0)
            (option_map_or (switch_work s.log) s.switching (check_due s.log)) (option_map_or (switch_work m') s.switching (check_due m')) (check_due m')
            (length s.book.commits) (applied_count s) s.acked (batch_work_is s b does.begun) (applied_is s b does.begun) within
            (ap (λ (o : Option Switching). option_map_or (switch_work m') o (check_due m')) none) (due_most m');
        flights = subst (λ (e : Disk). AreFlights s.flying e.flights) (sym does.same) mirror;
        units = ap (λ (e : Disk). e.units) does.same;
        near = record { entries = refl; under = refl; events = omega arith; number = omega arith; epoch = omega arith; stale = inl refl; up = refl };
      })
    where
      less : (flies waits work seal count batch switch switch' due commits applied acked : ℕ) → batch ≡ work + seal + 1 + count + check_most
          → applied ≡ commits - count → acked ≤ applied → switch' ≡ due → due ≤ check_most
          → flies + waits + 0 + switch' + ((commits - 0) - acked) < flies + waits + batch + switch + (applied - acked)
      less flies waits work seal count batch switch switch' due commits applied acked was is le then most = omega (arith, was, is, le, then, most)

  pub finish_pays : (s' : State) (d' : Disk) → AreFlights s.flying d.flights → is_ready_up Finish d.depth s ≡ true → DoesFinish s d s' d' → Paid s d s' d'
  finish_pays s' d' mirror ready does =
      let same : length (acknowledged s.events s.book.commits) ≡ length s.book.commits = acknowledged_length s.events s.book.commits in
      let count : ℕ = option_map_or (λ (b : Batch). length b.contexts) s.batch 0 in
      subst (λ (t : State). Paid s d t d') (sym does.after) (record {
        falls = less (length s.book.commits) (length (acknowledged s.events s.book.commits)) count s.acked
            (length s.flying + sum_work s.pending + option_map_or (batch_work s.log) s.batch 0
            + option_map_or (switch_work s.log) s.switching (check_due s.log)) same (ltb-true s.acked (applied_count s) ready);
        flights = subst (λ (e : Disk). AreFlights s.flying e.flights) (sym does.same) mirror;
        units = ap (λ (e : Disk). e.units) does.same;
        near = record { entries = refl; under = ap (λ (n : ℕ). n + length s.pending) same; events = omega arith; number = omega arith; epoch = omega arith; stale = inl refl; up = refl };
      })
    where
      less : (commits commits' count acked front : ℕ) → commits' ≡ commits → acked < commits - count
          → front + ((commits' - count) - (acked + 1)) < front + ((commits - count) - acked)
      less commits commits' count acked front same below = omega arith
