-- Which steps are ready, taken apart; and that nothing is under way where none is.
use Rattle.std.proofs.Common.{◌≡◌, ℕ, ◌+◌, ◌-◌, ◌<◌, ◌≤◌, ◌==◌, ◌&&◌, Bool, true, false, cond, not, nat_lt, List, [], ◌∷◌, ◌++◌, filter, length, drop, Option, Some, None, is_some, is_none, refl, sym, ap, subst, ◌∙◌, length-drop, arith}
use Rattle.flight_facts.proofs.Common.{AllByRecursion, option_map_or, option_or, eq-eqb, Disk, Ticket, FreshUnit, Context, FlushState, Flying, Job, Step, Begun, Checking, is_flushed}
use Rattle.std.proofs.lemmas.Bool.{lt-ltb, ltb-false}
use Rattle.store_steps.specs.declared.flight.Job.TheVariants as job
use Rattle.store_steps.specs.declared.step.Step.TheVariants.{Data, Reap, Take, Flush, Seal, Record, Sync, Commit, Finish, CheckWrite, CheckFlush, SlotWrite, SlotFlush, Switch}
use Rattle.store_steps.specs.declared.flight.Switching.{Switching}
use Rattle.store_steps.specs.Prelude.{Batch, State, next_unsent, run_of, is_done, chosen, chosen_behind, colls_of, is_empty, is_not_sent, pieces_of, check_pieces, batch_is, begun_is, check_is, switch_is, applied_count, is_ready_up, is_ready_down, is_ready, all_steps, is_drained, uncommitted}
use Rattle.flight_facts.specs.Prelude.{by_one, AreInTurn, batch_pieces, batch_stages, switch_stages, IsPartGiven, is_of_batch, is_of_switch, flying_for, FlightsMatch}
use Rattle.flight_facts.proofs.Stages.{HasNext, stuck_ended, next_not_sent, ended_flushed}
use Rattle.flight_facts.proofs.Matching.{IsMadeFar, made_far, begun_far, rests_switch}
use Rattle.flight_facts.proofs.Switching.{IsSwitchOpen, switch_open, rests_batch}

-- ---- only Reap is ready while the kernel is down

-- the kernel isn't down, and the step is ready by the table; or it is down, and the step is Reap
pub data Readiness (step : Step) (depth : ℕ) (s : State) : Type 0 where
  while_up : s.down ≡ None → is_ready_up step depth s ≡ true → Readiness step depth s
  while_down : is_some s.down ≡ true → step ≡ Reap → Readiness step depth s

down_reaps : (step : Step) (s : State) → is_ready_down step s ≡ true → step ≡ Reap
down_reaps Reap s ready = refl
down_reaps step s ready = absurd (cc)

pub ready_cases : (step : Step) (depth : ℕ) (s : State) → is_ready step depth s ≡ true → Readiness step depth s
ready_cases step depth s ready = of_down s.down refl ready
  where
    of_down : (o : Option Ticket) → s.down ≡ o → option_map_or (λ ticket. is_ready_down step s) o (is_ready_up step depth s) ≡ true
        → Readiness step depth s
    of_down None e r = while_up e r
    of_down (Some ticket) e r = while_down (ap is_some e) (down_reaps step s r)

-- so a step that isn't ready while it is down is ready only while it isn't
pub ready_not_down : (s : State) (depth : ℕ) (step : Step) → is_ready_down step s ≡ false → is_ready step depth s ≡ true → s.down ≡ None
ready_not_down s depth step never ready = of_down s.down refl ready
  where
    of_down : (o : Option Ticket) → s.down ≡ o → option_map_or (λ ticket. is_ready_down step s) o (is_ready_up step depth s) ≡ true → s.down ≡ None
    of_down None e r = e
    of_down (Some ticket) e r = absurd (cc)

-- where it isn't, the table says which are
pub ready_up : (step : Step) (depth : ℕ) (s : State) → s.down ≡ None → is_ready step depth s ≡ is_ready_up step depth s
ready_up step depth s up = ap (λ (o : Option Ticket). option_map_or (λ ticket. is_ready_down step s) o (is_ready_up step depth s)) up

pub ready_by_table : (s : State) (depth : ℕ) (step : Step) → s.down ≡ None → is_ready step depth s ≡ true → is_ready_up step depth s ≡ true
ready_by_table s depth step up ready = sym (ready_up step depth s up) ∙ ready

-- ---- where no step is ready

pub some_of : {A : Type 0} (o : Option A) → is_some o ≡ true → (x : A) × (o ≡ Some x)
some_of None is = absurd (cc)
some_of (Some x) is = (x, refl)

filtered_out : {A : Type 0} (p : A → Bool) (xs : List A) → is_empty (filter p xs) ≡ true → AllByRecursion (λ x. p x ≡ false) xs
filtered_out p [] none = tt
filtered_out {A} p (x ∷ xs) none = of_test (λ c. filtered_out p xs c) (p x) refl none
  where
    of_test : (is_empty (filter p xs) ≡ true → AllByRecursion (λ y. p y ≡ false) xs) → (b : Bool) → p x ≡ b
        → is_empty (cond b (x ∷ filter p xs) (filter p xs)) ≡ true → (p x ≡ false) × AllByRecursion (λ y. p y ≡ false) xs
    of_test rest true e c = absurd (cc)
    of_test rest false e c = (e, rest c)

pub none_ready : (depth : ℕ) (s : State) → is_drained depth s ≡ true → AllByRecursion (λ (x : Step). is_ready x depth s ≡ false) all_steps
none_ready depth s drained = filtered_out (λ (x : Step). is_ready x depth s) all_steps drained

-- ---- a batch of which nothing is in flight has a step to take

none_next : (j : Job) (state : FlushState) → is_not_sent state ≡ false → ¬ HasNext (by_one j state)
none_next j state not_so next = let so : is_not_sent state ≡ true = next_not_sent j state next in cc

not_left : (a b : Bool) → a && b ≡ false → b ≡ true → a ≡ false
not_left false b is here = refl
not_left true b is here = absurd (cc)

not_right : (a b : Bool) → a && b ≡ false → a ≡ true → b ≡ false
not_right true b is here = is
not_right false b is here = absurd (cc)

-- of a batch whose record is made
stuck_batch : (number : ℕ) (b : Batch) (r : Begun) → IsMadeFar number b r [] → is_not_sent b.first ≡ false
    → (is_flushed b.first ≡ true → nat_lt r.given (pieces_of number r) ≡ false) → (r.written == pieces_of number r ≡ true → is_not_sent b.second ≡ false)
    → is_flushed b.second ≡ false → ⊥
stuck_batch number b r made not_flush not_record not_sync not_commit =
    let ended = stuck_ended (batch_stages (batch_pieces number b) b (Some r)) (
      none_next job.DataFlush b.first not_flush,
      λ first. (
        λ next. few r.given (batch_pieces number b) (pieces_of number r) made.pieces next
            (ltb-false r.given (pieces_of number r) (not_record (ap is_flushed (ended_flushed job.DataFlush b.first first)))),
        λ whole. (
          none_next job.RecordFlush b.second (not_sync (eq-eqb r.written (pieces_of number r) (whole.1 ∙ made.pieces))),
          λ last. tt,
        ),
      ),
    ) made.far in
    let flushed : is_flushed b.second ≡ true = ap is_flushed (ended_flushed job.RecordFlush b.second ended.1.1.0) in
    cc
  where
    few : (given pieces all : ℕ) → pieces ≡ all → given < pieces → all ≤ given → ⊥
    few given pieces all same less most = omega (arith, same, less, most)

-- ---- and so has a switch

stuck_switch : (pieces : ℕ) (c : Checking) (w : Switching) → AreInTurn (switch_stages pieces c w) [] → nat_lt c.given pieces ≡ false
    → (c.written == pieces ≡ true → is_not_sent w.flush ≡ false) → (is_flushed w.flush ≡ true → is_not_sent w.slot ≡ false)
    → (is_flushed w.slot ≡ true → is_not_sent w.slot_flush ≡ false) → is_flushed w.slot_flush ≡ false → ⊥
stuck_switch pieces c w far not_check not_flush not_slot not_slot_flush not_switch =
    let ended = stuck_ended (switch_stages pieces c w) (
      λ next. few c.given pieces next (ltb-false c.given pieces not_check),
      λ whole. (
        none_next job.CheckFlush w.flush (not_flush (eq-eqb c.written pieces whole.1)),
        λ first. (
          none_next job.Slot w.slot (not_slot (ap is_flushed (ended_flushed job.CheckFlush w.flush first))),
          λ slot. (none_next job.SlotFlush w.slot_flush (not_slot_flush (ap is_flushed (ended_flushed job.Slot w.slot slot))), λ last. tt),
        ),
      ),
    ) far in
    let flushed : is_flushed w.slot_flush ≡ true = ap is_flushed (ended_flushed job.SlotFlush w.slot_flush ended.1.1.1.0) in
    cc
  where
    few : (given pieces : ℕ) → given < pieces → pieces ≤ given → ⊥
    few given pieces less most = omega (arith, less, most)

-- ---- contexts of which nothing is in flight: one has a data write left, or the first is done

none_waits : (xs : List Context) → AllByRecursion (IsPartGiven []) xs → is_some (next_unsent xs) ≡ false → is_some (chosen xs) ≡ false → xs ≡ []
none_waits [] parts unsent_not chosen_not = refl
none_waits (x ∷ xs) parts unsent_not chosen_not = absurd (of_left (drop x.given x.fresh) refl)
  where
    all_done : (given all done : ℕ) → 0 ≡ all - given → given ≤ all → done + 0 ≡ given → done ≡ all
    all_done given all done none within counted = omega (arith, none, within, counted)

    of_left : (fs : List FreshUnit) → drop x.given x.fresh ≡ fs → ⊥
    of_left (f ∷ fs) e =
        let left : is_some (next_unsent (x ∷ xs)) ≡ true = ap (λ (gs : List FreshUnit). is_some (option_or (run_of x.place gs) (next_unsent xs))) e in
        cc
    of_left [] e =
        let none : 0 ≡ length x.fresh - x.given = sym (ap (λ (gs : List FreshUnit). length gs) e) ∙ length-drop x.given x.fresh in
        let done : is_done x ≡ true = eq-eqb x.done (length x.fresh) (all_done x.given (length x.fresh) x.done none (parts.0).within (parts.0).counted) in
        let here : is_some (chosen (x ∷ xs)) ≡ true =
        ap (λ (b : Bool). is_some (cond (b && true) (Some x) (chosen_behind (colls_of x ++ []) xs))) done in
        cc

-- ---- a drained kernel

pub record IsIdle (s : State) : Type 0 where
  pub pending : s.pending ≡ []
  pub batch : s.batch ≡ None
  pub switching : s.switching ≡ None
  pub flying : s.flying ≡ []
  pub begun : s.log.begun ≡ None
  pub check : s.log.check ≡ None
  pub applied : applied_count s ≤ s.acked

pub idle_uncommitted : (s : State) → IsIdle s → uncommitted s ≡ []
idle_uncommitted s idle = ap (λ (o : Option Batch). option_map_or (λ (b : Batch). b.contexts) o [] ++ s.pending) idle.batch ∙ idle.pending

module _ (s : State) (d : Disk) (deep : 8 ≤ d.depth) (m : FlightsMatch s d.flights) (up : s.down ≡ None) (drained : is_drained d.depth s ≡ true) where
  none_is_ready : (step : Step) → is_ready step d.depth s ≡ false
  none_is_ready step = at step (none_ready d.depth s drained)
    where
      at : (step : Step) → AllByRecursion (λ (x : Step). is_ready x d.depth s ≡ false) all_steps → is_ready step d.depth s ≡ false
      at Data each = each.0
      at Reap each = each.1.0
      at Take each = each.1.1.0
      at Flush each = each.1.1.1.0
      at Seal each = each.1.1.1.1.0
      at Record each = each.1.1.1.1.1.0
      at Sync each = each.1.1.1.1.1.1.0
      at Commit each = each.1.1.1.1.1.1.1.0
      at Finish each = each.1.1.1.1.1.1.1.1.0
      at CheckWrite each = each.1.1.1.1.1.1.1.1.1.0
      at CheckFlush each = each.1.1.1.1.1.1.1.1.1.1.0
      at SlotWrite each = each.1.1.1.1.1.1.1.1.1.1.1.0
      at SlotFlush each = each.1.1.1.1.1.1.1.1.1.1.1.1.0
      at Switch each = each.1.1.1.1.1.1.1.1.1.1.1.1.1.0

  table : (step : Step) → is_ready_up step d.depth s ≡ false
  table step = sym (ready_up step d.depth s up) ∙ none_is_ready step

  none_flies : s.flying ≡ []
  none_flies = empty_is s.flying (table Reap)
    where
      empty_is : (fs : List Flying) → not (is_empty fs) ≡ false → fs ≡ []
      empty_is [] is = refl
      empty_is (f ∷ fs) is = absurd (cc)

  has_depth : nat_lt (length s.flying) d.depth ≡ true
  has_depth = ap (λ (fs : List Flying). nat_lt (length fs) d.depth) none_flies ∙ lt-ltb 0 d.depth (omega (arith, deep))

  -- what a test says of the batch, of the record, of the switch, of the checkpoint that there is
  fails : {A : Type 0} (test : A → Bool) (o : Option A) (x : A) → o ≡ Some x → option_map_or test o false ≡ false → test x ≡ false
  fails {A} test o x is not_so = sym (ap (λ (p : Option A). option_map_or test p false) is) ∙ not_so

  holds : {A : Type 0} (test : A → Bool) (o : Option A) (x : A) → o ≡ Some x → test x ≡ true → option_map_or test o false ≡ true
  holds {A} test o x is so = ap (λ (p : Option A). option_map_or test p false) is ∙ so

  no_batch : s.batch ≡ None
  no_batch = of_batch s.batch refl
    where
      made : (b : Batch) (r : Begun) → s.batch ≡ Some b → s.log.begun ≡ Some r → ⊥
      made b r is begun = stuck_batch s.log.number b r
          (subst (IsMadeFar s.log.number b r) (ap (flying_for is_of_batch) none_flies)
          (made_far s.log.sup.half s.log.tail s.log.number b r (flying_for is_of_batch s.flying) (begun_far s d.flights b (Some r) m is begun)))
          (fails (λ c. is_not_sent c.first) s.batch b is (not_left (batch_is (λ c. is_not_sent c.first) s) (nat_lt (length s.flying) d.depth) (table Flush) has_depth))
          (λ flushed. fails (λ p. nat_lt p.given (pieces_of s.log.number p)) s.log.begun r begun
          (not_right (batch_is (λ c. is_flushed c.first) s) (begun_is (λ p. nat_lt p.given (pieces_of s.log.number p)) s)
          (not_left (batch_is (λ c. is_flushed c.first) s && begun_is (λ p. nat_lt p.given (pieces_of s.log.number p)) s) (nat_lt (length s.flying) d.depth)
          (table Record) has_depth) (holds (λ c. is_flushed c.first) s.batch b is flushed)))
          (λ whole. fails (λ c. is_not_sent c.second) s.batch b is
          (not_left (batch_is (λ c. is_not_sent c.second) s) (begun_is (λ p. p.written == pieces_of s.log.number p) s)
          (not_left (batch_is (λ c. is_not_sent c.second) s && begun_is (λ p. p.written == pieces_of s.log.number p) s) (nat_lt (length s.flying) d.depth)
          (table Sync) has_depth) (holds (λ p. p.written == pieces_of s.log.number p) s.log.begun r begun whole)))
          (fails (λ c. is_flushed c.second) s.batch b is (table Commit))

      of_batch : (o : Option Batch) → s.batch ≡ o → s.batch ≡ None
      of_batch None is = is
      of_batch (Some b) is = absurd (of_begun s.log.begun refl)
        where
          of_begun : (o : Option Begun) → s.log.begun ≡ o → ⊥
          of_begun None none =
              let never : is_none s.log.begun ≡ false = not_right (is_some s.batch) (is_none s.log.begun) (table Seal) (ap is_some is) in
              let so : is_none s.log.begun ≡ true = ap is_none none in
              cc
          of_begun (Some r) begun = made b r is begun

  no_switching : s.switching ≡ None
  no_switching = of_switching s.switching refl
    where
      opened : (w : Switching) → s.switching ≡ Some w → ⊥
      opened w is =
          let open_switch : IsSwitchOpen s w = switch_open s d.flights w m is in
          let c : Checking = open_switch.checking in
          let pieces : ℕ = length (check_pieces s.log) in
          stuck_switch pieces c w
          (subst (AreInTurn (switch_stages pieces c w)) (ap (flying_for is_of_switch) none_flies) open_switch.far)
          (fails (λ k. nat_lt k.given pieces) s.log.check c open_switch.check
          (not_left (check_is (λ k. nat_lt k.given pieces) s) (nat_lt (length s.flying) d.depth) (table CheckWrite) has_depth))
          (λ whole. fails (λ v. is_not_sent v.flush) s.switching w is
          (not_left (switch_is (λ v. is_not_sent v.flush) s) (check_is (λ k. k.written == pieces) s)
          (not_left (switch_is (λ v. is_not_sent v.flush) s && check_is (λ k. k.written == pieces) s) (nat_lt (length s.flying) d.depth)
          (table CheckFlush) has_depth) (holds (λ k. k.written == pieces) s.log.check c open_switch.check whole)))
          (not_right (is_flushed w.flush) (is_not_sent w.slot) (fails (λ v. is_flushed v.flush && is_not_sent v.slot) s.switching w is
          (not_left (switch_is (λ v. is_flushed v.flush && is_not_sent v.slot) s) (nat_lt (length s.flying) d.depth) (table SlotWrite) has_depth)))
          (not_right (is_flushed w.slot) (is_not_sent w.slot_flush) (fails (λ v. is_flushed v.slot && is_not_sent v.slot_flush) s.switching w is
          (not_left (switch_is (λ v. is_flushed v.slot && is_not_sent v.slot_flush) s) (nat_lt (length s.flying) d.depth) (table SlotFlush) has_depth)))
          (fails (λ v. is_flushed v.slot_flush) s.switching w is (table Switch))

      of_switching : (o : Option Switching) → s.switching ≡ o → s.switching ≡ None
      of_switching None is = is
      of_switching (Some w) is = absurd (opened w is)

  pub drained_is_idle : IsIdle s
  drained_is_idle = record {
    pending = none_waits s.pending (subst (λ (fs : List Flying). AllByRecursion (IsPartGiven fs) s.pending) none_flies m.waiting)
        (not_left (is_some (next_unsent s.pending)) (nat_lt (length s.flying) d.depth) (table Data) has_depth)
        (not_right (is_none s.batch && is_none s.switching) (is_some (chosen s.pending)) (table Take) (both (ap is_none no_batch) (ap is_none no_switching)));
    batch = no_batch;
    switching = no_switching;
    flying = none_flies;
    begun = (rests_batch s d.flights m no_batch).0;
    check = (rests_switch s d.flights m no_switching).0;
    applied = ltb-false s.acked (applied_count s) (table Finish);
  }
    where
      both : is_none s.batch ≡ true → is_none s.switching ≡ true → is_none s.batch && is_none s.switching ≡ true
      both a b = ap (λ (t : Bool). t && is_none s.switching) a ∙ b

-- ---- for the laws

module _ (s : State) (d : Disk) (deep : 8 ≤ d.depth) (m : FlightsMatch s d.flights) (up : s.down ≡ None) (drained : is_drained d.depth s ≡ true) where
  pub drained_pending : s.pending ≡ []
  drained_pending = (drained_is_idle s d deep m up drained).pending

  pub drained_batch : s.batch ≡ None
  drained_batch = (drained_is_idle s d deep m up drained).batch

  pub drained_switching : s.switching ≡ None
  drained_switching = (drained_is_idle s d deep m up drained).switching

  pub drained_check : s.log.check ≡ None
  drained_check = (drained_is_idle s d deep m up drained).check

  pub drained_flying : s.flying ≡ []
  drained_flying = (drained_is_idle s d deep m up drained).flying

pub ruleset drained_laws = (drained_pending, drained_batch, drained_switching, drained_check, drained_flying)
