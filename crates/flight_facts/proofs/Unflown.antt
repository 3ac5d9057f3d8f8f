-- The units that are in no flight.
use Rattle.std.proofs.Common.{◌≡◌, inl, inr, ℕ, ◌+◌, ◌<◌, ◌≤◌, true, false, List, [], ◌∷◌, ◌++◌, length, map, take, drop, Option, Some, None, IfSome, sym, subst, arith}
use Rattle.flight_facts.proofs.Common.{AllByRecursion, Ascends, Flight, IsApart, IsUntouched, unit_count, active_unit, given_from, FreshUnit, Context, FlushState, Flying, Job, Meta, Begun, Checking, is_flushed}
use Rattle.std.proofs.lemmas.List.Elements.{All-cons, All-nil}
use Rattle.std.proofs.lemmas.List.{take-append-drop}
use Rattle.store_steps.specs.declared.flight.FlushState.TheVariants as flush
use Rattle.store_steps.specs.declared.flight.Job.TheVariants as job
use Rattle.store_steps.specs.declared.flight.Switching.{Switching}
use Rattle.store_steps.specs.Prelude.{Batch, State, is_not_sent, pieces_of, check_pieces, intent_of}
use Rattle.flight_facts.specs.Prelude.{Stage, by_one, by_pieces, IsEnded, AreInTurn, batch_pieces, is_of_batch, is_of_switch, flying_for, IsNone, TouchesGiven, AnyByRecursion, IsGivenPiece, IsGivenRun, TouchesOnlyOf, IsOfJob, AreOfJobs, IsNoTarget, FlightsMatch, FitsRecord}
use Rattle.flight_facts.proofs.OfJobs.{Touched, by_write, by_piece, by_run, by_slot, by_none, touched}
use Rattle.flight_facts.proofs.Landing.{none_of_part}
use Rattle.flight_facts.proofs.Stages.{nothing_before, not_sent_is}
use Rattle.flight_facts.proofs.Matching.{behind_first, IsMadeFar, made_far, open_far, begun_far, record_ended, no_switch, rests_switch}
use Rattle.flight_facts.proofs.Switching.{IsSwitchOpen, switch_open, rests_batch, check_stage, check_ended, ended_to_flush, ended_to_slot}

-- ---- a unit that no job may touch is in no flight

of_write : (g : Flight) (unit place : ℕ) (xs : List Context) → AnyByRecursion (λ x. (x.place ≡ place) × TouchesGiven x g) xs
    → AllByRecursion (λ x. IsNone (take x.given x.fresh) unit) xs → IsApart unit 4096 g
of_write g unit place [] any out = absurd any
of_write g unit place (x ∷ xs) (inl here) out = here.1 unit out.0
of_write g unit place (x ∷ xs) (inr more) out = of_write g unit place xs more out.1

of_piece : {A : Type 0} (P : A → ℕ → Type 0) (o : Option A) (g : Flight) (unit : ℕ) → TouchesOnlyOf P o g → IfSome o (λ x. ¬ P x unit) → IsApart unit 4096 g
of_piece P None g unit is out = absurd is
of_piece P (Some x) g unit is out = is unit out

pub unflown : (m : Meta) (pending : List Context) (flying : List Flying) (flights : List Flight) (unit : ℕ) → AreOfJobs m pending flying flights
    → IsNoTarget m pending unit → IsUntouched flights unit
unflown m pending [] [] unit are none = All-nil (IsApart unit 4096)
unflown m pending (f ∷ fs) (g ∷ gs) unit are none =
    All-cons (IsApart unit 4096) g gs (by (touched m pending f.job g are.0)) (unflown m pending fs gs unit are.1 none)
  where
    by : Touched m pending f.job g → IsApart unit 4096 g
    by (by_write place count its write) = of_write g unit place pending write.of none.waiting
    by (by_piece its of) = of_piece (IsGivenPiece m) m.begun g unit of none.piece
    by (by_run its of) = of_piece (IsGivenRun m) m.check g unit of none.run
    by (by_slot its slot) = slot unit none.slot
    by (by_none empty still no_units) = inl empty
unflown m pending fs gs unit are none = absurd are

-- nor is one that no waiting context gave, while nothing flies for batch and switch
data_unflown : (m : Meta) (pending : List Context) (flying : List Flying) (flights : List Flight) (unit : ℕ) → AreOfJobs m pending flying flights
    → AllByRecursion (λ f. is_of_batch f.job ≡ false) flying → AllByRecursion (λ f. is_of_switch f.job ≡ false) flying
    → AllByRecursion (λ x. IsNone (take x.given x.fresh) unit) pending → IsUntouched flights unit
data_unflown m pending [] [] unit are batch switch none = All-nil (IsApart unit 4096)
data_unflown m pending (f ∷ fs) (g ∷ gs) unit are batch switch none =
    All-cons (IsApart unit 4096) g gs (by f.job batch.0 switch.0 are.0) (data_unflown m pending fs gs unit are.1 batch.1 switch.1 none)
  where
    by : (j : Job) → is_of_batch j ≡ false → is_of_switch j ≡ false → IsOfJob m pending j g → IsApart unit 4096 g
    by (job.Data place count) never either write = of_write g unit place pending write.of none
    by job.Check never either is = absurd (cc)
    by job.CheckFlush never either is = absurd (cc)
    by job.Slot never either is = absurd (cc)
    by job.SlotFlush never either is = absurd (cc)
    by other never either is = absurd (cc)
data_unflown m pending fs gs unit are batch switch none = absurd are

-- ---- what is written next isn't in flight

-- units that ascend are none of those before them
none_before : (front back : List FreshUnit) → Ascends (map (λ f. f.unit) (front ++ back)) → AllByRecursion (λ f. IsNone front f.unit) back
none_before [] back up = every_none back
  where
    every_none : (fs : List FreshUnit) → AllByRecursion (λ f. IsNone [] f.unit) fs
    every_none [] = tt
    every_none (f ∷ fs) = (tt, every_none fs)
none_before (g ∷ front) back up = both back (behind front back up.0) (none_before front back up.1)
  where
    behind : (fs gs : List FreshUnit) → AllByRecursion (λ v. g.unit < v) (map (λ f. f.unit) (fs ++ gs)) → AllByRecursion (λ f. g.unit < f.unit) gs
    behind [] [] all = tt
    behind [] (h ∷ gs) all = (all.0, behind [] gs all.1)
    behind (h ∷ fs) gs all = behind fs gs all.1

    both : (gs : List FreshUnit) → AllByRecursion (λ f. g.unit < f.unit) gs → AllByRecursion (λ f. IsNone front f.unit) gs
        → AllByRecursion (λ f. IsNone (g ∷ front) f.unit) gs
    both [] all none = tt
    both (h ∷ gs) all none = ((λ same. apart g.unit h.unit all.0 same, none.0), both gs all.1 none.1)
      where
        apart : (a b : ℕ) → a < b → a ≡ b → ⊥
        apart a b lt is = omega (arith, lt, is)

-- what a context has left is none of what it gave
pub none_left : (x : Context) → FitsRecord (intent_of x) → AllByRecursion (λ f. IsNone (take x.given x.fresh) f.unit) (drop x.given x.fresh)
none_left x fits = none_before (take x.given x.fresh) (drop x.given x.fresh)
    (subst (λ (fs : List FreshUnit). Ascends (map (λ f. f.unit) fs)) (sym (take-append-drop x.given x.fresh)) fits.ascend)

-- the rest of a record isn't given
pub rest_not_given : (m : Meta) (r : Begun) (j : ℕ) → j < given_from (unit_count m.number r.ops) r.given
    → ¬ IsGivenPiece m r (active_unit m.sup + (m.tail + j))
rest_not_given m r j below piece = apart (active_unit m.sup) m.tail j piece.j (given_from (unit_count m.number r.ops) r.given) below piece.behind piece.is
  where
    apart : (active tail j k from : ℕ) → j < from → from ≤ k → active + (tail + j) ≡ active + (tail + k) → ⊥
    apart active tail j k from lt le is = omega (arith, lt, le, is)

-- ---- what a flush covers isn't in flight

landed_unflown : (s : State) (flights : List Flight) (unit : ℕ) → FlightsMatch s flights → flying_for is_of_batch s.flying ≡ []
    → flying_for is_of_switch s.flying ≡ [] → AllByRecursion (λ x. IsNone (take x.given x.fresh) unit) s.pending → IsUntouched flights unit
landed_unflown s flights unit m batch switch = data_unflown s.log s.pending s.flying flights unit m.touches
    (none_of_part is_of_batch s.flying batch) (none_of_part is_of_switch s.flying switch)

-- at a batch's flushes a unit that no waiting context gave is in no flight
pub flush_unflown : (s : State) (flights : List Flight) (b : Batch) (unit : ℕ) → FlightsMatch s flights → s.batch ≡ Some b → is_not_sent b.first ≡ true
    → AllByRecursion (λ x. IsNone (take x.given x.fresh) unit) s.pending → IsUntouched flights unit
flush_unflown s flights b unit m is ready =
    let pieces : ℕ = batch_pieces s.log.number b in
    let far : AreInTurn (by_one job.DataFlush flush.NotSent ∷ behind_first pieces b s.log.begun) (flying_for is_of_batch s.flying) =
    subst (λ (f : FlushState). AreInTurn (by_one job.DataFlush f ∷ behind_first pieces b s.log.begun) (flying_for is_of_batch s.flying))
    (not_sent_is b.first ready) (open_far s flights b m is).far in
    landed_unflown s flights unit m (nothing_before [] job.DataFlush (behind_first pieces b s.log.begun) (flying_for is_of_batch s.flying) tt far)
    (rests_switch s flights m (no_switch s flights b m is)).1

pub sync_unflown : (s : State) (flights : List Flight) (b : Batch) (r : Begun) (unit : ℕ) → FlightsMatch s flights → s.batch ≡ Some b → s.log.begun ≡ Some r
    → is_not_sent b.second ≡ true → r.written ≡ pieces_of s.log.number r
    → AllByRecursion (λ x. IsNone (take x.given x.fresh) unit) s.pending → IsUntouched flights unit
sync_unflown s flights b r unit m is begun ready all =
    let flying : List Flying = flying_for is_of_batch s.flying in
    let first : Stage = by_one job.DataFlush b.first in
    let piece : Stage = by_pieces job.Record (batch_pieces s.log.number b) r.given r.written in
    let made : IsMadeFar s.log.number b r flying = made_far s.log.sup.half s.log.tail s.log.number b r flying (begun_far s flights b (Some r) m is begun) in
    let far : AreInTurn (first ∷ piece ∷ by_one job.RecordFlush flush.NotSent ∷ []) flying =
    subst (λ (f : FlushState). AreInTurn (first ∷ piece ∷ by_one job.RecordFlush f ∷ []) flying) (not_sent_is b.second ready) made.far in
    landed_unflown s flights unit m
    (nothing_before (first ∷ piece ∷ []) job.RecordFlush [] flying (record_ended s.log.number b r flying made all) far)
    (rests_switch s flights m (no_switch s flights b m is)).1

-- so it is at the flushes of a switch, and at the write of the superblock between them
switch_unflown : (s : State) (flights : List Flight) (w : Switching) (opened : IsSwitchOpen s w) (unit : ℕ) (ahead : List Stage) (j : Job) (behind : List Stage)
    → FlightsMatch s flights → AllByRecursion IsEnded ahead → AreInTurn (ahead ++ by_one j flush.NotSent ∷ behind) (flying_for is_of_switch s.flying)
    → AllByRecursion (λ x. IsNone (take x.given x.fresh) unit) s.pending → IsUntouched flights unit
switch_unflown s flights w opened unit ahead j behind m ended far =
    landed_unflown s flights unit m (rests_batch s flights m opened.batch).1 (nothing_before ahead j behind (flying_for is_of_switch s.flying) ended far)

pub check_unflown : (s : State) (flights : List Flight) (w : Switching) (c : Checking) (unit : ℕ) → FlightsMatch s flights → s.switching ≡ Some w
    → s.log.check ≡ Some c → is_not_sent w.flush ≡ true → c.written ≡ length (check_pieces s.log)
    → AllByRecursion (λ x. IsNone (take x.given x.fresh) unit) s.pending → IsUntouched flights unit
check_unflown s flights w c unit m is begun ready all =
    let opened : IsSwitchOpen s w = switch_open s flights w m is in
    let piece : Stage = check_stage s.log opened.checking in
    let behind : List Stage = by_one job.Slot w.slot ∷ by_one job.SlotFlush w.slot_flush ∷ [] in
    switch_unflown s flights w opened unit (piece ∷ []) job.CheckFlush behind m (check_ended s w c opened begun all, tt)
    (subst (λ (f : FlushState). AreInTurn (piece ∷ by_one job.CheckFlush f ∷ behind) (flying_for is_of_switch s.flying)) (not_sent_is w.flush ready) opened.far)

pub slot_unflown : (s : State) (flights : List Flight) (w : Switching) (unit : ℕ) → FlightsMatch s flights → s.switching ≡ Some w
    → is_flushed w.flush ≡ true → is_not_sent w.slot ≡ true
    → AllByRecursion (λ x. IsNone (take x.given x.fresh) unit) s.pending → IsUntouched flights unit
slot_unflown s flights w unit m is flushed ready =
    let opened : IsSwitchOpen s w = switch_open s flights w m is in
    let ahead : List Stage = check_stage s.log opened.checking ∷ by_one job.CheckFlush w.flush ∷ [] in
    let behind : List Stage = by_one job.SlotFlush w.slot_flush ∷ [] in
    switch_unflown s flights w opened unit ahead job.Slot behind m (ended_to_flush s w opened flushed)
    (subst (λ (f : FlushState). AreInTurn (ahead ++ by_one job.Slot f ∷ behind) (flying_for is_of_switch s.flying)) (not_sent_is w.slot ready) opened.far)

pub slot_flush_unflown : (s : State) (flights : List Flight) (w : Switching) (unit : ℕ) → FlightsMatch s flights → s.switching ≡ Some w
    → is_flushed w.slot ≡ true → is_not_sent w.slot_flush ≡ true
    → AllByRecursion (λ x. IsNone (take x.given x.fresh) unit) s.pending → IsUntouched flights unit
slot_flush_unflown s flights w unit m is written ready =
    let opened : IsSwitchOpen s w = switch_open s flights w m is in
    let ahead : List Stage = check_stage s.log opened.checking ∷ by_one job.CheckFlush w.flush ∷ by_one job.Slot w.slot ∷ [] in
    switch_unflown s flights w opened unit ahead job.SlotFlush [] m (ended_to_slot s w opened written)
    (subst (λ (f : FlushState). AreInTurn (ahead ++ by_one job.SlotFlush f ∷ []) (flying_for is_of_switch s.flying)) (not_sent_is w.slot_flush ready) opened.far)
