-- What holds at the end of a run of scripts: the run is one of the kernel, so what is known of these holds of it.
use Rattle.std.proofs.Common.{◌≡◌, ℕ, suc, ◌+◌, ◌<◌, ◌≤◌, Bool, true, false, is_some, slice_get, length-append, List, [], ◌∷◌, ◌++◌, length}
use Rattle.std.proofs.Common.{Option, Some, None, map, refl, sym, ap, subst, ◌∙◌, arith, inl, inr, append-nil}
use Rattle.std.specs.Prelude.{◌||◌, IfSome, All}
use Rattle.std.specs.List.{AllByRecursion}
use Rattle.std.proofs.lemmas.List.Elements.{All-head}
use Rattle.std.proofs.lemmas.Bool.{lt-ltb}
use Rattle.std.proofs.lemmas.Option.{same_Some, IfSome_then}
use Rattle.block_device.specs.Prelude.{last, IsClean, Disk, History, IsFresh}
use Rattle.end_points.specs.Bay.{Names, BayView, StartsWith, start_of}
use Rattle.end_points.specs.declared.bay.How.TheVariants.{Plain}
use Rattle.block_device.specs.declared.event.Event.{Event}
use Rattle.block_device.proofs.LogLemmas.{slice_get-lt}
use Rattle.object_model.specs.Prelude.{Objects, accepted, acked_count, committed_places, IsLegal, replay}
use Rattle.object_model.specs.declared.book.Commit.{Commit}
use Rattle.object_model.specs.declared.book.Entry.{Entry}
use Rattle.object_model.specs.declared.command.Answer.{Answer}
use Rattle.object_model.specs.declared.command.Answer.TheVariants as answer
use Rattle.object_model.specs.declared.book.Book.{Book}
use Rattle.store_image.specs.Prelude.{IsShape, StandsFor}
use Rattle.unit_allocator.specs.Prelude.{Space}
use Rattle.script_text.specs.declared.line.Line.{Line}
use Rattle.client_runs.specs.Prelude.{Ask, asks_of, ready_list, client_calls, Position, at_position, calls_at, EndsAs, EndsRun, HasDrainedAfterRead, RunsUpTo}
use Rattle.client_runs.specs.declared.run_fail.RunFail.{RunFail}
use Rattle.client_runs.specs.declared.run_fail.RunFail.TheVariants as run
use Rattle.store_kernel.specs.declared.step_fail.StepFail.{StepFail}
use Rattle.store_steps.specs.declared.step.Step.{Step}
use Rattle.store_steps.specs.declared.step.Step.TheVariants.{Reap}
use Rattle.store_steps.specs.Prelude.{State, intents, Found, free_count, is_drained, is_empty, Call, stepping, Calls, IsRun}
use Rattle.store_steps.specs.declared.context.Context.{Context}
use Rattle.run_facts.specs.Prelude.{AcksAre, IsKept}
use Rattle.run_facts.proofs.Prelude.{none_ready, idle_pending, idle_acked, kept_run}
use Rattle.unit_facts.proofs.Runs.{drained_clean}
use Rattle.plan_proofs.proofs.PlanLaws.{plans_keep}
use Rattle.book_facts.specs.Prelude.{KnownOfBook, AreQueued, IsInOrder}
use Rattle.book_facts.proofs.Prelude.{book_opened, known_legal, book_run, order_run, order_opened, one_if, count_cons}
use Rattle.crash_facts.specs.Store.{KnownOfStore, IsDurable, KeepsDurable}
use Rattle.crash_facts.proofs.Answered.{durable_legal, durable_sums}
use Rattle.crash_facts.proofs.Runs.{run_durable, drained_stands, drained_exact}
use Rattle.read_facts.specs.Prelude.{IsNoCsum, IsLegalButBytes}
use Rattle.log_replay.specs.Prelude.{Told, GoesOn}
use Rattle.mount_replay.specs.Mounting.{IsOpenedOn, WasOpened}
use Rattle.run_texts.specs.declared.work_end.WorkEnd.{WorkEnd}
use Rattle.run_texts.specs.declared.work_end.WorkEnd.TheVariants.{Done, BadLine, NoSuper, BadRow, NotExact, WornOut}
use Rattle.run_texts.specs.declared.work_end.WorkEnd.TheVariants.{DeviceFault, OutOfMemory, BayFault, SinkFault}
use Rattle.bstore_top.specs.Prelude.{end_of_run, Seen, RunsScripts, HasDrained, LeavesAll, RunsAndKeeps, WorksOn, EndsOpened, IsStepDone, RanStep, IsFinished, IsComplete, KeepsStore, FinishesOn, AreAllAsked, Succeeded}
use Rattle.run_texts.specs.Prelude.{Output, TookAll, Printed, is_csum, has_csum, end_status, step_number, step_text}
use Rattle.bstore_top.proofs.FreeLemmas.{drained_free}
use Rattle.client_runs.proofs.Prelude.{drawn_run, both_empty}
use Rattle.bstore_top.proofs.Acked.{all_asked}

-- ---- replies that name no bad unit

no_csum_answer : (a : Answer) → IsNoCsum a → is_csum a ≡ false
no_csum_answer answer.Accepted none = refl
no_csum_answer (answer.Refused refusal) none = refl
no_csum_answer (answer.NoSpace need free) none = refl
no_csum_answer (answer.MetaFull need room) none = refl
no_csum_answer (answer.Csum unit kept found) none = absurd none
no_csum_answer (answer.Bytes bytes) none = refl
no_csum_answer (answer.Size size) none = refl
no_csum_answer (answer.Sum size crc) none = refl
no_csum_answer (answer.Names names) none = refl

-- none of them does
pub no_csum : (entries : List Entry) → AllByRecursion (λ e. IsNoCsum e.answer) entries → has_csum entries ≡ false
no_csum [] none = refl
no_csum (e ∷ es) none = ap (λ (b : Bool). b || has_csum es) (no_csum_answer e.answer none.0) ∙ no_csum es none.1

-- ---- runs

-- a run behind another
pub joined_run : (xs ys : List Call) (s t u : State) (d e f : Disk) → IsRun s d xs t e → IsRun t e ys u f → IsRun s d (xs ++ ys) u f
joined_run [] ys s t u d e f first second =
    subst (λ (z : State). IsRun z d ys u f) first.0 (subst (λ (z : Disk). IsRun t z ys u f) first.1 second)
joined_run (x ∷ xs) ys s t u d e f first second =
    (first.0, (first.1.0, (first.1.1.0, (first.1.1.1.0, joined_run xs ys first.0 t u first.1.0 e f first.1.1.1.1 second))))

-- where nothing comes behind a position, no call does
ends_there : (p q : Position) → q ≡ p → (calls : List Call) × IsRun p.state p.disk calls q.state q.disk
ends_there p q same = ([], (ap (λ (z : Position). z.state) same, ap (λ (z : Position). z.disk) same))

-- behind where the clients were come the calls that were drawn since a read was lost
ends_run : (start : Position) (fail : Option RunFail) (p q : Position) → EndsRun start fail p q → (calls : List Call) × IsRun p.state p.disk calls q.state q.disk
ends_run start None p q ended = ends_there p q ended.0
ends_run start (Some run.Fault) p q ended = ends_there p q ended.0
ends_run start (Some run.Memory) p q ended = ends_there p q ended.0
ends_run start (Some run.DeviceRead) p q ended =
    let calls : List Call = ended.leads.calls in
    let behind : IsRun ended.resumed.state ended.resumed.disk calls q.state q.disk = drawn_run ended.resumed calls q ended.leads.run in (
      calls,
      subst (λ (z : State). IsRun z p.disk calls q.state q.disk) ended.lost.state
          (subst (λ (z : Disk). IsRun ended.resumed.state z calls q.state q.disk) ended.lost.disk behind),
    )

-- the clients' run is a run of the kernel, to its last state
pub clients_run : (fail : Option RunFail) (x : ℕ) (scripts : List (List Line)) (s : State) (d : Disk) (s' : State) (d' : Disk)
    → RunsUpTo fail x scripts s d s' d' → (calls : List Call) × IsRun s d calls s' d'
clients_run fail x scripts s d s' d' ran =
    let front : List Call = ran.leads.calls in
    let behind = ends_run (at_position x (map asks_of scripts) s d) fail ran.reached ran.last ran.ended in
    let last : IsRun ran.reached.state ran.reached.disk behind.0 s' d' =
    subst (λ (z : State). IsRun ran.reached.state ran.reached.disk behind.0 z d') ran.state
    (subst (λ (z : Disk). IsRun ran.reached.state ran.reached.disk behind.0 ran.last.state z) ran.disk behind.1) in (
      front ++ behind.0,
      joined_run front behind.0 s ran.reached.state s' d ran.reached.disk d'
          (drawn_run (at_position x (map asks_of scripts) s d) front ran.reached ran.leads.run) last,
    )

-- ---- opened

pub opened_book : (opening : Objects) (given : Disk) (f : Found) (space : Space) (start : Disk) (s : State) → IsOpenedOn given f space start s
    → IsShape f.rows opening → KnownOfBook opening s
opened_book opening given f space start s mounted shape =
    subst (KnownOfBook opening) (sym mounted.state) (book_opened opening f space mounted.next mounted.events shape)

-- the book of a run from there is legal but for the bytes that reads gave, for all objects whose shape the rows have
pub legal_of : (given : Disk) (f : Found) (space : Space) (start : Disk) (s closed : State) (disk : Disk) (calls : List Call) (book : Book)
    → IsOpenedOn given f space start s → IsKept s start → IsRun s start calls closed disk → book ≡ closed.book
    → (objects : Objects) → IsShape f.rows objects → IsLegalButBytes objects book
legal_of given f space start s closed disk calls book mounted kept run book_is objects shape =
    subst (IsLegalButBytes objects) (sym book_is)
    (known_legal objects closed (book_run objects calls s closed start disk plans_keep kept (opened_book objects given f space start s mounted shape) run))

-- in a log without events nothing is dirty
pub clean_of_none : (log : List Event) → log ≡ [] → (unit : ℕ) → IsClean log unit
clean_of_none log none unit place event there writes = absurd (omega (arith, slice_get-lt log event place there, ap (λ (l : List Event). length l) none))

-- what the mount left of a device that tells its history is told too
told_opened : (f : Found) (count : ℕ) (h : History) (old new : Option History) → old ≡ Some h → Told (WasOpened f count) old new
    → (k : History) × (new ≡ Some k) × WasOpened f count h k
told_opened f count h None new is told = absurd cc
told_opened f count h (Some g) None is told = absurd told
told_opened f count h (Some g) (Some k) is told = (k, refl, subst (λ (z : History). WasOpened f count z k) (same_Some g h is) told)

-- what is told later began with the same contents
pub same_start : (h h' : History) (old new : Option History) → old ≡ Some h → new ≡ Some h' → Told GoesOn old new → h'.start ≡ h.start
same_start h h' None new is_h is_h' told = absurd cc
same_start h h' (Some k) None is_h is_h' told = absurd told
same_start h h' (Some k) (Some k') is_h is_h' told =
    let one : k ≡ h = cc in
    let two : k' ≡ h' = cc in
    sym (ap (λ (z : History). z.start) two) ∙ told.same_start ∙ ap (λ (z : History). z.start) one

module _ (given : Disk) (h : History) (fresh : IsFresh given) (told : given.history ≡ Some h) where
  pub log_empty : h.log ≡ []
  log_empty = subst (λ (o : Option History). IfSome o (λ g. g.log ≡ [])) told fresh.log

  -- the mounted kernel is durable for the objects that the contents stood for
  pub start_durable : (f : Found) (space : Space) (start : Disk) (s : State) (objects : Objects) → IsOpenedOn given f space start s
      → KeepsDurable s start → StandsFor h.start objects → IsDurable 0 objects s start
  start_durable f space start s objects mounted keeps stands =
      let left = told_opened f mounted.events h given.history start.history told mounted.told in
      let k : History = left.0 in
      let opened_by : WasOpened f mounted.events h k = left.2 in
      let many : length k.log ≡ length h.log + length opened_by.events =
      ap (λ (l : List Event). length l) opened_by.by.more ∙ length-append h.log opened_by.events in
      let counted : length k.log ≡ 0 + s.events =
      omega (arith, many, ap (λ (l : List Event). length l) log_empty, opened_by.counted, ap (λ (t : State). t.events) mounted.state) in
      keeps k 0 objects left.1 counted (record {
        reached = omega arith;
        clean = clean_of_none [] refl;
        stands = subst (λ (bytes : List ℕ). StandsFor bytes objects) (sym opened_by.by.same_start) stands;
      })

-- ---- a run of scripts, however it ended

-- the run, with what the mounted kernel keeps
pub record RanKept (seed : ℕ) (scripts : List (List Line)) (given : Disk) (end : WorkEnd) (book : Book) (disk : Disk) : Type 0 where
  pub ran : RunsScripts seed scripts given end book disk
  pub kept : IsKept ran.first ran.start
  pub durable : KeepsDurable ran.first ran.start

module _ (seed : ℕ) (scripts : List (List Line)) (given disk : Disk) (end : WorkEnd) (book : Book)
    (all : RanKept seed scripts given end book disk) where
  abbrev ran : RunsScripts seed scripts given end book disk
  ran = all.ran

  -- up to its last state
  up_to_last : (calls : List Call) × IsRun ran.first ran.start calls ran.last ran.left
  up_to_last = clients_run ran.fail seed scripts ran.first ran.start ran.last ran.left ran.ran

  -- with the ends that unmounting takes
  whole_run : IsRun ran.first ran.start (up_to_last.0 ++ ran.reaped.calls) ran.closed disk
  whole_run = joined_run up_to_last.0 ran.reaped.calls ran.first ran.last ran.closed ran.start ran.left disk up_to_last.1 ran.reaped.run

  module _ (h : History) (objects : Objects) (fresh : IsFresh given) (told : given.history ≡ Some h) (stands : StandsFor h.start objects) where
    first_durable : IsDurable 0 objects ran.first ran.start
    first_durable = start_durable given h fresh told ran.found ran.space ran.start ran.first objects ran.mounted all.durable stands

    pub run_durable_to : IsDurable 0 objects ran.closed disk
    run_durable_to =
        run_durable 0 objects (up_to_last.0 ++ ran.reaped.calls) ran.first ran.closed ran.start disk plans_keep all.kept first_durable whole_run

    last_durable : IsDurable 0 objects ran.last ran.left
    last_durable = run_durable 0 objects up_to_last.0 ran.first ran.last ran.start ran.left plans_keep all.kept first_durable up_to_last.1

    -- for these objects the book is legal
    pub run_legal : IsLegal objects book
    run_legal = subst (IsLegal objects) (sym ran.book_is) (durable_legal 0 objects ran.closed disk run_durable_to)

    -- and none of its replies names a bad unit
    pub run_no_csum : has_csum book.entries ≡ false
    run_no_csum =
        ap (λ (b : Book). has_csum b.entries) ran.book_is ∙ no_csum ran.closed.book.entries (durable_sums 0 objects ran.closed disk run_durable_to)

-- ---- a run that did all that there was to do

-- where a run ends well nothing failed, and so many units are free
ended_well : (fail : Option RunFail) (free n : ℕ) → Done free ≡ end_of_run fail n → (fail ≡ None) × (free ≡ n)
ended_well None free n is = (refl, cc)
ended_well (Some run.Memory) free n is = absurd cc
ended_well (Some run.Fault) free n is = absurd cc
ended_well (Some run.DeviceRead) free n is = absurd cc

-- No client has a call, no step is ready, and no submission has ended badly.
record IsThrough (clients : List (List Ask)) (s : State) (d : Disk) : Type 0 where
  pub no_call : client_calls 0 clients s.book ≡ []
  pub drained : is_drained d.depth s ≡ true
  pub up : s.down ≡ None

no_step : (steps : List Step) → map stepping steps ≡ [] → is_empty steps ≡ true
no_step [] none = refl
no_step (step ∷ steps) none = absurd cc

nothing_to_draw : (p : Position) → calls_at p ≡ [] → p.state.down ≡ None → IsThrough p.clients p.state p.disk
unfolding ready_list
nothing_to_draw p none up =
    let parts = both_empty (client_calls 0 p.clients p.state.book) (map stepping (ready_list p.disk.depth p.state)) none in
    record { no_call = parts.0; drained = no_step (ready_list p.disk.depth p.state) parts.1; up = up }

-- so it is behind a run in which nothing failed
run_through : (fail : Option RunFail) (x : ℕ) (scripts : List (List Line)) (s : State) (d : Disk) (s' : State) (d' : Disk)
    → (ran : RunsUpTo fail x scripts s d s' d') → fail ≡ None → IsThrough ran.reached.clients s' d'
run_through fail x scripts s d s' d' ran none =
    let start : Position = at_position x (map asks_of scripts) s d in
    let ended : EndsRun start None ran.reached ran.last = subst (λ (f : Option RunFail). EndsRun start f ran.reached ran.last) none ran.ended in
    let through : IsThrough ran.reached.clients ran.reached.state ran.reached.disk = nothing_to_draw ran.reached ended.1.0 ended.1.1 in
    let state : ran.reached.state ≡ s' = ap (λ (z : Position). z.state) (sym ended.0) ∙ ran.state in
    let disk : ran.reached.disk ≡ d' = ap (λ (z : Position). z.disk) (sym ended.0) ∙ ran.disk in
    subst (λ (z : State). IsThrough ran.reached.clients z d') state (subst (λ (z : Disk). IsThrough ran.reached.clients ran.reached.state z) disk through)

-- a drained kernel takes no end
pub no_reap : (calls : List Call) (s s' : State) (d d' : Disk) → is_drained d.depth s ≡ true → All (λ call. call ≡ stepping Reap) calls
    → IsRun s d calls s' d'
    → (s' ≡ s) × (d' ≡ d)
no_reap [] s s' d d' drained reaps run = run
no_reap (call ∷ calls) s s' d d' drained reaps run =
    let made : Calls (stepping Reap) s d run.0 run.1.0 =
    subst (λ (c : Call). Calls c s d run.0 run.1.0) (All-head (λ c. c ≡ stepping Reap) call calls reaps) run.1.1.0 in
    let none : false ≡ true = sym (none_ready d.depth s drained).1.0 ∙ made.0 in
    absurd cc

-- all that was accepted is committed and acknowledged

all_acked : (cs : List Commit) → ((i : ℕ) → i < length cs → IfSome (slice_get cs i) (λ c. is_some c.acked_at ≡ true)) → acked_count cs ≡ length cs
all_acked [] acks = refl
all_acked (c ∷ cs) acks =
    let here : is_some c.acked_at ≡ true = acks 0 (omega arith) in
    let behind : acked_count cs ≡ length cs = all_acked cs (λ i below. acks (suc i) (omega (arith, below))) in
    let one : one_if (is_some c.acked_at) ≡ 1 = ap one_if here in
    omega (arith, count_cons c cs, one, behind)

acked_below : (acked : ℕ) (cs : List Commit) → AcksAre acked cs → length cs ≤ acked → acked_count cs ≡ length cs
acked_below acked cs acks all = all_acked cs (λ i below. IfSome_then (slice_get cs i) (acks i) (λ (c : Commit) is. is ∙ lt-ltb i acked (omega (arith, below, all))))

order_complete : (s : State) (d : Disk) → IsKept s d → IsInOrder s → s.down ≡ None → is_drained d.depth s ≡ true → IsComplete s.book
order_complete s d kept known up drained =
    let queued : AreQueued s.book [] = subst (λ (xs : List Context). AreQueued s.book (intents xs)) (idle_pending s d kept up drained) known.queued in
    record {
      in_order = λ coll. queued.in_order coll ∙ append-nil (committed_places coll s.book.entries s.book.commits);
      acked = acked_below s.acked s.book.commits kept.always.book.acks (omega (arith, idle_acked s d kept up drained));
    }

-- ---- a run whose kernel has nothing left to do in the end

module _ (seed : ℕ) (scripts : List (List Line)) (given disk : Disk) (end : WorkEnd) (book : Book) (ran : RunsScripts seed scripts given end book disk)
    (idle : HasDrained ran.last ran.left) where
  -- unmounting finds nothing in flight
  same_end : (ran.closed ≡ ran.last) × (disk ≡ ran.left)
  same_end = no_reap ran.reaped.calls ran.last ran.closed ran.left disk idle.0 ran.reaped.reaps ran.reaped.run

  book_at_end : book ≡ ran.last.book
  book_at_end = ran.book_is ∙ ap (λ (z : State). z.book) same_end.0

module _ (seed : ℕ) (scripts : List (List Line)) (given disk : Disk) (end : WorkEnd) (book : Book)
    (all : RanKept seed scripts given end book disk) (idle : HasDrained all.ran.last all.ran.left) where
  abbrev done : RunsScripts seed scripts given end book disk
  done = all.ran

  up_to_end : (calls : List Call) × IsRun done.first done.start calls done.last done.left
  up_to_end = up_to_last seed scripts given disk end book all

  kept_to_end : IsKept done.last done.left
  kept_to_end = kept_run up_to_end.0 done.first done.last done.start done.left plans_keep all.kept up_to_end.1

  all_complete : IsComplete book
  all_complete =
      let first : IsInOrder done.first = subst IsInOrder (sym done.mounted.state) (order_opened done.found done.space done.mounted.next done.mounted.events) in
      let known : IsInOrder done.last = order_run up_to_end.0 done.first done.last done.start done.left plans_keep all.kept first up_to_end.1 in
      subst IsComplete (sym (book_at_end seed scripts given disk end book done idle))
      (order_complete done.last done.left kept_to_end known idle.1 idle.0)

  all_finished : IsFresh given → (h : History) (objects : Objects) → given.history ≡ Some h → StandsFor h.start objects
      → (h' : History) × (disk.history ≡ Some h') × IsFinished objects (free_count done.last.space) book h'
  all_finished fresh h objects told stands =
      let s : State = done.last in
      let d : Disk = done.left in
      let after : IsDurable 0 objects s d = last_durable seed scripts given disk end book all h objects fresh told stands in
      let known : KnownOfStore 0 objects s d after.history = after.up idle.1 in
      let contents : List ℕ = last after.history.start after.history.log in (
        after.history,
        ap (λ (z : Disk). z.history) (same_end seed scripts given disk end book done idle).1 ∙ after.told,
        record {
          stands = subst (λ (b : Book). StandsFor contents (replay objects (accepted b.entries)))
              (sym (book_at_end seed scripts given disk end book done idle))
              (drained_stands 0 objects s d after.history kept_to_end idle.1 idle.0 known);
          clean = drained_clean 0 s d after.history kept_to_end known.units idle.1 idle.0;
          exact = drained_exact 0 objects s d after.history kept_to_end idle.1 idle.0 known;
          has_free = drained_free 0 s d after.history kept_to_end known.units idle.1 idle.0;
        },
      )

  leaves_all : LeavesAll given (free_count done.last.space) book disk
  leaves_all = record { complete = all_complete; at_end = all_finished }

-- a run, whatever comes of it, keeps all where it has nothing left to do
pub runs_and_keeps : (seed : ℕ) (scripts : List (List Line)) (given disk : Disk) (end : WorkEnd) (book : Book)
    → RanKept seed scripts given end book disk → RunsAndKeeps seed scripts given end book disk
runs_and_keeps seed scripts given disk end book all =
    record { ran = all.ran; drained = λ idle. leaves_all seed scripts given disk end book all idle }

-- where steps were drawn after a lost read until none was ready, it has nothing left to do
lost_and_drained : (start : Position) (fail : Option RunFail) (p q : Position) (ended : EndsRun start fail p q)
    → HasDrainedAfterRead start fail p q ended → HasDrained q.state q.disk
lost_and_drained start (Some run.DeviceRead) p q ended none =
    let all : EndsAs None q = subst (λ (f : Option StepFail). EndsAs f q) none ended.ended in
    let through : IsThrough q.clients q.state q.disk = nothing_to_draw q all.0 all.1 in
    (through.drained, through.up)
lost_and_drained start (Some run.Fault) p q ended none = absurd none
lost_and_drained start (Some run.Memory) p q ended none = absurd none
lost_and_drained start None p q ended none = absurd none

pub keeps_after_read : (seed : ℕ) (scripts : List (List Line)) (given : Disk) (end : WorkEnd) (book : Book) (disk : Disk)
    (all : RunsAndKeeps seed scripts given end book disk)
    → HasDrainedAfterRead (at_position seed (map asks_of scripts) all.ran.first all.ran.start) all.ran.fail all.ran.ran.reached all.ran.ran.last
    all.ran.ran.ended
    → LeavesAll given (free_count all.ran.last.space) book disk
keeps_after_read seed scripts given end book disk all drained =
    let ran = all.ran.ran in
    let idle : HasDrained ran.last.state ran.last.disk =
    lost_and_drained (at_position seed (map asks_of scripts) all.ran.first all.ran.start) all.ran.fail ran.reached ran.last ran.ended drained in
    all.drained (subst (λ (d : Disk). HasDrained all.ran.last d) ran.disk (subst (λ (s : State). HasDrained s ran.last.disk) ran.state idle))

-- ---- a run that ends well

module _ (seed free : ℕ) (scripts : List (List Line)) (given disk : Disk) (book : Book) (ran : RunsScripts seed scripts given (Done free) book disk) where
  well : (ran.fail ≡ None) × (free ≡ free_count ran.last.space)
  well = ended_well ran.fail free (free_count ran.last.space) ran.ended

  through : IsThrough ran.ran.reached.clients ran.last ran.left
  through = run_through ran.fail seed scripts ran.first ran.start ran.last ran.left ran.ran well.0

  drained_well : HasDrained ran.last ran.left
  drained_well = (through.drained, through.up)

  -- no client has a command left
  run_all_asked : IsComplete book → AreAllAsked scripts book.entries
  run_all_asked complete = all_asked scripts book ran.ran.reached.clients complete
      (subst (λ (b : Book). client_calls 0 ran.ran.reached.clients b ≡ []) (sym (book_at_end seed scripts given disk (Done free) book ran drained_well))
      through.no_call) ran.entries

module _ (seed free : ℕ) (scripts : List (List Line)) (given disk : Disk) (book : Book) (all : RanKept seed scripts given (Done free) book disk) where
  left_well : LeavesAll given (free_count all.ran.last.space) book disk
  left_well = leaves_all seed scripts given disk (Done free) book all (drained_well seed free scripts given disk book all.ran)

  pub run_complete : IsComplete book
  run_complete = left_well.complete

  pub run_finished : (h : History) (objects : Objects) → IsFresh given → given.history ≡ Some h → StandsFor h.start objects
      → (h' : History) × (disk.history ≡ Some h') × IsFinished objects free book h'
  run_finished h objects fresh told stands =
      subst (λ (n : ℕ). (h' : History) × (disk.history ≡ Some h') × IsFinished objects n book h') (sym (well seed free scripts given disk book all.ran).1)
      (left_well.at_end fresh h objects told stands)

-- ---- a run that returns 0

-- it has printed its text, whose status that is
pub printed_well : (end : ℕ) (text : List ℕ) (old new : Output) → Printed end text 0 old new → (0 ≡ end) × TookAll text old new
printed_well end text old new (inl whole) = whole
printed_well end text old new (inr front) = absurd (omega (arith, front.0))

-- it ended with all done, and has met no bad unit
pub record EndsWell (bad : Bool) (end : WorkEnd) : Type 0 where
  pub free : ℕ
  pub is : end ≡ Done free
  pub none_bad : bad ≡ false

pub ends_well : (bad : Bool) (end : WorkEnd) → 0 ≡ end_status bad end → EndsWell bad end
ends_well true end is = absurd (omega (arith, is))
ends_well false (Done free) is = record { free = free; is = refl; none_bad = refl }
ends_well false (BadLine script n) is = absurd (omega (arith, is))
ends_well false NoSuper is = absurd (omega (arith, is))
ends_well false (BadRow key) is = absurd (omega (arith, is))
ends_well false (NotExact unit) is = absurd (omega (arith, is))
ends_well false WornOut is = absurd (omega (arith, is))
ends_well false DeviceFault is = absurd (omega (arith, is))
ends_well false OutOfMemory is = absurd (omega (arith, is))
ends_well false BayFault is = absurd (omega (arith, is))
ends_well false SinkFault is = absurd (omega (arith, is))

-- where the bay tells names, the device that it gave began with what the bay has under its name, and the run has finished on it
finishes : (dev : List ℕ) (free : ℕ) (given disk : Disk) (book : Book) (names : Option Names) → KeepsStore given (Done free) book disk
    → IfSome names (λ n. StartsWith given (start_of n dev Plain)) → IfSome names (FinishesOn dev free book disk)
finishes dev free given disk book None keeps begins = tt
finishes dev free given disk book (Some n) keeps begins = λ contents objects is stands.
    let told : given.history ≡ Some (record { start = contents; log = [] }) = subst (StartsWith given) is begins in
    let done = keeps.at_end free (record { start = contents; log = [] }) objects refl told stands in
    record {
      history = done.0;
      told = done.1;
      legal = keeps.legal (record { start = contents; log = [] }) objects told stands;
      finished = done.2;
    }

module _ (dev : List ℕ) (files : List (List ℕ)) (seed : ℕ) (seen : Seen) (bay_old bay_new : BayView) (before now : ℕ) (old new : Output) (free : ℕ)
    (no_bad : has_csum seen.book.entries ≡ false) (printed : TookAll (step_text seen.book (Done free)) old new) where
  ran_well : (e : EndsOpened dev files seed (Done free) seen bay_old bay_new before now) → RunsScripts seed e.scripts e.given (Done free) seen.book e.disk
      → Succeeded dev files seed seen bay_old old new
  ran_well e ran = record {
    scripts = e.scripts;
    lines = e.lines;
    all = run_all_asked seed free e.scripts e.given e.disk seen.book ran (e.keeps.complete free refl);
    complete = e.keeps.complete free refl;
    no_csum = no_bad;
    free = free;
    printed = printed;
    given = e.given;
    disk = e.disk;
    is_disk = e.is_disk;
    ran = ran;
    finished = finishes dev free e.given e.disk seen.book bay_old.names e.keeps e.handed_out.contents;
  }

  worked_well : (e : EndsOpened dev files seed (Done free) seen bay_old bay_new before now) → WorksOn seed e.scripts e.given 0 (Done free) seen.book e.disk e.faults
      → Succeeded dev files seed seen bay_old old new
  worked_well e (inl failed) = absurd failed.0
  worked_well e (inr ran) = ran_well e ran.1.ran

  done_well : IsStepDone dev files seed (Done free) seen bay_old bay_new before now → Succeeded dev files seed seen bay_old old new
  done_well (inl e) = absurd e.cause
  done_well (inr e) = worked_well e e.works

pub step_succeeded : (dev : List ℕ) (files : List (List ℕ)) (seed : ℕ) (seen : Seen) (bay_old bay_new : BayView) (before now : ℕ) (old new : Output)
    → RanStep dev files seed 0 seen bay_old bay_new before now old new → Succeeded dev files seed seen bay_old old new
step_succeeded dev files seed seen bay_old bay_new before now old new ran =
    let took = printed_well (step_number seen.book ran.end) (step_text seen.book ran.end) old new ran.printed in
    let well : EndsWell (has_csum seen.book.entries) ran.end = ends_well (has_csum seen.book.entries) ran.end took.0 in
    done_well dev files seed seen bay_old bay_new before now old new well.free well.none_bad
    (subst (λ (e : WorkEnd). TookAll (step_text seen.book e) old new) well.is took.1)
    (subst (λ (e : WorkEnd). IsStepDone dev files seed e seen bay_old bay_new before now) well.is ran.course)
