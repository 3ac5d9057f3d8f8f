-- The work of `step`, part by part.
use Rattle.std.proofs.Common.{◌≡◌, inl, inr, ℕ, ◌≤◌, List, [], ◌∷◌, ◌++◌, map, Option, Some, None, Result, Ok, Err}
use Rattle.std.proofs.Common.{MatchResult, ap, ◌∙◌, sym, refl, subst, arith, append_assoc}
use Rattle.std.specs.Result.{result_err}
use Rattle.block_device.specs.Prelude.{Disk, History, history_after, Rose}
use Rattle.block_device.specs.declared.event.Event.{Event}
use Rattle.object_model.specs.declared.book.Book.{Book}
use Rattle.unit_allocator.specs.Prelude.{Space}
use Rattle.script_text.specs.declared.line.Line.{Line}
use Rattle.store_steps.specs.Prelude.{State, Found, free_count, Call, submitting, reading, stepping, Calls, IsRun}
use Rattle.flight_facts.specs.Prelude.{DeviceGoes, rests, submits, takes_end, gives_none}
use Rattle.flight_facts.proofs.Prelude.{device_goes}
use Rattle.run_facts.specs.Prelude.{IsKept}
use Rattle.crash_facts.specs.Store.{KeepsDurable}
use Rattle.log_replay.specs.Prelude.{Told, GoesOn, IsLater, FailsMount, SubmitsNothing}
use Rattle.mount_replay.specs.Mounting.{IsOpenedOn, LeftUnopened, IsReapedTo}
use Rattle.log_replay.specs.declared.opening.MountFail.{MountFail}
use Rattle.log_replay.specs.declared.opening.MountFail.TheVariants as fail
use Rattle.log_replay.proofs.ZeroLemmas.{told_start, goes_on_same}
use Rattle.log_replay.proofs.MadeLemmas.{told_join}
use Rattle.client_runs.specs.Prelude.{asks_of, at_position, IsNew, AreAsked, RunsUpTo}
use Rattle.client_runs.specs.declared.run_fail.RunFail.{RunFail}
use Rattle.client_runs.specs.declared.run_fail.RunFail.TheVariants as run
use Rattle.bstore_top.specs.Prelude.{FailsToMount, LeftByMount, HasCounted, end_of_mount, end_of_run, HaveWaited}
use Rattle.bstore_top.proofs.RunLaws.{clients_run, joined_run, legal_of, RanKept}
use Rattle.bstore_top.proofs.Demand.{found_within}
use Rattle.bstore_top.proofs.Room.{run_full}
use Rattle.bstore_top.proofs.Waits.{have_waited, ends_entries}

-- ---- mounting

pub mount_fails : (f : MountFail) (given : Disk) (before now : ℕ) → FailsMount f given before now → FailsToMount (end_of_mount f) given before now
mount_fails fail.Memory given before now fails = tt
mount_fails fail.NoSuper given before now fails = fails
mount_fails (fail.BadRow key) given before now fails = fails
mount_fails (fail.NotExact unit) given before now fails = fails
mount_fails (fail.WornOut value) given before now fails = (value, fails)
mount_fails fail.Fault given before now fails = fails

-- what a mount that failed leaves of the device
pub left_by_mount : (f : MountFail) (given disk : Disk) → (SubmitsNothing f → disk ≡ given) → LeftUnopened given disk → IsLater given disk
    → LeftByMount (end_of_mount f) given disk
left_by_mount fail.Memory given disk same writes later = (later, writes)
left_by_mount fail.NoSuper given disk same writes later = same tt
left_by_mount (fail.BadRow key) given disk same writes later = same tt
left_by_mount (fail.NotExact unit) given disk same writes later = same tt
left_by_mount (fail.WornOut value) given disk same writes later = same tt
left_by_mount fail.Fault given disk same writes later = (later, writes)

-- ---- the device along a run

-- the device has gone on
pub record WentOn (old new : Disk) : Type 0 where
  pub units : new.units ≡ old.units
  pub depth : new.depth ≡ old.depth
  pub told : Told GoesOn old.history new.history

goes_on_trans : (h k m : History) → GoesOn h k → GoesOn k m → GoesOn h m
goes_on_trans h k m first second = record {
  same_start = second.same_start ∙ first.same_start;
  events = first.events ++ second.events;
  more = second.more ∙ (ap (λ (l : List Event). l ++ second.events) first.more ∙ append_assoc h.log first.events second.events);
}

went_same : (d : Disk) → WentOn d d
went_same d = record { units = refl; depth = refl; told = told_start GoesOn d.history goes_on_same }

went_trans : (a b c : Disk) → WentOn a b → WentOn b c → WentOn a c
went_trans a b c first second = record {
  units = second.units ∙ first.units;
  depth = second.depth ∙ first.depth;
  told = told_join GoesOn GoesOn GoesOn a.history b.history c.history (λ h k m is_h is_k is_m p q. goes_on_trans h k m p q) first.told second.told;
}

told_grown : (h : Option History) (event : Event) → Told GoesOn h (history_after h event)
told_grown None event = tt
told_grown (Some h) event = record { same_start = refl; events = event ∷ []; more = refl }

went_equal : (d d' : Disk) → d' ≡ d → WentOn d d'
went_equal d d' same = subst (λ (z : Disk). WentOn d z) (sym same) (went_same d)

grown_by : (d e d' : Disk) (event : Event) → d' ≡ e → e.units ≡ d.units → e.depth ≡ d.depth → e.history ≡ history_after d.history event → WentOn d d'
grown_by d e d' event same units depth history =
    let told : Told GoesOn d.history e.history =
    subst (λ (h : Option History). Told GoesOn d.history h) (sym history) (told_grown d.history event) in
    subst (λ (z : Disk). WentOn d z) (sym same) (record { units = units; depth = depth; told = told })

device_goes_on : (d d' : Disk) → DeviceGoes d d' → WentOn d d'
device_goes_on d d' (rests same) = went_equal d d' same
device_goes_on d d' (submits ticket event sent) = grown_by d _ d' _ sent.after refl refl refl
device_goes_on d d' (takes_end ticket ok ended) = grown_by d _ d' _ ended.after refl refl refl
device_goes_on d d' (gives_none (inl none)) = went_equal d d' none.1
device_goes_on d d' (gives_none (inr waits)) = subst (λ (z : Disk). WentOn d z) (sym waits.2)
    (record { units = refl; depth = refl; told = told_start GoesOn d.history goes_on_same })

call_goes_on : (call : Call) (s : State) (d : Disk) (s' : State) (d' : Disk) → Calls call s d s' d' → WentOn d d'
call_goes_on (submitting client line change) s d s' d' calls = went_equal d d' calls.2
call_goes_on (reading client line read) s d s' d' calls = went_equal d d' calls.1
call_goes_on (stepping step) s d s' d' calls = device_goes_on d d' (device_goes step s d s' d' calls.1)

run_goes_on : (calls : List Call) (s : State) (d : Disk) (s' : State) (d' : Disk) → IsRun s d calls s' d' → WentOn d d'
run_goes_on [] s d s' d' run = went_equal d d' run.1
run_goes_on (call ∷ calls) s d s' d' run = went_trans d run.1.0 d' (call_goes_on call s d run.0 run.1.0 run.1.1.0)
    (run_goes_on calls run.0 run.1.0 s' d' run.1.1.1.1)

-- the device that comes back is a later state of the one that was given
later_of_run : (given start d' disk : Disk) (calls : List Call) (s s' : State) → IsLater given start → IsRun s start calls s' d' → IsLater d' disk
    → IsLater given disk
later_of_run given start d' disk calls s s' mounted run later =
    let from : WentOn given d' =
    went_trans given start d' (record { units = mounted.units; depth = mounted.depth; told = mounted.told }) (run_goes_on calls s start s' d' run) in
    record {
      sound = later.sound;
      units = later.units ∙ from.units;
      depth = later.depth ∙ from.depth;
      idle = later.idle;
      told = told_join GoesOn GoesOn GoesOn given.history d'.history disk.history (λ h k m is_h is_k is_m a b. goes_on_trans h k m a b) from.told
          later.told;
    }

-- ---- the opened kernel

-- what the opened kernel is
pub opened_up : (given : Disk) (f : Found) (space : Space) (start : Disk) (s : State) → IsOpenedOn given f space start s → s.down ≡ None
opened_up given f space start s mounted = ap (λ (z : State). z.down) mounted.state

-- nothing was asked of it yet
pub opened_new : (given : Disk) (f : Found) (space : Space) (start : Disk) (s : State) → IsOpenedOn given f space start s → IsNew s
opened_new given f space start s mounted = record {
  book = ap (λ (z : State). z.book) mounted.state;
  pending = ap (λ (z : State). z.pending) mounted.state;
  batch = ap (λ (z : State). z.batch) mounted.state;
}

-- ---- the run

-- what unmounting left
pub record IsClosed (s : State) (d : Disk) (book : Book) (disk : Disk) : Type 0 where
  pub closed : State
  pub reaped : IsReapedTo s d closed disk
  pub book_is : book ≡ closed.book
  pub same : book ≡ s.book

-- what is known of a kernel that was just mounted
pub record IsMountedOn (given : Disk) (f : Found) (space : Space) (start : Disk) (s : State) : Type 0 where
  pub mounted : IsOpenedOn given f space start s
  pub kept : IsKept s start
  pub durable : KeepsDurable s start

module _ (seed : ℕ) (scripts : List (List Line)) (given : Disk) (f : Found) (space : Space) (start : Disk) (s : State) (s' : State) (d' : Disk)
    (book : Book) (disk : Disk) (known : IsMountedOn given f space start s) (closed : IsClosed s' d' book disk) where
  runs_scripts : (fail : Option RunFail) → RunsUpTo fail seed scripts s start s' d'
      → RanKept seed scripts given (end_of_run fail (free_count s'.space)) book disk
  runs_scripts fail ran =
      let run = clients_run fail seed scripts s start s' d' ran in
      let whole : IsRun s start (run.0 ++ closed.reaped.calls) closed.closed disk =
      joined_run run.0 closed.reaped.calls s s' closed.closed start d' disk run.1 closed.reaped.run in
      let asked : AreAsked (map asks_of scripts) book.entries ran.reached.clients =
      subst (λ (b : Book). AreAsked (map asks_of scripts) b.entries ran.reached.clients) (sym closed.same) ran.asked in
      record {
        ran = record {
          found = f;
          space = space;
          start = start;
          first = s;
          mounted = known.mounted;
          fail = fail;
          last = s';
          left = d';
          ran = ran;
          ended = refl;
          closed = closed.closed;
          reaped = closed.reaped;
          book_is = closed.book_is;
          entries = asked;
          legal = legal_of given f space start s closed.closed disk (run.0 ++ closed.reaped.calls) book known.mounted known.kept whole closed.book_is;
          within = found_within scripts given f space start s closed.closed disk (run.0 ++ closed.reaped.calls) book ran.reached.clients known.mounted
              known.kept whole closed.book_is asked;
          drawn = ap (λ (b : Book). b.entries) closed.same ∙ ends_entries fail seed scripts s start s' d' ran;
          room = run_full (at_position seed (map asks_of scripts) s start) ran.leads.calls ran.reached ran.leads.run known.kept;
          waited = subst (HaveWaited scripts) (sym closed.same)
              (have_waited fail seed scripts s start s' d' ran (opened_new given f space start s known.mounted) known.kept);
        };
        kept = known.kept;
        durable = known.durable;
      }

  -- the scripts were run, whatever came of it
  pub works_mounted : (r : Result (Unit {0}) RunFail) (free : ℕ)
      → MatchResult r (λ _. RunsUpTo None seed scripts s start s' d') (λ e. RunsUpTo (Some e) seed scripts s start s' d') → free ≡ free_count s'.space
      → RanKept seed scripts given (end_of_run (result_err r) free) book disk
  works_mounted r free ran free_is =
      subst (λ (n : ℕ). RanKept seed scripts given (end_of_run (result_err r) n) book disk) (sym free_is) (runs_scripts (result_err r) (by r ran))
    where
      by : (r : Result (Unit {0}) RunFail)
          → MatchResult r (λ _. RunsUpTo None seed scripts s start s' d') (λ e. RunsUpTo (Some e) seed scripts s start s' d')
          → RunsUpTo (result_err r) seed scripts s start s' d'
      by (Ok u) ran = ran
      by (Err e) ran = ran

-- a fault of the run is counted, at a submission and at a read
pub run_counted : (r : Result (Unit {0}) RunFail) (free before a b now : ℕ) → (r ≡ Err run.Fault → Rose a b) → (r ≡ Err run.DeviceRead → Rose a b)
    → before ≤ a → b ≤ now → HasCounted (end_of_run (result_err r) free) before now
run_counted (Ok u) free before a b now cause read_cause first last = tt
run_counted (Err run.Memory) free before a b now cause read_cause first last = tt
run_counted (Err run.Fault) free before a b now cause read_cause first last = omega (arith, cause refl, first, last)
run_counted (Err run.DeviceRead) free before a b now cause read_cause first last = omega (arith, read_cause refl, first, last)

-- the run began where the store was opened
pub later_ran : (r : Result (Unit {0}) RunFail) (seed : ℕ) (scripts : List (List Line)) (given : Disk) (s : State) (start : Disk) (s' : State)
    (d' disk : Disk) → MatchResult r (λ _. RunsUpTo None seed scripts s start s' d') (λ e. RunsUpTo (Some e) seed scripts s start s' d')
    → IsLater given start → IsLater d' disk → IsLater given disk
later_ran (Ok u) seed scripts given s start s' d' disk ran mounted later =
    let run = clients_run None seed scripts s start s' d' ran in
    later_of_run given start d' disk run.0 s s' mounted run.1 later
later_ran (Err e) seed scripts given s start s' d' disk ran mounted later =
    let run = clients_run (Some e) seed scripts s start s' d' ran in
    later_of_run given start d' disk run.0 s s' mounted run.1 later
