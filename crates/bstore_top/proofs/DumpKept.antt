-- A walk over a mounted store leaves the device as the mount left it, and shows what the contents stood for.
use Rattle.std.proofs.Common.{◌≡◌, ℕ, ◌≤◌, Bool, true, false, List, [], length, Option, Some, None, unwrap_or, Result, Ok, Err, refl, sym, ap, subst, ◌∙◌, arith}
use Rattle.std.specs.Prelude.{IfErr}
use Rattle.std.specs.List.{AllByRecursion}
use Rattle.unit_fields.specs.declared.width.Width.{Width}
use Rattle.block_device.specs.Prelude.{last, HasNoBadDone, last_at, Disk, History, IsFresh, Rose}
use Rattle.block_device.specs.declared.event.Event.{Event}
use Rattle.meta_rows.specs.Prelude.{Rows}
use Rattle.object_model.specs.Prelude.{Objects, replay, accepted}
use Rattle.meta_log.specs.Prelude.{width_of}
use Rattle.store_image.specs.Prelude.{NoBadRow, HasPage, ObjectsStand, StandsFor, EachCutStands}
use Rattle.read_facts.specs.declared.view.CollView.{CollView}
use Rattle.read_facts.specs.Prelude.{WalksTo, WalksAll, HasGoodViews, views_of, IsHeldAt, no_memory}
use Rattle.read_facts.proofs.Viewed.{walk_is, walk_good}
use Rattle.unit_allocator.specs.Prelude.{Space}
use Rattle.store_steps.specs.Prelude.{State, Found, opened, is_drained, memory_of}
use Rattle.run_facts.specs.Prelude.{IsKept}
use Rattle.crash_facts.specs.Store.{KnownOfStore, IsDurable, KeepsDurable}
use Rattle.crash_facts.proofs.Submitted.{submitted_stand, unread_good}
use Rattle.store_kernel.specs.declared.unanswered.WalkFail.{WalkFail}
use Rattle.store_kernel.specs.declared.unanswered.WalkFail.TheVariants as walk
use Rattle.log_replay.specs.Prelude.{IsLater}
use Rattle.mount_replay.specs.Mounting as mounting
use Rattle.mount_replay.specs.Mounting.{IsOpenedOn, IsReapedTo}
use Rattle.run_texts.specs.declared.work_end.WorkEnd.{WorkEnd}
use Rattle.run_texts.specs.declared.work_end.WorkEnd.TheVariants.{Done, BadLine, NoSuper, BadRow, NotExact, WornOut}
use Rattle.run_texts.specs.declared.work_end.WorkEnd.TheVariants.{DeviceFault, OutOfMemory, BayFault, SinkFault}
use Rattle.client_runs.specs.Prelude.{empty_book}
use Rattle.bstore_top.specs.Prelude.{IsOfUp, end_of_walk, AtEnd, Walked, WalksStore, Shows, ShowsObjects, StaysDurable, FailsToMount, HasCounted}
use Rattle.bstore_top.proofs.RunLaws.{log_empty, clean_of_none, start_durable, no_reap}

-- ---- a device on which nothing was mounted

-- a device that the mount left durable is so from what it was given with
pub stays_durable : (given disk : Disk) → IsFresh given → mounting.MountStaysDurable given disk → StaysDurable given empty_book disk
stays_durable given disk fresh stays h objects told stands =
    let none : h.log ≡ [] = log_empty given h fresh told in
    let still : mounting.StandsStill h objects disk =
    stays h objects told (clean_of_none h.log none) (subst (λ (l : List Event). StandsFor (last h.start l) objects) (sym none) stands) in
    record {
      history = still.history;
      told = still.told;
      started = still.goes_on.same_start;
      by_now = tt;
      cuts = subst (λ (n : ℕ). EachCutStands n still.history objects empty_book) (ap (λ (l : List Event). length l) none) still.cuts;
    }

-- nothing was seen, so no bad unit was
shows_none : (end : WorkEnd) (given : Disk) (before now : ℕ) (objects : Objects) → FailsToMount end given before now → Shows end objects []
shows_none (Done free) given before now objects fails = absurd fails
shows_none (BadLine script n) given before now objects fails = tt
shows_none NoSuper given before now objects fails = tt
shows_none (BadRow key) given before now objects fails = tt
shows_none (NotExact unit) given before now objects fails = tt
shows_none WornOut given before now objects fails = tt
shows_none DeviceFault given before now objects fails = tt
shows_none OutOfMemory given before now objects fails = tt
shows_none BayFault given before now objects fails = tt
shows_none SinkFault given before now objects fails = tt

-- so it is of a device on which nothing was mounted
pub unmounted_shows : (end : WorkEnd) (given : Disk) (before now : ℕ) (colls : List CollView) → FailsToMount end given before now → colls ≡ []
    → ShowsObjects given end colls
unmounted_shows end given before now colls fails none h objects told stands =
    subst (Shows end objects) (sym none) (shows_none end given before now objects fails)

-- ---- how a walk ended

-- a walk of a kernel that is up has come to its end, or to where it or the sink failed
walked_as : (w : Width) (r : Result (Unit {0}) WalkFail) (failed : Bool) (free : ℕ) (d : Disk) (rows : Rows) (colls : List CollView)
    → IfErr r IsOfUp → WalksTo w no_memory (IsHeldAt d) rows colls
    → AtEnd r failed (WalksAll w no_memory (IsHeldAt d) rows colls) → Walked w (end_of_walk r failed free) d rows colls
walked_as w (Ok u) true free d rows colls up so_far all = so_far
walked_as w (Ok u) false free d rows colls up so_far all = all refl
walked_as w (Err walk.Memory) failed free d rows colls up so_far all = so_far
walked_as w (Err walk.DeviceRead) failed free d rows colls up so_far all = so_far
walked_as w (Err (walk.Down ticket)) failed free d rows colls up so_far all = absurd up

-- the sink alone ends a walk so
pub cut_by_sink : (r : Result (Unit {0}) WalkFail) (failed : Bool) (free : ℕ) → end_of_walk r failed free ≡ SinkFault → failed ≡ true
cut_by_sink (Ok u) true free is = refl
cut_by_sink (Ok u) false free is = absurd cc
cut_by_sink (Err walk.Memory) failed free is = absurd cc
cut_by_sink (Err walk.DeviceRead) failed free is = absurd cc
cut_by_sink (Err (walk.Down ticket)) failed free is = absurd cc

-- a read that failed is counted
pub walk_counted : (r : Result (Unit {0}) WalkFail) (failed : Bool) (free before a b now : ℕ) → IfErr r IsOfUp
    → (r ≡ Err walk.DeviceRead → Rose a b) → before ≤ a → b ≤ now → HasCounted (end_of_walk r failed free) before now
walk_counted (Ok u) true free before a b now up cause first last = tt
walk_counted (Ok u) false free before a b now up cause first last = tt
walk_counted (Err walk.Memory) failed free before a b now up cause first last = tt
walk_counted (Err walk.DeviceRead) failed free before a b now up cause first last = omega (arith, cause refl, first, last)
walk_counted (Err (walk.Down ticket)) failed free before a b now up cause first last = absurd up

-- ---- a mounted store

-- a kernel that was just opened has nothing to do
drained_open : (depth : ℕ) (f : Found) (space : Space) (next events : ℕ) → is_drained depth (opened f space next events) ≡ true
drained_open depth f space next events = refl

module _ (given : Disk) (f : Found) (space : Space) (start : Disk) (s : State) (mounted : IsOpenedOn given f space start s) where
  pub opened_drained : is_drained start.depth s ≡ true
  opened_drained = ap (λ (z : State). is_drained start.depth z) mounted.state ∙ drained_open start.depth f space mounted.next mounted.events

  -- nothing of it is in memory
  pub opened_empty : memory_of s ≡ no_memory
  opened_empty = ap memory_of mounted.state

  -- nor is it down
  pub opened_is_up : s.down ≡ None
  opened_is_up = ap (λ (z : State). z.down) mounted.state

  -- its rows are those that were found
  rows_are : s.submitted ≡ f.rows
  rows_are = ap (λ (z : State). z.submitted) mounted.state

  -- unmounting it takes no end, so the device stays as the mount left it
  module _ (s' : State) (d' disk : Disk) (closed : State) (same : s' ≡ s) (device : d' ≡ start) (reaped : IsReapedTo s' d' closed disk) where
    pub device_same : disk ≡ start
    device_same =
        let drained : is_drained d'.depth s' ≡ true =
        ap (λ (z : State). is_drained d'.depth z) same ∙ (ap (λ (x : Disk). is_drained x.depth s) device ∙ opened_drained) in
        (no_reap reaped.calls s' closed d' disk drained reaped.reaps reaped.run).1 ∙ device

    -- so it is a later state of the one that was given
    pub later_unmounted : IsLater given disk
    later_unmounted = subst (IsLater given) (sym device_same) mounted.later

    -- and durable from there
    pub durable_unmounted : IsFresh given → mounting.MountStaysDurable given start → StaysDurable given empty_book disk
    durable_unmounted fresh stays = subst (StaysDurable given empty_book) (sym device_same) (stays_durable given start fresh stays)

    -- what came of the walk
    pub store_walked : (r : Result (Unit {0}) WalkFail) (failed : Bool) (free : ℕ) (colls : List CollView) → IfErr r IsOfUp
        → WalksTo (width_of s'.log.sup) no_memory (IsHeldAt start) s.submitted colls
        → AtEnd r failed (WalksAll (width_of s'.log.sup) no_memory (IsHeldAt start) s.submitted colls)
        → WalksStore given (end_of_walk r failed free) colls disk
    store_walked r failed free colls up so_far all = record {
      found = f;
      space = space;
      first = s;
      mounted = subst (λ (x : Disk). IsOpenedOn given f space x s) (sym device_same) mounted;
      walked = subst (λ (x : Disk). Walked (width_of s'.log.sup) (end_of_walk r failed free) x f.rows colls) (sym device_same)
          (subst (λ (rows : Rows). Walked (width_of s'.log.sup) (end_of_walk r failed free) start rows colls) rows_are
          (walked_as (width_of s'.log.sup) r failed free start s.submitted colls up so_far all));
    }

  -- ---- what it shows

  module _ (kept : IsKept s start) (keeps : KeepsDurable s start) (fresh : IsFresh given) (h : History) (objects : Objects)
      (told : given.history ≡ Some h) (stands : StandsFor h.start objects) where
    durable : IsDurable 0 objects s start
    durable = start_durable given h fresh told f space start s objects mounted keeps stands

    -- what is known of a store that is up
    known : KnownOfStore 0 objects s start durable.history
    known = durable.up opened_is_up

    -- no transaction was accepted
    none_accepted : replay objects (accepted s.book.entries) ≡ objects
    none_accepted = ap (λ (z : State). replay objects (accepted z.book.entries)) mounted.state

    -- the rows and the units stand for the objects
    stand : ObjectsStand (width_of s.log.sup) (last_at durable.history) s.submitted objects
    stand = subst (ObjectsStand (width_of s.log.sup) (last_at durable.history) s.submitted) none_accepted
        (subst (λ (m : ℕ → Option (List ℕ)). ObjectsStand (width_of s.log.sup) (λ unit. unwrap_or (m unit) (last_at durable.history unit)) s.submitted
        (replay objects (accepted s.book.entries))) opened_empty (submitted_stand 0 objects s start durable.history kept opened_is_up known))

    -- no write of a unit with a page ended badly
    answered : (unit : ℕ) → HasPage (width_of s.log.sup) s.submitted unit → no_memory unit ≡ None → HasNoBadDone durable.history.log unit
    answered unit has none = unread_good 0 objects s start durable.history kept opened_is_up known unit has
        (ap (λ (m : ℕ → Option (List ℕ)). m unit) opened_empty)

    -- no row is bad
    good_rows : NoBadRow f.sup s.submitted
    good_rows = subst (NoBadRow f.sup) (sym rows_are) mounted.openable.good.good

    -- a walk to the end shows just these objects
    shows_all : (colls : List CollView) → WalksAll (width_of s.log.sup) no_memory (IsHeldAt start) s.submitted colls → colls ≡ views_of objects
    shows_all colls all = walk_is (width_of s.log.sup) no_memory start durable.history durable.told s.submitted answered (last_at durable.history)
        (λ unit. refl) objects stand f.sup good_rows colls all

    -- and no walk shows a bad unit
    shows_good : (colls : List CollView) → WalksTo (width_of s.log.sup) no_memory (IsHeldAt start) s.submitted colls
        → AllByRecursion HasGoodViews colls
    shows_good colls so_far = walk_good (width_of s.log.sup) no_memory start durable.history durable.told s.submitted answered (last_at durable.history)
        (λ unit. refl) objects stand colls so_far

    -- so it is of the walk, whatever its end
    pub walk_shows : (r : Result (Unit {0}) WalkFail) (failed : Bool) (free : ℕ) (colls : List CollView)
        → WalksTo (width_of s.log.sup) no_memory (IsHeldAt start) s.submitted colls
        → AtEnd r failed (WalksAll (width_of s.log.sup) no_memory (IsHeldAt start) s.submitted colls)
        → Shows (end_of_walk r failed free) objects colls
    walk_shows (Ok u) true free colls so_far all = shows_good colls so_far
    walk_shows (Ok u) false free colls so_far all = (shows_all colls (all refl), shows_good colls so_far)
    walk_shows (Err walk.Memory) failed free colls so_far all = shows_good colls so_far
    walk_shows (Err walk.DeviceRead) failed free colls so_far all = shows_good colls so_far
    walk_shows (Err (walk.Down ticket)) failed free colls so_far all = shows_good colls so_far
