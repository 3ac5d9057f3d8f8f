-- What a run of `dump` has shown, that one that nothing stands against ends well, and what a run leaves.
use Rattle.std.proofs.Common.{◌≡◌, ◌⊎◌, inl, inr, ℕ, Bool, false, ◌||◌, List, [], ◌∷◌, Option, Some, None, Result, Ok, refl, sym, ap}
use Rattle.std.proofs.Common.{subst, ◌∙◌, arith}
use Rattle.std.specs.Prelude.{IfSome}
use Rattle.std.specs.List.{AllByRecursion, list_any}
use Rattle.std.specs.FinMap as finite
use Rattle.unit_fields.specs.declared.width.Width.{Width}
use Rattle.block_device.specs.Prelude.{Disk, History, IsSound, IsFresh, Rose}
use Rattle.end_points.specs.Bay.{Names, BayView, HandedOut, StartsWith, start_of}
use Rattle.end_points.specs.declared.bay.How.TheVariants.{Plain}
use Rattle.meta_rows.specs.Prelude.{Rows}
use Rattle.object_model.specs.Prelude.{Objects}
use Rattle.object_model.specs.declared.book.Book.{Book}
use Rattle.meta_log.specs.Prelude.{width_of}
use Rattle.store_image.specs.Prelude.{StandsFor}
use Rattle.read_facts.specs.declared.view.BadSum.{BadSum}
use Rattle.read_facts.specs.declared.view.CollView.{CollView}
use Rattle.read_facts.specs.declared.view.ObjectView.{ObjectView}
use Rattle.read_facts.specs.Prelude.{HasGoodViews, IsGoodView, views_of}
use Rattle.command_words.specs.declared.command_line.CommandLine.TheVariants.{Dump}
use Rattle.run_texts.specs.declared.work_end.WorkEnd.{WorkEnd}
use Rattle.run_texts.specs.declared.work_end.WorkEnd.TheVariants.{Done, BadLine, NoSuper, BadRow, NotExact, WornOut}
use Rattle.run_texts.specs.declared.work_end.WorkEnd.TheVariants.{DeviceFault, OutOfMemory, BayFault, SinkFault}
use Rattle.client_runs.specs.Prelude.{empty_book}
use Rattle.bstore_top.specs.Prelude.{Walked, DumpsOn, Shows, ShowsObjects, FailsUnopened, DumpsOpened, IsDumpDone, RanDump, Dumped, IsGoodStore, HasNoFault, IsDurableFrom, StaysDurable, EachCrashLeavesPrefix, Seen, seen, HasCounted}
use Rattle.run_texts.specs.Prelude.{is_bad, has_bad_view, dump_text, dump_number, Output, TookAll, FailedToPrint, ReportsDump}
use Rattle.bstore_top.proofs.RunLaws.{printed_well, EndsWell, ends_well}
use Rattle.bstore_top.proofs.GoodStarts.{EndsInOrder, told_start, unmounted_ends, reported, in_order}

-- ---- good views

-- a good view is of no bad unit
good_sum : (sum : Result ℕ BadSum) (crc : ℕ) → sum ≡ Ok crc → is_bad sum ≡ false
good_sum sum crc is = ap is_bad is

-- nor are good views of the objects of a collection
good_objects : (views : List ObjectView) → AllByRecursion IsGoodView views → list_any (λ v. is_bad v.sum) views ≡ false
good_objects [] good = refl
good_objects (v ∷ vs) good =
    ap (λ (b : Bool). b || list_any (λ v. is_bad v.sum) vs) (good_sum v.sum good.0.0 good.0.1) ∙ good_objects vs good.1

-- nor are those of a walk
pub good_views : (colls : List CollView) → AllByRecursion HasGoodViews colls → has_bad_view colls ≡ false
good_views [] good = refl
good_views (v ∷ vs) good =
    ap (λ (b : Bool). b || has_bad_view vs) (good_objects v.objects good.0) ∙ good_views vs good.1

-- ---- a run that returns 0

-- what was seen of the device that the bay gave is all of what the bay has under its name
shown_under : (dev : List ℕ) (free : ℕ) (colls : List CollView) (given : Disk) (names : Option Names)
    → ((h : History) (objects : Objects) → given.history ≡ Some h → StandsFor h.start objects → Shows (Done free) objects colls)
    → IfSome names (λ n. StartsWith given (start_of n dev Plain))
    → IfSome names (λ n. (contents : List ℕ) (objects : Objects) → finite.get n.devices dev ≡ Some contents → StandsFor contents objects
    → colls ≡ views_of objects)
shown_under dev free colls given None shows begins = tt
shown_under dev free colls given (Some n) shows begins = λ contents objects is stands.
    (shows (record { start = contents; log = [] }) objects (subst (StartsWith given) is begins) stands).0

module _ (dev : List ℕ) (free : ℕ) (colls : List CollView) (seen : Seen) (bay_old bay_new : BayView) (before now : ℕ) (old new : Output)
    (printed : TookAll (dump_text colls (Done free)) old new) where
  walked_well : (e : DumpsOpened dev (Done free) colls seen bay_old bay_new) → DumpsOn e.given 0 (Done free) colls e.disk e.faults
      → Dumped dev seen bay_old old new
  walked_well e (inl failed) = absurd failed.0
  walked_well e (inr walked) = record {
    colls = colls;
    free = free;
    printed = printed;
    given = e.given;
    disk = e.disk;
    is_disk = e.is_disk;
    walked = walked.1;
    shown = shown_under dev free colls e.given bay_old.names e.shows e.handed_out.contents;
  }

  -- a run with this end has mounted the store
  dumped_well : IsDumpDone dev (Done free) colls seen bay_old bay_new before now → Dumped dev seen bay_old old new
  dumped_well (inl e) = absurd e.cause
  dumped_well (inr e) = walked_well e e.dumps

-- a run that returns 0 has shown all
pub dump_shows : (dev : List ℕ) (seen : Seen) (bay_old bay_new : BayView) (before now : ℕ) (old new : Output)
    → RanDump dev 0 seen bay_old bay_new before now old new → Dumped dev seen bay_old old new
dump_shows dev seen bay_old bay_new before now old new ran =
    let took = printed_well (dump_number ran.colls ran.end) (dump_text ran.colls ran.end) old new ran.printed in
    let well : EndsWell (has_bad_view ran.colls) ran.end = ends_well (has_bad_view ran.colls) ran.end took.0 in
    dumped_well dev well.free ran.colls seen bay_old bay_new before now old new
    (subst (λ (e : WorkEnd). TookAll (dump_text ran.colls e) old new) well.is took.1)
    (subst (λ (e : WorkEnd). IsDumpDone dev e ran.colls seen bay_old bay_new before now) well.is ran.course)

-- ---- a run that nothing stands against

-- where the walk shows what objects have, it shows no bad unit
shows_good : (end : WorkEnd) (objects : Objects) (colls : List CollView) → Shows end objects colls → AllByRecursion HasGoodViews colls
shows_good (Done free) objects colls shows = shows.1
shows_good (BadLine script n) objects colls shows = shows
shows_good NoSuper objects colls shows = shows
shows_good (BadRow key) objects colls shows = shows
shows_good (NotExact unit) objects colls shows = shows
shows_good WornOut objects colls shows = shows
shows_good DeviceFault objects colls shows = shows
shows_good OutOfMemory objects colls shows = shows
shows_good BayFault objects colls shows = shows
shows_good SinkFault objects colls shows = shows

-- a walk over a store, with no fault, has come to its end or was stopped for want of memory
walk_ends : (w : Width) (end : WorkEnd) (d : Disk) (rows : Rows) (colls : List CollView) (now : ℕ) → now ≡ 0 → ¬ (end ≡ SinkFault)
    → HasCounted end 0 now → Walked w end d rows colls
    → EndsInOrder end
walk_ends w (Done free) d rows colls now none uncut counted walked = inl refl
walk_ends w (BadLine script n) d rows colls now none uncut counted walked = absurd walked
walk_ends w NoSuper d rows colls now none uncut counted walked = absurd walked
walk_ends w (BadRow key) d rows colls now none uncut counted walked = absurd walked
walk_ends w (NotExact unit) d rows colls now none uncut counted walked = absurd walked
walk_ends w WornOut d rows colls now none uncut counted walked = absurd walked
walk_ends w DeviceFault d rows colls now none uncut counted walked = absurd (omega (arith, counted, none))
walk_ends w OutOfMemory d rows colls now none uncut counted walked = inr refl
walk_ends w BayFault d rows colls now none uncut counted walked = absurd walked
walk_ends w SinkFault d rows colls now none uncut counted walked = absurd (uncut refl)

-- so was a run that opened no device
pub unopened_ends : (end : WorkEnd) (before now : ℕ) → ¬ Rose before now → FailsUnopened end before now → EndsInOrder end
unopened_ends (Done free) before now same fails = absurd fails
unopened_ends (BadLine script n) before now same fails = absurd fails
unopened_ends NoSuper before now same fails = absurd fails
unopened_ends (BadRow key) before now same fails = absurd fails
unopened_ends (NotExact unit) before now same fails = absurd fails
unopened_ends WornOut before now same fails = absurd fails
unopened_ends DeviceFault before now same fails = absurd fails
unopened_ends OutOfMemory before now same fails = inr refl
unopened_ends BayFault before now same fails = absurd (same fails)
unopened_ends SinkFault before now same fails = absurd fails

module _ (dev : List ℕ) (bay : BayView) (start : IsGoodStore dev bay) (end : WorkEnd) (colls : List CollView) (seen : Seen) (bay_new : BayView)
    (before now : ℕ) (old new : Output) (none : HasNoFault seen before now old new) (uncut : ¬ (end ≡ SinkFault)) where
  opened_ends : (e : DumpsOpened dev end colls seen bay bay_new) → EndsInOrder end
  opened_ends e = elim e.dumps [
    | inl failed ↦ unmounted_ends dev start.names start.store end e.given e.faults no_fault told failed.0
    | inr walked ↦ walk_ends (width_of walked.1.found.sup) end e.disk walked.1.found.rows colls e.faults no_fault uncut walked.0
        walked.1.walked
  ]
    where
      no_fault : e.faults ≡ 0
      no_fault = subst (λ (o : Option ℕ). IfSome o (λ n. n ≡ 0)) e.are_faults none.device

      told : e.given.history ≡ Some (record { start = start.store.contents; log = [] })
      told = told_start dev start.names start.store bay e.given start.told e.handed_out.contents

  -- no bad unit was seen, and the end is in order
  dump_ends : IsDumpDone dev end colls seen bay bay_new before now → (has_bad_view colls ≡ false) × EndsInOrder end
  dump_ends (inl e) = (ap has_bad_view e.nothing, unopened_ends end before now none.bay e.cause)
  dump_ends (inr e) = (
    good_views colls (shows_good end start.store.objects colls (e.shows (record { start = start.store.contents; log = [] }) start.store.objects
        (told_start dev start.names start.store bay e.given start.told e.handed_out.contents) start.store.stands)),
    opened_ends e,
  )

-- a good start ends well, or for want of memory
pub good_dump : (dev : List ℕ) (status : ℕ) (seen : Seen) (bay_old bay_new : BayView) (before now : ℕ) (old new : Output)
    → RanDump dev status seen bay_old bay_new before now old new → IsGoodStore dev bay_old → HasNoFault seen before now old new
    → (status ≡ 0) ⊎ (status ≡ 5)
good_dump dev status seen bay_old bay_new before now old new ran start none =
    let uncut : ¬ (ran.end ≡ SinkFault) = λ is. none.sink (ran.cut is).1.rose in
    let course = dump_ends dev bay_old start ran.end ran.colls seen bay_new before now old new none uncut ran.course in
    reported (dump_number ran.colls ran.end) (dump_text ran.colls ran.end) status old new none.sink
    (in_order (has_bad_view ran.colls) ran.end course.0 course.1) ran.printed

-- ---- the device that comes back, and the outcome

-- the device that a bay gave began with what the bay has under its name
opened_durable : (dev : List ℕ) (end : WorkEnd) (colls : List CollView) (seen : Seen) (old new : BayView) (e : DumpsOpened dev end colls seen old new)
    → EachCrashLeavesPrefix (Dump dev) old (Some e.disk) empty_book
opened_durable dev end colls seen old new e = of_names old.names e.handed_out.contents
  where
    of_names : (names : Option Names) → IfSome names (λ n. StartsWith e.given (finite.get n.devices dev))
        → IfSome names (λ n. (contents : List ℕ) (objects : Objects) → finite.get n.devices dev ≡ Some contents → StandsFor contents objects
        → IsDurableFrom contents objects empty_book e.disk)
    of_names None begins = tt
    of_names (Some n) begins = λ contents objects is stands.
        e.durable (record { start = contents; log = [] }) objects (subst (StartsWith e.given) is begins) stands

-- each crash since leaves what its contents stood for
dump_durable : (dev : List ℕ) (end : WorkEnd) (colls : List CollView) (seen : Seen) (old new : BayView) (before now : ℕ)
    → IsDumpDone dev end colls seen old new before now → EachCrashLeavesPrefix (Dump dev) old seen.disk empty_book
dump_durable dev end colls seen old new before now (inl e) =
    subst (λ (d : Option Disk). EachCrashLeavesPrefix (Dump dev) old d empty_book) (sym e.no_disk) tt
dump_durable dev end colls seen old new before now (inr e) =
    subst (λ (d : Option Disk). EachCrashLeavesPrefix (Dump dev) old d empty_book) (sym e.is_disk) (opened_durable dev end colls seen old new e)

-- the outcome has no source and no book
module _ (dev : List ℕ) (end : WorkEnd) (colls : List CollView) (disk : Option Disk) (faults : Option ℕ) (source_faults : List ℕ) (book : Book)
    (bay_old bay_new : BayView) (before now : ℕ) (none : source_faults ≡ []) (empty : book ≡ empty_book)
    (done : IsDumpDone dev end colls (seen disk faults [] empty_book) bay_old bay_new before now) where
  pub ran_dump : (status : ℕ) (old new : Output) → ReportsDump colls end status old new
      → (end ≡ SinkFault → FailedToPrint (dump_text colls end) status old new)
      → RanDump dev status (seen disk faults source_faults book) bay_old bay_new before now old new
  ran_dump status old new printed cut = record {
    end = end;
    colls = colls;
    no_book = empty;
    no_source = none;
    course = subst (λ (l : List ℕ). IsDumpDone dev end colls (seen disk faults l book) bay_old bay_new before now) (sym none)
        (subst (λ (b : Book). IsDumpDone dev end colls (seen disk faults [] b) bay_old bay_new before now) (sym empty) done);
    printed = printed;
    cut = cut;
  }

  -- so it is of the device and the book of the outcome
  pub outcome_durable : EachCrashLeavesPrefix (Dump dev) bay_old disk book
  outcome_durable =
      subst (EachCrashLeavesPrefix (Dump dev) bay_old disk) (sym empty)
      (dump_durable dev end colls (seen disk faults [] empty_book) bay_old bay_new before now done)

-- a run for which the bay gave a device
pub dump_opened : (dev : List ℕ) (end : WorkEnd) (colls : List CollView) (given disk : Disk) (first faults : ℕ) (old new : BayView) (before now : ℕ)
    → HandedOut old dev Plain given first new → IsSound given → DumpsOn given first end colls disk faults
    → (IsSound given → IsFresh given → ShowsObjects given end colls) → (IsSound given → IsFresh given → StaysDurable given empty_book disk)
    → IsDumpDone dev end colls (seen (Some disk) (Some faults) [] empty_book) old new before now
dump_opened dev end colls given disk first faults old new before now handed sound dumps shows durable = inr (record {
  given = given;
  handed_out = subst (λ (n : ℕ). HandedOut old dev Plain given n new) handed.no_faults handed;
  sound = sound;
  disk = disk;
  is_disk = refl;
  faults = faults;
  are_faults = refl;
  dumps = subst (λ (n : ℕ). DumpsOn given n end colls disk faults) handed.no_faults dumps;
  shows = shows sound handed.fresh;
  durable = durable sound handed.fresh;
})
