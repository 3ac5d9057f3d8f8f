-- What a run leaves of its store: the facts on the kernel's runs, in the words of the whole run.
use Rattle.std.proofs.Common.{◌≡◌, ℕ, List, [], length, Option, Some, None, refl, sym, ap, subst, inl, inr, arith}
use Rattle.std.specs.Prelude.{IfSome}
use Rattle.std.specs.FinMap as finite
use Rattle.block_device.specs.Prelude.{last, Disk, IsFresh}
use Rattle.block_device.specs.declared.event.Event.{Event}
use Rattle.end_points.specs.Bay.{BayView, Names, StartsWith}
use Rattle.object_model.specs.Prelude.{IsLegal, Objects}
use Rattle.object_model.specs.declared.book.Book.{Book}
use Rattle.object_model.proofs.Books.{IsLegal-empty}
use Rattle.store_image.specs.Prelude.{StandsFor, EachCutStands}
use Rattle.log_replay.specs.Prelude.{IsLater, FailsMount}
use Rattle.crash_facts.specs.Store.{IsDurable}
use Rattle.mount_replay.specs.Mounting as mounting
use Rattle.log_replay.specs.declared.opening.MountFail.{MountFail}
use Rattle.script_text.specs.declared.line.Line.{Line}
use Rattle.command_words.specs.declared.command_line.CommandLine.TheVariants.{Step}
use Rattle.run_texts.specs.declared.work_end.WorkEnd.{WorkEnd}
use Rattle.run_texts.specs.Prelude.{has_csum}
use Rattle.client_runs.specs.Prelude.{empty_book}
use Rattle.bstore_top.specs.Prelude.{AreAckedWithin, IsDurableFrom, StaysDurable, KeepsStore, EachCrashLeavesPrefix, Seen, FailsToMount, EndsOpened, IsStepDone, end_of_mount}
use Rattle.bstore_top.proofs.WorkLemmas.{mount_fails}
use Rattle.bstore_top.proofs.RunLaws.{log_empty, clean_of_none, same_start, RanKept, run_legal, run_no_csum, run_durable_to, run_finished, run_complete}

-- why nothing was mounted, as the end of the run
pub mount_failed : (why : MountFail) (end : WorkEnd) (given : Disk) (before now : ℕ) → end ≡ end_of_mount why → FailsMount why given before now
    → FailsToMount end given before now
mount_failed why end given before now is cause = subst (λ (e : WorkEnd). FailsToMount e given before now) (sym is)
    (mount_fails why given before now cause)

-- ---- a device on which nothing was mounted

pub failed_keeps : (given disk : Disk) (end : WorkEnd) (book : Book) (before now : ℕ) → IsFresh given → FailsToMount end given before now
    → book ≡ empty_book → mounting.MountStaysDurable given disk → KeepsStore given end book disk
failed_keeps given disk end book before now fresh cause no_book stays = record {
  legal = λ h objects told stands. subst (IsLegal objects) (sym no_book) (IsLegal-empty objects [] [] refl refl);
  no_csum = λ h objects told stands. ap (λ (b : Book). has_csum b.entries) no_book;
  durable = durable;
  at_end = λ free h objects is told stands. absurd (subst (λ (e : WorkEnd). FailsToMount e given before now) is cause);
  complete = λ free is. absurd (subst (λ (e : WorkEnd). FailsToMount e given before now) is cause);
}
  where
    durable : StaysDurable given book disk
    durable h objects told stands =
        let none : h.log ≡ [] = log_empty given h fresh told in
        let still : mounting.StandsStill h objects disk =
        stays h objects told (clean_of_none h.log none) (subst (λ (l : List Event). StandsFor (last h.start l) objects) (sym none) stands) in
        record {
          history = still.history;
          told = still.told;
          started = still.goes_on.same_start;
          by_now = subst (λ (b : Book). AreAckedWithin (length still.history.log) b.commits) (sym no_book) tt;
          cuts = subst (λ (b : Book). EachCutStands 0 still.history objects b) (sym no_book)
              (subst (λ (n : ℕ). EachCutStands n still.history objects empty_book) (ap (λ (l : List Event). length l) none) still.cuts);
        }

-- ---- a device on which the scripts were run

pub ran_keeps : (seed : ℕ) (scripts : List (List Line)) (given disk : Disk) (end : WorkEnd) (book : Book) → IsFresh given → IsLater given disk
    → RanKept seed scripts given end book disk → KeepsStore given end book disk
ran_keeps seed scripts given disk end book fresh later all = record {
  legal = λ h objects told stands. run_legal seed scripts given disk end book all h objects fresh told stands;
  no_csum = λ h objects told stands. run_no_csum seed scripts given disk end book all h objects fresh told stands;
  durable = durable;
  at_end = λ free h objects is told stands.
      run_finished seed free scripts given disk book (subst (λ (e : WorkEnd). RanKept seed scripts given e book disk) is all) h objects fresh told stands;
  complete = λ free is. run_complete seed free scripts given disk book (subst (λ (e : WorkEnd). RanKept seed scripts given e book disk) is all);
}
  where
    durable : StaysDurable given book disk
    durable h objects told stands =
        let after : IsDurable 0 objects all.ran.closed disk = run_durable_to seed scripts given disk end book all h objects fresh told stands in
        record {
          history = after.history;
          told = after.told;
          started = same_start h after.history given.history disk.history told after.told later.told;
          by_now = subst (λ (b : Book). AreAckedWithin (length after.history.log) b.commits) (sym all.ran.book_is)
              (subst (λ (n : ℕ). AreAckedWithin n all.ran.closed.book.commits) {x = all.ran.closed.events} (omega (arith, after.counted))
              after.book.commits.by_now);
          cuts = subst (λ (b : Book). EachCutStands 0 after.history objects b) (sym all.ran.book_is) after.cuts;
        }

-- ---- the device that comes back

-- the device that a bay gave began with what the bay has under its name
opened_durable : (dev : List ℕ) (files : List (List ℕ)) (seed : ℕ) (end : WorkEnd) (seen : Seen) (old new : BayView) (before now : ℕ)
    (e : EndsOpened dev files seed end seen old new before now)
    → EachCrashLeavesPrefix (Step dev seed files) old (Some e.disk) seen.book
opened_durable dev files seed end seen old new before now e = of_names old.names e.handed_out.contents
  where
    of_names : (names : Option Names) → IfSome names (λ n. StartsWith e.given (finite.get n.devices dev))
        → IfSome names (λ n. (contents : List ℕ) (objects : Objects) → finite.get n.devices dev ≡ Some contents → StandsFor contents objects
        → IsDurableFrom contents objects seen.book e.disk)
    of_names None begins = tt
    of_names (Some n) begins = λ contents objects is stands.
        let told : e.given.history ≡ Some (record { start = contents; log = [] }) = subst (StartsWith e.given) is begins in
        e.keeps.durable (record { start = contents; log = [] }) objects told stands

pub done_durable : (dev : List ℕ) (files : List (List ℕ)) (seed : ℕ) (end : WorkEnd) (seen : Seen) (old new : BayView) (before now : ℕ)
    → IsStepDone dev files seed end seen old new before now → EachCrashLeavesPrefix (Step dev seed files) old seen.disk seen.book
done_durable dev files seed end seen old new before now (inl e) =
    subst (λ (d : Option Disk). EachCrashLeavesPrefix (Step dev seed files) old d seen.book) (sym e.no_disk) tt
done_durable dev files seed end seen old new before now (inr e) =
    subst (λ (d : Option Disk). EachCrashLeavesPrefix (Step dev seed files) old d seen.book) (sym e.is_disk)
    (opened_durable dev files seed end seen old new before now e)
