-- What a run of `fsck` comes to, and that one that nothing stands against ends well.
use Rattle.std.proofs.Common.{◌≡◌, ◌⊎◌, ◌↔◌, inl, inr, ℕ, List, [], ◌∷◌, Option, Some, Result, Ok, Err, refl, sym, ap, subst, ◌∙◌, arith}
use Rattle.std.specs.Prelude.{IfSome}
use Rattle.block_device.specs.Prelude.{Disk, History, Rose, last_at}
use Rattle.block_device.specs.Log.{HasNoBadDone}
use Rattle.byte_maps.specs.Units.{unit_at}
use Rattle.end_points.specs.Bay.{BayView}
use Rattle.meta_rows.specs.Prelude.{Rows}
use Rattle.meta_log.specs.declared.slot.Super.{Super}
use Rattle.meta_log.specs.Prelude.{AreRowsOf, width_of}
use Rattle.meta_log.proofs.SlotLemmas.{same_active}
use Rattle.store_image.specs.Prelude.{PageUnit, NoBadRow, IsExact, ObjectsStand}
use Rattle.store_image.proofs.Prelude.{same_rows}
use Rattle.read_facts.specs.Prelude.{IsHeldAt}
use Rattle.store_steps.specs.Prelude.{Found}
use Rattle.log_replay.specs.Opening.{IsFoundIn, HasNoSuper}
use Rattle.ordered_lists.proofs.Joining.{all_as}
use Rattle.findings.specs.declared.finding.Finding.{Finding}
use Rattle.findings.specs.Findings.{PageSum, IsBadSum, GivesKept, AreFindings}
use Rattle.findings.proofs.Causes.{nothing_found}
use Rattle.fsck_check.specs.Checking.{FoundAll}
use Rattle.run_texts.specs.declared.work_end.WorkEnd.{WorkEnd}
use Rattle.run_texts.specs.declared.work_end.WorkEnd.TheVariants.{Done, BadLine, NoSuper, BadRow, NotExact, WornOut}
use Rattle.run_texts.specs.declared.work_end.WorkEnd.TheVariants.{DeviceFault, OutOfMemory, BayFault, SinkFault}
use Rattle.run_texts.specs.Prelude.{fsck_number, fsck_text, Output, Printed}
use Rattle.bstore_top.specs.Prelude.{FailsUnopened, LooksThrough, IsFsckDone, RanFsck, TellsBad, IsExactStore, HasNoFault, Seen}
use Rattle.bstore_top.proofs.GoodStarts.{rows_of, one_sup, one_rows, not_no_super, about_start, told_start, reported}
use Rattle.bstore_top.proofs.DumpLaws.{unopened_ends}

-- ---- findings by what units hold

module _ (held other : ℕ → List ℕ → Type 0) (more : (unit : ℕ) (bytes : List ℕ) → held unit bytes → other unit bytes) (s : Super) (rows : Rows) where
  bad_as : (p : PageSum) → IsBadSum (width_of s) held rows p → IsBadSum (width_of s) other rows p
  bad_as p bad = record {
    is_on = bad.is_on;
    not_in_memory = bad.not_in_memory;
    bytes = bad.bytes;
    size = bad.size;
    holds = more p.unit bad.bytes bad.holds;
    is_found = bad.is_found;
    differs = bad.differs;
  }

  gives_as : (on : PageUnit) → GivesKept held rows on → GivesKept other rows on
  gives_as on gives = (gives.0, (more on.unit gives.0 gives.1.0, gives.1.1))

  findings_as : (found : List Finding) → AreFindings s held rows found → AreFindings s other rows found
  findings_as found (inl bad) = inl bad
  findings_as found (inr are) = inr (record {
    good = are.good;
    pages = are.pages;
    are_pages = record {
      ascend = are.are_pages.ascend;
      bad = all_as (IsBadSum (width_of s) held rows) (IsBadSum (width_of s) other rows) bad_as are.pages are.are_pages.bad;
      others = λ c o page on is. elim (are.are_pages.others c o page on is) [ inl among ↦ inl among | inr gives ↦ inr (gives_as on gives) ];
    };
    units = are.units;
    are_units = are.are_units;
    is = are.is;
  })

none_ended : (unit : ℕ) → HasNoBadDone [] unit
none_ended unit write event at writes = absurd cc

-- what the units hold of a device that nobody has written since
held_start : (given : Disk) (contents : List ℕ) → given.history ≡ Some (record { start = contents; log = [] }) → (unit : ℕ) (bytes : List ℕ)
    → IsHeldAt given unit bytes → bytes ≡ unit_at unit contents
held_start given contents begins unit bytes held =
    (subst (λ (o : Option History). IfSome o (λ h. HasNoBadDone h.log unit → bytes ≡ last_at h unit)) begins held) (none_ended unit)

-- ---- the status

-- a run of `fsck` may end so
abbrev IsFsckEnd : Result (List Finding) WorkEnd → Type 0
IsFsckEnd (Ok found) = Unit {0}
IsFsckEnd (Err NoSuper) = Unit {0}
IsFsckEnd (Err DeviceFault) = Unit {0}
IsFsckEnd (Err OutOfMemory) = Unit {0}
IsFsckEnd (Err BayFault) = Unit {0}
IsFsckEnd (Err end) = ⊥

number_4 : (ended : Result (List Finding) WorkEnd) → IsFsckEnd ended → (fsck_number ended ≡ 4) ↔ TellsBad ended
number_4 (Ok []) may = (λ is. absurd cc, λ some. absurd (omega (arith, some)))
number_4 (Ok (f ∷ fs)) may = (λ is. omega arith, λ some. refl)
number_4 (Err NoSuper) may = (λ is. refl, λ is. refl)
number_4 (Err DeviceFault) may = (λ is. absurd cc, λ is. absurd cc)
number_4 (Err OutOfMemory) may = (λ is. absurd cc, λ is. absurd cc)
number_4 (Err BayFault) may = (λ is. absurd cc, λ is. absurd cc)
number_4 (Err (Done free)) may = absurd may
number_4 (Err (BadLine script n)) may = absurd may
number_4 (Err (BadRow key)) may = absurd may
number_4 (Err (NotExact unit)) may = absurd may
number_4 (Err WornOut) may = absurd may
number_4 (Err SinkFault) may = absurd may

unopened_end : (end : WorkEnd) (before now : ℕ) → FailsUnopened end before now → IsFsckEnd (Err end)
unopened_end (Done free) before now fails = absurd fails
unopened_end (BadLine script n) before now fails = absurd fails
unopened_end NoSuper before now fails = absurd fails
unopened_end (BadRow key) before now fails = absurd fails
unopened_end (NotExact unit) before now fails = absurd fails
unopened_end WornOut before now fails = absurd fails
unopened_end DeviceFault before now fails = absurd fails
unopened_end OutOfMemory before now fails = tt
unopened_end BayFault before now fails = tt
unopened_end SinkFault before now fails = absurd fails

looked_end : (given : Disk) (ended : Result (List Finding) WorkEnd) (now : ℕ) → LooksThrough given 0 ended now → IsFsckEnd ended
looked_end given (Ok found) now looked = tt
looked_end given (Err (Done free)) now looked = absurd looked
looked_end given (Err (BadLine script n)) now looked = absurd looked
looked_end given (Err NoSuper) now looked = tt
looked_end given (Err (BadRow key)) now looked = absurd looked
looked_end given (Err (NotExact unit)) now looked = absurd looked
looked_end given (Err WornOut) now looked = absurd looked
looked_end given (Err DeviceFault) now looked = tt
looked_end given (Err OutOfMemory) now looked = tt
looked_end given (Err BayFault) now looked = absurd looked
looked_end given (Err SinkFault) now looked = absurd looked

fsck_end : (dev : List ℕ) (ended : Result (List Finding) WorkEnd) (seen : Seen) (bay_old bay_new : BayView) (before now : ℕ)
    → IsFsckDone dev ended seen bay_old bay_new before now → IsFsckEnd ended
fsck_end dev ended seen bay_old bay_new before now (inl e) = subst IsFsckEnd (sym e.ended_so) (unopened_end e.end before now e.cause)
fsck_end dev ended seen bay_old bay_new before now (inr e) = looked_end e.given ended e.faults e.looked

printed_4 : (end status : ℕ) (text : List ℕ) (old new : Output) (T : Type 0) → ¬ Rose old.faults new.faults → (end ≡ 4) ↔ T → Printed end text status old new
    → (status ≡ 4) ↔ T
printed_4 end status text old new T none tells (inl whole) = (λ four. tells.0 (sym whole.0 ∙ four), λ bad. whole.0 ∙ tells.1 bad)
printed_4 end status text old new T none tells (inr front) = absurd (none front.1.rose)

pub returns_4 : (dev : List ℕ) (status : ℕ) (seen : Seen) (bay_old bay_new : BayView) (before now : ℕ) (old new : Output)
    → (ran : RanFsck dev status seen bay_old bay_new before now old new) → ¬ Rose old.faults new.faults → (status ≡ 4) ↔ TellsBad ran.ended
returns_4 dev status seen bay_old bay_new before now old new ran none =
    printed_4 (fsck_number ran.ended) status (fsck_text ran.ended) old new (TellsBad ran.ended) none
    (number_4 ran.ended (fsck_end dev ran.ended seen bay_old bay_new before now ran.course)) ran.printed

-- ---- a run that nothing stands against

abbrev EndsFsckInOrder : Result (List Finding) WorkEnd → Type 0
EndsFsckInOrder ended = (fsck_number ended ≡ 0) ⊎ (fsck_number ended ≡ 5)

module _ (dev : List ℕ) (bay : BayView) (start : IsExactStore dev bay) (given : Disk)
    (begins : given.history ≡ Some (record { start = start.good.store.contents; log = [] })) where
  nothing : (found : List Finding) → FoundAll given found → found ≡ []
  nothing found all =
      let store = start.good.store in
      let contents = store.contents in
      let f : Found = all.store in
      let is : IsFoundIn contents f = about_start dev start.good.names store (λ c. IsFoundIn c all.store) given begins all.about in
      let sup : store.stands.super ≡ f.sup = same_active contents store.stands.super f.sup store.stands.active is.active in
      let read : AreRowsOf contents f.sup store.stands.rows = subst (λ (s : Super). AreRowsOf contents s store.stands.rows) sup store.stands.read in
      let rows : store.stands.rows ≡ f.rows = same_rows contents f.sup store.stands.rows f.rows read (rows_of contents f is) in
      let good : NoBadRow f.sup f.rows =
      subst (λ (s : Super). NoBadRow s f.rows) sup (subst (NoBadRow store.stands.super) rows store.stands.good) in
      let stand : ObjectsStand (width_of f.sup) (λ unit. unit_at unit contents) f.rows store.objects =
      subst (λ (s : Super). ObjectsStand (width_of s) (λ unit. unit_at unit contents) f.rows store.objects) sup
      (subst (λ (r : Rows). ObjectsStand (width_of store.stands.super) (λ unit. unit_at unit contents) r store.objects) rows store.stands.stand) in
      let same_sup : f.sup ≡ store.found.sup = one_sup contents store.found f store.is_found is in
      let same_rows_too : f.rows ≡ store.found.rows = one_rows contents store.found f store.is_found is in
      let exact : IsExact (width_of f.sup) f.rows =
      subst (λ (s : Super). IsExact (width_of s) f.rows) (sym same_sup)
      (subst (IsExact (width_of store.found.sup)) (sym same_rows_too) start.exact) in
      nothing_found f.sup (λ unit. unit_at unit contents) f.rows store.objects good stand exact found
      (findings_as (IsHeldAt given) (λ unit bytes. bytes ≡ unit_at unit contents) (held_start given contents begins) f.sup f.rows found all.are)

  looked_ends : (ended : Result (List Finding) WorkEnd) (now : ℕ) → now ≡ 0 → LooksThrough given 0 ended now → EndsFsckInOrder ended
  looked_ends (Ok found) now none looked = inl (ap (λ (l : List Finding). fsck_number (Ok l)) (nothing found looked))
  looked_ends (Err (Done free)) now none looked = absurd looked
  looked_ends (Err (BadLine script n)) now none looked = absurd looked
  looked_ends (Err NoSuper) now none looked =
      absurd (not_no_super dev start.good.names start.good.store (about_start dev start.good.names start.good.store HasNoSuper given begins looked))
  looked_ends (Err (BadRow key)) now none looked = absurd looked
  looked_ends (Err (NotExact unit)) now none looked = absurd looked
  looked_ends (Err WornOut) now none looked = absurd looked
  looked_ends (Err DeviceFault) now none looked = absurd (omega (arith, looked, none))
  looked_ends (Err OutOfMemory) now none looked = inr refl
  looked_ends (Err BayFault) now none looked = absurd looked
  looked_ends (Err SinkFault) now none looked = absurd looked

course_ends : (dev : List ℕ) (bay : BayView) (start : IsExactStore dev bay) (ended : Result (List Finding) WorkEnd) (seen : Seen) (bay_new : BayView)
    (before now : ℕ) (old new : Output) → HasNoFault seen before now old new → IsFsckDone dev ended seen bay bay_new before now → EndsFsckInOrder ended
course_ends dev bay start ended seen bay_new before now old new none (inl e) =
    subst EndsFsckInOrder (sym e.ended_so) (unopened_ends e.end before now none.bay e.cause)
course_ends dev bay start ended seen bay_new before now old new none (inr e) =
    looked_ends dev bay start e.given (told_start dev start.good.names start.good.store bay e.given start.good.told e.handed_out.contents) ended e.faults
    (subst (λ (o : Option ℕ). IfSome o (λ n. n ≡ 0)) e.are_faults none.device) e.looked

-- a good start ends well, or for want of memory
pub good_fsck : (dev : List ℕ) (status : ℕ) (seen : Seen) (bay_old bay_new : BayView) (before now : ℕ) (old new : Output)
    → RanFsck dev status seen bay_old bay_new before now old new → IsExactStore dev bay_old → HasNoFault seen before now old new
    → (status ≡ 0) ⊎ (status ≡ 5)
good_fsck dev status seen bay_old bay_new before now old new ran start none =
    reported (fsck_number ran.ended) (fsck_text ran.ended) status old new none.sink
    (course_ends dev bay_old start ran.ended seen bay_new before now old new none ran.course) ran.printed
