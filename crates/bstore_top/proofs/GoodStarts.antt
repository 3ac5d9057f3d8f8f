-- A start that nothing stands against ends well, or for want of memory.
use Rattle.std.proofs.Common.{◌≡◌, ◌⊎◌, inl, inr, ℕ, zero, suc, ◌+◌, ◌<◌, ◌%◌, List, [], ◌∷◌, ◌++◌, length, replicate, get_or, Option, Some, None, Bool, false, refl, sym, ap, subst, ◌∙◌, arith}
use Rattle.std.specs.List.{AllByRecursion}
use Rattle.std.specs.Prelude.{IfSome, Any}
use Rattle.std.specs.FinMap as finite
use Rattle.std.proofs.lemmas.List.Quantifiers.{Any-push}
use Rattle.std.proofs.lemmas.Option.{same_Some}
use Rattle.unit_fields.specs.declared.width.Width.{Width}
use Rattle.block_device.specs.Prelude.{last, IsClean, Disk, History, Rose}
use Rattle.end_points.specs.Bay.{Names, BayView, StartsWith, start_of}
use Rattle.end_points.specs.declared.bay.How.TheVariants.{Plain}
use Rattle.meta_rows.specs.Prelude.{Rows}
use Rattle.meta_rows.specs.declared.row_op.RowOp.{RowOp}
use Rattle.meta_log.specs.declared.slot.Super.{Super}
use Rattle.meta_log.specs.Prelude.{AreRowsOf, AreRecords, active_half, width_of}
use Rattle.meta_log.proofs.RecordLemmas.{same_records}
use Rattle.meta_log.proofs.SlotLemmas.{same_active}
use Rattle.object_model.specs.declared.book.Book.{Book}
use Rattle.script_text.specs.Prelude.{IsBadAt}
use Rattle.script_text.proofs.Scripts.{script_has_no_bad}
use Rattle.store_image.specs.Prelude.{NoBadRow, IsLeaked, IsExactBut, IsInexact}
use Rattle.store_image.proofs.Prelude.{no_inexact, same_rows}
use Rattle.store_steps.specs.Prelude.{Found, free_count}
use Rattle.script_reading.specs.Prelude.{HasBadScript, HasFault}
use Rattle.client_runs.specs.declared.run_fail.RunFail.{RunFail}
use Rattle.client_runs.specs.declared.run_fail.RunFail.TheVariants as run
use Rattle.log_replay.specs.Prelude.{IsAbout, IsFoundIn, HasBlob, IsUnopenable}
use Rattle.log_replay.specs.declared.opening.MountFail.TheVariants as fail
use Rattle.run_texts.specs.declared.work_end.WorkEnd.{WorkEnd}
use Rattle.run_texts.specs.declared.work_end.WorkEnd.TheVariants.{Done, BadLine, NoSuper, BadRow, NotExact, WornOut}
use Rattle.run_texts.specs.declared.work_end.WorkEnd.TheVariants.{DeviceFault, OutOfMemory, BayFault, SinkFault}
use Rattle.bstore_top.specs.Prelude.{HasGoodStore, IsScriptUnder, IsGoodStart, HasNoFault, end_of_run, Seen, FailsBefore, FailsToMount, HasCounted, EndsOpened, IsStepDone, RanStep}
use Rattle.run_texts.specs.Prelude.{Output, Printed, has_csum, end_status, step_number, step_text}
use Rattle.bstore_top.proofs.RunLaws.{clean_of_none}

-- ---- what is found in contents is one

pub rows_of : (contents : List ℕ) (f : Found) → IsFoundIn contents f → AreRowsOf contents f.sup f.rows
rows_of contents f is = record { records = is.replay.records; stand = is.replay.stand; made = is.replay.made }

module _ (contents : List ℕ) (f g : Found) (p : IsFoundIn contents f) (q : IsFoundIn contents g) where
  pub one_sup : g.sup ≡ f.sup
  one_sup = same_active contents g.sup f.sup q.active p.active

  pub one_rows : g.rows ≡ f.rows
  one_rows = same_rows contents f.sup g.rows f.rows (subst (λ (s : Super). AreRowsOf contents s g.rows) one_sup (rows_of contents g q)) (rows_of contents f p)

  one_number : g.number ≡ f.number
  one_number =
      let stand : AreRecords q.replay.records f.sup.first (active_half contents f.sup) =
      subst (λ (s : Super). AreRecords q.replay.records s.first (active_half contents s)) one_sup q.replay.stand in
      let same : q.replay.records ≡ p.replay.records =
      same_records q.replay.records p.replay.records f.sup.first (active_half contents f.sup) stand p.replay.stand in
      q.replay.number_is ∙ ap (λ (s : Super). s.first + length q.replay.records) one_sup
      ∙ ap (λ (l : List (List RowOp)). f.sup.first + length l) same ∙ sym p.replay.number_is

-- ---- a mount that finds this doesn't refuse it

-- the status of a run that met no bad unit says that all was done, or that memory ran out
abbrev pub EndsInOrder : WorkEnd → Type 0
EndsInOrder end = (end_status false end ≡ 0) ⊎ (end_status false end ≡ 5)

module _ (dev : List ℕ) (names : Names) (start : HasGoodStore names dev) where
  abbrev found : Found
  found = start.found

  no_bad : NoBadRow found.sup found.rows
  no_bad =
      let sup : start.stands.super ≡ found.sup = same_active start.contents start.stands.super found.sup start.stands.active start.is_found.active in
      let read : AreRowsOf start.contents found.sup start.stands.rows =
      subst (λ (s : Super). AreRowsOf start.contents s start.stands.rows) sup start.stands.read in
      let rows : start.stands.rows ≡ found.rows =
      same_rows start.contents found.sup start.stands.rows found.rows read (rows_of start.contents found start.is_found) in
      subst (λ (s : Super). NoBadRow s found.rows) sup (subst (NoBadRow start.stands.super) rows start.stands.good)

  pub not_no_super : ¬ IsUnopenable fail.NoSuper start.contents
  not_no_super none = none (start.stands.super.epoch % 2) start.stands.super (omega arith) start.stands.active.here

  not_bad_row : (key : List ℕ) → ¬ IsUnopenable (fail.BadRow key) start.contents
  not_bad_row key bad =
      let g : Found = bad.0 in
      let sup : g.sup ≡ found.sup = one_sup start.contents found g start.is_found bad.1 in
      let rows : g.rows ≡ found.rows = one_rows start.contents found g start.is_found bad.1 in
      let good : NoBadRow g.sup g.rows = subst (λ (s : Super). NoBadRow s g.rows) (sym sup) (subst (NoBadRow found.sup) (sym rows) no_bad) in
      bad.2.bad.is_not_good (good key bad.2.bad.value bad.2.bad.stands)

  -- each owned unit is marked and has one owner
  not_inexact : (unit : ℕ) → ¬ IsUnopenable (fail.NotExact unit) start.contents
  not_inexact unit bad =
      let g : Found = bad.0 in
      let rows : g.rows ≡ found.rows = one_rows start.contents found g start.is_found bad.1 in
      let sup : g.sup ≡ found.sup = one_sup start.contents found g start.is_found bad.1 in
      let w : Width = width_of found.sup in
      let exact : IsExactBut w (IsLeaked w found.rows) g.rows = subst (IsExactBut w (IsLeaked w found.rows)) (sym rows) start.exact in
      no_inexact w (IsLeaked w found.rows) g.rows exact unit (subst (λ (s : Super). IsInexact (width_of s) g.rows unit) sup bad.2.1.inexact)

  not_worn_out : (value : ℕ) → ¬ IsUnopenable (fail.WornOut value) start.contents
  not_worn_out value bad =
      let g : Found = bad.0 in
      let sup : g.sup ≡ found.sup = one_sup start.contents found g start.is_found bad.1 in
      let epoch : g.sup.epoch ≡ found.sup.epoch = ap (λ (s : Super). s.epoch) sup in
      let number : g.number ≡ found.number = one_number start.contents found g start.is_found bad.1 in
      let rows : g.rows ≡ found.rows = one_rows start.contents found g start.is_found bad.1 in
      elim bad.2.2 [
        | inl old ↦ absurd (omega (arith, old.0, epoch, start.numbers.epoch))
        | inr (inl high) ↦ absurd (omega (arith, high.1, number, start.numbers.number))
        | inr (inr shared) ↦ absurd (omega (arith, shared.2, start.numbers.blobs value (subst (λ (r : Rows). HasBlob r value) rows shared.3.has)))
      ]

  -- the device that the bay hands out tells these contents
  pub told_start : (bay : BayView) (given : Disk) → bay.names ≡ Some names → IfSome bay.names (λ n. StartsWith given (start_of n dev Plain))
      → given.history ≡ Some (record { start = start.contents; log = [] })
  told_start bay given told begins =
      let begun : StartsWith given (start_of names dev Plain) =
      subst (λ (o : Option Names). IfSome o (λ n. StartsWith given (start_of n dev Plain))) told begins in
      subst (StartsWith given) start.under_dev begun

  -- so what a mount says of what it finds is of these
  pub about_start : (P : List ℕ → Type 0) (given : Disk) → given.history ≡ Some (record { start = start.contents; log = [] }) → IsAbout given P
      → P start.contents
  about_start P given told about =
      (subst (λ (o : Option History). IfSome o (λ h. ((unit : ℕ) → IsClean h.log unit) → P (last h.start h.log))) told about) (clean_of_none [] refl)

  -- ---- the end

  pub unmounted_ends : (end : WorkEnd) (given : Disk) (now : ℕ) → now ≡ 0 → given.history ≡ Some (record { start = start.contents; log = [] })
      → FailsToMount end given 0 now → EndsInOrder end
  unmounted_ends (Done free) given now none begins fails = absurd fails
  unmounted_ends (BadLine script n) given now none begins fails = absurd fails
  unmounted_ends NoSuper given now none begins fails = absurd (not_no_super (about_start (IsUnopenable fail.NoSuper) given begins fails))
  unmounted_ends (BadRow key) given now none begins fails =
      absurd (not_bad_row key (about_start (IsUnopenable (fail.BadRow key)) given begins fails))
  unmounted_ends (NotExact unit) given now none begins fails =
      absurd (not_inexact unit (about_start (IsUnopenable (fail.NotExact unit)) given begins fails))
  unmounted_ends WornOut given now none begins fails =
      absurd (not_worn_out fails.0 (about_start (IsUnopenable (fail.WornOut fails.0)) given begins fails.1))
  unmounted_ends DeviceFault given now none begins fails = absurd (omega (arith, fails, none))
  unmounted_ends OutOfMemory given now none begins fails = inr refl
  unmounted_ends BayFault given now none begins fails = absurd fails
  unmounted_ends SinkFault given now none begins fails = absurd fails

-- ---- a run of scripts

run_ends : (fail : Option RunFail) (free now : ℕ) → now ≡ 0 → HasCounted (end_of_run fail free) 0 now → EndsInOrder (end_of_run fail free)
run_ends None free now none counted = inl refl
run_ends (Some run.Memory) free now none counted = inr refl
run_ends (Some run.Fault) free now none counted = absurd (omega (arith, counted, none))
run_ends (Some run.DeviceRead) free now none counted = absurd (omega (arith, counted, none))

ran_ends : (end : WorkEnd) (fail : Option RunFail) (free now : ℕ) → now ≡ 0 → HasCounted end 0 now → end ≡ end_of_run fail free → EndsInOrder end
ran_ends end fail free now none counted is =
    subst EndsInOrder (sym is) (run_ends fail free now none (subst (λ (e : WorkEnd). HasCounted e 0 now) is counted))

-- of those that are each of a kind, the one at a place is
item_of : {A : Type 0} (P : A → Type 0) (xs : List A) (i : ℕ) (d : A) → AllByRecursion P xs → i < length xs → P (get_or xs i d)
item_of P [] i d all within = absurd (omega (arith, within))
item_of P (x ∷ xs) zero d all within = all.0
item_of P (x ∷ xs) (suc i) d all within = item_of P xs i d all.1 (omega (arith, within))

-- a source that has failed is among those that are seen
any_behind : (n count : ℕ) → 0 < count → Any (λ n. 0 < n) (replicate n 0 ++ count ∷ [])
any_behind n count some = Any-push (λ n. 0 < n) (replicate n 0) count some

module _ (dev : List ℕ) (files : List (List ℕ)) (bay : BayView) (start : IsGoodStart dev files bay) where
  no_bad_script : (script n : ℕ) (sources : List ℕ) (before now : ℕ) → ¬ HasBadScript script n bay.names files sources before now
  no_bad_script script n sources before now bad =
      let good : IsScriptUnder start.names (get_or files script []) = item_of (IsScriptUnder start.names) files script [] start.scripts bad.front.within in
      let under : finite.get start.names.texts (get_or files script []) ≡ Some bad.bad.text =
      subst (λ (o : Option Names). IfSome o (λ m. finite.get m.texts (get_or files script []) ≡ Some bad.bad.text)) start.told bad.bad.under in
      let text : bad.bad.text ≡ good.text = same_Some bad.bad.text good.text (sym under ∙ good.under) in
      script_has_no_bad good.text good.lines n good.is_script (subst (λ (t : List ℕ). IsBadAt t n) text bad.bad.bad)

  no_fault : (sources : List ℕ) (before now : ℕ) → ¬ Any (λ n. 0 < n) sources → ¬ Rose before now → ¬ HasFault bay.names files sources before now
  no_fault sources before now none same fault = elim fault.cause [
    | inl source ↦ none (subst (λ (l : List ℕ). Any (λ n. 0 < n) l) (sym source.sources) (any_behind fault.script source.count source.some))
    | inr opening ↦ same opening.rose
  ]

  unopened_ends : (end : WorkEnd) (sources : List ℕ) (before now : ℕ) → ¬ Any (λ n. 0 < n) sources → ¬ Rose before now
      → FailsBefore end bay.names files sources before now → EndsInOrder end
  unopened_ends (Done free) sources before now none same fails = absurd fails
  unopened_ends (BadLine script n) sources before now none same fails = absurd (no_bad_script script n sources before now fails)
  unopened_ends NoSuper sources before now none same fails = absurd fails
  unopened_ends (BadRow key) sources before now none same fails = absurd fails
  unopened_ends (NotExact unit) sources before now none same fails = absurd fails
  unopened_ends WornOut sources before now none same fails = absurd fails
  unopened_ends DeviceFault sources before now none same fails = absurd fails
  unopened_ends OutOfMemory sources before now none same fails = inr refl
  unopened_ends BayFault sources before now none same (inl fault) = absurd (no_fault sources before now none same fault)
  unopened_ends BayFault sources before now none same (inr opening) = absurd (same opening.rose)
  unopened_ends SinkFault sources before now none same fails = absurd fails

  module _ (seed : ℕ) (end : WorkEnd) (seen : Seen) (bay_new : BayView) (before now : ℕ) (old new : Output)
      (none : HasNoFault seen before now old new) where
    opened_ends : (e : EndsOpened dev files seed end seen bay bay_new before now) → EndsInOrder end
    opened_ends e = elim e.works [
      | inl failed ↦ unmounted_ends dev start.names start.store end e.given e.faults none_counted told failed.0
      | inr ran ↦ ran_ends end ran.1.ran.fail (free_count ran.1.ran.last.space) e.faults none_counted ran.0 ran.1.ran.ended
    ]
      where
        none_counted : e.faults ≡ 0
        none_counted = subst (λ (o : Option ℕ). IfSome o (λ n. n ≡ 0)) e.are_faults none.device

        told : e.given.history ≡ Some (record { start = start.store.contents; log = [] })
        told = told_start dev start.names start.store bay e.given start.told e.handed_out.contents

    -- no reply names a bad unit, and the end is in order
    course_ends : IsStepDone dev files seed end seen bay bay_new before now → (has_csum seen.book.entries ≡ false) × EndsInOrder end
    course_ends (inl e) = (
      ap (λ (b : Book). has_csum b.entries) e.no_book,
      unopened_ends end seen.source_faults before now none.sources none.bay e.cause,
    )
    course_ends (inr e) = (
      e.keeps.no_csum (record { start = start.store.contents; log = [] }) start.store.objects
          (told_start dev start.names start.store bay e.given start.told e.handed_out.contents) start.store.stands,
      opened_ends e,
    )

-- ---- what was printed

-- the status is that of the end
pub reported : (end : ℕ) (text : List ℕ) (status : ℕ) (old new : Output) → ¬ Rose old.faults new.faults → (end ≡ 0) ⊎ (end ≡ 5)
    → Printed end text status old new → (status ≡ 0) ⊎ (status ≡ 5)
reported end text status old new none (inl done) (inl whole) = inl (whole.0 ∙ done)
reported end text status old new none (inr five) (inl whole) = inr (whole.0 ∙ five)
reported end text status old new none ends (inr front) = absurd (none front.1.rose)

-- the end of a run that met no bad unit
pub in_order : (bad : Bool) (end : WorkEnd) → bad ≡ false → EndsInOrder end → (end_status bad end ≡ 0) ⊎ (end_status bad end ≡ 5)
in_order bad end none ends = subst (λ (b : Bool). (end_status b end ≡ 0) ⊎ (end_status b end ≡ 5)) (sym none) ends

pub good_start : (dev : List ℕ) (files : List (List ℕ)) (seed status : ℕ) (seen : Seen) (bay_old bay_new : BayView) (before now : ℕ) (old new : Output)
    → RanStep dev files seed status seen bay_old bay_new before now old new → IsGoodStart dev files bay_old → HasNoFault seen before now old new
    → (status ≡ 0) ⊎ (status ≡ 5)
good_start dev files seed status seen bay_old bay_new before now old new ran start none =
    let course = course_ends dev files bay_old start seed ran.end seen bay_new before now old new none ran.course in
    reported (step_number seen.book ran.end) (step_text seen.book ran.end) status old new none.sink
    (in_order (has_csum seen.book.entries) ran.end course.0 course.1) ran.printed
