-- What rows and units stand for with each selection of what is under way, over each call.
use Rattle.std.proofs.Common.{◌≡◌, ◌≢◌, ℕ, ◌+◌, ◌≤◌, true, List, [], ◌∷◌, ◌++◌, length, take, is_some, None}
use Rattle.std.proofs.Common.{refl, sym, ap, subst, ◌∙◌, arith}
use Rattle.std.specs.Prelude.{IsSome}
use Rattle.std.specs.List.{AllByRecursion}
use Rattle.std.proofs.lemmas.List.{take-append-le}
use Rattle.unit_fields.specs.declared.width.Width.{Width}
use Rattle.byte_maps.specs.Units.{IsUnits}
use Rattle.block_device.specs.Prelude.{last, Disk, History, Flight, with_event, last_at}
use Rattle.block_device.specs.declared.event.Event.TheVariants.{Write, Flush, Done}
use Rattle.object_model.specs.Prelude.{Objects, Change, replay, committed, change_at}
use Rattle.meta_rows.specs.Prelude.{Rows}
use Rattle.meta_log.specs.Prelude.{width_of, IsSuper}
use Rattle.store_image.specs.Prelude.{NoBadRow, HasPage, ObjectsStand}
use Rattle.store_image.proofs.Prelude.{objects_stand}
use Rattle.log_facts.proofs.Keeping.{last_push, half_before_data, half_spares_data}
use Rattle.plan_rows.specs.declared.plan.FreshUnit.{FreshUnit}
use Rattle.store_steps.specs.Prelude.{Batch, State, unsent_units, acknowledged, committed_batch, DoesCommit, Intent, intents, is_in, rows_by, uncommitted, given_fresh, RowsPart, DataPart, BookPart, rows_part, data_part, book_part, Touch, nothing, ends, flushes, on_data, on_half, on_other, on_slot, after, run_write, IsPlaced, IsNoData, RowsGo, DataGoes, BookGoes, commits_of, AcceptsOne, IsCaused, Footprint}
use Rattle.store_steps.specs.RowsGo as rows
use Rattle.store_steps.specs.DataGoes as units
use Rattle.store_steps.specs.BookGoes as book
use Rattle.run_facts.specs.Prelude.{IsKept, IsSpaceOf, AreRowsKept}
use Rattle.run_facts.proofs.Prelude.{accepted_makes, accepted_joins, batch_written, given_of_all, all_left, all_right}
use Rattle.plan_rows.specs.declared.plan.Plan.{Plan}
use Rattle.plan_drafts.specs.Prelude.{HoldsRead, PlansKeep}
use Rattle.space_facts.proofs.Prelude.{selection_good, each_named}
use Rattle.plan_rows.proofs.OnData.{page_on_data}
use Rattle.book_facts.specs.Prelude.{IsOfEntry, KnownOfBook, IsFairSelection, applied_changes, changes_of, SelectionsStand}
use Rattle.book_facts.proofs.Prelude.{all_then, places_acknowledged, changes_at, applied_by_places, applied_entry, applied_committed, batch_last}
use Rattle.unit_facts.specs.DataUnits.{HeldBytesAreLast}
use Rattle.unit_facts.proofs.RunWrites.{row_spares}
use Rattle.unit_facts.proofs.Units.{other_before_data, other_spares_data, slot_spares_data}
use Rattle.log_facts.specs.Prelude.{not_sent, sent, flushed}
use Rattle.meta_log.specs.Prelude.{data_unit}
use Rattle.crash_facts.specs.HeldBytes.{fresh_by, held_or_last}
use Rattle.crash_facts.specs.Store.{ContextsStand}
use Rattle.crash_facts.proofs.Admitting.{under_way_of, accept_stand}
use Rattle.crash_facts.proofs.Joining.{entry_changes}
use Rattle.crash_facts.proofs.Exact.{batch_rows, batch_first}
use Rattle.crash_facts.proofs.Fronts.{behind_stand}
use Rattle.selections.specs.Fair.{IsComplete}
use Rattle.selections.proofs.Selecting.{fair_among, all_selected}
use Rattle.object_model.specs.declared.book.Entry.{Entry}
use Rattle.crash_facts.proofs.Bytes.{fresh_are, fresh_alike, with_same, held_quiet, held_over, held_alike}

-- ---- bytes of units on which pages stand

-- whatever a call adds to the log, they are the same, where a run that it submits is of fresh units
bytes_kept : (flights : List Flight) (t : Touch) (p q : DataPart) (h : History) (w : Width) (r : Rows) (xs : List Intent) (unit : ℕ)
    → DataGoes flights t p q → IsPlaced p.sup t → IsUnits p.sup.units (last h.start h.log) → IsSuper p.sup → w ≡ width_of p.sup → NoBadRow p.sup r
    → ((P : FreshUnit → Type 0) → AllByRecursion P (fresh_by xs) → AllByRecursion P q.given) → HasPage w r unit
    → held_or_last h xs unit ≡ held_or_last (after t h) xs unit
bytes_kept flights t p q h w r xs unit (units.same spares is) placed size limits width good own has = of_touch t spares placed
  where
    on_data_unit : data_unit p.sup ≤ unit
    on_data_unit = (page_on_data p.sup r unit good (subst (λ (v : Width). HasPage v r unit) width has)).0

    of_touch : (t : Touch) → IsNoData t → IsPlaced p.sup t → held_or_last h xs unit ≡ held_or_last (after t h) xs unit
    of_touch nothing spares placed = refl
    of_touch (ends ticket) spares placed = held_quiet h (Done ticket true) xs unit tt
    of_touch (flushes ticket) spares placed = held_quiet h Flush xs unit tt
    of_touch (on_data ticket run) spares placed = absurd spares
    of_touch (on_half ticket place bytes) spares placed =
        with_same (fresh_by xs) (last_at h) (last_at (with_event h (Write place bytes))) unit
        (sym (last_push h (Write place bytes) unit (omega (arith, placed.1, half_before_data p.sup, limits.room, size))
        (half_spares_data p.sup place unit bytes placed.1 on_data_unit)))
    of_touch (on_other ticket place bytes) spares placed =
        with_same (fresh_by xs) (last_at h) (last_at (with_event h (Write place bytes))) unit
        (sym (last_push h (Write place bytes) unit (omega (arith, placed.1, other_before_data p.sup, limits.room, size))
        (other_spares_data p.sup place unit bytes placed.1 on_data_unit)))
    of_touch (on_slot ticket place bytes) spares placed =
        with_same (fresh_by xs) (last_at h) (last_at (with_event h (Write place bytes))) unit
        (sym (last_push h (Write place bytes) unit (omega (arith, placed.0, placed.1, limits.room, size))
        (slot_spares_data p.sup place unit bytes placed.0 placed.1 on_data_unit)))
bytes_kept flights t p q h w r xs unit (units.switches number is) placed size limits width good own has = refl
bytes_kept flights t p q h w r xs unit (units.gives ticket run g) placed size limits width good own has =
    held_over h (run_write run) (fresh_by xs) unit (omega (arith, placed.1, size))
    (λ others. row_spares run.first.unit unit (unsent_units run) g.row g.whole
    (let P : FreshUnit → Type 0 = λ (f : FreshUnit). f.unit ≢ unit in
    all_left P (unsent_units run) g.back (all_right P g.front (unsent_units run ++ g.back)
    (subst (λ (r : DataPart). AllByRecursion P r.given) g.then (own P others)))))
bytes_kept flights t p q h w r xs unit (units.opens fresh rest order is) placed size limits width good own has = refl
bytes_kept flights t p q h w r xs unit (units.flushes_batch ticket untouched is) placed size limits width good own has =
    held_quiet h Flush xs unit tt
bytes_kept flights t p q h w r xs unit (units.is_flushed ticket was is) placed size limits width good own has =
    held_quiet h (Done ticket true) xs unit tt
bytes_kept flights t p q h w r xs unit (units.retires rest was before is) placed size limits width good own has = refl

-- the superblock stays
data_stays : (r q : DataPart) → q ≡ r → q.sup.epoch ≡ r.sup.epoch + 1 → ⊥
data_stays r q is next = never q.sup.epoch r.sup.epoch (ap (λ (x : DataPart). x.sup.epoch) is) next
  where
    never : (a b : ℕ) → a ≡ b → a ≡ b + 1 → ⊥
    never a b still more = omega (arith, still, more)

-- the device has no part in it where the halves change places
switched_quiet : (flights : List Flight) (t : Touch) (p q : DataPart) → DataGoes flights t p q → q.sup.epoch ≡ p.sup.epoch + 1 → t ≡ nothing
switched_quiet flights t p q (units.switches number is) next = refl
switched_quiet flights t p q (units.same spares is) next = absurd (data_stays p q is next)
switched_quiet flights t p q (units.gives ticket run g) next =
    absurd (data_stays (record p { given = g.front ++ (unsent_units run ++ g.back) }) q g.then next)
switched_quiet flights t p q (units.opens fresh rest order is) next =
    absurd (data_stays (record p { given = fresh ++ rest; fresh = fresh; first = not_sent }) q is next)
switched_quiet flights t p q (units.flushes_batch ticket untouched is) next = absurd (data_stays (record p { first = sent ticket }) q is next)
switched_quiet flights t p q (units.is_flushed ticket was is) next = absurd (data_stays (record p { first = flushed }) q is next)
switched_quiet flights t p q (units.retires rest was before is) next =
    absurd (data_stays (record p { given = rest; fresh = []; first = not_sent }) q is next)

-- ---- transactions of the book

-- those whose commits are applied
abbrev applied_of : BookPart → List Change
applied_of p = committed p.book.entries (take p.applied p.book.commits)

-- the same are applied, and those of the intents are the same
record AreSameChanges (p q : BookPart) (xs : List Intent) : Type 0 where
  applied : applied_of q ≡ applied_of p
  own : changes_of q.book.entries xs ≡ changes_of p.book.entries xs

same_changes : (p q : BookPart) (xs : List Intent) → q ≡ p → AreSameChanges p q xs
same_changes p q xs is = subst (λ (r : BookPart). AreSameChanges p r xs) (sym is) (record { applied = refl; own = refl })

-- each commit and each of the intents is of an accepted transaction
record AreOfBook (p : BookPart) (xs : List Intent) : Type 0 where
  commits : AllByRecursion (λ c. IsSome (change_at p.book.entries c.place)) p.book.commits
  within : p.applied ≤ length p.book.commits
  own : AllByRecursion (λ x. IsSome (change_at p.book.entries x.place)) xs

-- there is one more entry
changes_entered : (p q : BookPart) (e : Entry) (xs : List Intent) → q ≡ record p { book = record p.book { entries = p.book.entries ++ e ∷ [] } }
    → AreOfBook p xs → AreSameChanges p q xs
changes_entered p q e xs same of_book = subst (λ (r : BookPart). AreSameChanges p r xs) (sym same) (record {
  applied = applied_entry p.book.entries e p.book.commits p.applied of_book.commits;
  own = entry_changes p.book.entries e xs of_book.own;
})

-- there are more commits
changes_committed : (p q : BookPart) (more xs : List Intent)
    → q ≡ record p { book = record p.book { commits = p.book.commits ++ commits_of more }; batch = more } → AreOfBook p xs → AreSameChanges p q xs
changes_committed p q more xs same of_book = subst (λ (r : BookPart). AreSameChanges p r xs) (sym same) (record {
  applied = ap (committed p.book.entries) (take-append-le p.applied p.book.commits (commits_of more) of_book.within);
  own = refl;
})

-- one is acknowledged
changes_acknowledged : (events : ℕ) (p q : BookPart) (xs : List Intent)
    → q ≡ record p { book = record p.book { commits = acknowledged events p.book.commits }; acked = p.acked + 1 } → AreSameChanges p q xs
changes_acknowledged events p q xs same = subst (λ (r : BookPart). AreSameChanges p r xs) (sym same) (record {
  applied = applied_by_places p.book.entries (acknowledged events p.book.commits) p.applied
      ∙ ap (λ (ps : List ℕ). changes_at p.book.entries (take p.applied ps)) (places_acknowledged events p.book.commits)
      ∙ sym (applied_by_places p.book.entries p.book.commits p.applied);
  own = refl;
})

-- ---- a transaction is accepted

-- the units whose old bytes it was planned over are to hold these, once all that is under way has reached the device
abbrev pub HoldsOldBytes : State → History → Plan → Type 0
HoldsOldBytes s h plan = HoldsRead (held_or_last h (intents (uncommitted s))) plan

accepts_stand : (opening : Objects) (s : State) (d : Disk) (s' : State) (h : History) → PlansKeep → IsKept s d → s.down ≡ None
    → KnownOfBook opening s → ContextsStand opening s h → (one : AcceptsOne s d s') → HoldsOldBytes s h one.accepts.plan
    → ContextsStand opening s' h
accepts_stand opening s d s' h plans kept up known stand one read =
    let limits : IsSuper s.log.sup = kept.always.limits in
    let space : IsSpaceOf s.log.sup s.space = kept.always.space in
    let rows : AreRowsKept (rows_part s) = (kept.up up).rows in
    subst (λ (t : State). ContextsStand opening t h) (sym one.accepts.after)
    (accept_stand opening s one.client one.line one.change one.accepts.plan h limits rows
    (accepted_makes plans s d one.client one.line one.change s' limits space rows one.known one.accepts)
    (accepted_joins plans s d one.client one.line one.change s' limits space rows one.known one.accepts) read known stand)

-- ---- the batch is committed

commits_stand : (opening : Objects) (s : State) (d : Disk) (s' : State) (d' : Disk) (h : History) → IsKept s d → s.down ≡ None
    → HeldBytesAreLast h (given_fresh (uncommitted s)) → KnownOfBook opening s → ContextsStand opening s h → DoesCommit s d s' d'
    → ContextsStand opening s' h
commits_stand opening s d s' d' h kept up held known stand does =
    let b : Batch = does.batch in
    let back : List Intent = intents s.pending in
    let objects : Objects = replay opening (applied_changes s) in
    subst (λ (t : State). ContextsStand opening t h) (sym does.after)
    (subst (λ (r : Rows). SelectionsStand (width_of s.log.sup) (held_or_last h back) r back (replay opening (applied_changes (committed_batch b s))) s.book.entries)
    (batch_rows s.log.rows b)
    (subst (λ (o : Objects). SelectionsStand (width_of s.log.sup) (held_or_last h back) (rows_by s.log.rows (intents b.contexts)) back o s.book.entries)
    (sym (applied_committed opening s b (intents b.contexts) (batch_last opening s b does.begun known)))
    (behind_stand s d kept up b.contexts s.pending (batch_first s b does.begun) h (batch_written s d b (kept.up up) does.begun) held
    objects s.book.entries stand)))

-- ---- each call

module _ (opening : Objects) (s s' : State) (d d' : Disk) (h : History) (plans : PlansKeep) (kept : IsKept s d)
    (up : s.down ≡ None) (size : IsUnits s.log.sup.units (last h.start h.log)) (held : HeldBytesAreLast h (given_fresh (uncommitted s))) (known : KnownOfBook opening s)
    (stand : ContextsStand opening s h) (reads : (one : AcceptsOne s d s') → HoldsOldBytes s h one.accepts.plan) where
  abbrev xs : List Intent
  xs = intents (uncommitted s)

  -- no selection makes a bad row
  each_good : (some : List Intent) → IsFairSelection xs some → NoBadRow s.log.sup (rows_by s.log.rows some)
  each_good some fair = (selection_good s.log.sup s.log.rows xs (kept.up up).rows.good (kept.up up).rows.planned some fair).good

  -- each of one is of accepted transactions
  of_book : (some : List Intent) → IsFairSelection xs some → AreOfBook (book_part s) some
  of_book some fair = record {
    commits = known.commits.of_accepted;
    within = omega arith;
    own = all_then (IsOfEntry s.book.entries) (λ x. IsSome (change_at s.book.entries x.place)) some (λ x is. ap is_some is.accepted)
        (all_selected is_in each_named (IsOfEntry s.book.entries) xs some fair (under_way_of opening s known));
  }

  -- what they stand for behind a call, with the rows and intents of a part
  abbrev Stands : Touch → RowsPart → Type 0
  Stands t p = SelectionsStand (width_of p.sup) (held_or_last (after t h) p.intents) p.rows p.intents
      (replay opening (applied_changes s')) s'.book.entries

  -- The rows stay, and so do the intents, but perhaps in another order.
  module _ (later : List Intent) (order : IsComplete is_in xs later) (is : rows_part s' ≡ record (rows_part s) { intents = later })
      (same : (some : List Intent) → AreOfBook (book_part s) some → AreSameChanges (book_part s) (book_part s') some) (t : Touch)
      (u : DataGoes d.flights t (data_part s) (data_part s')) (placed : IsPlaced s.log.sup t) where
    own : (P : FreshUnit → Type 0) → AllByRecursion P (fresh_by xs) → AllByRecursion P (given_fresh (uncommitted s'))
    own P all = given_of_all P (uncommitted s') (subst (AllByRecursion P)
        (ap (λ (p : RowsPart). fresh_by p.intents) (sym is) ∙ fresh_are (uncommitted s')) (fresh_alike P xs later order all))

    same_bytes : (some : List Intent) → IsFairSelection xs some → (unit : ℕ) → HasPage (width_of s.log.sup) (rows_by s.log.rows some) unit
        → held_or_last h xs unit ≡ held_or_last (after t h) later unit
    same_bytes some fair unit has =
        bytes_kept d.flights t (data_part s) (data_part s') h (width_of s.log.sup) (rows_by s.log.rows some) xs unit u placed size
        kept.always.limits refl (each_good some fair) own has
        ∙ held_alike (last_at (after t h)) xs later unit order ((kept.up up).rows.apart.apart unit)

    same_stand : ContextsStand opening s' (after t h)
    same_stand = subst (Stands t) (sym is) of_part
      where
        of_part : Stands t (record (rows_part s) { intents = later })
        of_part some fair_later =
            let fair : IsFairSelection xs some = fair_among is_in later xs some (λ n. sym (order n)) fair_later in
            let changes : AreSameChanges (book_part s) (book_part s') some = same some (of_book some fair) in
            let at' : ℕ → List ℕ = held_or_last (after t h) later in
            let r : Rows = rows_by s.log.rows some in
            let objects : Objects = replay opening (applied_changes s) in
            subst (λ (l : List Change). ObjectsStand (width_of s.log.sup) at' r (replay (replay opening l) (changes_of s'.book.entries some)))
            (sym changes.applied)
            (subst (λ (l : List Change). ObjectsStand (width_of s.log.sup) at' r (replay objects l)) (sym changes.own)
            (objects_stand (width_of s.log.sup) (held_or_last h xs) at' r (same_bytes some fair) (replay objects (changes_of s.book.entries some))
            (stand some fair)))

  of_parts : (t : Touch) → DataGoes d.flights t (data_part s) (data_part s') → IsPlaced s.log.sup t → (go : RowsGo (rows_part s) (rows_part s'))
      → (b : BookGoes s.events t (book_part s) (book_part s')) → IsCaused s d s' d' go b → ContextsStand opening s' (after t h)
  of_parts t u placed (rows.same is) (book.same same) caused =
      same_stand xs (λ n. refl) is (λ some of. same_changes (book_part s) (book_part s') some same) t u placed
  of_parts t u placed (rows.same is) (book.enters e same) caused =
      same_stand xs (λ n. refl) is (λ some of. changes_entered (book_part s) (book_part s') e some same of) t u placed
  of_parts t u placed (rows.same is) (book.acknowledges same) caused =
      same_stand xs (λ n. refl) is (λ some of. changes_acknowledged s.events (book_part s) (book_part s') some same) t u placed
  of_parts t u placed (rows.reorders later order is) (book.commits more none same) caused =
      same_stand later order is (λ some of. changes_committed (book_part s) (book_part s') more some same of) t u placed
  of_parts t u placed (rows.joins x more is) (book.enters e entered) caused = accepts_stand opening s d s' h plans kept up known stand caused (reads caused)
  of_parts t u placed (rows.applies number front back both fits is) (book.applies count all counted) caused =
      commits_stand opening s d s' d' h kept up held known stand caused.does
  of_parts t u placed (rows.switches number limits is) (book.same same) caused =
      subst (λ (k : Touch). ContextsStand opening s' (after k h))
      (sym (switched_quiet d.flights t (data_part s) (data_part s') u (ap (λ (z : State). z.log.sup.epoch) caused.does.after)))
      (subst (λ (z : State). ContextsStand opening z h) (sym caused.does.after) stand)
  of_parts t u placed go b caused = absurd caused

  pub footprint_stand : (f : Footprint s d s' d') → ContextsStand opening s' (after f.touch h)
  footprint_stand f = of_parts f.touch f.units f.placed f.rows f.book f.caused
