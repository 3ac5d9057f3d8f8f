-- While what is behind the records is cleared, each crash leaves the objects that the store stood for, and its bitmap.
use Rattle.std.proofs.Common.{◌≡◌, inl, inr, ℕ, ◌+◌, ◌*◌, ◌<◌, ◌≤◌, List, [], ◌∷◌, ◌++◌, length, take, drop, refl, sym, ap, ap₂, subst, ◌∙◌, append_assoc, arith}
use Rattle.std.specs.List.{AllByRecursion}
use Rattle.std.proofs.lemmas.Bool.{cases_lt, cases_eq}
use Rattle.std.proofs.lemmas.List.{append-nil, take_all, take_at, take-append-le, drop-drop, length-append}
use Rattle.byte_maps.specs.Units.{unit_at, zeros, IsUnits}
use Rattle.byte_maps.proofs.Prelude.{length-zeros, unit_at-zeros, unit_at-units_from}
use Rattle.block_device.specs.Prelude.{last, WritesUnit, IsClean, History, with_event, last_at, EventFits}
use Rattle.block_device.specs.declared.event.Event.{Event}
use Rattle.block_device.specs.declared.event.Event.TheVariants.{Write, Flush, Done}
use Rattle.block_device.proofs.LogLemmas.{last-push, length-after_event, clean_push, each_cut_push, slice_get-lt}
use Rattle.block_device.proofs.QuietLemmas.{written_unit}
use Rattle.object_model.specs.declared.book.Book.{Book}
use Rattle.object_model.specs.Prelude.{Objects}
use Rattle.meta_rows.specs.declared.row_op.RowOp.{RowOp}
use Rattle.meta_log.specs.declared.slot.Super.{Super}
use Rattle.meta_log.specs.Prelude.{active_half, AreRowsOf, units_of_records, width_of, IsSuper, IsActiveSlot, active_unit, in_runs}
use Rattle.meta_log.proofs.SlotLemmas.{same_active}
use Rattle.store_image.specs.Prelude.{NoBadRow, HasPage, IsExactAs, ObjectsStand, StandsFor, LeavesPrefix, EachCutStands}
use Rattle.store_image.proofs.Prelude.{as_image, stays_by_rows, same_rows, objects_stand, start_is_durable}
use Rattle.log_facts.specs.Prelude.{WritesNoneOf, SlotsStand, RecordsStand, EndsInZeros, SoundFor, OtherHalfRests}
use Rattle.log_facts.proofs.Keeping.{slots_push, last_push, written_behind, half_spares_slots, half_spares_data}
use Rattle.log_facts.proofs.Mounting.{fresh_slots}
use Rattle.log_facts.proofs.Reading.{half_inside}
use Rattle.log_facts.proofs.Found.{found_records, records_push, records_left, objects_left, cleared_half}
use Rattle.store_steps.specs.Prelude.{Found}
use Rattle.plan_rows.proofs.OnData.{page_on_data}
use Rattle.crash_facts.specs.Store.{contents_at, IsMounted}
use Rattle.log_replay.specs.Prelude.{IsAllClean, IsZeroing, IsCleared, ClearsSoFar, IsFoundIn}
use Rattle.mount_replay.specs.Mounting.{behind_records}
use Rattle.log_replay.proofs.RunLemmas.{by_length}

abbrev pub no_book : Book
no_book = record { entries = []; commits = [] }

-- ---- the store while it is cleared

-- the slots and the records stand, and the rows are sound for the objects
pub record StoreStands (f : Found) (recs : List (List RowOp)) (objects : Objects) (h : History) : Type 0 where
  pub whole : IsUnits f.sup.units h.start
  pub whole_now : IsUnits f.sup.units (last h.start h.log)
  pub slots : SlotsStand h f.sup
  pub records : RecordsStand h f.sup f.rows f.tail f.number recs
  pub good : NoBadRow f.sup f.rows
  pub sound : SoundFor h f.sup f.rows objects

-- when the log had so many events, the contents had this slot and these rows
pub record BeganWith (f : Found) (base : ℕ) (h : History) : Type 0 where
  pub reached : base ≤ length h.log
  pub active : IsActiveSlot (contents_at base h) f.sup
  pub read : AreRowsOf (contents_at base h) f.sup f.rows

began_push : (f : Found) (base : ℕ) (h : History) (event : Event) → BeganWith f base h → BeganWith f base (with_event h event)
began_push f base h event began =
    let same : contents_at base h ≡ contents_at base (with_event h event) =
    ap (last h.start) (sym (take-append-le base h.log (event ∷ []) began.reached)) in
    record {
      reached = omega (arith, began.reached, length-append h.log (event ∷ []));
      active = subst (λ l. IsActiveSlot l f.sup) same began.active;
      read = subst (λ l. AreRowsOf l f.sup f.rows) same began.read;
    }

module _ (f : Found) (recs : List (List RowOp)) (objects : Objects) where
  s : Super
  s = f.sup

  first : ℕ
  first = active_unit f.sup + f.tail

  -- an event of zeros behind the records
  abbrev Zeroes : Event → Type 0
  Zeroes event = IsZeroing (active_unit f.sup + f.tail) (active_unit f.sup + f.sup.half) event

  fits : (h : History) (event : Event) → StoreStands f recs objects h → Zeroes event → EventFits (length (last h.start h.log)) event
  fits h (Write at bytes) stands is =
      let inside = half_inside f.sup (last h.start h.log) stands.slots.limits stands.whole_now in
      omega (arith, inside, is.3, ap length is.1 ∙ length-zeros (4096 * is.0))
  fits h Flush stands is = tt
  fits h (Done ticket ok) stands is = tt

  spares_slots : (event : Event) → Zeroes event → WritesNoneOf 0 2 event
  spares_slots (Write at bytes) is unit from below covers = half_spares_slots f.sup at bytes (omega (arith, is.2)) unit from below covers
  spares_slots Flush is unit from below covers = covers
  spares_slots (Done ticket ok) is unit from below covers = covers

  spares_records : (event : Event) → Zeroes event → WritesNoneOf (active_unit f.sup) f.tail event
  spares_records (Write at bytes) is unit from below covers = written_behind (active_unit f.sup) f.tail at bytes is.2 unit from below covers
  spares_records Flush is unit from below covers = covers
  spares_records (Done ticket ok) is unit from below covers = covers

  spares_pages : (h : History) → StoreStands f recs objects h → (event : Event) → Zeroes event → (unit : ℕ)
      → HasPage (width_of f.sup) f.rows unit → ¬ WritesUnit unit event
  spares_pages h stands (Write at bytes) is unit has covers =
      half_spares_data f.sup at unit bytes (omega (arith, is.3, ap length is.1 ∙ length-zeros (4096 * is.0))) (page_on_data f.sup f.rows unit stands.good has).0 covers
  spares_pages h stands Flush is unit has covers = covers
  spares_pages h stands (Done ticket ok) is unit has covers = covers

  stands_push : (h : History) (event : Event) → StoreStands f recs objects h → Zeroes event → StoreStands f recs objects (with_event h event)
  stands_push h event stands is =
      let inside = fits h event stands is in
      let spared = spares_pages h stands event is in record {
        whole = stands.whole;
        whole_now = ap length (last-push h.start h.log event) ∙ length-after_event event (last h.start h.log) inside ∙ stands.whole_now;
        slots = slots_push h f.sup event inside (spares_slots event is) stands.slots;
        records = records_push h f.sup f.rows f.tail f.number recs event inside (spares_records event is) stands.records;
        good = stands.good;
        sound = record {
          good = stands.sound.good;
          stand = objects_stand (width_of f.sup) (last_at h) (last_at (with_event h event)) f.rows
              (λ unit has. sym (last_push h event unit inside (spared unit has)))
              objects stands.sound.stand;
          clean = λ unit has. clean_push h.log event unit (stands.sound.clean unit has) (spared unit has);
        };
      }

  -- the unit behind the records stays zero, and is zero once it was written so
  covered_zero : (h : History) (at count : ℕ) → 4096 * at + 4096 * count ≤ length (last h.start h.log) → 0 < count
      → last_at (with_event h (Write at (zeros (4096 * count)))) at ≡ zeros 4096
  covered_zero h at count inside some =
      let event = Write at (zeros (4096 * count)) in
      let place : at ≡ at + 0 = omega arith in
      ap (last_at (with_event h event)) place
      ∙ written_unit h at 0 (zeros (4096 * count)) (omega (arith, inside, length-zeros (4096 * count))) (omega (arith, some, length-zeros (4096 * count)))
      ∙ unit_at-zeros 0 (4096 * count) (omega (arith, some))

  ends_after : (h : History) (event : Event) → StoreStands f recs objects h → Zeroes event → EndsInZeros h f.sup f.tail
      → EndsInZeros (with_event h event) f.sup f.tail
  ends_after h (Write at bytes) stands is ends some = elim (cases_eq at (active_unit f.sup + f.tail)) [
    | inl here ↦ elim (cases_lt 0 is.0) [
      | inl positive ↦
          let size : length bytes ≡ 4096 * is.0 = ap length is.1 ∙ length-zeros (4096 * is.0) in
          let inside : 4096 * at + length bytes ≤ length (last h.start h.log) = fits h (Write at bytes) stands is in
          let zeroed = covered_zero h at is.0 (omega (arith, inside, size)) positive in
          subst (λ n. last_at (with_event h (Write at bytes)) n ≡ zeros 4096) here
          (subst (λ b. last_at (with_event h (Write at b)) at ≡ zeros 4096) (sym is.1) zeroed)
      | inr none ↦
          last_push h (Write at bytes) (active_unit f.sup + f.tail) (fits h (Write at bytes) stands is)
          (λ covers. omega (arith, covers.0, covers.1, here, none, ap length is.1 ∙ length-zeros (4096 * is.0))) ∙ ends some
    ]
    | inr apart ↦
        last_push h (Write at bytes) (active_unit f.sup + f.tail) (fits h (Write at bytes) stands is)
        (λ covers. omega (arith, covers.0, apart, is.2)) ∙ ends some
  ]
  ends_after h Flush stands is ends some = last_push h Flush (active_unit f.sup + f.tail) tt (λ covers. covers) ∙ ends some
  ends_after h (Done ticket ok) stands is ends some = last_push h (Done ticket ok) (active_unit f.sup + f.tail) tt (λ covers. covers) ∙ ends some

  -- ---- each cut

  cut_leaves : (base : ℕ) (h : History) → BeganWith f base h → StoreStands f recs objects h → EndsInZeros h f.sup f.tail
      → LeavesPrefix base h.start objects no_book h.log
  cut_leaves base h began stands ends image is chance =
      let left = records_left h f.sup f.rows f.tail f.number recs image stands.whole stands.whole_now stands.slots stands.records ends is chance in
      let sound = stands.sound in record {
        count = 0;
        within = omega arith;
        has_acked = λ i. tt;
        stands = objects_left h f.sup f.rows f.tail f.number recs objects image stands.whole stands.whole_now stands.slots stands.records ends sound
            is chance;
        exact = stays_by_rows (contents_at base h) image f.sup f.rows began.active began.read left.0 left.1;
      }

  -- what holds after some events
  pub record After (base : ℕ) (h : History) : Type 0 where
    pub cuts : EachCutStands base h objects no_book
    pub stands : StoreStands f recs objects h
    pub began : BeganWith f base h

  after_more : (base : ℕ) (events : List Event) (h : History) → After base h → EndsInZeros h f.sup f.tail → AllByRecursion Zeroes events
      → After base (record { start = h.start; log = h.log ++ events })
  after_more base [] h after ends each = subst (λ l. After base (record { start = h.start; log = l })) (sym (append-nil h.log)) after
  after_more base (event ∷ events) h after ends each =
      let next = with_event h event in
      let stands = stands_push h event after.stands each.0 in
      let ended = ends_after h event after.stands each.0 ends in
      let began = began_push f base h event after.began in
      let cuts = each_cut_push base h.log event (LeavesPrefix base h.start objects no_book) after.cuts (cut_leaves base next began stands ended) in
      subst (λ l. After base (record { start = h.start; log = l })) (append_assoc h.log (event ∷ []) events)
      (after_more base events next (record { cuts = cuts; stands = stands; began = began }) ended each.1)

  after_first : (base : ℕ) (more : List Event) (h : History) → After base h → AllByRecursion Zeroes (Write (active_unit f.sup + f.tail) (zeros 4096) ∷ more)
      → After base (record { start = h.start; log = h.log ++ Write (active_unit f.sup + f.tail) (zeros 4096) ∷ more })
  after_first base more h after each =
      let event = Write (active_unit f.sup + f.tail) (zeros 4096) in
      let next = with_event h event in
      let stands = stands_push h event after.stands each.0 in
      let inside : 4096 * (active_unit f.sup + f.tail) + length (zeros 4096) ≤ length (last h.start h.log) = fits h event after.stands each.0 in
      let ended : EndsInZeros next f.sup f.tail =
      λ some. covered_zero h (active_unit f.sup + f.tail) 1 (omega (arith, inside, length-zeros 4096)) (omega arith) in
      let began = began_push f base h event after.began in
      let cuts = each_cut_push base h.log event (LeavesPrefix base h.start objects no_book) after.cuts (cut_leaves base next began stands ended) in
      subst (λ l. After base (record { start = h.start; log = l })) (append_assoc h.log (event ∷ []) more)
      (after_more base more next (record { cuts = cuts; stands = stands; began = began }) ended each.1)

  -- ---- from what was found

  after_so_far : (base : ℕ) (bytes : List ℕ) (h k : History) → After base h → (unit_at 0 bytes ≡ zeros 4096 → EndsInZeros h f.sup f.tail)
      → ClearsSoFar (active_unit f.sup + f.tail) (active_unit f.sup + f.sup.half) bytes h k → After base k
  after_so_far base bytes h k after ends so_far =
      let is : record { start = h.start; log = h.log ++ so_far.events } ≡ k =
      ap₂ (λ (a : List ℕ) (l : List Event). let t : History = record { start = a; log = l } in t) (sym so_far.by.same_start) (sym so_far.by.more) in
      subst (After base) is (elim so_far.begins [
        | inl none ↦ subst (λ e. After base (record { start = h.start; log = h.log ++ e })) (sym none)
            (subst (λ l. After base (record { start = h.start; log = l })) (sym (append-nil h.log)) after)
        | inr some ↦ elim some [
          | inl is_zero ↦ after_more base so_far.events h after (ends is_zero) so_far.each
          | inr begins ↦ subst (λ e. After base (record { start = h.start; log = h.log ++ e })) (sym begins.parts)
              (after_first base begins.more h after (subst (AllByRecursion Zeroes) begins.parts so_far.each))
        ]
      ])

unit_behind : (t j : ℕ) (bytes : List ℕ) → unit_at j (drop (4096 * t) bytes) ≡ unit_at (t + j) bytes
unfolding unit_at
unit_behind t j bytes =
    let place : 4096 * t + 4096 * j ≡ 4096 * (t + j) = omega arith in
    ap (λ l. take 4096 l) (drop-drop (4096 * j) (4096 * t) bytes ∙ ap (λ n. drop n bytes) place)

-- unit j behind the records, as it stands in the contents
behind_unit : (f : Found) (contents : List ℕ) (j : ℕ) → f.tail + j < f.sup.half
    → unit_at j (behind_records contents f) ≡ unit_at (active_unit f.sup + (f.tail + j)) contents
behind_unit f contents j below =
    unit_behind f.tail j (active_half contents f.sup) ∙ unit_at-units_from (active_unit f.sup) f.sup.half (f.tail + j) contents below

-- where nothing has happened each crash leaves the objects
pub still_durable : (units : ℕ) (h : History) (objects : Objects) → IsUnits units h.start → IsUnits units (last h.start h.log) → IsAllClean h
    → StandsFor (last h.start h.log) objects → EachCutStands (length h.log) h objects no_book
still_durable units h objects whole whole_now clean stands =
    let all : take (length h.log) h.log ≡ h.log = take_all (length h.log) h.log (omega arith) in
    start_is_durable units h objects whole whole_now (record {
      reached = omega arith;
      clean = λ unit. subst (λ l. IsClean l unit) (sym all) (clean unit);
      stands = subst (λ l. StandsFor (last h.start l) objects) (sym all) stands;
    })

-- ---- where nothing was dirty, and the contents stood for the objects

module _ (f : Found) (h : History) (objects : Objects) (clean : IsAllClean h) (whole : IsUnits f.sup.units h.start) (whole_now : IsUnits f.sup.units (last h.start h.log))
    (limits : IsSuper f.sup) (good : NoBadRow f.sup f.rows) (found : IsFoundIn (last h.start h.log) f) (stands : StandsFor (last h.start h.log) objects) where
  contents : List ℕ
  contents = last h.start h.log

  recs_found : List (List RowOp)
  recs_found = found.replay.records

  records_found : RecordsStand h f.sup f.rows f.tail f.number found.replay.records
  records_found =
      let recs = found.replay.records in
      let stand = found_records h f.sup recs clean limits whole_now found.replay.stand in
      subst (λ n. RecordsStand h f.sup f.rows f.tail n recs) (sym found.replay.number_is)
      (subst (λ t. RecordsStand h f.sup f.rows t (f.sup.first + length recs) recs) (sym found.replay.tail_is)
      (subst (λ r. RecordsStand h f.sup r (units_of_records f.sup.first recs) (f.sup.first + length recs) recs) (sym found.replay.made) stand))

  rows_found : AreRowsOf (last h.start h.log) f.sup f.rows
  rows_found = record { records = found.replay.records; stand = found.replay.stand; made = found.replay.made }

  objects_found : ObjectsStand (width_of f.sup) (last_at h) f.rows objects
  objects_found =
      let same = same_active (last h.start h.log) stands.super f.sup stands.active found.active in
      let theirs = subst (λ s. AreRowsOf (last h.start h.log) s stands.rows) same stands.read in
      let rows = same_rows (last h.start h.log) f.sup stands.rows f.rows theirs rows_found in
      subst (λ r. ObjectsStand (width_of f.sup) (last_at h) r objects) rows stands.stand

  store_found : StoreStands f found.replay.records objects h
  store_found = record {
    whole = whole;
    whole_now = whole_now;
    slots = fresh_slots h f.sup clean found.active;
    records = records_found;
    good = good;
    sound = record { good = good; stand = objects_found; clean = λ unit has. clean unit };
  }

  began_here : BeganWith f (length h.log) h
  began_here =
      let same : last h.start h.log ≡ contents_at (length h.log) h = ap (last h.start) (sym (take_all (length h.log) h.log (omega arith))) in record {
        reached = omega arith;
        active = subst (λ l. IsActiveSlot l f.sup) same found.active;
        read = subst (λ l. AreRowsOf l f.sup f.rows) same rows_found;
      }

  after_none : After f found.replay.records objects (length h.log) h
  after_none = record {
    cuts = still_durable f.sup.units h objects whole whole_now clean stands;
    stands = store_found;
    began = began_here;
  }

  -- where the first unit behind the records is zero, they end in zeros
  ends_found : unit_at 0 (behind_records (last h.start h.log) f) ≡ zeros 4096 → EndsInZeros h f.sup f.tail
  ends_found is some =
      let place : active_unit f.sup + f.tail ≡ active_unit f.sup + (f.tail + 0) = omega arith in
      ap (last_at h) place ∙ sym (behind_unit f (last h.start h.log) 0 (omega (arith, some))) ∙ is

  pub after_clearing : (k : History) → ClearsSoFar (active_unit f.sup + f.tail) (active_unit f.sup + f.sup.half) (behind_records (last h.start h.log) f) h k
      → After f found.replay.records objects (length h.log) k
  after_clearing k so_far = after_so_far f found.replay.records objects (length h.log) (behind_records (last h.start h.log) f) h k after_none ends_found so_far

  pub is_mounted : (k : History) (count : ℕ) → ClearsSoFar (active_unit f.sup + f.tail) (active_unit f.sup + f.sup.half) (behind_records (last h.start h.log) f) h k
      → IsCleared (active_unit f.sup + f.tail) (active_unit f.sup + f.sup.half) (behind_records (last h.start h.log) f) count h k
      → IsExactAs (width_of f.sup) f.rows f.rows → OtherHalfRests k f.sup (in_runs f.stale) → IsMounted (length h.log) objects f count k
  is_mounted k count so_far cleared exact rests =
      let after = after_clearing k so_far in
      let front : take (length h.log) k.log ≡ h.log = ap (take (length h.log)) cleared.by.more ∙ take_at h.log cleared.events (length h.log) refl in
      let all_clean : IsAllClean k = cleared.clean clean in
      let zeroed : (unit : ℕ) → active_unit f.sup + f.tail ≤ unit → unit < active_unit f.sup + f.sup.half → last_at k unit ≡ zeros 4096 =
      cleared.zero (λ j below. ap (last_at h) (omega arith) ∙ sym (behind_unit f (last h.start h.log) j (omega (arith, below)))) in
      record {
        answered = record {
          quiet = λ unit. subst (λ l. IsClean l unit) (sym front) (clean unit);
          each = cleared.answered (length h.log) (λ place event from at. absurd (omega (arith, from, slice_get-lt h.log event place at)));
          counted = by_length cleared.events h k cleared.by ∙ ap (λ n. length h.log + n) (sym cleared.counted);
        };
        clean = all_clean;
        slots = after.stands.slots;
        rests = rests;
        recs = found.replay.records;
        half = cleared_half k f.sup f.rows f.tail f.number found.replay.records after.stands.records (λ j past below. record {
          clean = all_clean (active_unit f.sup + j);
          last = zeroed (active_unit f.sup + j) (omega (arith, past)) (omega (arith, below));
        });
        stand = after.stands.sound.stand;
        exact = as_image (contents_at (length h.log) k) f.sup f.rows f.rows after.began.active after.began.read exact;
        cuts = after.cuts;
      }
