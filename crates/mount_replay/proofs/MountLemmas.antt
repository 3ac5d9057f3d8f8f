-- A kernel is opened on the store that was found, or the device comes back.
use Rattle.std.proofs.Common.{◌≡◌, ℕ, ◌+◌, ◌*◌, ◌^◌, ◌<◌, ◌≤◌, List, [], length, take, drop, Option, Some, None, refl, sym, ap, subst, ◌∙◌, arith}
use Rattle.std.specs.Prelude.{IfSome, All, Contains}
use Rattle.std.proofs.lemmas.List.{take_at}
use Rattle.byte_maps.specs.Units.{IsUnits}
use Rattle.block_device.specs.Prelude.{last, IsClean, Disk, History, IsSound}
use Rattle.object_model.specs.Prelude.{Objects}
use Rattle.meta_log.specs.declared.runs.UnitRun.{UnitRun}
use Rattle.meta_log.specs.Prelude.{active_half, other_unit, in_runs}
use Rattle.store_image.specs.Prelude.{StandsFor, IsStart, EachCutStands}
use Rattle.log_facts.specs.Prelude.{OtherHalfRests}
use Rattle.unit_allocator.specs.Prelude.{Space}
use Rattle.store_steps.specs.Prelude.{State, Found, opened}
use Rattle.plan_rows.specs.Prelude.{IsGood, IsAboveBlobs}
use Rattle.space_facts.proofs.Prelude.{counted_none}
use Rattle.run_facts.specs.Prelude.{IsOpenable, IsKept}
use Rattle.run_facts.proofs.Prelude.{kept_open}
use Rattle.crash_facts.specs.Store.{KeepsDurable, IsMounted}
use Rattle.crash_facts.proofs.Keeping.{mounted_keeps}
use Rattle.log_replay.specs.Prelude.{Told, IsLater, IsAllClean, AreClearing, IsCleared, ClearsSoFar, IsAbout, IsFoundIn, HasLowNumbers, IsNextBlob, first, behind, IsMountRefused, IsUnopenable, FailsMount, IsFoundOn, IsJudged, as_found, first_behind, half_end, rest_of, AreStaleOf, IsLogCleared, ClearsLog, AreZeroOutside, AreRunsOn}
use Rattle.mount_replay.specs.Mounting.{with_stale, IsStaleIn, behind_records, WasOpened, IsOpenedOn, MountStaysDurable}
use Rattle.log_replay.specs.declared.opening.MountFail.{MountFail}
use Rattle.log_replay.specs.declared.opening.MountFail.TheVariants.{Memory, NoSuper, BadRow, NotExact, WornOut, Fault}
use Rattle.log_replay.specs.declared.replaying.FoundStore.{FoundStore}
use Rattle.log_replay.proofs.RunLemmas.{by_length}
use Rattle.log_replay.proofs.ZeroLemmas.{told_map, goes_on_same}
use Rattle.log_replay.proofs.ClearLemmas.{told_both, all_of_contained}
use Rattle.log_replay.proofs.OpeningLemmas.{about_all, about_both, about_more}
use Rattle.mount_replay.proofs.DurableLemmas.{no_book, still_durable, after_clearing, is_mounted}
use Rattle.mount_replay.proofs.RestLemmas.{rests_so_far, rests_clean}

-- ---- what is told of two histories

pub known : (P : History → Type 0) (o : Option History) (h : History) → o ≡ Some h → IfSome o P → P h
known P o h is p = subst (λ (x : Option History). IfSome x P) is p

-- what follows a history that is told
pub record ToldAfter (P : History → History → Type 0) (h : History) (b : Option History) : Type 0 where
  pub now : History
  pub told : b ≡ Some now
  pub holds : P h now

pub told_after : (P : History → History → Type 0) (b : Option History) (h : History) → Told P (Some h) b → ToldAfter P h b
told_after P None h p = absurd p
told_after P (Some k) h p = record { now = k; told = refl; holds = p }

-- what comes before one that is told
record ToldBefore (P : History → History → Type 0) (a : Option History) (k : History) : Type 0 where
  old : History
  told : a ≡ Some old
  holds : P old k

told_before : (P : History → History → Type 0) (a : Option History) (k : History) → Told P a (Some k) → ToldBefore P a k
told_before P None k p = absurd p
told_before P (Some h) k p = record { old = h; told = refl; holds = p }

-- ---- a device that is as it was

pub stays_same : (d : Disk) → IsSound d → MountStaysDurable d d
stays_same d sound h opening told clean stands = record {
  history = h;
  told = told;
  goes_on = goes_on_same h;
  cuts = still_durable d.units h opening (known (λ g. IsUnits d.units g.start) d.history h told sound.size)
      (known (λ g. IsUnits d.units (last g.start g.log)) d.history h told sound.size_now) clean stands;
}

-- ---- a store that was found

pub stale_between : (s : FoundStore) (half units : List ℕ) → units ≡ s.stale.items → s.log.tail ≤ s.sup.half → AreStaleOf half s
    → All (λ unit. (first_behind s ≤ unit) × (unit < half_end s)) units
stale_between s half units is tail stale = all_of_contained (λ unit. (first_behind s ≤ unit) × (unit < half_end s)) units
    (λ unit here. let there = stale.each unit (subst (λ (l : List ℕ). Contains l unit) is here) in (there.from, omega (arith, there.to, tail)))

found_too : (s : FoundStore) (runs : List UnitRun) (contents : List ℕ) → IsFoundIn contents (as_found s) → IsFoundIn contents (with_stale s runs)
found_too s runs contents is = record { active = is.active; replay = is.replay }

module _ (s : FoundStore) (d : Disk) (sound : IsSound d) (found : IsFoundOn d s) (good : IsGood s.sup s.log.rows.rows)
    (runs : List UnitRun) (other : AreRunsOn d (other_unit s.sup) s.sup.half runs) where
  f : Found
  f = with_stale s runs

  -- what its contents hold, where nothing is dirty
  holds : (h : History) → d.history ≡ Some h → IsAllClean h → IsFoundIn (last h.start h.log) (with_stale s runs) × (found.half ≡ active_half (last h.start h.log) s.sup)
  holds h told clean =
      let is = known (λ g. IsAllClean g → IsFoundIn (last g.start g.log) (as_found s) × (found.half ≡ active_half (last g.start g.log) s.sup))
      d.history h told found.about clean in
      (found_too s runs (last h.start h.log) is.0, is.1)

  rest_is : (h : History) → d.history ≡ Some h → IsAllClean h → rest_of found.half s ≡ behind_records (last h.start h.log) (with_stale s runs)
  rest_is h told clean = ap (λ l. drop (4096 * s.log.tail) l) (holds h told clean).1

  whole : (h : History) → d.history ≡ Some h → IsUnits s.sup.units h.start
  whole h told = subst (λ n. IsUnits n h.start) (sym found.units_are) (known (λ g. IsUnits d.units g.start) d.history h told sound.size)

  whole_now : (h : History) → d.history ≡ Some h → IsUnits s.sup.units (last h.start h.log)
  whole_now h told =
      subst (λ n. IsUnits n (last h.start h.log)) (sym found.units_are) (known (λ g. IsUnits d.units (last g.start g.log)) d.history h told sound.size_now)

  stays_by : (h k : History) (opening : Objects) → d.history ≡ Some h → IsAllClean h → StandsFor (last h.start h.log) opening → ClearsLog s found.half h k
      → EachCutStands (length h.log) k opening no_book
  stays_by h k opening told clean stands so_far =
      let contents = last h.start h.log in
      let here = (holds h told clean).0 in
      let same = subst (λ l. ClearsSoFar (first_behind s) (half_end s) l h k) (rest_is h told clean) so_far in
      (after_clearing (with_stale s runs) h opening clean (whole h told) (whole_now h told) found.limits good.good here stands k same).cuts

  pub stays_begun : (now : Disk) → Told (ClearsLog s found.half) d.history now.history → MountStaysDurable d now
  stays_begun now told h opening is clean stands =
      let after = told_after (ClearsLog s found.half) now.history h (subst (λ o. Told (ClearsLog s found.half) o now.history) is told) in record {
        history = after.now;
        told = after.told;
        goes_on = record { same_start = after.holds.by.same_start; events = after.holds.events; more = after.holds.by.more };
        cuts = stays_by h after.now opening is clean stands after.holds;
      }

  -- ---- the kernel

  -- both facts of the clearing
  abbrev Both : ℕ → History → History → Type 0
  Both count h k = ClearsLog s found.half h k × IsLogCleared s found.half count h k

  -- the other half rests, as it was found
  other_rests : (h k : History) → d.history ≡ Some h → IsAllClean h → ClearsLog s found.half h k → OtherHalfRests k s.sup (in_runs runs)
  other_rests h k told clean so_far =
      let zeroed = known (λ g. IsAllClean g → AreZeroOutside (other_unit s.sup) s.sup.half runs (last g.start g.log)) d.history h told other.about clean in
      rests_so_far s.sup s.log.tail (in_runs runs) found.limits (rest_of found.half s) h k (whole_now h told) so_far (rests_clean s.sup runs h clean zeroed)

  mounted_by : (count : ℕ) (h k : History) (base : ℕ) (opening : Objects) → d.history ≡ Some h → Both count h k → length k.log ≡ base + count
      → IsStart base k opening → IsMounted base opening (with_stale s runs) count k
  mounted_by count h k base opening told both counted start =
      let so_far = both.0 in
      let cleared = both.1 in
      let longer = by_length cleared.events h k cleared.by in
      let base_is : base ≡ length h.log = omega (arith, longer, counted, cleared.counted) in
      let front : take base k.log ≡ h.log =
      ap (λ n. take n k.log) base_is ∙ ap (take (length h.log)) cleared.by.more ∙ take_at h.log cleared.events (length h.log) refl in
      let clean : IsAllClean h = λ unit. subst (λ l. IsClean l unit) front (start.clean unit) in
      let stands : StandsFor (last h.start h.log) opening =
      subst (λ a. StandsFor (last a h.log) opening) cleared.by.same_start (subst (λ l. StandsFor (last k.start l) opening) front start.stands) in
      let here = (holds h told clean).0 in
      let rest = rest_is h told clean in
      subst (λ n. IsMounted n opening (with_stale s runs) count k) (sym base_is)
      (is_mounted (with_stale s runs) h opening clean (whole h told) (whole_now h told) found.limits good.good here stands k count
      (subst (λ l. ClearsSoFar (first_behind s) (half_end s) l h k) rest so_far)
      (subst (λ l. IsCleared (first_behind s) (half_end s) l count h k) rest cleared) good.exact (other_rests h k told clean so_far))

  pub opened_durable : (space : Space) (next count : ℕ) (now : Disk) → now.flights ≡ [] → Told (ClearsLog s found.half) d.history now.history
      → Told (IsLogCleared s found.half count) d.history now.history → KeepsDurable (opened (with_stale s runs) space next count) now
  opened_durable space next count now idle so_far cleared = mounted_keeps (with_stale s runs) space next count now idle (λ k base opening told counted start.
      let both = told_both (ClearsLog s found.half) (IsLogCleared s found.half count) (Both count) d.history now.history (λ h k p q. (p, q)) so_far cleared in
      let before = told_before (Both count) d.history k (subst (λ o. Told (Both count) d.history o) told both) in
      mounted_by count before.old k base opening before.told before.holds counted start)

  was_opened : (count : ℕ) (h k : History) → d.history ≡ Some h → Both count h k → WasOpened (with_stale s runs) count h k
  was_opened count h k told both = let cleared = both.1 in record {
    events = cleared.events;
    by = cleared.by;
    counted = cleared.counted;
    clearing = λ clean. subst (λ l. AreClearing (length h.log) (first_behind s) (half_end s) l cleared.events) (rest_is h told clean) cleared.are;
    clean = cleared.clean;
    rests = λ clean. other_rests h k told clean both.0;
  }

  -- the next number is above those of all blobs, and low
  above : (next : ℕ) → IsNextBlob s.log.rows.rows next → IsAboveBlobs next s.log.rows.rows
  above _ (first none) sbid small has = absurd (none sbid (small, has))
  above _ (behind last is) sbid small has = omega (arith, is.last sbid (small, has))

  low_next : (next : ℕ) → IsNextBlob s.log.rows.rows next → HasLowNumbers (as_found s) → next ≤ 2 ^ 62
  low_next _ (first none) low = omega arith
  low_next _ (behind last is) low = omega (arith, low.blobs last is.has)

  openable : (space : Space) (next units : ℕ) → s.sup.units ≡ units → IsJudged (as_found s) space → IsNextBlob s.log.rows.rows next
      → IsOpenable (with_stale s runs) space next units
  openable space next units same judged is_next = record {
    limits = found.limits;
    units_are = same;
    number = omega (arith, judged.numbers.number);
    tail = found.tail;
    epoch = omega (arith, judged.numbers.epoch);
    within = found.within;
    spelled = found.fit;
    stale = other.apart;
    good = judged.good;
    space = judged.units;
    counted = counted_none s.sup s.log.rows.rows space judged.idle;
    held = judged.held;
    above = above next is_next;
    sbids = low_next next is_next judged.numbers;
  }

  pub opened_kept : (space : Space) (next count : ℕ) (now : Disk) → IsSound now → now.flights ≡ [] → now.units ≡ d.units → count ≤ 4194308
      → IsJudged (as_found s) space → IsNextBlob s.log.rows.rows next → IsKept (opened (with_stale s runs) space next count) now
  opened_kept space next count now now_sound idle same few judged is_next =
      kept_open (with_stale s runs) space next count now now_sound idle (omega (arith, few))
      (openable space next now.units (found.units_are ∙ sym same) judged is_next)

  pub opened_on : (space : Space) (next count : ℕ) (now : Disk) (state : State) → IsJudged (as_found s) space → IsNextBlob s.log.rows.rows next
      → IsLater d now
      → Told (ClearsLog s found.half) d.history now.history → Told (IsLogCleared s found.half count) d.history now.history
      → state ≡ opened (with_stale s runs) space next count → IsOpenedOn d (with_stale s runs) space now state
  opened_on space next count now state judged is_next later so_far cleared is =
      let both = told_both (ClearsLog s found.half) (IsLogCleared s found.half count) (Both count) d.history now.history (λ h k p q. (p, q)) so_far cleared in
      record {
        next = next;
        next_is = is_next;
        openable = openable space next d.units found.units_are judged is_next;
        unmarked = judged.unmarked;
        numbers = record { epoch = judged.numbers.epoch; number = judged.numbers.number; blobs = judged.numbers.blobs };
        found = about_both d (λ contents. IsFoundIn contents (as_found s) × (found.half ≡ active_half contents s.sup))
            (AreZeroOutside (other_unit s.sup) s.sup.half runs) (λ contents. IsFoundIn contents (with_stale s runs) × IsStaleIn contents (with_stale s runs))
            (λ contents here zeroed. (found_too s runs contents here.0, zeroed)) found.about other.about;
        events = count;
        state = is;
        later = later;
        told = told_map (Both count) (WasOpened (with_stale s runs) count) d.history now.history (λ h k told p. was_opened count h k told p) both;
      }

-- ---- a store that is refused

found_about : (s : FoundStore) (d : Disk) → IsFoundOn d s → (P : List ℕ → Type 0) → ((contents : List ℕ) → IsFoundIn contents (as_found s) → P contents) → IsAbout d P
found_about s d found P then =
    about_more d (λ contents. IsFoundIn contents (as_found s) × (found.half ≡ active_half contents s.sup)) P (λ contents both. then contents both.0) found.about

pub refused_fails : (s : FoundStore) (d : Disk) (before now : ℕ) (fail : MountFail) → IsFoundOn d s → IsMountRefused fail (as_found s) → FailsMount fail d before now
refused_fails s d before now Memory found refused = about_all d (λ contents. Unit {0}) (λ contents. tt)
refused_fails s d before now NoSuper found refused = absurd refused
refused_fails s d before now (BadRow key) found refused = found_about s d found (IsUnopenable (BadRow key)) (λ contents here. (as_found s, here, refused))
refused_fails s d before now (NotExact unit) found refused =
    found_about s d found (IsUnopenable (NotExact unit)) (λ contents here. (as_found s, here, refused))
refused_fails s d before now (WornOut value) found refused = found_about s d found (IsUnopenable (WornOut value)) (λ contents here. (as_found s, here, refused))
refused_fails s d before now Fault found refused = absurd refused
