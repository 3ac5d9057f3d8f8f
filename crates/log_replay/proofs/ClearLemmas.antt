-- What is behind the records is cleared, part by part.
use Rattle.std.proofs.Common.{◌≡◌, ◌≢◌, inl, inr, ℕ, ◌+◌, ◌-◌, ◌*◌, ◌<◌, ◌≤◌, Bool, true, List, [], ◌∷◌, ◌++◌, length, drop, Option, Some, None, refl, sym, ap, subst, ◌∙◌, arith}
use Rattle.std.specs.Prelude.{Contains, All, IfSome}
use Rattle.std.specs.List.{AllByRecursion}
use Rattle.std.proofs.lemmas.Bool.{cases_eq}
use Rattle.std.proofs.lemmas.List.{length-append}
use Rattle.std.proofs.lemmas.List.Elements.{Contains-get_or}
use Rattle.byte_maps.specs.Units.{unit_at, IsUnits, zeros}
use Rattle.block_device.specs.Prelude.{last, Disk, History, last_at}
use Rattle.block_device.specs.declared.event.Event.{Event}
use Rattle.block_device.specs.declared.event.Event.TheVariants.{Write, Flush, Done}
use Rattle.store_image.proofs.Prelude.{equal_or_not}
use Rattle.log_replay.specs.Prelude.{after_call, with_call, Called, Told, GoesOn, GoesOnBy, IsLater, WasZeroed, UnitRun, AreRuns, run_events, WroteRuns, IsZeroing, ZeroesOnly, AreNotZero, unit_events, IsFirstPart, flushed_runs, IsUnitCleared, IsFirstCleared, AreOthersCleared, IsCleared, ClearsSoFar}
use Rattle.log_replay.proofs.RunLemmas.{told_end, answered_call, by_none, by_one, by_join, by_call, by_length, length-run_events, each_append, only_call, zeroing_wider}
use Rattle.log_replay.proofs.ZeroLemmas.{told_start, goes_on_join, done_call, zero_inside, zero_outside}
use Rattle.log_replay.proofs.CleanLemmas.{clean_after_flush, done_where_clean, last_at-flush}
use Rattle.log_replay.proofs.MadeLemmas.{told_join}
use Rattle.log_replay.proofs.SplitLemmas.{next_unit}

-- ---- what is told of calls

-- after one call, and after two
pub told_one : (R : History → History → Type 0) (event : Event) (ok : Bool) (d d1 : Disk) → Called d event ok d1
    → ((h : History) → d.history ≡ Some h → R h (after_call event ok h)) → Told R d.history d1.history
told_one R event ok d d1 called step = subst (λ (x : Disk). Told R d.history x.history) (sym called) (one d.history step)
  where
    one : (o : Option History) → ((h : History) → o ≡ Some h → R h (after_call event ok h)) → Told R o (with_call event ok o)
    one None step = tt
    one (Some h) step = step h refl

pub told_two : (R : History → History → Type 0) (first second : Event) (ok : Bool) (d d1 d2 : Disk) → Called d first true d1 → Called d1 second ok d2
    → ((h : History) → d.history ≡ Some h → R h (after_call second ok (after_call first true h))) → Told R d.history d2.history
told_two R first second ok d d1 d2 called then_called step =
    let history : d2.history ≡ with_call second ok (with_call first true d.history) =
    ap (λ (x : Disk). x.history) then_called ∙ ap (λ (x : Disk). with_call second ok x.history) called in
    subst (λ o. Told R d.history o) (sym history) (two d.history step)
  where
    two : (o : Option History) → ((h : History) → o ≡ Some h → R h (after_call second ok (after_call first true h)))
        → Told R o (with_call second ok (with_call first true o))
    two None step = tt
    two (Some h) step = step h refl

pub told_both : (P Q R : History → History → Type 0) (a b : Option History) → ((h k : History) → P h k → Q h k → R h k)
    → Told P a b → Told Q a b → Told R a b
told_both P Q R None None step p q = tt
told_both P Q R None (Some k) step p q = p
told_both P Q R (Some h) None step p q = p
told_both P Q R (Some h) (Some k) step p q = step h k p q

pub later_join : (d d1 d2 : Disk) → IsLater d d1 → IsLater d1 d2 → IsLater d d2
later_join d d1 d2 first second = record {
  sound = second.sound;
  units = second.units ∙ first.units;
  depth = second.depth ∙ first.depth;
  idle = second.idle;
  told = told_join GoesOn GoesOn GoesOn d.history d1.history d2.history (λ h k m a b c p q. goes_on_join h k m p q) first.told second.told;
}

size_of : (units : ℕ) (o : Option History) (h : History) → o ≡ Some h → IfSome o (λ h. IsUnits units (last h.start h.log)) → IsUnits units (last h.start h.log)
size_of units o h is size = subst (λ (x : Option History). IfSome x (λ h. IsUnits units (last h.start h.log))) is size

-- ---- one unit

module _ (unit : ℕ) (h : History) where
  event : Event
  event = Write unit (zeros 4096)

  both_by : GoesOnBy (unit_events (length h.log) unit) h (after_call Flush true (after_call (Write unit (zeros 4096)) true h))
  both_by =
      let written = after_call (Write unit (zeros 4096)) true h in
      let first = by_one (Write unit (zeros 4096)) true h in
      let longer : length written.log ≡ length h.log + 2 = by_length (Write unit (zeros 4096) ∷ Done (length h.log) true ∷ []) h written first in
      subst (λ n. GoesOnBy (Write unit (zeros 4096) ∷ Done (length h.log) true ∷ Flush ∷ Done n true ∷ []) h (after_call Flush true written)) longer
      (by_join (Write unit (zeros 4096) ∷ Done (length h.log) true ∷ []) (Flush ∷ Done (length written.log) true ∷ []) h written (after_call Flush true written)
      first (by_one Flush true written))

  unit_cleared : 4096 * unit + 4096 * 1 ≤ length (last h.start h.log)
      → IsUnitCleared unit h (after_call Flush true (after_call (Write unit (zeros 4096)) true h))
  unit_cleared fits =
      let written = after_call (Write unit (zeros 4096)) true h in record {
        by = both_by;
        wiped = record {
          answered = λ base each. answered_call base Flush written (answered_call base (Write unit (zeros 4096)) h each);
          clean = λ clean. clean_after_flush written (done_call (Write unit (zeros 4096)) h (done_where_clean h clean));
          zero = λ k is. last_at-flush written k ∙ zero_inside h unit 1 fits k 0 (omega (arith, is)) (omega arith);
          others = λ k not. last_at-flush written k ∙ zero_outside h unit 1 fits k (λ j below is. not (omega (arith, below, is)));
        };
      }

  so_far_one : (ok : Bool) (bytes : List ℕ) → ClearsSoFar unit (unit + 1) bytes h (after_call (Write unit (zeros 4096)) ok h)
  so_far_one ok bytes = record {
    events = Write unit (zeros 4096) ∷ Done (length h.log) ok ∷ [];
    by = by_one (Write unit (zeros 4096)) ok h;
    each = ((1, refl, omega arith, omega arith), (tt, tt));
    begins = inr (inr (record { more = Done (length h.log) ok ∷ []; parts = refl }));
  }

  so_far_two : (ok : Bool) (bytes : List ℕ)
      → ClearsSoFar unit (unit + 1) bytes h (after_call Flush ok (after_call (Write unit (zeros 4096)) true h))
  so_far_two ok bytes =
      let written = after_call (Write unit (zeros 4096)) true h in record {
        events = Write unit (zeros 4096) ∷ Done (length h.log) true ∷ Flush ∷ Done (length written.log) ok ∷ [];
        by = by_join (Write unit (zeros 4096) ∷ Done (length h.log) true ∷ []) (Flush ∷ Done (length written.log) ok ∷ []) h written (after_call Flush ok written)
            (by_one (Write unit (zeros 4096)) true h) (by_one Flush ok written);
        each = ((1, refl, omega arith, omega arith), (tt, (tt, (tt, tt))));
        begins = inr (inr (record { more = Done (length h.log) true ∷ Flush ∷ Done (length written.log) ok ∷ []; parts = refl }));
      }

so_far_none : (first end : ℕ) (bytes : List ℕ) (h : History) → ClearsSoFar first end bytes h h
so_far_none first end bytes h = record { events = []; by = by_none h; each = tt; begins = inl refl }

pub clears_none : (first end : ℕ) (bytes : List ℕ) (d : Disk) → Told (ClearsSoFar first end bytes) d.history d.history
clears_none first end bytes d = told_start (ClearsSoFar first end bytes) d.history (so_far_none first end bytes)

module _ (unit : ℕ) (d d1 d2 : Disk) where
  pub cleared_unit : unit < d.units → IfSome d.history (λ h. IsUnits d.units (last h.start h.log)) → Called d (Write unit (zeros 4096)) true d1
      → Called d1 Flush true d2 → Told (IsUnitCleared unit) d.history d2.history
  cleared_unit below size first second = told_two (IsUnitCleared unit) (Write unit (zeros 4096)) Flush true d d1 d2 first second
      (λ h is. let whole = size_of d.units d.history h is size in unit_cleared unit h (omega (arith, below, whole)))

  pub clears_one : (ok : Bool) (bytes : List ℕ) → Called d (Write unit (zeros 4096)) ok d1
      → Told (ClearsSoFar unit (unit + 1) bytes) d.history d1.history
  clears_one ok bytes called = told_one (ClearsSoFar unit (unit + 1) bytes) (Write unit (zeros 4096)) ok d d1 called (λ h is. so_far_one unit h ok bytes)

  pub clears_two : (ok : Bool) (bytes : List ℕ) → Called d (Write unit (zeros 4096)) true d1 → Called d1 Flush ok d2
      → Told (ClearsSoFar unit (unit + 1) bytes) d.history d2.history
  clears_two ok bytes first second = told_two (ClearsSoFar unit (unit + 1) bytes) (Write unit (zeros 4096)) Flush ok d d1 d2 first second
      (λ h is. so_far_two unit h ok bytes)

-- ---- the first part

first_is_zero : (unit : ℕ) (bytes : List ℕ) → unit_at 0 bytes ≡ zeros 4096 → (h : History) → IsFirstCleared unit bytes 0 h h
first_is_zero unit bytes is h = record {
  events = [];
  are = inl (is, refl);
  counted = refl;
  by = by_none h;
  wiped = record {
    answered = λ base each. each;
    clean = λ clean. clean;
    zero = λ k both. absurd (both.0 is);
    others = λ k not. refl;
  };
}

first_is_wiped : (unit : ℕ) (bytes : List ℕ) → unit_at 0 bytes ≢ zeros 4096 → (h k : History) → IsUnitCleared unit h k → IsFirstCleared unit bytes 4 h k
first_is_wiped unit bytes not h k cleared = record {
  events = unit_events (length h.log) unit;
  are = inr (not, refl);
  counted = refl;
  by = cleared.by;
  wiped = record {
    answered = cleared.wiped.answered;
    clean = cleared.wiped.clean;
    zero = λ k both. cleared.wiped.zero k both.1;
    others = λ k other. cleared.wiped.others k (λ is. other (not, is));
  };
}

pub no_first : (unit : ℕ) (bytes : List ℕ) (d : Disk) → unit_at 0 bytes ≡ zeros 4096 → Told (IsFirstCleared unit bytes 0) d.history d.history
no_first unit bytes d is = told_start (IsFirstCleared unit bytes 0) d.history (first_is_zero unit bytes is)

pub one_first : (unit : ℕ) (bytes : List ℕ) (a b : Option History) → unit_at 0 bytes ≢ zeros 4096 → Told (IsUnitCleared unit) a b
    → Told (IsFirstCleared unit bytes 4) a b
one_first unit bytes a b not cleared =
    told_both (IsUnitCleared unit) (IsUnitCleared unit) (IsFirstCleared unit bytes 4) a b (λ h k p q. first_is_wiped unit bytes not h k p) cleared cleared

-- ---- the second part

pub no_others : (units : List ℕ) (h : History) → units ≡ [] → AreOthersCleared units 0 h h
no_others units h none = record {
  events = [];
  are = record { runs = []; are = none; spelled = refl };
  counted = refl;
  by = by_none h;
  wiped = record {
    answered = λ base each. each;
    clean = λ clean. clean;
    zero = λ unit here. absurd (no_element unit (subst (λ l. Contains l unit) none here));
    others = λ unit not. refl;
  };
}
  where
    no_element : (unit : ℕ) → Contains [] unit → ⊥
    no_element unit here = omega (arith, here.1)

-- runs, and a flush behind them
flushed_is : (units : List ℕ) (runs : List UnitRun) (place : ℕ) → units ≢ [] → AreRuns units runs
    → flushed_runs place runs ≡ run_events place runs ++ Flush ∷ Done (place + 2 * length runs) true ∷ []
flushed_is units [] place some are = absurd (some are)
flushed_is units (run ∷ runs) place some are = refl

others_flushed : (units : List ℕ) (n : ℕ) → units ≢ [] → (h k : History) → WasZeroed units h k → WroteRuns units n h k
    → AreOthersCleared units (2 * n + 2) h (after_call Flush true k)
others_flushed units n some h k was wrote =
    let place = length h.log in
    let runs = wrote.runs in
    let longer : length k.log ≡ place + 2 * length runs =
    by_length (run_events place runs) h k wrote.by ∙ ap (λ m. place + m) (length-run_events place runs) in
    let spelled : flushed_runs place runs ≡ run_events place runs ++ Flush ∷ Done (length k.log) true ∷ [] =
    flushed_is units runs place some wrote.are ∙ ap (λ m. run_events place runs ++ Flush ∷ Done m true ∷ []) (sym longer) in
    record {
      events = flushed_runs place runs;
      are = record { runs = runs; are = wrote.are; spelled = refl };
      counted = sym (ap (λ (l : List Event). length l) spelled ∙ length-append (run_events place runs) (Flush ∷ Done (length k.log) true ∷ [])
          ∙ omega (arith, wrote.counted, length-run_events place runs));
      by = subst (λ events. GoesOnBy events h (after_call Flush true k)) (sym spelled) (by_call (run_events place runs) Flush true h k wrote.by);
      wiped = record {
        answered = λ base each. answered_call base Flush k (was.answered base each);
        clean = λ clean. clean_after_flush k (was.done (done_where_clean h clean));
        zero = λ unit here. last_at-flush k unit ∙ was.zero unit here;
        others = λ unit not. last_at-flush k unit ∙ was.others unit not;
      };
    }

pub cleared_others : (units : List ℕ) (n : ℕ) (d d1 d2 : Disk) → units ≢ [] → Told (WasZeroed units) d.history d1.history
    → Told (WroteRuns units n) d.history d1.history → Called d1 Flush true d2 → Told (AreOthersCleared units (2 * n + 2)) d.history d2.history
cleared_others units n d d1 d2 some was wrote called =
    subst (λ (x : Disk). Told (AreOthersCleared units (2 * n + 2)) d.history x.history) (sym called)
    (told_end (λ h k. WasZeroed units h k × WroteRuns units n h k) (AreOthersCleared units (2 * n + 2)) Flush true d.history d1.history
    (λ h k both. others_flushed units n some h k both.0 both.1)
    (told_both (WasZeroed units) (WroteRuns units n) (λ h k. WasZeroed units h k × WroteRuns units n h k) d.history d1.history (λ h k p q. (p, q)) was wrote))

pub only_flush : (first end : ℕ) (ok : Bool) (d d1 d2 : Disk) → Told (ZeroesOnly first end) d.history d1.history → Called d1 Flush ok d2
    → Told (ZeroesOnly first end) d.history d2.history
only_flush first end ok d d1 d2 only called =
    subst (λ (x : Disk). Told (ZeroesOnly first end) d.history x.history) (sym called)
    (told_end (ZeroesOnly first end) (ZeroesOnly first end) Flush ok d.history d1.history (λ h k only. only_call first end Flush ok h k tt only) only)

-- ---- both parts

pub all_of_contained : (P : ℕ → Type 0) (xs : List ℕ) → ((x : ℕ) → Contains xs x → P x) → All P xs
all_of_contained P xs each k d lt = each _ (Contains-get_or xs k d lt)

module _ (first end : ℕ) (bytes units : List ℕ) (some : first < end) (are : AreNotZero (first + 1) (end - (first + 1)) (drop 4096 bytes) units) where
  pub others_between : All (λ unit. (first + 1 ≤ unit) × (unit < end)) units
  others_between = all_of_contained (λ unit. (first + 1 ≤ unit) × (unit < end)) units
      (λ unit here. let is = are.each unit here in (is.from, omega (arith, some, is.to)))

  pub others_below : (most : ℕ) → end ≤ most → All (λ unit. unit < most) units
  others_below most le = all_of_contained (λ unit. unit < most) units (λ unit here. let is = are.each unit here in omega (arith, some, is.to, le))

  both_cleared : (n m : ℕ) (h k l : History) → IsFirstCleared first bytes n h k → AreOthersCleared units m k l → IsCleared first end bytes (n + m) h l
  both_cleared n m h k l one more = record {
    events = one.events ++ more.events;
    are = inr (
      some,
      record {
        first_part = one.events;
        second_part = more.events;
        units = units;
        parts = refl;
        is_first = one.are;
        not_zero = are;
        is_second = record {
          runs = more.are.runs;
          are = more.are.are;
          spelled = more.are.spelled ∙ ap (λ place. flushed_runs place more.are.runs) (by_length one.events h k one.by);
        };
      },
    );
    counted = sym (length-append one.events more.events ∙ omega (arith, one.counted, more.counted));
    by = by_join one.events more.events h k l one.by more.by;
    answered = λ base each. more.wiped.answered base (one.wiped.answered base each);
    clean = λ clean. more.wiped.clean (one.wiped.clean clean);
    zero = λ same unit from below. elim (equal_or_not (last_at l unit) (zeros 4096)) [
      | inl is ↦ is
      | inr other ↦
          let apart : ¬ Contains units unit = λ here. other (more.wiped.zero unit here) in
          absurd (other (more.wiped.others unit apart ∙ before same unit from below apart))
    ];
  }
    where
      before : ((j : ℕ) → j < end - first → last_at h (first + j) ≡ unit_at j bytes) → (unit : ℕ) → first ≤ unit → unit < end → ¬ Contains units unit
          → last_at k unit ≡ zeros 4096
      before same unit from below apart = elim (cases_eq unit first) [
        | inl here ↦ elim (equal_or_not (unit_at 0 bytes) (zeros 4096)) [
          | inl is ↦
              let place : unit ≡ first + 0 = omega (arith, here) in
              one.wiped.others unit (λ both. both.0 is) ∙ ap (last_at h) place ∙ same 0 (omega (arith, some)) ∙ is
          | inr not ↦ one.wiped.zero unit (not, here)
        ]
        | inr behind ↦
            let j = unit - (first + 1) in
            let place : unit ≡ first + (1 + j) = omega (arith, from, behind) in
            let there : unit ≡ first + 1 + j = omega (arith, from, behind) in
            one.wiped.others unit (λ both. behind both.1)
            ∙ ap (last_at h) place
            ∙ same (1 + j) (omega (arith, from, behind, below))
            ∙ sym (next_unit bytes j)
            ∙ are.others j (omega (arith, from, behind, below)) (λ here. apart (subst (Contains units) (sym there) here))
      ]

  pub cleared_both : (n m : ℕ) (d d1 d2 : Disk) → Told (IsFirstCleared first bytes n) d.history d1.history
      → Told (AreOthersCleared units m) d1.history d2.history → Told (IsCleared first end bytes (n + m)) d.history d2.history
  cleared_both n m d d1 d2 one more =
      told_join (IsFirstCleared first bytes n) (AreOthersCleared units m) (IsCleared first end bytes (n + m)) d.history d1.history d2.history
      (λ h k l a b c p q. both_cleared n m h k l p q) one more

  so_far_both : (n : ℕ) (h k l : History) → IsFirstCleared first bytes n h k → ZeroesOnly (first + 1) end k l → ClearsSoFar first end bytes h l
  so_far_both n h k l one only = record {
    events = one.events ++ only.events;
    by = by_join one.events only.events h k l one.by only.by;
    each = each_append (IsZeroing first end) one.events only.events (first_zeroes one.events one.are)
        (zeroing_wider (first + 1) end first end (omega arith) (omega arith) only.events only.each);
    begins = elim one.are [
      | inl is ↦ inr (inl is.0)
      | inr wiped ↦ inr (inr (record {
        more = (Done (length h.log) true ∷ Flush ∷ Done (length h.log + 2) true ∷ []) ++ only.events;
        parts = ap (λ l. l ++ only.events) wiped.1;
      }))
    ];
  }
    where
      first_zeroes : (events : List Event) → IsFirstPart (length h.log) first bytes events → AllByRecursion (IsZeroing first end) events
      first_zeroes events (inl is) = subst (AllByRecursion (IsZeroing first end)) (sym is.1) tt
      first_zeroes events (inr wiped) =
          subst (AllByRecursion (IsZeroing first end)) (sym wiped.1) ((1, refl, omega arith, omega (arith, some)), (tt, (tt, (tt, tt))))

  pub clears_both : (n : ℕ) (d d1 d2 : Disk) → Told (IsFirstCleared first bytes n) d.history d1.history
      → Told (ZeroesOnly (first + 1) end) d1.history d2.history → Told (ClearsSoFar first end bytes) d.history d2.history
  clears_both n d d1 d2 one only =
      told_join (IsFirstCleared first bytes n) (ZeroesOnly (first + 1) end) (ClearsSoFar first end bytes) d.history d1.history d2.history
      (λ h k l a b c p q. so_far_both n h k l p q) one only

pub clears_wider : (first end : ℕ) (bytes : List ℕ) (a b : Option History) → first < end → Told (ClearsSoFar first (first + 1) bytes) a b
    → Told (ClearsSoFar first end bytes) a b
clears_wider first end bytes a b some so_far =
    told_both (ClearsSoFar first (first + 1) bytes) (ClearsSoFar first (first + 1) bytes) (ClearsSoFar first end bytes) a b (λ h k p q. wider h k p) so_far so_far
  where
    wider : (h k : History) → ClearsSoFar first (first + 1) bytes h k → ClearsSoFar first end bytes h k
    wider h k p = record {
      events = p.events;
      by = p.by;
      each = zeroing_wider first (first + 1) first end (omega arith) (omega (arith, some)) p.events p.each;
      begins = p.begins;
    }

-- where there is no unit
pub cleared_none : (first end : ℕ) (bytes : List ℕ) (d : Disk) → end ≤ first → Told (IsCleared first end bytes 0) d.history d.history
cleared_none first end bytes d none = told_start (IsCleared first end bytes 0) d.history (λ h. record {
  events = [];
  are = inl (none, refl);
  counted = refl;
  by = by_none h;
  answered = λ base each. each;
  clean = λ clean. clean;
  zero = λ same unit from below. absurd (omega (arith, from, below, none));
})
