-- Zeros are written run by run.
use Rattle.std.proofs.Common.{◌≡◌, ◌≢◌, inl, inr, ℕ, ◌+◌, ◌-◌, ◌*◌, ◌<◌, ◌≤◌, Bool, true, false, List, [], ◌∷◌, ◌++◌, length, take, drop, Option, Some, None, refl, sym, ap, subst, ◌∙◌, append_assoc, arith, length-drop}
use Rattle.std.specs.Prelude.{◌==◌, Contains, All, IfSome, slice_index}
use Rattle.std.proofs.lemmas.Bool.{cases_lt}
use Rattle.std.proofs.lemmas.Bool.Decides.{nat_tests}
use Rattle.std.proofs.lemmas.List.{append-nil, get_or_default, get_or-take, take-append-drop, length-take-le, take_all}
use Rattle.std.proofs.lemmas.List.Elements.{Contains-get_or, Contains-append_left, Contains-append_right, Contains-append_cases, Contains-push, All-get_or, All-drop}
use Rattle.byte_maps.specs.Units.{unit_at, IsUnits, zeros}
use Rattle.byte_maps.proofs.Prelude.{length-zeros, unit_at-zeros, unit_at-laid_inside}
use Rattle.block_device.specs.Prelude.{last, after_event, WritesUnit, Disk, History, last_at, IsSound}
use Rattle.block_device.specs.declared.event.Event.{Event}
use Rattle.block_device.specs.declared.event.Event.TheVariants.{Write, Done}
use Rattle.block_device.proofs.LogLemmas.{last-push, unit_at-after_event, length-after_event, slice_get-push_cases}
use Rattle.log_replay.specs.Prelude.{after_call, with_call, Called, Told, GoesOn, IsLater, EachWriteIsDone, IsZero, IsRunAtFront, WasZeroed, WroteRuns, ZeroesOnly}
use Rattle.log_replay.proofs.RunLemmas.{told_end, answered_call, RunsSoFar, runs_none, runs_more, runs_all, only_none, only_call, run_zeroes}

-- ---- one call

pub told_call : (P Q : History → History → Type 0) (event : Event) (a b : Option History) → ((h k : History) → a ≡ Some h → b ≡ Some k → P h k → Q h (after_call event true k)) → Told P a b → Told Q a (with_call event true b)
told_call P Q event None None step p = tt
told_call P Q event None (Some k) step p = p
told_call P Q event (Some h) None step p = p
told_call P Q event (Some h) (Some k) step p = step h k refl refl p

pub told_start : (P : History → History → Type 0) (a : Option History) → ((h : History) → P h h) → Told P a a
told_start P None same = tt
told_start P (Some h) same = same h

pub told_map : (P Q : History → History → Type 0) (a b : Option History) → ((h k : History) → a ≡ Some h → P h k → Q h k) → Told P a b → Told Q a b
told_map P Q None None step p = tt
told_map P Q None (Some k) step p = p
told_map P Q (Some h) None step p = p
told_map P Q (Some h) (Some k) step p = step h k refl p

pub goes_on_same : (h : History) → GoesOn h h
goes_on_same h = record { same_start = refl; events = []; more = sym (append-nil h.log) }

pub goes_on_join : (h k m : History) → GoesOn h k → GoesOn k m → GoesOn h m
goes_on_join h k m a b = record {
  same_start = b.same_start ∙ a.same_start;
  events = a.events ++ b.events;
  more = b.more ∙ ap (λ (l : List Event). l ++ b.events) a.more ∙ append_assoc h.log a.events b.events;
}

pub goes_on_call : (event : Event) (ok : Bool) (h k : History) → GoesOn h k → GoesOn h (after_call event ok k)
goes_on_call event ok h k on = record {
  same_start = on.same_start;
  events = (on.events ++ event ∷ []) ++ Done (length k.log) ok ∷ [];
  more = ap (λ l. (l ++ event ∷ []) ++ Done (length k.log) ok ∷ []) on.more
      ∙ ap (λ l. l ++ Done (length k.log) ok ∷ []) (append_assoc h.log on.events (event ∷ []))
      ∙ append_assoc h.log (on.events ++ event ∷ []) (Done (length k.log) ok ∷ []);
}

pub later_same : (d : Disk) → IsSound d → d.flights ≡ [] → IsLater d d
later_same d sound idle = record { sound = sound; units = refl; depth = refl; idle = idle; told = told_start GoesOn d.history goes_on_same }

told_any_call : (event : Event) (ok : Bool) (a b : Option History) → Told GoesOn a b → Told GoesOn a (with_call event ok b)
told_any_call event ok None None p = tt
told_any_call event ok None (Some k) p = p
told_any_call event ok (Some h) None p = p
told_any_call event ok (Some h) (Some k) p = goes_on_call event ok h k p

pub later_call : (event : Event) (ok : Bool) (old mid new : Disk) → IsLater old mid → Called mid event ok new → IsSound new → IsLater old new
later_call event ok old mid new later called sound = subst (IsLater old) (sym called) (record {
  sound = subst IsSound called sound;
  units = later.units;
  depth = later.depth;
  idle = later.idle;
  told = told_any_call event ok old.history mid.history later.told;
})

-- the contents after a call
pub last-call : (event : Event) (h : History) → last h.start (after_call event true h).log ≡ after_event (last h.start h.log) event
last-call event h = last-push h.start (h.log ++ event ∷ []) (Done (length h.log) true) ∙ last-push h.start h.log event

pub done_call : (event : Event) (h : History) → EachWriteIsDone h.log → EachWriteIsDone (after_call event true h).log
done_call event h done write unit e at writes = elim (slice_get-push_cases (h.log ++ event ∷ []) (Done (length h.log) true) e write at) [
  | inl before ↦ elim (slice_get-push_cases h.log event e write before) [
    | inl older ↦ Contains-append_left (h.log ++ event ∷ []) (Done (length h.log) true ∷ []) _ (Contains-append_left h.log (event ∷ []) _ (done write unit e older writes))
    | inr new ↦ subst (λ n. Contains (after_call event true h).log (Done n true)) (sym new.0) (Contains-push (h.log ++ event ∷ []) (Done (length h.log) true))
  ]
  | inr end ↦ absurd (subst (WritesUnit unit) (sym end.1) writes)
]

-- ---- zeros over a run

module _ (h : History) (at count : ℕ) (fits : 4096 * at + 4096 * count ≤ length (last h.start h.log)) where
  event : Event
  event = Write at (zeros (4096 * count))

  inside : 4096 * at + length (zeros (4096 * count)) ≤ length (last h.start h.log)
  inside = omega (arith, fits, length-zeros (4096 * count))

  pub zero_size : length (last h.start (after_call (Write at (zeros (4096 * count))) true h).log) ≡ length (last h.start h.log)
  zero_size = ap length (last-call _ h) ∙ length-after_event (Write at (zeros (4096 * count))) (last h.start h.log) inside

  pub zero_inside : (unit j : ℕ) → unit ≡ at + j → j < count → IsZero (after_call (Write at (zeros (4096 * count))) true h) unit
  zero_inside unit j is below =
      ap (unit_at unit) (last-call _ h)
      ∙ unit_at-laid_inside at unit j (zeros (4096 * count)) (last h.start h.log) inside is (omega (arith, below, length-zeros (4096 * count)))
      ∙ unit_at-zeros j (4096 * count) (omega (arith, below))

  pub zero_outside : (unit : ℕ) → ((j : ℕ) → j < count → unit ≢ at + j) → last_at (after_call (Write at (zeros (4096 * count))) true h) unit ≡ last_at h unit
  zero_outside unit apart =
      ap (unit_at unit) (last-call _ h)
      ∙ unit_at-after_event unit (Write at (zeros (4096 * count))) (last h.start h.log) inside (λ covers. apart (unit - at) (omega (arith, covers.0, covers.1, length-zeros (4096 * count))) (omega (arith, covers.0)))

-- ---- run by run

pub not_empty : (xs : List ℕ) (r : Bool) → r ≡ (length xs == 0) → r ≡ false → 0 < length xs
not_empty [] r is no_test = absurd cc
not_empty (x ∷ xs) r is no_test = omega arith

pub none_left : (xs : List ℕ) (r : Bool) → r ≡ (length xs == 0) → r ≡ true → xs ≡ []
none_left [] r is no_test = refl
none_left (x ∷ xs) r is no_test = absurd (let never : length (x ∷ xs) ≡ 0 = grind (arith, nat_tests) in omega (arith, never))

-- so many of the units are done, in so many runs, and these are left
pub record ZeroedSoFar (units rest : List ℕ) (count : ℕ) (old new : Disk) : Type 0 where
  pub done : List ℕ
  pub parts : units ≡ done ++ rest
  pub below : All (λ unit. unit < old.units) rest
  pub later : IsLater old new
  pub told : Told (WasZeroed done) old.history new.history
  pub runs : Told (RunsSoFar units rest count) old.history new.history
  pub few : count + length rest ≤ length units
  pub only : (first end : ℕ) → All (λ unit. (first ≤ unit) × (unit < end)) units
      → All (λ unit. (first ≤ unit) × (unit < end)) rest × Told (ZeroesOnly first end) old.history new.history

was_zeroed_none : (h : History) → WasZeroed [] h h
was_zeroed_none h = record {
  goes_on = goes_on_same h;
  size = refl;
  done = λ done. done;
  answered = λ base each. each;
  zero = λ unit none. absurd (omega (arith, none.1));
  others = λ unit not. refl;
}

pub zeroed_none : (units : List ℕ) (d : Disk) → IsSound d → d.flights ≡ [] → All (λ unit. unit < d.units) units → ZeroedSoFar units units 0 d d
zeroed_none units d sound idle below = record {
  done = [];
  parts = refl;
  below = below;
  later = later_same d sound idle;
  told = told_start (WasZeroed []) d.history was_zeroed_none;
  runs = told_start (RunsSoFar units units 0) d.history (runs_none units);
  few = omega arith;
  only = λ first end between. (between, told_start (ZeroesOnly first end) d.history (only_none first end));
}

module _ (rest : List ℕ) (count : ℕ) (run : IsRunAtFront rest count) (some : 0 < length rest) where
  -- a unit of the run, by its place, and a place for each unit of the run
  in_run : (unit : ℕ) → Contains (take count rest) unit → (j : ℕ) × (j < count) × (unit ≡ slice_index rest 0 + j)
  in_run unit here =
      let j = here.0 in
      let size : length (take count rest) ≡ count = length-take-le count rest run.within in
      let lt : j < count = omega (arith, here.1, size) in
      (j, lt, sym here.2 ∙ get_or_default (take count rest) j unit 0 here.1 ∙ get_or-take count rest j 0 lt ∙ run.consecutive j lt)

  run_has : (unit j : ℕ) → unit ≡ slice_index rest 0 + j → j < count → Contains (take count rest) unit
  run_has unit j is lt =
      let size : length (take count rest) ≡ count = length-take-le count rest run.within in
      subst (Contains (take count rest)) (get_or-take count rest j 0 lt ∙ run.consecutive j lt ∙ sym is) (Contains-get_or (take count rest) j 0 (omega (arith, lt, size)))

  pub run_fits : (units : ℕ) → All (λ unit. unit < units) rest → slice_index rest 0 + count ≤ units
  run_fits units below =
      let last_one = All-get_or (λ unit. unit < units) rest (count - 1) 0 (omega (arith, run.within, run.some some)) below in
      omega (arith, last_one, run.consecutive (count - 1) (omega (arith, run.some some)), run.some some)

  was_zeroed_more : (done : List ℕ) (h k : History) → 4096 * slice_index rest 0 + 4096 * count ≤ length (last h.start h.log) → WasZeroed done h k
      → WasZeroed (done ++ take count rest) h (after_call (Write (slice_index rest 0) (zeros (4096 * count))) true k)
  was_zeroed_more done h k within was =
      let at = slice_index rest 0 in
      let fits : 4096 * at + 4096 * count ≤ length (last k.start k.log) = omega (arith, within, was.size) in
      let same_start = was.goes_on.same_start in
      record {
        goes_on = goes_on_call (Write at (zeros (4096 * count))) true h k was.goes_on;
        size = zero_size k at count fits ∙ was.size;
        done = λ all. done_call (Write at (zeros (4096 * count))) k (was.done all);
        answered = λ base each. answered_call base (Write at (zeros (4096 * count))) k (was.answered base each);
        zero = λ unit here. elim (Contains-append_cases done (take count rest) unit here) [
          | inl before ↦ kept k at fits unit (was.zero unit before)
          | inr now ↦ let found = in_run unit now in zero_inside k at count fits unit found.0 found.2 found.1
        ];
        others = λ unit not. zero_outside k at count fits unit (λ j lt is. not (Contains-append_right done (take count rest) unit (run_has unit j is lt)))
            ∙ was.others unit (λ here. not (Contains-append_left done (take count rest) unit here));
      }
    where
      -- a unit that is zero stays so
      kept : (k : History) (at : ℕ) → 4096 * at + 4096 * count ≤ length (last k.start k.log) → (unit : ℕ) → IsZero k unit → IsZero (after_call (Write at (zeros (4096 * count))) true k) unit
      kept k at fits unit zero = elim (cases_lt unit at) [
        | inl lt ↦ zero_outside k at count fits unit (λ j below is. omega (arith, lt, is)) ∙ zero
        | inr ge ↦ elim (cases_lt unit (at + count)) [
          | inl lt ↦ zero_inside k at count fits unit (unit - at) (omega (arith, ge)) (omega (arith, ge, lt))
          | inr behind ↦ zero_outside k at count fits unit (λ j below is. omega (arith, behind, is, below)) ∙ zero
        ]
      ]

  -- the write, whether it ends well or not, is one of zeros
  pub only_after : (first end : ℕ) (ok : Bool) (old mid new : Disk)
      → All (λ unit. (first ≤ unit) × (unit < end)) rest × Told (ZeroesOnly first end) old.history mid.history
      → Called mid (Write (slice_index rest 0) (zeros (4096 * count))) ok new → Told (ZeroesOnly first end) old.history new.history
  only_after first end ok old mid new was called =
      let event = Write (slice_index rest 0) (zeros (4096 * count)) in
      subst (λ d. Told (ZeroesOnly first end) old.history d.history) (sym called)
      (told_end (ZeroesOnly first end) (ZeroesOnly first end) event ok old.history mid.history
      (λ h k only. only_call first end event ok h k (run_zeroes rest count first end some run was.0) only) was.1)

  zeroed_more : (units : List ℕ) (n : ℕ) (old mid new : Disk) → IfSome old.history (λ h. IsUnits old.units (last h.start h.log)) → ZeroedSoFar units rest n old mid
      → Called mid (Write (slice_index rest 0) (zeros (4096 * count))) true new → IsSound new → ZeroedSoFar units (drop count rest) (n + 1) old new
  zeroed_more units n old mid new size so_far called sound =
      let at = slice_index rest 0 in
      let event = Write at (zeros (4096 * count)) in
      let fits : at + count ≤ old.units = run_fits old.units so_far.below in
      record {
        done = so_far.done ++ take count rest;
        parts = so_far.parts ∙ ap (λ l. so_far.done ++ l) (sym (take-append-drop count rest)) ∙ sym (append_assoc so_far.done (take count rest) (drop count rest));
        below = All-drop (λ unit. unit < old.units) count rest so_far.below;
        later = later_call event true old mid new so_far.later called sound;
        told = subst (λ d. Told (WasZeroed (so_far.done ++ take count rest)) old.history d.history) (sym called)
            (told_call (WasZeroed so_far.done) (WasZeroed (so_far.done ++ take count rest)) event old.history mid.history
            (λ h k was_h was_k was. was_zeroed_more so_far.done h k (omega (arith, fits, subst (λ o. IfSome o (λ t. IsUnits old.units (last t.start t.log))) was_h size)) was) so_far.told);
        runs = subst (λ d. Told (RunsSoFar units (drop count rest) (n + 1)) old.history d.history) (sym called)
            (told_end (RunsSoFar units rest n) (RunsSoFar units (drop count rest) (n + 1)) event true old.history mid.history
            (λ h k so_far. runs_more units rest n count some run h k so_far) so_far.runs);
        few = omega (arith, so_far.few, length-drop count rest, run.some some, run.within);
        only = λ first end between.
            let was = so_far.only first end between in (
              All-drop (λ unit. (first ≤ unit) × (unit < end)) count rest was.0,
              only_after first end true old mid new was called,
            );
      }

  -- with what is left as the code cuts it off
  pub zeroed_tail : (units : List ℕ) (m : ℕ) (old mid new : Disk) (n : ℕ) → length rest ≤ count + n → IfSome old.history (λ h. IsUnits old.units (last h.start h.log)) → ZeroedSoFar units rest m old mid
      → Called mid (Write (slice_index rest 0) (zeros (4096 * count))) true new → IsSound new
      → ZeroedSoFar units (take n (drop count rest)) (m + 1) old new
  zeroed_tail units m old mid new n all size so_far called sound =
      subst (λ l. ZeroedSoFar units l (m + 1) old new) (sym (take_all n (drop count rest) (omega (arith, all, length-drop count rest)))) (zeroed_more units m old mid new size so_far called sound)

pub zeroed_all : (units rest : List ℕ) (n : ℕ) (old new : Disk) → rest ≡ [] → ZeroedSoFar units rest n old new → Told (WasZeroed units) old.history new.history
zeroed_all units rest n old new none so_far =
    subst (λ l. Told (WasZeroed l) old.history new.history) (sym (so_far.parts ∙ ap (λ l. so_far.done ++ l) none ∙ append-nil so_far.done)) so_far.told

pub wrote_all : (units rest : List ℕ) (n : ℕ) (old new : Disk) → rest ≡ [] → ZeroedSoFar units rest n old new → Told (WroteRuns units n) old.history new.history
wrote_all units rest n old new none so_far =
    told_map (RunsSoFar units rest n) (WroteRuns units n) old.history new.history (λ h k same runs. runs_all units rest n none h k runs) so_far.runs
