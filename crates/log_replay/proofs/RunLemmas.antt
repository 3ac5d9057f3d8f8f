-- The events of zeros that are written run by run.
use Rattle.std.proofs.Common.{◌≡◌, inl, inr, ℕ, ◌+◌, ◌-◌, ◌*◌, ◌<◌, ◌≤◌, Bool, true, List, [], ◌∷◌, ◌++◌, length, drop, Option, Some, None, refl, sym, ap, subst, ◌∙◌, append_assoc, arith}
use Rattle.std.specs.Prelude.{Contains, All, slice_index}
use Rattle.std.specs.List.{AllByRecursion}
use Rattle.std.proofs.lemmas.List.{append-nil, length-append}
use Rattle.std.proofs.lemmas.List.Elements.{Contains-append_left, Contains-push, All-get_or}
use Rattle.byte_maps.specs.Units.{zeros}
use Rattle.block_device.specs.Prelude.{History, EachWriteIsAnswered, IsSubmission}
use Rattle.block_device.specs.declared.event.Event.{Event}
use Rattle.block_device.specs.declared.event.Event.TheVariants.{Write, Flush, Done}
use Rattle.block_device.proofs.LogLemmas.{slice_get-push_cases}
use Rattle.log_replay.specs.Prelude.{after_call, with_call, Told, GoesOnBy, IsRunAtFront, UnitRun, AreRuns, run_events, WroteRuns, IsZeroing, ZeroesOnly}

-- ---- one more call

pub told_end : (P Q : History → History → Type 0) (event : Event) (ok : Bool) (a b : Option History)
    → ((h k : History) → P h k → Q h (after_call event ok k)) → Told P a b → Told Q a (with_call event ok b)
told_end P Q event ok None None step p = tt
told_end P Q event ok None (Some k) step p = p
told_end P Q event ok (Some h) None step p = p
told_end P Q event ok (Some h) (Some k) step p = step h k p

-- each submission is answered, also after a call that ended well
pub answered_call : (base : ℕ) (event : Event) (h : History) → EachWriteIsAnswered base h [] → EachWriteIsAnswered base (after_call event true h) []
answered_call base event h each place e from at submitted = elim (slice_get-push_cases (h.log ++ event ∷ []) (Done (length h.log) true) e place at) [
  | inl before ↦ elim (slice_get-push_cases h.log event e place before) [
    | inl older ↦ elim (each place e from older submitted) [
      | inl flying ↦ absurd cc
      | inr good ↦ inr (Contains-append_left (h.log ++ event ∷ []) (Done (length h.log) true ∷ []) _ (Contains-append_left h.log (event ∷ []) _ good))
    ]
    | inr new ↦ inr (subst (λ n. Contains (after_call event true h).log (Done n true)) (sym new.0) (Contains-push (h.log ++ event ∷ []) (Done (length h.log) true)))
  ]
  | inr end ↦ absurd (subst IsSubmission (sym end.1) submitted)
]

-- ---- the history goes on by events

pub by_none : (h : History) → GoesOnBy [] h h
by_none h = record { same_start = refl; more = sym (append-nil h.log) }

pub by_join : (a b : List Event) (h k m : History) → GoesOnBy a h k → GoesOnBy b k m → GoesOnBy (a ++ b) h m
by_join a b h k m first second = record {
  same_start = second.same_start ∙ first.same_start;
  more = second.more ∙ ap (λ (l : List Event). l ++ b) first.more ∙ append_assoc h.log a b;
}

pub by_one : (event : Event) (ok : Bool) (k : History) → GoesOnBy (event ∷ Done (length k.log) ok ∷ []) k (after_call event ok k)
by_one event ok k = record { same_start = refl; more = append_assoc k.log (event ∷ []) (Done (length k.log) ok ∷ []) }

pub by_call : (events : List Event) (event : Event) (ok : Bool) (h k : History) → GoesOnBy events h k
    → GoesOnBy (events ++ event ∷ Done (length k.log) ok ∷ []) h (after_call event ok k)
by_call events event ok h k by = by_join events (event ∷ Done (length k.log) ok ∷ []) h k (after_call event ok k) by (by_one event ok k)

pub by_length : (events : List Event) (h k : History) → GoesOnBy events h k → length k.log ≡ length h.log + length events
by_length events h k by = ap (λ (l : List Event). length l) by.more ∙ length-append h.log events

-- ---- runs, one after another

-- these are the first runs of the units, and these units are left
abbrev pub AreRunsUpTo : List ℕ → List UnitRun → List ℕ → Type 0
AreRunsUpTo units [] rest = units ≡ rest
AreRunsUpTo units (run ∷ more) rest =
    (0 < length units) × IsRunAtFront units run.count × (run.at ≡ slice_index units 0) × AreRunsUpTo (drop run.count units) more rest

one_more_run : (units : List ℕ) (runs : List UnitRun) (rest : List ℕ) (count : ℕ) → AreRunsUpTo units runs rest → 0 < length rest → IsRunAtFront rest count
    → AreRunsUpTo units (runs ++ record { at = slice_index rest 0; count = count } ∷ []) (drop count rest)
one_more_run units [] rest count is some run = (
  subst (λ (l : List ℕ). 0 < length l) (sym is) some,
  subst (λ (l : List ℕ). IsRunAtFront l count) (sym is) run,
  ap (λ (l : List ℕ). slice_index l 0) (sym is),
  ap (λ (l : List ℕ). drop count l) is,
)
one_more_run units (first ∷ runs) rest count is some run = (is.0, is.1, is.2, one_more_run (drop first.count units) runs rest count is.3 some run)

all_runs : (units : List ℕ) (runs : List UnitRun) → AreRunsUpTo units runs [] → AreRuns units runs
all_runs units [] is = is
all_runs units (run ∷ runs) is = (is.0, is.1, is.2, all_runs (drop run.count units) runs is.3)

run_events-push : (place : ℕ) (runs : List UnitRun) (run : UnitRun)
    → run_events place (runs ++ run ∷ []) ≡ run_events place runs ++ Write run.at (zeros (4096 * run.count)) ∷ Done (place + 2 * length runs) true ∷ []
run_events-push place [] run =
    let here : place ≡ place + 2 * 0 = omega arith in
    ap (λ n. Write run.at (zeros (4096 * run.count)) ∷ Done n true ∷ []) here
run_events-push place (first ∷ runs) run =
    let later : place + 2 + 2 * length runs ≡ place + 2 * length (first ∷ runs) = omega arith in
    let rest = run_events-push (place + 2) runs run
    ∙ ap (λ n. run_events (place + 2) runs ++ Write run.at (zeros (4096 * run.count)) ∷ Done n true ∷ []) later in
    ap (λ l. Write first.at (zeros (4096 * first.count)) ∷ Done place true ∷ l) rest

pub length-run_events : (place : ℕ) (runs : List UnitRun) → length (run_events place runs) ≡ 2 * length runs
length-run_events place [] = refl
length-run_events place (run ∷ runs) = let rest = length-run_events (place + 2) runs in omega (arith, rest)

-- so many runs were written, and these units are left
pub record RunsSoFar (units rest : List ℕ) (count : ℕ) (old new : History) : Type 0 where
  pub runs : List UnitRun
  pub up_to : AreRunsUpTo units runs rest
  pub counted : count ≡ length runs
  pub by : GoesOnBy (run_events (length old.log) runs) old new

pub runs_none : (units : List ℕ) (h : History) → RunsSoFar units units 0 h h
runs_none units h = record { runs = []; up_to = refl; counted = refl; by = by_none h }

pub runs_more : (units rest : List ℕ) (n count : ℕ) → 0 < length rest → IsRunAtFront rest count → (h k : History) → RunsSoFar units rest n h k
    → RunsSoFar units (drop count rest) (n + 1) h (after_call (Write (slice_index rest 0) (zeros (4096 * count))) true k)
runs_more units rest n count some run h k so_far =
    let at = slice_index rest 0 in
    let bytes = zeros (4096 * count) in
    let runs = so_far.runs in
    let place = length h.log in
    let one : UnitRun = record { at = at; count = count } in
    let longer : length k.log ≡ place + 2 * length runs =
    by_length (run_events place runs) h k so_far.by ∙ ap (λ n. place + n) (length-run_events place runs) in
    let spelled : run_events place (runs ++ one ∷ []) ≡ run_events place runs ++ Write at bytes ∷ Done (length k.log) true ∷ [] =
    run_events-push place runs one ∙ ap (λ n. run_events place runs ++ Write at bytes ∷ Done n true ∷ []) (sym longer) in
    record {
      runs = runs ++ one ∷ [];
      up_to = one_more_run units runs rest count so_far.up_to some run;
      counted = omega (arith, so_far.counted, length-append runs (one ∷ []));
      by = subst (λ events. GoesOnBy events h (after_call (Write at bytes) true k)) (sym spelled)
          (by_call (run_events place runs) (Write at bytes) true h k so_far.by);
    }

pub runs_all : (units rest : List ℕ) (n : ℕ) → rest ≡ [] → (h k : History) → RunsSoFar units rest n h k → WroteRuns units n h k
runs_all units rest n none h k so_far = record {
  runs = so_far.runs;
  are = all_runs units so_far.runs (subst (λ l. AreRunsUpTo units so_far.runs l) none so_far.up_to);
  counted = so_far.counted;
  by = so_far.by;
}

-- ---- zeros alone

pub each_append : (P : Event → Type 0) (xs ys : List Event) → AllByRecursion P xs → AllByRecursion P ys → AllByRecursion P (xs ++ ys)
each_append P [] ys all more = more
each_append P (x ∷ xs) ys all more = (all.0, each_append P xs ys all.1 more)

pub only_none : (first end : ℕ) (h : History) → ZeroesOnly first end h h
only_none first end h = record { events = []; by = by_none h; each = tt }

pub only_call : (first end : ℕ) (event : Event) (ok : Bool) (h k : History) → IsZeroing first end event → ZeroesOnly first end h k
    → ZeroesOnly first end h (after_call event ok k)
only_call first end event ok h k zeroing only = record {
  events = only.events ++ event ∷ Done (length k.log) ok ∷ [];
  by = by_call only.events event ok h k only.by;
  each = each_append (IsZeroing first end) only.events (event ∷ Done (length k.log) ok ∷ []) only.each (zeroing, (tt, tt));
}

pub zeroing_wider : (first end first' end' : ℕ) → first' ≤ first → end ≤ end' → (events : List Event) → AllByRecursion (IsZeroing first end) events
    → AllByRecursion (IsZeroing first' end') events
zeroing_wider first end first' end' lower higher [] all = tt
zeroing_wider first end first' end' lower higher (event ∷ events) all =
    (wider event all.0, zeroing_wider first end first' end' lower higher events all.1)
  where
    wider : (event : Event) → IsZeroing first end event → IsZeroing first' end' event
    wider (Write at bytes) is = (is.0, is.1, omega (arith, is.2, lower), omega (arith, is.3, higher))
    wider Flush is = tt
    wider (Done ticket ok) is = tt

-- a run lies where its units do

pub run_zeroes : (rest : List ℕ) (count first end : ℕ) → 0 < length rest → IsRunAtFront rest count → All (λ unit. (first ≤ unit) × (unit < end)) rest
    → IsZeroing first end (Write (slice_index rest 0) (zeros (4096 * count)))
run_zeroes rest count first end some run between =
    let P : ℕ → Type 0 = λ unit. (first ≤ unit) × (unit < end) in
    let positive : 0 < count = run.some some in
    let lowest = All-get_or P rest 0 0 some between in
    let highest = All-get_or P rest (count - 1) 0 (omega (arith, run.within, positive)) between in
    let there = run.consecutive (count - 1) (omega (arith, positive)) in
    (count, refl, lowest.0, omega (arith, highest.1, there, positive))
