-- Runs of the units that aren't zero, gathered unit by unit.
use Rattle.std.proofs.Common.{◌≡◌, ◌≢◌, inl, inr, ℕ, ◌+◌, ◌-◌, ◌<◌, ◌≤◌, Bool, true, false, ◌||◌, List, [], ◌∷◌, ◌++◌, refl, sym, ap, ap₂, subst, ◌∙◌, arith}
use Rattle.std.specs.Prelude.{◌↔◌}
use Rattle.std.proofs.Math.Bool.{or-false, or-true}
use Rattle.std.proofs.lemmas.Bool.{cases_lt, lt-ltb, le-ltb}
use Rattle.byte_maps.specs.Units.{unit_at, zeros}
use Rattle.block_device.specs.Prelude.{Disk, HasRead, IsSound}
use Rattle.meta_log.specs.declared.runs.UnitRun.{UnitRun}
use Rattle.meta_log.specs.Prelude.{in_run, in_runs, AreRunsFrom}
use Rattle.log_replay.specs.Prelude.{IsAbout, HasPiece, AreZeroOutside, AreRunsOn, gathers, AreGathered, EndsLast, AddsUnit, AddsPiece, GathersBelow}
use Rattle.log_replay.specs.declared.other_half.GatheredRuns.{GatheredRuns}
use Rattle.log_replay.proofs.OpeningLemmas.{seen, about_both, about_all, about_more}

-- ---- runs

pub in_run-inside : (r : UnitRun) (k : ℕ) → r.first ≤ k → k < r.first + r.count → in_run r k ≡ true
in_run-inside r k from below = rw (le-ltb k r.first from) (rw (lt-ltb k (r.first + r.count) below) refl)

pub in_run-before : (r : UnitRun) (k : ℕ) → k < r.first → in_run r k ≡ false
in_run-before r k below = rw (lt-ltb k r.first below) refl

pub in_run-behind : (r : UnitRun) (k : ℕ) → r.first + r.count ≤ k → in_run r k ≡ false
in_run-behind r k behind = rw (le-ltb k r.first (omega (arith, behind))) (rw (le-ltb k (r.first + r.count) behind) refl)

runs_wider : (from n m : ℕ) (rs : List UnitRun) → n ≤ m → AreRunsFrom from n rs → AreRunsFrom from m rs
runs_wider from n m [] le are = tt
runs_wider from n m (r ∷ rs) le are = (are.0, are.1, omega (arith, are.2, le), runs_wider (r.first + r.count) n m rs le are.3)

-- no unit at or behind the end is in a run
runs_below : (from count : ℕ) (rs : List UnitRun) (k : ℕ) → AreRunsFrom from count rs → count ≤ k → in_runs rs k ≡ false
runs_below from count [] k are behind = refl
runs_below from count (r ∷ rs) k are behind =
    ap₂ (λ (a b : Bool). a || b) (in_run-behind r k (omega (arith, are.2, behind))) (runs_below (r.first + r.count) count rs k are.3 behind)

runs_push : (from : ℕ) (rs : List UnitRun) (r : UnitRun) → from ≤ r.first → AreRunsFrom from r.first rs → 0 < r.count
    → AreRunsFrom from (r.first + r.count) (rs ++ r ∷ [])
runs_push from [] r order are some = (order, some, omega arith, tt)
runs_push from (x ∷ xs) r order are some = (are.0, are.1, omega (arith, are.2), runs_push (x.first + x.count) xs r are.2 are.3 some)

or_assoc : (a b c : Bool) → (a || (b || c)) ≡ ((a || b) || c)
or_assoc true b c = refl
or_assoc false b c = refl

in_runs-push : (rs : List UnitRun) (r : UnitRun) (k : ℕ) → in_runs (rs ++ r ∷ []) k ≡ (in_runs rs k || in_run r k)
in_runs-push [] r k = or-false (in_run r k)
in_runs-push (x ∷ xs) r k = ap (λ (b : Bool). in_run x k || b) (in_runs-push xs r k) ∙ or_assoc (in_run x k) (in_runs xs k) (in_run r k)

-- ---- one unit

-- no unit behind those that were looked at is in one
gathered_below : (end : ℕ) (g : GatheredRuns) (k : ℕ) → AreGathered end g → end ≤ k → gathers g k ≡ false
gathered_below end g k are behind = ap₂ (λ (a b : Bool). a || b) (runs_below 0 g.last.first g.ended.items k are.ended (omega (arith, are.last, behind)))
    (in_run-behind g.last k (omega (arith, are.last, behind)))

gathered_wider : (n m : ℕ) (g : GatheredRuns) → n ≤ m → AreGathered n g → AreGathered m g
gathered_wider n m g le are = record { ended = are.ended; last = omega (arith, are.last, le) }

pub last_ended : (old new : GatheredRuns) → new.ended.items ≡ old.ended.items ++ old.last ∷ [] → AreRunsFrom 0 old.last.first old.ended.items
    → 0 < old.last.count → EndsLast old new
last_ended old new is are some = record {
  ended = subst (AreRunsFrom 0 (old.last.first + old.last.count)) (sym is) (runs_push 0 old.ended.items old.last (omega arith) are some);
  same = λ k. ap (λ (l : List UnitRun). in_runs l k) is ∙ in_runs-push old.ended.items old.last k;
}

-- a run begins with it
pub added_new : (k : ℕ) (old mid new : GatheredRuns) → AreGathered k old → EndsLast old mid → new.ended.items ≡ mid.ended.items
    → new.last ≡ record { first = k; count = 1 } → AddsUnit k old new
added_new k old mid new are ends same is = record {
  gathered = record {
    ended = subst (λ (n : ℕ). AreRunsFrom 0 n new.ended.items) (sym (ap (λ (r : UnitRun). r.first) is))
        (subst (AreRunsFrom 0 k) (sym same) (runs_wider 0 (old.last.first + old.last.count) k mid.ended.items are.last ends.ended));
    last = omega (arith, ap (λ (r : UnitRun). r.first) is, ap (λ (r : UnitRun). r.count) is);
  };
  there = ap (λ (r : UnitRun). in_runs new.ended.items k || in_run r k) is
      ∙ ap (λ (b : Bool). in_runs new.ended.items k || b) (in_run-inside one k (omega arith) (omega arith)) ∙ or-true (in_runs new.ended.items k);
  others = λ j before. ap (λ (r : UnitRun). in_runs new.ended.items j || in_run r j) is
      ∙ ap (λ (b : Bool). in_runs new.ended.items j || b) (in_run-before one j before) ∙ or-false (in_runs new.ended.items j)
      ∙ ap (λ (l : List UnitRun). in_runs l j) same ∙ ends.same j;
}
  where
    one : UnitRun
    one = record { first = k; count = 1 }

-- ---- the units of a piece

pub piece_none : (at : ℕ) (bytes : List ℕ) (g : GatheredRuns) → AreGathered at g → AddsPiece at 0 bytes g g
piece_none at bytes g are = record {
  gathered = gathered_wider at (at + 0) g (omega arith) are;
  each = λ k below. absurd (omega (arith, below));
  others = λ j below. refl;
}

-- a unit is zero, and is left out
pub piece_zero : (at k : ℕ) (bytes : List ℕ) (old now : GatheredRuns) → unit_at k bytes ≡ zeros 4096 → AddsPiece at k bytes old now
    → AddsPiece at (k + 1) bytes old now
piece_zero at k bytes old now is_zero so_far = record {
  gathered = gathered_wider (at + k) (at + (k + 1)) now (omega arith) so_far.gathered;
  each = λ j below. elim (cases_lt j k) [
    | inl before ↦ so_far.each j before
    | inr here ↦
        let is : k ≡ j = omega (arith, below, here) in
        subst (λ (n : ℕ). (gathers now (at + n) ≡ false) ↔ (unit_at n bytes ≡ zeros 4096)) is
        ((λ none. is_zero), (λ zeroed. gathered_below (at + k) now (at + k) so_far.gathered (omega arith)))
  ];
  others = so_far.others;
}

-- a unit isn't, and is added
pub piece_stale : (at k : ℕ) (bytes : List ℕ) (old now then : GatheredRuns) → unit_at k bytes ≢ zeros 4096 → AddsUnit (at + k) now then
    → AddsPiece at k bytes old now → AddsPiece at (k + 1) bytes old then
piece_stale at k bytes old now then other adds so_far = record {
  gathered = gathered_wider (at + k + 1) (at + (k + 1)) then (omega arith) adds.gathered;
  each = λ j below. elim (cases_lt j k) [
    | inl before ↦
        let same : gathers then (at + j) ≡ gathers now (at + j) = adds.others (at + j) (omega (arith, before)) in
        ((λ none. (so_far.each j before).0 (sym same ∙ none)), (λ zeroed. same ∙ (so_far.each j before).1 zeroed))
    | inr here ↦
        let is : k ≡ j = omega (arith, below, here) in
        subst (λ (n : ℕ). (gathers then (at + n) ≡ false) ↔ (unit_at n bytes ≡ zeros 4096)) is
        ((λ none. absurd (both_ways (sym adds.there ∙ none))), (λ zeroed. absurd (other zeroed)))
  ];
  others = λ j below. adds.others j (omega (arith, below)) ∙ so_far.others j below;
}
  where
    both_ways : true ≡ false → ⊥
    both_ways h = cc

-- ---- the pieces

pub pieces_none : (d : Disk) (first : ℕ) (g : GatheredRuns) → IsAbout d (GathersBelow first 0 g)
pieces_none d first g = about_all d (GathersBelow first 0 g) (λ contents k below. absurd (omega (arith, below)))

pub pieces_more : (d : Disk) (first at count : ℕ) (bytes : List ℕ) (now then : GatheredRuns) → IsSound d → HasRead d (first + at) count bytes
    → AddsPiece at count bytes now then → IsAbout d (GathersBelow first at now) → IsAbout d (GathersBelow first (at + count) then)
pieces_more d first at count bytes now then sound read adds so_far =
    about_both d (GathersBelow first at now) (HasPiece (first + at) count bytes) (GathersBelow first (at + count) then)
    (λ contents before same k below. elim (cases_lt k at) [
      | inl front ↦
          let as_before : gathers then k ≡ gathers now k = adds.others k front in
          ((λ none. (before k front).0 (sym as_before ∙ none)), (λ zeroed. as_before ∙ (before k front).1 zeroed))
      | inr behind ↦
          let j : ℕ = k - at in
          let is : at + j ≡ k = omega (arith, behind) in
          let inside : j < count = omega (arith, behind, below) in
          let place : first + (at + j) ≡ first + at + j = omega arith in
          let unit : unit_at (first + (at + j)) contents ≡ unit_at j bytes = ap (λ (n : ℕ). unit_at n contents) place ∙ same j inside in
          subst (λ (n : ℕ). (gathers then n ≡ false) ↔ (unit_at (first + n) contents ≡ zeros 4096)) is
          ((λ none. unit ∙ (adds.each j inside).0 none), (λ zeroed. (adds.each j inside).1 (sym unit ∙ zeroed)))
    ]) so_far (seen d (first + at) count bytes (HasPiece (first + at) count bytes) sound read (λ contents same. same))

pub runs_on : (d : Disk) (first count : ℕ) (old new : GatheredRuns) → AreGathered count old → IsAbout d (GathersBelow first count old) → EndsLast old new
    → AreRunsOn d first count new.ended.items
runs_on d first count old new are about ends = record {
  apart = runs_wider 0 (old.last.first + old.last.count) count new.ended.items are.last ends.ended;
  about = about_more d (GathersBelow first count old) (AreZeroOutside first count new.ended.items)
      (λ contents before k below. ((λ none. (before k below).0 (sym (ends.same k) ∙ none)), (λ zeroed. ends.same k ∙ (before k below).1 zeroed))) about;
}
