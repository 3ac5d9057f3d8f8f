-- The tests of a log and what they mean.
use Rattle.std.proofs.Common.{◌≡◌, ◌↔◌, inl, inr, zero, suc, ℕ, ◌+◌, ◌*◌, ◌<◌, ◌≤◌, List, [], ◌∷◌, length, take, drop, Some, Bool, true, false, not, ◌&&◌, refl, sym, ◌∙◌, ap, subst, arith}
use Rattle.std.specs.Prelude.{Contains, slice_get, if◌then◌else◌, nat_lt, nat_le, ◌==◌}
use Rattle.std.proofs.lemmas.Bool.{cases_Bool, cases_lt, and_parts, or_cases, and_from, not-true, false≢true, ltb-true, ltb-false, lt-ltb, le-ltb, leb-true, le-leb, eqb-true, eq-eqb}
use Rattle.std.proofs.lemmas.List.Folds.{list_any_at}
use Rattle.std.proofs.lemmas.List.{take-take, take-append-drop}
use Rattle.std.proofs.lemmas.List.Elements.{Contains-append_left}
use Rattle.byte_maps.specs.Units.{Covers}
use Rattle.block_device.specs.Prelude.{IsLastGoodFlush, WritesUnit, IsStable, IsClean, IsDirty, first_place, covers, writes_unit, is_flush, is_good_done, has_good_done, is_stable, first_unstable, is_dirty}
use Rattle.block_device.proofs.LogLemmas.{slice_get-lt, false_unless}
use Rattle.block_device.specs.declared.event.Event.{Event}
use Rattle.block_device.specs.declared.event.Event.TheVariants.{Write, Flush, Done}

module _ (test : ℕ → Event → Bool) where
  pub first_place-le : (n : ℕ) (log : List Event) → first_place test n log ≤ n + length log
  first_place-le n [] = omega arith
  first_place-le n (e ∷ log) = elim (test n e) as (λ b. (if b then n else first_place test (n + 1) log) ≤ n + length (e ∷ log)) [
    | true ↦ omega arith
    | false ↦ let rest = first_place-le (n + 1) log in omega arith
  ]

  -- where the test holds the first place is there or before
  pub first_place-found : (n i : ℕ) (log : List Event) (event : Event) → slice_get log i ≡ Some event → test (n + i) event ≡ true → first_place test n log ≤ n + i
  first_place-found n i [] event there holds = absurd (cc)
  first_place-found n zero (e ∷ log) event there holds =
      let same : e ≡ event = cc in
      let now : test n e ≡ true = ap (λ (x : Event). test n x) same ∙ ap (λ (m : ℕ). test m event) (omega arith) ∙ holds in
      rw now (omega arith)
  first_place-found n (suc i) (e ∷ log) event there holds = elim (test n e) as (λ b. (if b then n else first_place test (n + 1) log) ≤ n + suc i) [
    | true ↦ omega arith
    | false ↦
        let rest = first_place-found (n + 1) i log event there (ap (λ (m : ℕ). test m event) (omega arith) ∙ holds) in
        omega arith
  ]

  -- at the first place, if it is before the end, the test holds
  pub first_place-holds : (n : ℕ) (log : List Event) → first_place test n log < n + length log
      → (i : ℕ) × ((event : Event) × (first_place test n log ≡ n + i) × (slice_get log i ≡ Some event) × (test (n + i) event ≡ true))
  first_place-holds n [] below = absurd (omega arith)
  first_place-holds n (e ∷ log) below = elim (cases_Bool (test n e)) [
    | inl holds_now ↦
        let is : first_place test n (e ∷ log) ≡ n = rw holds_now refl in
        (0, (e, is ∙ omega arith, refl, ap (λ (m : ℕ). test m e) (omega arith) ∙ holds_now))
    | inr no_test ↦
        let is : first_place test n (e ∷ log) ≡ first_place test (n + 1) log = rw no_test refl in
        let rest = first_place-holds (n + 1) log (omega (arith, is)) in
        (suc rest.0, (rest.1.0, is ∙ rest.1.1 ∙ omega arith, rest.1.2, ap (λ (m : ℕ). test m rest.1.0) (omega arith) ∙ rest.1.3))
  ]

pub covers-means : (at : ℕ) (bytes : List ℕ) (k : ℕ) → (covers at bytes k ≡ true) ↔ Covers at bytes k
covers-means at bytes k = (
  λ holds_now. let parts = and_parts (nat_le at k) (nat_lt (4096 * k) (4096 * at + length bytes)) holds_now in (leb-true at k parts.0, ltb-true (4096 * k) (4096 * at + length bytes) parts.1),
  λ c. and_from (nat_le at k) (nat_lt (4096 * k) (4096 * at + length bytes)) (le-leb at k c.0) (lt-ltb (4096 * k) (4096 * at + length bytes) c.1),
)

pub writes_unit-means : (k : ℕ) (event : Event) → (writes_unit k event ≡ true) ↔ WritesUnit k event
writes_unit-means k (Write at bytes) = covers-means at bytes k
writes_unit-means k Flush = (λ e. false≢true e, λ none. absurd none)
writes_unit-means k (Done ticket ok) = (λ e. false≢true e, λ none. absurd none)

is_flush-means : (event : Event) → is_flush event ≡ true → event ≡ Flush
is_flush-means (Write at bytes) holds_now = absurd (false≢true holds_now)
is_flush-means Flush holds_now = refl
is_flush-means (Done ticket ok) holds_now = absurd (false≢true holds_now)

is_good_done-means : (ticket : ℕ) (event : Event) → is_good_done ticket event ≡ true → event ≡ Done ticket true
is_good_done-means ticket (Write at bytes) holds_now = absurd (false≢true holds_now)
is_good_done-means ticket Flush holds_now = absurd (false≢true holds_now)
is_good_done-means ticket (Done done ok) holds_now = let parts = and_parts (done == ticket) ok holds_now in let same : done ≡ ticket = eqb-true done ticket parts.0 in cc

is_good_done-itself : (ticket : ℕ) → is_good_done ticket (Done ticket true) ≡ true
is_good_done-itself ticket = and_from (ticket == ticket) true (eq-eqb ticket ticket refl) refl

pub has_good_done-means : (ticket : ℕ) (log : List Event) → (has_good_done ticket log ≡ true) ↔ Contains log (Done ticket true)
has_good_done-means ticket log = (found log, there log)
  where
    found : (log : List Event) → has_good_done ticket log ≡ true → Contains log (Done ticket true)
    found [] some = absurd (false≢true some)
    found (e ∷ log) some = elim (or_cases (is_good_done ticket e) (has_good_done ticket log) some) [
      | inl here ↦ (0, omega arith, is_good_done-means ticket e here)
      | inr later ↦ let c = found log later in (suc c.0, omega (arith, c.1), c.2)
    ]

    there : (log : List Event) → Contains log (Done ticket true) → has_good_done ticket log ≡ true
    there log c = list_any_at (is_good_done ticket) log c.0 (Done ticket true) c.1 (ap (λ e. is_good_done ticket e) c.2 ∙ is_good_done-itself ticket)

-- the test of `is_stable` at one place
abbrev steadies : List Event → ℕ → ℕ → Event → Bool
steadies log write flush event = is_flush event && (has_good_done write (take flush log) && has_good_done flush log)

pub is_stable-means : (log : List Event) (write : ℕ) → (is_stable log write ≡ true) ↔ IsStable log write
is_stable-means log write = (stable, tested)
  where
    stable : is_stable log write ≡ true → IsStable log write
    stable some =
        let at = first_place-holds (steadies log write) 0 log (omega (arith, ltb-true (first_place (steadies log write) 0 log) (length log) some)) in
        let here : steadies log write at.0 at.1.0 ≡ true = ap (λ (n : ℕ). steadies log write n at.1.0) (omega arith) ∙ at.1.3 in
        let parts = and_parts (is_flush at.1.0) (has_good_done write (take at.0 log) && has_good_done at.0 log) here in
        let dones = and_parts (has_good_done write (take at.0 log)) (has_good_done at.0 log) parts.1 in
        record {
          flush = at.0;
          after = record { is_flush = at.1.2 ∙ ap (λ e. Some e) (is_flush-means at.1.0 parts.0); written = (has_good_done-means write (take at.0 log)).0 dones.0 };
          done = (has_good_done-means at.0 log).0 dones.1;
        }

    tested : IsStable log write → is_stable log write ≡ true
    tested s =
        let dones = and_from (has_good_done write (take s.flush log)) (has_good_done s.flush log) ((has_good_done-means write (take s.flush log)).1 s.after.written) ((has_good_done-means s.flush log).1 s.done) in
        let here : steadies log write (0 + s.flush) Flush ≡ true = ap (λ (n : ℕ). steadies log write n Flush) (omega arith) ∙ and_from (is_flush Flush) (has_good_done write (take s.flush log) && has_good_done s.flush log) refl dones in
        lt-ltb (first_place (steadies log write) 0 log) (length log) (omega (arith, first_place-found (steadies log write) 0 s.flush log Flush s.after.is_flush here, slice_get-lt log Flush s.flush s.after.is_flush))

pub is_stable-false : (log : List Event) (write : ℕ) → is_stable log write ≡ false → ¬ IsStable log write
is_stable-false log write none s = false≢true (sym none ∙ (is_stable-means log write).1 s)

-- the test of `first_unstable` at one place
abbrev unsettles : List Event → ℕ → ℕ → Event → Bool
unsettles log k place event = writes_unit k event && not (is_stable log place)

-- no write of unit k before the first unstable one is unstable
pub first_unstable-le : (log : List Event) (k write : ℕ) (event : Event) → slice_get log write ≡ Some event → WritesUnit k event → is_stable log write ≡ false → first_unstable log k ≤ write
first_unstable-le log k write event there covers unstable =
    let here : unsettles log k (0 + write) event ≡ true = ap (λ (n : ℕ). unsettles log k n event) (omega arith) ∙ and_from (writes_unit k event) (not (is_stable log write)) ((writes_unit-means k event).1 covers) (ap not unstable) in
    omega (arith, first_place-found (unsettles log k) 0 write log event there here)

-- the first unstable write, if there is one
pub first_unstable-holds : (log : List Event) (k : ℕ) → first_unstable log k < length log
    → (event : Event) × (slice_get log (first_unstable log k) ≡ Some event) × WritesUnit k event × (is_stable log (first_unstable log k) ≡ false)
first_unstable-holds log k below =
    let at = first_place-holds (unsettles log k) 0 log (omega arith) in
    let is : at.0 ≡ first_unstable log k = omega (arith, at.1.1) in
    let here : unsettles log k at.0 at.1.0 ≡ true = ap (λ (n : ℕ). unsettles log k n at.1.0) (omega arith) ∙ at.1.3 in
    let parts = and_parts (writes_unit k at.1.0) (not (is_stable log at.0)) here in
    (at.1.0, subst (λ (n : ℕ). slice_get log n ≡ Some at.1.0) is at.1.2, (writes_unit-means k at.1.0).0 parts.0, subst (λ (n : ℕ). is_stable log n ≡ false) is (not-true (is_stable log at.0) parts.1))

pub first_unstable-end : (log : List Event) (k : ℕ) → first_unstable log k ≤ length log
first_unstable-end log k = omega (arith, first_place-le (unsettles log k) 0 log)

pub clean_end : (log : List Event) (k : ℕ) → IsClean log k → first_unstable log k ≡ length log
clean_end log k clean = elim (cases_lt (first_unstable log k) (length log)) [
  | inl below ↦
      let at = first_unstable-holds log k below in
      absurd (is_stable-false log (first_unstable log k) at.3 (clean (first_unstable log k) at.0 at.1 at.2))
  | inr past ↦ omega (arith, first_unstable-end log k)
]

-- a unit is dirty exactly where the test says so, and else it is clean
pub is_dirty-means : (log : List Event) (k : ℕ) → (is_dirty log k ≡ true) ↔ IsDirty log k
is_dirty-means log k = (
  λ some.
      let at = first_unstable-holds log k (ltb-true (first_unstable log k) (length log) some) in
      (first_unstable log k, (at.0, at.1, at.2, is_stable-false log (first_unstable log k) at.3)),
  λ d.
      let unstable : is_stable log d.0 ≡ false = false_unless (is_stable log d.0) (λ s. d.1.3 ((is_stable-means log d.0).0 s)) in
      lt-ltb (first_unstable log k) (length log) (omega (arith, first_unstable-le log k d.0 d.1.0 d.1.1 d.1.2 unstable, slice_get-lt log d.1.0 d.0 d.1.1)),
)

pub not_dirty-means : (log : List Event) (k : ℕ) → (is_dirty log k ≡ false) ↔ IsClean log k
not_dirty-means log k = (
  λ none write event there covers. elim (cases_Bool (is_stable log write)) [
    | inl stable ↦ (is_stable-means log write).0 stable
    | inr unstable ↦ absurd (omega (arith, first_unstable-le log k write event there covers unstable, slice_get-lt log event write there, ltb-false (first_unstable log k) (length log) none))
  ],
  λ clean. le-ltb (first_unstable log k) (length log) (omega (arith, clean_end log k clean)),
)

-- what the code finds is the test
pub stable_tested : (found : Bool) (log : List Event) (write : ℕ) → ((found ≡ true) ↔ IsStable log write) → found ≡ is_stable log write
stable_tested true log write means = sym ((is_stable-means log write).1 (means.0 refl))
stable_tested false log write means = sym (false_unless (is_stable log write) (λ stable. false≢true (means.1 ((is_stable-means log write).0 stable))))

contains-take : (m n : ℕ) (log : List Event) (event : Event) → m ≤ n → Contains (take m log) event → Contains (take n log) event
contains-take m n log event below c =
    let front : take m (take n log) ≡ take m log = take-take m n log below in
    subst (λ l. Contains l event) (take-append-drop m (take n log)) (Contains-append_left (take m (take n log)) (drop m (take n log)) event (subst (λ l. Contains l event) (sym front) c))

-- a write is stable where its good Done comes before the last good flush
pub stable_before : (log : List Event) (last write : ℕ) → IsLastGoodFlush log last → Contains (take last log) (Done write true) ↔ IsStable log write
stable_before log last write is = (
  λ c.
      let some : 0 < last = some_front log last (Done write true) c in
      let good = is.good some in
      record { flush = last; after = record { is_flush = good.0; written = c }; done = good.1 },
  λ s. contains-take s.flush last log (Done write true) (is.last s.flush s.after.is_flush s.done) s.after.written,
)
  where
    some_front : (log : List Event) (n : ℕ) (event : Event) → Contains (take n log) event → 0 < n
    some_front log zero event c = absurd (omega (arith, c.1))
    some_front log (suc n) event c = omega arith
