-- What a layer above knows of a device that was quiet, and answered each submission well since.
use Rattle.std.proofs.Common.{◌≡◌, ◌≢◌, ◌⊎◌, inl, inr, zero, suc, ℕ, ◌+◌, ◌*◌, ◌<◌, ◌≤◌, List, [], ◌∷◌, ◌++◌, length, take, drop, None, Some, true, false, eqb, refl, sym, ◌∙◌, ap, subst, arith}
use Rattle.std.specs.Prelude.{Contains, slice_get, IfSome}
use Rattle.std.proofs.lemmas.Bool.{cases_lt, cases_eq}
use Rattle.std.proofs.lemmas.Bool.Decides.{nat_tests}
use Rattle.std.proofs.lemmas.List.{take-append-le, take-append-drop, append-nil, append_assoc}
use Rattle.std.proofs.lemmas.List.Elements.{All-push, Contains-append_left, Contains-push}
use Rattle.byte_maps.specs.Units.{unit_at}
use Rattle.byte_maps.proofs.Prelude.{unit_at-laid_inside}
use Rattle.block_device.specs.Prelude.{last, WritesUnit, IsStable, IsClean, IsAnsweredOnce, HasNoBadDone, History, Flight, flight_of, find_flight, without, IsApart, with_event, last_at, IsCovered, IsSubmission, EachWriteIsAnswered, QuietAt, IsUntouched}
use Rattle.block_device.proofs.LogLemmas.{last-push, slice_get-push_cases, stable_push}
use Rattle.block_device.proofs.AnswerLemmas.{once_good}
use Rattle.block_device.proofs.ReadLemmas.{stable_good}
use Rattle.block_device.proofs.FlightLemmas.{found_all, all_without}
use Rattle.block_device.proofs.LawLemmas.{flush_covers}
use Rattle.block_device.specs.declared.event.Event.{Event}
use Rattle.block_device.specs.declared.event.Event.TheVariants.{Write, Flush, Done}

-- a front of the log

stable_append : (log more : List Event) (write : ℕ) → IsStable log write → IsStable (log ++ more) write
stable_append log [] write s = subst (λ l. IsStable l write) (sym (append-nil log)) s
stable_append log (e ∷ more) write s =
    subst (λ l. IsStable l write) (append_assoc log (e ∷ []) more) (stable_append (log ++ e ∷ []) more write (stable_push log e write s))

pub stable_front : (n : ℕ) (log : List Event) (write : ℕ) → IsStable (take n log) write → IsStable log write
stable_front n log write s = subst (λ l. IsStable l write) (take-append-drop n log) (stable_append (take n log) (drop n log) write s)

slice_get-take_below : (n : ℕ) (xs : List Event) (i : ℕ) (x : Event) → i < n → slice_get xs i ≡ Some x → slice_get (take n xs) i ≡ Some x
slice_get-take_below zero xs i x below is = absurd (omega arith)
slice_get-take_below (suc n) [] i x below is = absurd (cc)
slice_get-take_below (suc n) (y ∷ xs) zero x below is = is
slice_get-take_below (suc n) (y ∷ xs) (suc i) x below is = slice_get-take_below n xs i x (omega arith) is

pub quiet_push : (base : ℕ) (h : History) (event : Event) → QuietAt base h → base ≤ length h.log → QuietAt base (with_event h event)
quiet_push base h event quiet inside k =
    let same : take base (h.log ++ event ∷ []) ≡ take base h.log = take-append-le base h.log (event ∷ []) inside in
    subst (λ l. IsClean l k) (sym same) (quiet k)

-- flights come and go

find_push_old : (t : ℕ) (fl : List Flight) (f g : Flight) → find_flight t fl ≡ Some f → find_flight t (fl ++ g ∷ []) ≡ Some f
find_push_old t [] f g is = absurd (cc)
find_push_old t (x ∷ fl) f g is = elim (cases_eq x.ticket t) [
  | inl same ↦ let found : eqb x.ticket t ≡ true = grind (arith, nat_tests) in rw found (rw found at is)
  | inr other ↦ let passed : eqb x.ticket t ≡ false = grind (arith, nat_tests) in rw passed (find_push_old t fl f g (rw passed at is))
]

find_push_new : (t : ℕ) (fl : List Flight) (g : Flight) → find_flight t fl ≡ None → g.ticket ≡ t → find_flight t (fl ++ g ∷ []) ≡ Some g
find_push_new t [] g none is = let found : eqb g.ticket t ≡ true = grind (arith, nat_tests) in rw found refl
find_push_new t (x ∷ fl) g none is = elim (cases_eq x.ticket t) [
  | inl same ↦ let found : eqb x.ticket t ≡ true = grind (arith, nat_tests) in absurd (cc (rw found at none))
  | inr other ↦ let passed : eqb x.ticket t ≡ false = grind (arith, nat_tests) in rw passed (find_push_new t fl g (rw passed at none) is)
]

find_without : (t p : ℕ) (fl : List Flight) (f : Flight) → p ≢ t → find_flight p fl ≡ Some f → find_flight p (without t fl) ≡ Some f
find_without t p [] f apart is = absurd (cc)
find_without t p (x ∷ fl) f apart is = elim (cases_eq x.ticket t) [
  | inl gone ↦
      let dropped : eqb x.ticket t ≡ true = grind (arith, nat_tests) in
      let passed : eqb x.ticket p ≡ false = grind (arith, nat_tests) in
      rw dropped (find_without t p fl f apart (rw passed at is))
  | inr kept ↦
      let stays : eqb x.ticket t ≡ false = grind (arith, nat_tests) in
      elim (cases_eq x.ticket p) [
        | inl same ↦ let found : eqb x.ticket p ≡ true = grind (arith, nat_tests) in rw (stays, found) (rw found at is)
        | inr other ↦ let passed : eqb x.ticket p ≡ false = grind (arith, nat_tests) in rw (stays, passed) (find_without t p fl f apart (rw passed at is))
      ]
]

-- each submission since is in flight or has a good Done

ticket_of : (n : ℕ) (event : Event) → (flight_of n event).ticket ≡ n
ticket_of n (Write at bytes) = refl
ticket_of n Flush = refl
ticket_of n (Done t ok) = refl

pub answered_submit : (base : ℕ) (h : History) (event : Event) (fl : List Flight) → EachWriteIsAnswered base h fl → find_flight (length h.log) fl ≡ None
    → EachWriteIsAnswered base (with_event h event) (fl ++ flight_of (length h.log) event ∷ [])
answered_submit base h event fl each is_new place e from there submitted = elim (slice_get-push_cases h.log event e place there) [
  | inl old ↦
      elim (each place e from old submitted) [
        | inl flying ↦ inl (find_push_old place fl (flight_of place e) (flight_of (length h.log) event) flying)
        | inr good ↦ inr (Contains-append_left h.log (event ∷ []) (Done place true) good)
      ]
  | inr new ↦
      let found = find_push_new (length h.log) fl (flight_of (length h.log) event) is_new (ticket_of (length h.log) event) in
      inl (rw (new.0, ← new.1) found)
]

pub answered_done : (base : ℕ) (h : History) (t : ℕ) (fl : List Flight) → EachWriteIsAnswered base h fl → EachWriteIsAnswered base (with_event h (Done t true)) (without t fl)
answered_done base h t fl each place e from there submitted = elim (slice_get-push_cases h.log (Done t true) e place there) [
  | inl old ↦
      elim (each place e from old submitted) [
        | inr good ↦ inr (Contains-append_left h.log (Done t true ∷ []) (Done place true) good)
        | inl flying ↦
            elim (cases_eq place t) [
              | inl same ↦ inr (subst (λ (n : ℕ). Contains (h.log ++ Done t true ∷ []) (Done n true)) (sym same) (Contains-push h.log (Done t true)))
              | inr other ↦ inl (find_without t place fl (flight_of place e) other flying)
            ]
      ]
  | inr new ↦ absurd (subst IsSubmission (sym new.1) submitted)
]

-- a unit that no write in flight touches

is_submission : (k : ℕ) (event : Event) → WritesUnit k event → IsSubmission event
is_submission k (Write at bytes) covers = tt
is_submission k Flush covers = absurd covers
is_submission k (Done t ok) covers = absurd covers

not_apart : (k n : ℕ) (event : Event) → WritesUnit k event → ¬ IsApart k 4096 (flight_of n event)
not_apart k n (Write at bytes) covers apart = elim apart [
  | inl none ↦ omega (arith, covers.0, covers.1)
  | inr beside ↦ elim beside [ inl before ↦ omega (arith, covers.1) | inr behind ↦ omega (arith, covers.0) ]
]
not_apart k n Flush covers apart = covers
not_apart k n (Done t ok) covers apart = covers

-- each write of it is stable, or has a good Done
pub each_settled : (base : ℕ) (h : History) (fl : List Flight) (k : ℕ) → QuietAt base h → EachWriteIsAnswered base h fl → IsUntouched fl k
    → (write : ℕ) (event : Event) → slice_get h.log write ≡ Some event → WritesUnit k event → IsStable h.log write ⊎ Contains h.log (Done write true)
each_settled base h fl k quiet each untouched write event there covers = elim (cases_lt write base) [
  | inl before ↦ inl (stable_front base h.log write (quiet k write event (slice_get-take_below base h.log write event before there) covers))
  | inr since ↦
      elim (each write event since there (is_submission k event covers)) [
        | inr good ↦ inr good
        | inl flying ↦
            let found = subst (λ o. IfSome o (λ f. IsApart k 4096 f × (f.ticket ≡ write))) flying (found_all (IsApart k 4096) write fl untouched) in
            absurd (not_apart k write event covers found.0)
      ]
]

-- so a flush submitted now covers it
pub flush_covers_unit : (base : ℕ) (h : History) (fl : List Flight) (k : ℕ) → QuietAt base h → EachWriteIsAnswered base h fl → IsUntouched fl k → IsCovered (h.log ++ Flush ∷ []) (length h.log) k
flush_covers_unit base h fl k quiet each untouched = flush_covers h.log k (each_settled base h fl k quiet each untouched)

-- and it reads as last written
pub read_good : (base : ℕ) (h : History) (fl : List Flight) (k : ℕ) → QuietAt base h → EachWriteIsAnswered base h fl → IsUntouched fl k → IsAnsweredOnce h.log → HasNoBadDone h.log k
read_good base h fl k quiet each untouched once write event there covers = elim (each_settled base h fl k quiet each untouched write event there covers) [
  | inl stable ↦ once_good h.log write once (stable_good h.log write stable)
  | inr good ↦ once_good h.log write once good
]

pub untouched_submit : (fl : List Flight) (n k : ℕ) (event : Event) → IsUntouched fl k → IsApart k 4096 (flight_of n event) → IsUntouched (fl ++ flight_of n event ∷ []) k
untouched_submit fl n k event untouched apart = All-push (IsApart k 4096) fl (flight_of n event) untouched apart

pub untouched_done : (fl : List Flight) (t k : ℕ) → IsUntouched fl k → IsUntouched (without t fl) k
untouched_done fl t k untouched = all_without (IsApart k 4096) t fl untouched

-- unit j of a write, once it is submitted
pub written_unit : (h : History) (at j : ℕ) (bytes : List ℕ) → 4096 * at + length bytes ≤ length (last h.start h.log) → 4096 * j + 4096 ≤ length bytes → last_at (with_event h (Write at bytes)) (at + j) ≡ unit_at j bytes
written_unit h at j bytes fits inside =
    ap (λ (l : List ℕ). unit_at (at + j) l) (last-push h.start h.log (Write at bytes)) ∙ unit_at-laid_inside at (at + j) j bytes (last h.start h.log) fits refl inside
