-- Tickets in flight, as the device in memory keeps them.
use Rattle.std.proofs.Common.{◌≡◌, ◌≢◌, inl, inr, zero, suc, ℕ, ◌+◌, ◌-◌, ◌<◌, ◌≤◌, List, [], ◌∷◌, ◌++◌, length, map, drop, take, get_or, set, add-one, None, Some, All, true, false, not, eqb, refl, sym, ◌∙◌, ap, subst, arith, length-append}
use Rattle.std.specs.Prelude.{IsSome, remove, Contains, slice_get}
use Rattle.std.proofs.lemmas.Bool.{cases_eq}
use Rattle.std.proofs.lemmas.Bool.Decides.{nat_tests}
use Rattle.std.proofs.lemmas.List.{length-map}
use Rattle.std.proofs.lemmas.List.Elements.{All-cons, All-filter, All-map, Contains-append_left, Contains-push, All-contains, All-nil, All-head, All-tail, All-push, All-weaker}
use Rattle.block_device.specs.Prelude.{find_flight, without, flight, lowered, others, TicketsAscend, AreOpen, IsPatient, IsFirstReady, WasTaken, NoneWasReady}
use Rattle.block_device.proofs.LogLemmas.{slice_get-lt}
use Rattle.block_device.specs.declared.pending.Pending.{Pending}

-- others

others_all : (t : ℕ) (ps : List Pending) → All (λ q. t < q.ticket) ps → others t ps ≡ ps
others_all t [] above = refl
others_all t (q ∷ ps) above =
    let first : t < q.ticket = All-head (λ r. t < r.ticket) q ps above in
    let rest = others_all t ps (All-tail (λ r. t < r.ticket) q ps above) in
    let apart : eqb q.ticket t ≡ false = grind (arith, nat_tests) in
    rw apart (ap (λ l. q ∷ l) rest)

pub others_differ : (t : ℕ) (ps : List Pending) → All (λ q. q.ticket ≢ t) (others t ps)
others_differ t [] = All-nil (λ q. q.ticket ≢ t)
others_differ t (q ∷ ps) = elim (cases_eq q.ticket t) [
  | inl same ↦ let found : eqb q.ticket t ≡ true = grind (arith, nat_tests) in rw found (others_differ t ps)
  | inr apart ↦ let kept : eqb q.ticket t ≡ false = grind (arith, nat_tests) in rw kept (All-cons (λ r. r.ticket ≢ t) q (others t ps) apart (others_differ t ps))
]

-- in the words of a device
pub flights_others : (t : ℕ) (ps : List Pending) → map flight (others t ps) ≡ without t (map flight ps)
flights_others t [] = refl
flights_others t (q ∷ ps) = elim (cases_eq q.ticket t) [
  | inl same ↦ let found : eqb q.ticket t ≡ true = grind (arith, nat_tests) in rw found (flights_others t ps)
  | inr apart ↦ let kept : eqb q.ticket t ≡ false = grind (arith, nat_tests) in rw kept (ap (λ fs. flight q ∷ fs) (flights_others t ps))
]

slice_get-head : (q p : Pending) (ps : List Pending) → slice_get (q ∷ ps) 0 ≡ Some p → q ≡ p
slice_get-head q p ps there = cc

-- the one at a place of ascending tickets
ticket_above : (q p : Pending) (ps : List Pending) (i : ℕ) → All (λ r. q.ticket < r.ticket) ps → slice_get ps i ≡ Some p → q.ticket < p.ticket
ticket_above q p [] i above there = absurd (cc)
ticket_above q p (r ∷ ps) zero above there = subst (λ (x : Pending). q.ticket < x.ticket) (slice_get-head r p ps there) (All-head (λ x. q.ticket < x.ticket) r ps above)
ticket_above q p (r ∷ ps) (suc i) above there = ticket_above q p ps i (All-tail (λ x. q.ticket < x.ticket) r ps above) there

pub others_at : (ps : List Pending) (i : ℕ) (p : Pending) → slice_get ps i ≡ Some p → TicketsAscend ps → others p.ticket ps ≡ remove ps i
others_at [] i p there ascend = absurd (cc)
others_at (q ∷ ps) zero p there ascend =
    let is = slice_get-head q p ps there in
    let ticket : q.ticket ≡ p.ticket = ap (λ (x : Pending). x.ticket) is in
    let found : eqb q.ticket p.ticket ≡ true = grind (arith, nat_tests) in
    rw found (others_all p.ticket ps (subst (λ (t : ℕ). All (λ r. t < r.ticket) ps) ticket ascend.0))
others_at (q ∷ ps) (suc i) p there ascend =
    let below = ticket_above q p ps i ascend.0 there in
    let kept : eqb q.ticket p.ticket ≡ false = grind (arith, nat_tests) in
    rw kept (ap (λ l. q ∷ l) (others_at ps i p there ascend.1))

map_remove : (ps : List Pending) (i : ℕ) → remove (map lowered ps) i ≡ map lowered (remove ps i)
map_remove [] zero = refl
map_remove [] (suc i) = refl
map_remove (q ∷ ps) zero = refl
map_remove (q ∷ ps) (suc i) = ap (λ l. lowered q ∷ l) (map_remove ps i)

pub length-others : (ps : List Pending) (p : Pending) → Contains ps p → TicketsAscend ps → length (others p.ticket ps) + 1 ≡ length ps
length-others [] p c ascend = absurd (omega (arith, c.1))
length-others (q ∷ ps) p c ascend = elim (cases_eq q.ticket p.ticket) [
  | inl same ↦
      let found : eqb q.ticket p.ticket ≡ true = grind (arith, nat_tests) in
      let all = others_all p.ticket ps (subst (λ (t : ℕ). All (λ r. t < r.ticket) ps) same ascend.0) in
      rw (found, all) (omega arith)
  | inr apart ↦
      let kept : eqb q.ticket p.ticket ≡ false = grind (arith, nat_tests) in
      let rest = length-others ps p (contains_rest q p ps c apart) ascend.1 in
      rw kept (omega (arith, rest))
]
  where
    contains_rest : (q p : Pending) (ps : List Pending) → Contains (q ∷ ps) p → q.ticket ≢ p.ticket → Contains ps p
    contains_rest q p ps (zero, below, is) apart = absurd (apart (ap (λ (x : Pending). x.ticket) is))
    contains_rest q p ps (suc i, below, is) apart = (i, omega (arith, below), is)

-- the first ready one

ready_lowered : (p : Pending) → p.lag ≡ 0 → lowered p ≡ p
ready_lowered p ready = let still : p.lag - 1 ≡ p.lag = omega arith in λ i. record p { lag = still i }

least_at : (ps : List Pending) (i : ℕ) (p : Pending) → slice_get ps i ≡ Some p → All (λ q. 0 < q.lag) (take i ps) → TicketsAscend ps → All (λ q. q.lag ≡ 0 → p.ticket ≤ q.ticket) ps
least_at [] i p there earlier ascend = absurd (cc)
least_at (q ∷ ps) zero p there earlier ascend =
    let ticket : p.ticket ≡ q.ticket = ap (λ (x : Pending). x.ticket) (sym (slice_get-head q p ps there)) in
    All-cons (λ r. r.lag ≡ 0 → p.ticket ≤ r.ticket) q ps (λ _. omega arith) (All-weaker (λ r. q.ticket < r.ticket) (λ r. r.lag ≡ 0 → p.ticket ≤ r.ticket) (λ r above _. omega arith) ps ascend.0)
least_at (q ∷ ps) (suc i) p there earlier ascend =
    let waits : 0 < q.lag = All-head (λ r. 0 < r.lag) q (take i ps) earlier in
    All-cons (λ r. r.lag ≡ 0 → p.ticket ≤ r.ticket) q ps (λ ready. absurd (omega arith)) (least_at ps i p there (All-tail (λ r. 0 < r.lag) q (take i ps) earlier) ascend.1)

contains_at : (ps : List Pending) (i : ℕ) (p : Pending) → slice_get ps i ≡ Some p → Contains ps p
contains_at ps i p there = (i, slice_get-lt ps p i there, got ps i p there)
  where
    got : (ps : List Pending) (i : ℕ) (p : Pending) → slice_get ps i ≡ Some p → get_or ps i p ≡ p
    got [] i p there = absurd (cc)
    got (q ∷ ps) zero p there = slice_get-head q p ps there
    got (q ∷ ps) (suc i) p there = got ps i p there

get_or-lowered : (ps : List Pending) (i : ℕ) (p d : Pending) → slice_get ps i ≡ Some p → get_or (map lowered ps) i d ≡ lowered p
get_or-lowered [] i p d there = absurd (cc)
get_or-lowered (q ∷ ps) zero p d there = ap lowered (slice_get-head q p ps there)
get_or-lowered (q ∷ ps) (suc i) p d there = get_or-lowered ps i p d there

pub was_taken : (old low new : List Pending) (i : ℕ) (p : Pending) → IsFirstReady old i → TicketsAscend old → low ≡ map lowered old → p ≡ get_or low i p → new ≡ remove low i → WasTaken old p new
was_taken old low new i p first ascend low_is p_is new_is =
    let is : first.next ≡ p = sym (p_is ∙ ap (λ l. get_or l i p) low_is ∙ get_or-lowered old i first.next p first.is_open ∙ ready_lowered first.next first.ready) in
    subst (λ (x : Pending). WasTaken old x new) is (record {
      is_open = contains_at old i first.next first.is_open;
      ready = first.ready;
      least = least_at old i first.next first.is_open first.earlier ascend;
      rest = new_is ∙ ap (λ l. remove l i) low_is ∙ map_remove old i ∙ ap (λ l. map lowered l) (sym (others_at old i first.next first.is_open ascend));
    })

-- what a device sees of them

pub find_new : (n : ℕ) (ps : List Pending) → All (λ p. p.ticket < n) ps → find_flight n (map flight ps) ≡ None
find_new n [] below = refl
find_new n (p ∷ ps) below =
    let first : p.ticket < n = All-head (λ q. q.ticket < n) p ps below in
    let rest : find_flight n (map flight ps) ≡ None = find_new n ps (All-tail (λ q. q.ticket < n) p ps below) in
    let other : eqb p.ticket n ≡ false = grind (arith, nat_tests) in
    rw other rest

pub find_open : (ps : List Pending) (p : Pending) → Contains ps p → IsSome (find_flight p.ticket (map flight ps))
find_open [] p c = absurd (omega (arith, c.1))
find_open (q ∷ ps) p c = elim (cases_eq q.ticket p.ticket) [
  | inl same ↦ let found : eqb q.ticket p.ticket ≡ true = grind (arith, nat_tests) in rw found refl
  | inr apart ↦ let other : eqb q.ticket p.ticket ≡ false = grind (arith, nat_tests) in rw other (find_open ps p (rest_of c apart))
]
  where
    rest_of : Contains (q ∷ ps) p → q.ticket ≢ p.ticket → Contains ps p
    rest_of (zero, below, is) apart = absurd (apart (ap (λ (x : Pending). x.ticket) is))
    rest_of (suc i, below, is) apart = (i, omega (arith, below), is)

pub flights_lowered : (ps : List Pending) → map flight (map lowered ps) ≡ map flight ps
flights_lowered [] = refl
flights_lowered (p ∷ ps) = ap (λ fs. flight p ∷ fs) (flights_lowered ps)

-- tickets ascend

ascend_push : (ps : List Pending) (p : Pending) → TicketsAscend ps → All (λ q. q.ticket < p.ticket) ps → TicketsAscend (ps ++ p ∷ [])
ascend_push [] p ascend below = (All-nil (λ q. p.ticket < q.ticket), tt)
ascend_push (q ∷ ps) p ascend below =
    (All-push (λ r. q.ticket < r.ticket) ps p ascend.0 (All-head (λ r. r.ticket < p.ticket) q ps below), ascend_push ps p ascend.1 (All-tail (λ r. r.ticket < p.ticket) q ps below))

ascend_lowered : (ps : List Pending) → TicketsAscend ps → TicketsAscend (map lowered ps)
ascend_lowered [] ascend = tt
ascend_lowered (p ∷ ps) ascend = (All-map (λ q. p.ticket < q.ticket) lowered ps ascend.0, ascend_lowered ps ascend.1)

ascend_others : (t : ℕ) (ps : List Pending) → TicketsAscend ps → TicketsAscend (others t ps)
ascend_others t [] ascend = tt
ascend_others t (q ∷ ps) ascend = elim (cases_eq q.ticket t) [
  | inl same ↦ let found : eqb q.ticket t ≡ true = grind (arith, nat_tests) in rw found (ascend_others t ps ascend.1)
  | inr apart ↦
      let kept : eqb q.ticket t ≡ false = grind (arith, nat_tests) in
      rw kept (All-filter (λ r. not (eqb r.ticket t)) (λ r. q.ticket < r.ticket) ps ascend.0, ascend_others t ps ascend.1)
]

-- one more ticket, the place of the new event
pub open_push : (n : ℕ) (ps : List Pending) (p : Pending) → AreOpen n ps → p.ticket ≡ n → length ps < 64 → p.lag ≤ 63 → AreOpen (n + 1) (ps ++ p ∷ [])
open_push n ps p are is few low = record {
  low = All-push (λ q. q.lag ≤ 63) ps p are.low low;
  few = omega (arith, length-append ps (p ∷ []));
  below = All-push (λ q. q.ticket < n + 1) ps p (All-weaker (λ q. q.ticket < n) (λ q. q.ticket < n + 1) (λ q h. omega arith) ps are.below) (omega arith);
  ascend = ascend_push ps p are.ascend (All-weaker (λ q. q.ticket < n) (λ q. q.ticket < p.ticket) (λ q h. omega arith) ps are.below);
}

pub open_lowered : (n : ℕ) (ps : List Pending) → AreOpen n ps → AreOpen n (map lowered ps)
open_lowered n ps are = record {
  few = omega (arith, length-map ps lowered, are.few);
  low = All-map (λ q. q.lag ≤ 63) lowered ps (All-weaker (λ q. q.lag ≤ 63) (λ q. q.lag - 1 ≤ 63) (λ q h. omega arith) ps are.low);
  below = All-map (λ q. q.ticket < n) lowered ps are.below;
  ascend = ascend_lowered ps are.ascend;
}

pub open_others : (n : ℕ) (ps : List Pending) (p : Pending) → Contains ps p → AreOpen n ps → AreOpen (n + 1) (others p.ticket ps)
open_others n ps p c are =
    let kept = λ (r : Pending). not (eqb r.ticket p.ticket) in
    record {
      few = omega (arith, length-others ps p c are.ascend, are.few);
      low = All-filter kept (λ q. q.lag ≤ 63) ps are.low;
      below = All-filter kept (λ q. q.ticket < n + 1) ps (All-weaker (λ q. q.ticket < n) (λ q. q.ticket < n + 1) (λ q h. omega arith) ps are.below);
      ascend = ascend_others p.ticket ps are.ascend;
    }

-- patience

pub patient_push : (ps : List Pending) (p : Pending) (waits : ℕ) → IsPatient ps waits → p.lag ≤ 63 → IsPatient (ps ++ p ∷ []) waits
patient_push ps p waits (inl none) low = inr (p, Contains-push ps p, omega (arith, none.1))
patient_push ps p waits (inr q) low = inr (q.0, Contains-append_left ps (p ∷ []) q.0 q.1, q.2)

contains_lowered : (ps : List Pending) (p : Pending) → Contains ps p → Contains (map lowered ps) (lowered p)
contains_lowered ps p c = (c.0, omega (arith, length-map ps lowered, c.1), got ps c.0 p c.1 c.2)
  where
    got : (ps : List Pending) (k : ℕ) (p : Pending) → k < length ps → get_or ps k p ≡ p → get_or (map lowered ps) k (lowered p) ≡ lowered p
    got [] k p below is = absurd (omega arith)
    got (q ∷ ps) zero p below is = ap lowered is
    got (q ∷ ps) (suc k) p below is = got ps k p (omega arith) is

-- a reap that gives none
pub patient_wait : (ps ps' : List Pending) (waits : ℕ) → IsPatient ps waits → NoneWasReady ps ps' → 0 < length ps → IsPatient ps' (waits + 1) × (waits < 64)
patient_wait ps ps' waits (inl none) was some = absurd (omega (arith, ap length none.0))
patient_wait ps ps' waits (inr q) was some =
    let positive : 0 < q.0.lag = All-contains (λ p. 0 < p.lag) ps q.0 was.waiting q.1 in
    (inr (lowered q.0, subst (λ l. Contains l (lowered q.0)) (sym was.rest) (contains_lowered ps q.0 q.1), omega (arith, q.2)), omega (arith, q.2))

-- after one that gives a ticket
pub patient_again : (ps : List Pending) → All (λ p. p.lag ≤ 63) ps → IsPatient ps 0
patient_again [] low = inl (refl, refl)
patient_again (p ∷ ps) low =
    let first : p.lag ≤ 63 = All-head (λ q. q.lag ≤ 63) p ps low in
    inr (p, (0, omega arith, refl), omega (arith, first))

-- one more of them waits for one reap fewer
lower_step : (xs cur : List Pending) (i : ℕ) (d p : Pending) → i < length xs → cur ≡ map lowered (take i xs) ++ drop i xs → p ≡ lowered (get_or cur i d) → set cur i p ≡ map lowered (take (suc i) xs) ++ drop (suc i) xs
lower_step [] cur i d p below is is_p = absurd (omega arith)
lower_step (x ∷ xs) cur zero d p below is is_p =
    let p_is : p ≡ lowered x = is_p ∙ ap (λ l. lowered (get_or l 0 d)) is in
    ap (λ l. set l 0 p) is ∙ ap (λ q. q ∷ xs) p_is
lower_step (x ∷ xs) cur (suc i) d p below is is_p =
    let rest = lower_step xs (map lowered (take i xs) ++ drop i xs) i d p (omega arith) refl (is_p ∙ ap (λ l. lowered (get_or l (suc i) d)) is) in
    ap (λ l. set l (suc i) p) is ∙ ap (λ l. lowered x ∷ l) rest

pub lower_more : (xs cur : List Pending) (i : ℕ) (d p : Pending) → i < length xs → cur ≡ map lowered (take i xs) ++ drop i xs → p ≡ lowered (get_or cur i d) → set cur i p ≡ map lowered (take (i + 1) xs) ++ drop (i + 1) xs
lower_more xs cur i d p below is is_p = rw add-one (lower_step xs cur i d p below is is_p)
