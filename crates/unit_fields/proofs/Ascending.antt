-- Ascending lists, as sets of their numbers.
use Rattle.std.proofs.Common.{◌≡◌, ℕ, zero, suc, ◌+◌, ◌-◌, ◌<◌, ◌≤◌, Bool, true, false, cond, not, ◌&&◌, ◌||◌, List, [], ◌∷◌, length, get_or, Result, Ok, Err, MatchResult, is_ok, refl, sym, ap, subst, ◌∙◌, arith}
use Rattle.std.specs.List.{insert, remove, list_any, AllByRecursion}
use Rattle.std.specs.List.Sorted.{IsBinarySearchResult}
use Rattle.std.specs.Ordering.{nat_cmp, eq_by_cmp}
use Rattle.std.specs.Cmp.{nat_cmp_total}
use Rattle.std.specs.FinSet as set
use Rattle.std.specs.FinSet.{from_list, contains, contains-from_list, contains-insert, contains-remove, same_set, nat_cmp-IsAntisymmetric, len-insert, len-empty}
use Rattle.std.proofs.lemmas.Bool.Decides.{nat_tests}
use Rattle.std.proofs.lemmas.List.Sorted.{searched}
use Rattle.unit_fields.specs.Prelude.{Ascends, IsPlaceOf, IsGapFor, IsAboveLast}
use Rattle.unit_fields.proofs.Sets.{insert_same}

-- ---- order

above_more : (u v : ℕ) (us : List ℕ) → u < v → AllByRecursion (λ w. v < w) us → AllByRecursion (λ w. u < w) us
above_more u v [] below all = tt
above_more u v (w ∷ us) below all = (omega (arith, all.0), above_more u v us below all.1)

above_at : (u : ℕ) (us : List ℕ) (j : ℕ) → AllByRecursion (λ w. u < w) us → j < length us → u < get_or us j 0
above_at u [] j all below = absurd (omega arith)
above_at u (v ∷ us) zero all below = all.0
above_at u (v ∷ us) (suc j) all below = above_at u us j all.1 (omega arith)

rises : (us : List ℕ) → Ascends us → (i j : ℕ) → i ≤ j → j < length us → get_or us i 0 ≤ get_or us j 0
rises [] up i j le below = absurd (omega arith)
rises (u ∷ us) up zero zero le below = omega arith
rises (u ∷ us) up zero (suc j) le below = omega (arith, above_at u us j up.0 (omega arith))
rises (u ∷ us) up (suc i) zero le below = absurd (omega arith)
rises (u ∷ us) up (suc i) (suc j) le below = rises us up.1 i j (omega arith) (omega arith)

-- what a binary search finds
pub found_place : (us : List ℕ) (u : ℕ) (r : Result ℕ ℕ) → Ascends us → IsBinarySearchResult (λ y. nat_cmp y u) us r → MatchResult r (IsPlaceOf us u) (IsGapFor us u)
found_place us u r up found = by r (searched us u r found (rises us up))
  where
    by : (q : Result ℕ ℕ) → MatchResult q (λ i. (i < length us) × (get_or us i 0 ≡ u)) (λ i. (i ≤ length us) × ((k : ℕ) → k < i → get_or us k 0 < u) × ((k : ℕ) → i ≤ k → k < length us → u < get_or us k 0)) → MatchResult q (IsPlaceOf us u) (IsGapFor us u)
    by (Ok i) h = record { within = h.0; same = h.1 }
    by (Err i) h = record { within = h.0; below = h.1; above = h.2 }

-- a unit above the last one comes behind all
pub behind_all : (us : List ℕ) (u : ℕ) → Ascends us → IsAboveLast us u → IsGapFor us u (length us)
behind_all us u up last = record {
  within = omega arith;
  below = λ k l. omega (arith, rises us up k (length us - 1) (omega arith) (omega (arith, last.0)), last.1 0);
  above = λ k a l. absurd (omega arith);
}

-- ---- membership, by the order's own test

unlike_lt : (q v : ℕ) → q < v → eq_by_cmp nat_cmp q v ≡ false
unlike_lt q v below = grind (arith, nat_tests)

unlike_gt : (q v : ℕ) → v < q → eq_by_cmp nat_cmp q v ≡ false
unlike_gt q v above = grind (arith, nat_tests)

alike : (q v : ℕ) → v ≡ q → eq_by_cmp nat_cmp q v ≡ true
alike q v same = grind (arith, nat_tests)

none_above : (u : ℕ) (us : List ℕ) → AllByRecursion (λ w. u < w) us → list_any (eq_by_cmp nat_cmp u) us ≡ false
none_above u [] all = refl
none_above u (v ∷ us) all = ap (λ b. b || list_any (eq_by_cmp nat_cmp u) us) (unlike_lt u v all.0) ∙ none_above u us all.1

any_at : (u : ℕ) (us : List ℕ) (at : ℕ) → at < length us → get_or us at 0 ≡ u → list_any (eq_by_cmp nat_cmp u) us ≡ true
any_at u [] at below same = absurd (omega arith)
any_at u (v ∷ us) zero below same = ap (λ b. b || list_any (eq_by_cmp nat_cmp u) us) (alike u v same)
any_at u (v ∷ us) (suc at) below same = ap (λ b. eq_by_cmp nat_cmp u v || b) (any_at u us at (omega arith) same) ∙ or_true (eq_by_cmp nat_cmp u v)
  where
    or_true : (b : Bool) → (b || true) ≡ true
    or_true true = refl
    or_true false = refl

none_in_gap : (u : ℕ) (us : List ℕ) (at : ℕ) → IsGapFor us u at → list_any (eq_by_cmp nat_cmp u) us ≡ false
none_in_gap u [] at gap = refl
none_in_gap u (v ∷ us) zero gap =
    ap (λ b. b || list_any (eq_by_cmp nat_cmp u) us) (unlike_lt u v (gap.above 0 (omega arith) (omega arith)))
    ∙ none_in_gap u us zero (record { within = omega arith; below = λ k l. absurd (omega arith); above = λ k a l. gap.above (suc k) (omega arith) (omega arith) })
none_in_gap u (v ∷ us) (suc at) gap =
    ap (λ b. b || list_any (eq_by_cmp nat_cmp u) us) (unlike_gt u v (gap.below 0 (omega arith)))
    ∙ none_in_gap u us at (record { within = omega (arith, gap.within); below = λ k l. gap.below (suc k) (omega arith); above = λ k a l. gap.above (suc k) (omega arith) (omega arith) })

pub contains_at : (us : List ℕ) (u at : ℕ) → IsPlaceOf us u at → contains (from_list {R = nat_cmp} us) u ≡ true
contains_at us u at place = contains-from_list nat_cmp_total us u ∙ any_at u us at place.within place.same

pub contains_gap : (us : List ℕ) (u at : ℕ) → IsGapFor us u at → contains (from_list {R = nat_cmp} us) u ≡ false
contains_gap us u at gap = contains-from_list nat_cmp_total us u ∙ none_in_gap u us at gap

pub contains_found : (us : List ℕ) (u : ℕ) (r : Result ℕ ℕ) → MatchResult r (IsPlaceOf us u) (IsGapFor us u) → is_ok r ≡ contains (from_list {R = nat_cmp} us) u
contains_found us u (Ok at) place = sym (contains_at us u at place)
contains_found us u (Err at) gap = sym (contains_gap us u at gap)

-- ---- a unit put in

or_swap : (a b c : Bool) → (a || (b || c)) ≡ (b || (a || c))
or_swap true true c = refl
or_swap true false c = refl
or_swap false b c = refl

any-insert : (p : ℕ → Bool) (us : List ℕ) (at u : ℕ) → list_any p (insert us at u) ≡ (p u || list_any p us)
any-insert p us zero u = refl
any-insert p [] (suc at) u = refl
any-insert p (v ∷ us) (suc at) u = ap (λ b. p v || b) (any-insert p us at u) ∙ or_swap (p v) (p u) _

pub set_inserted : (us : List ℕ) (at u : ℕ) → from_list {R = nat_cmp} (insert us at u) ≡ set.insert (from_list us) u
set_inserted us at u = same_set nat_cmp_total nat_cmp-IsAntisymmetric _ _ (λ q.
    contains-from_list nat_cmp_total (insert us at u) q ∙ any-insert (eq_by_cmp nat_cmp q) us at u
    ∙ sym (contains-insert nat_cmp_total (from_list us) u q ∙ ap (λ b. eq_by_cmp nat_cmp q u || b) (contains-from_list nat_cmp_total us q)))

all-insert : (v : ℕ) (us : List ℕ) (at u : ℕ) → AllByRecursion (λ w. v < w) us → v < u → AllByRecursion (λ w. v < w) (insert us at u)
all-insert v us zero u all below = (below, all)
all-insert v [] (suc at) u all below = (below, tt)
all-insert v (w ∷ us) (suc at) u all below = (all.0, all-insert v us at u all.1 below)

pub ascends_inserted : (us : List ℕ) (at u : ℕ) → Ascends us → IsGapFor us u at → Ascends (insert us at u)
ascends_inserted [] zero u up gap = (tt, tt)
ascends_inserted [] (suc at) u up gap = (tt, tt)
ascends_inserted (v ∷ us) zero u up gap =
    let below = gap.above 0 (omega arith) (omega arith) in
    ((below, above_more u v us below up.0), up)
ascends_inserted (v ∷ us) (suc at) u up gap = (
  all-insert v us at u up.0 (gap.below 0 (omega arith)),
  ascends_inserted us at u up.1 (record { within = omega (arith, gap.within); below = λ k l. gap.below (suc k) (omega arith); above = λ k a l. gap.above (suc k) (omega arith) (omega arith) }),
)

-- ---- a unit taken out

all-remove : (v : ℕ) (us : List ℕ) (at : ℕ) → AllByRecursion (λ w. v < w) us → AllByRecursion (λ w. v < w) (remove us at)
all-remove v [] zero all = tt
all-remove v [] (suc at) all = tt
all-remove v (w ∷ us) zero all = all.1
all-remove v (w ∷ us) (suc at) all = (all.0, all-remove v us at all.1)

pub ascends_removed : (us : List ℕ) (at : ℕ) → Ascends us → Ascends (remove us at)
ascends_removed [] zero up = tt
ascends_removed [] (suc at) up = tt
ascends_removed (v ∷ us) zero up = up.1
ascends_removed (v ∷ us) (suc at) up = (all-remove v us at up.0, ascends_removed us at up.1)

other_removed : (p : ℕ → Bool) (us : List ℕ) (at u : ℕ) → at < length us → get_or us at 0 ≡ u → p u ≡ false → list_any p (remove us at) ≡ list_any p us
other_removed p [] at u below same fails = absurd (omega arith)
other_removed p (v ∷ us) zero u below same fails = ap (λ b. b || list_any p us) (sym (ap p same ∙ fails))
other_removed p (v ∷ us) (suc at) u below same fails = ap (λ b. p v || b) (other_removed p us at u (omega arith) same fails)

none_removed : (us : List ℕ) (at u : ℕ) → Ascends us → at < length us → get_or us at 0 ≡ u → list_any (eq_by_cmp nat_cmp u) (remove us at) ≡ false
none_removed [] at u up below same = absurd (omega arith)
none_removed (v ∷ us) zero u up below same = none_above u us (subst (λ x. AllByRecursion (λ w. x < w) us) same up.0)
none_removed (v ∷ us) (suc at) u up below same =
    ap (λ b. b || list_any (eq_by_cmp nat_cmp u) (remove us at)) (unlike_gt u v (omega (arith, above_at v us at up.0 (omega arith), same)))
    ∙ none_removed us at u up.1 (omega arith) same

pub set_removed : (us : List ℕ) (at u : ℕ) → Ascends us → IsPlaceOf us u at → from_list {R = nat_cmp} (remove us at) ≡ set.remove (from_list us) u
set_removed us at u up place = same_set nat_cmp_total nat_cmp-IsAntisymmetric _ _ (λ q.
    contains-from_list nat_cmp_total (remove us at) q ∙ by q (eq_by_cmp nat_cmp q u) refl
    ∙ sym (contains-remove nat_cmp_total (from_list us) u q ∙ ap (λ b. not (eq_by_cmp nat_cmp q u) && b) (contains-from_list nat_cmp_total us q)))
  where
    by : (q : ℕ) (t : Bool) → eq_by_cmp nat_cmp q u ≡ t → list_any (eq_by_cmp nat_cmp q) (remove us at) ≡ (not (eq_by_cmp nat_cmp q u) && list_any (eq_by_cmp nat_cmp q) us)
    by q true t =
        let same : q ≡ u = grind (arith, nat_tests) in
        ap (λ x. list_any (eq_by_cmp nat_cmp x) (remove us at)) same ∙ none_removed us at u up place.within place.same
        ∙ sym (ap (λ b. not b && list_any (eq_by_cmp nat_cmp q) us) t)
    by q false t =
        other_removed (eq_by_cmp nat_cmp q) us at u place.within place.same t
        ∙ sym (ap (λ b. not b && list_any (eq_by_cmp nat_cmp q) us) t)

pub set_kept : (us : List ℕ) (at u : ℕ) → IsGapFor us u at → from_list {R = nat_cmp} us ≡ set.remove (from_list us) u
set_kept us at u gap = same_set nat_cmp_total nat_cmp-IsAntisymmetric _ _ (λ q. sym (contains-remove nat_cmp_total (from_list us) u q ∙ by q (eq_by_cmp nat_cmp q u) refl))
  where
    by : (q : ℕ) (t : Bool) → eq_by_cmp nat_cmp q u ≡ t → (not (eq_by_cmp nat_cmp q u) && contains (from_list {R = nat_cmp} us) q) ≡ contains (from_list {R = nat_cmp} us) q
    by q true t =
        let same : q ≡ u = grind (arith, nat_tests) in
        ap (λ b. not b && contains (from_list {R = nat_cmp} us) q) t ∙ sym (ap (λ x. contains (from_list {R = nat_cmp} us) x) same ∙ contains_gap us u at gap)
    by q false t = ap (λ b. not b && contains (from_list {R = nat_cmp} us) q) t

pub set_same : (us : List ℕ) (at u : ℕ) → IsPlaceOf us u at → from_list {R = nat_cmp} us ≡ set.insert (from_list us) u
set_same us at u place = insert_same (from_list us) u (contains_at us u at place)

-- ---- how many

pub len-ascending : (us : List ℕ) → Ascends us → set.len (from_list {R = nat_cmp} us) ≡ length us
len-ascending [] up = len-empty nat_cmp
len-ascending (u ∷ us) up =
    len-insert nat_cmp_total (from_list us) u
    ∙ ap (λ b. cond b (set.len (from_list {R = nat_cmp} us)) (set.len (from_list {R = nat_cmp} us) + 1)) (contains-from_list nat_cmp_total us u ∙ none_above u us up.0)
    ∙ omega (arith, len-ascending us up.1)
