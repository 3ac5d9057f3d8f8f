-- The free units after a change.
use Rattle.std.proofs.Common.{◌≡◌, ◌≢◌, ℕ, ◌+◌, ◌-◌, ◌<◌, ◌==◌, ◌&&◌, Bool, true, false, List, ◌∷◌, map, length, set, refl, sym, ap, subst, ◌∙◌, arith, inl, inr, ◌⊎◌}
use Rattle.std.specs.Prelude.{◌↔◌}
use Rattle.std.specs.List.{filter, range_with_len, Contains}
use Rattle.std.proofs.lemmas.Bool.{cases_eq}
use Rattle.std.proofs.lemmas.List.{length-set, length-map}
use Rattle.unit_fields.specs.Prelude.{Ascends}
use Rattle.unit_allocator.specs.Prelude.{Space, free_units, is_free, is_idle, holds_of, IsWithin, idle_and_unheld, taken_one, given_one, held, unheld, IsLowestFree, OthersStay}
use Rattle.unit_allocator.proofs.Counts.{idle_here, idle_there, holds_here, holds_there, one_less}
use Rattle.unit_allocator.proofs.Steps.{held_not_free}
use Rattle.unit_allocator.proofs.Lists.{Contains-head, Contains-cases, Contains-map, Contains-from_map, passing_is_listed, listed_passes, passing_ascend, shifted_ascend, above_first}

place_within : (s : Space) (u : ℕ) → IsWithin s u → u - s.first < length s.idle
place_within s u w = omega (arith, w.from, w.to)

apart : (s : Space) (u v : ℕ) → IsWithin s u → IsWithin s v → v ≢ u → v - s.first ≢ u - s.first
apart s u v w x other e = other (omega (arith, w.from, x.from, e))

-- ---- the list

pub free_units_ascend : (s : Space) → Ascends (free_units s)
unfolding free_units
free_units_ascend s = shifted_ascend s.first _ (passing_ascend (idle_and_unheld s.idle s.holds) 0 (length s.idle))

listed : (s : Space) (u : ℕ) → IsWithin s u → is_free s u ≡ true → Contains (free_units s) u
unfolding free_units
listed s u w is =
    let at = passing_is_listed (idle_and_unheld s.idle s.holds) 0 (length s.idle) (u - s.first) (omega arith) (omega (arith, place_within s u w)) is in
    let back : s.first + (u - s.first) ≡ u = omega (arith, w.from) in
    subst (λ (k : ℕ). Contains (map (λ i. s.first + i) (filter (idle_and_unheld s.idle s.holds) (range_with_len 0 (length s.idle)))) k) back
    (Contains-map (λ i. s.first + i) _ (u - s.first) at)

pub record IsFreeUnit (s : Space) (u : ℕ) : Type 0 where
  pub within : IsWithin s u
  pub free : is_free s u ≡ true

pub listed_is_free : (s : Space) (u : ℕ) → Contains (free_units s) u → IsFreeUnit s u
unfolding free_units
listed_is_free s u c =
    let from = Contains-from_map (λ i. s.first + i) (filter (idle_and_unheld s.idle s.holds) (range_with_len 0 (length s.idle))) u c in
    let p = listed_passes (idle_and_unheld s.idle s.holds) 0 (length s.idle) from.0 from.1 in
    let at : from.0 ≡ u - s.first = omega (arith, from.2) in
    record {
      within = record { from = omega (arith, from.2); to = omega (arith, from.2, p.to) };
      free = ap (idle_and_unheld s.idle s.holds) (sym at) ∙ p.passes;
    }

pub free_is_listed : (s : Space) (u : ℕ) → IsWithin s u → (is_free s u ≡ true) ↔ Contains (free_units s) u
free_is_listed s u w = (λ is. listed s u w is, λ c. (listed_is_free s u c).free)

pub listed_is_within : (s : Space) (u : ℕ) → Contains (free_units s) u → IsWithin s u
listed_is_within s u c = (listed_is_free s u c).within

pub lowest_is_free : (s : Space) (u : ℕ) (rest : List ℕ) → free_units s ≡ u ∷ rest → IsLowestFree s u
lowest_is_free s u rest is =
    let here = listed_is_free s u (subst (λ (us : List ℕ). Contains us u) (sym is) (Contains-head u rest)) in
    let up : Ascends (u ∷ rest) = subst Ascends is (free_units_ascend s) in
    record {
      within = here.within;
      free = here.free;
      least = λ v w free. elim (Contains-cases u v rest (subst (λ (us : List ℕ). Contains us v) is (listed s v w free))) [
        | inl e ↦ omega (arith, e)
        | inr c ↦ let above : u < v = above_first u v rest up.0 c in omega (arith, above)
      ];
    }

-- ---- one unit's change

pub taken_is_not_free : (s : Space) (u : ℕ) → IsWithin s u → (is_free (taken_one s u) u ≡ false) × OthersStay s (taken_one s u) u
taken_is_not_free s u w = (
  idle_here s.idle s.holds (u - s.first) false (place_within s u w),
  λ v x other. idle_there s.idle s.holds (u - s.first) false (v - s.first) (apart s u v w x other),
)

pub given_is_free : (s : Space) (u : ℕ) → IsWithin s u → holds_of s u ≡ 0 → (is_free (given_one s u) u ≡ true) × OthersStay s (given_one s u) u
given_is_free s u w none = (
  idle_here s.idle s.holds (u - s.first) true (place_within s u w) ∙ ap (λ n. n == 0) none,
  λ v x other. idle_there s.idle s.holds (u - s.first) true (v - s.first) (apart s u v w x other),
)

pub given_while_held : (s : Space) (u : ℕ) → IsWithin s u → 0 < holds_of s u → is_free (given_one s u) u ≡ false
given_while_held s u w some = idle_here s.idle s.holds (u - s.first) true (place_within s u w) ∙ held_not_free true (holds_of s u) some

pub held_is_not_free : (s : Space) (u : ℕ) → IsWithin s u → length s.holds ≡ length s.idle → (is_free (held s u) u ≡ false) × OthersStay s (held s u) u
held_is_not_free s u w all = (
  holds_here s.idle s.holds (u - s.first) (holds_of s u + 1) (omega (arith, all, place_within s u w))
      ∙ held_not_free (is_idle s u) (holds_of s u + 1) (omega arith),
  λ v x other. holds_there s.idle s.holds (u - s.first) (holds_of s u + 1) (v - s.first) (apart s u v w x other),
)

pub last_hold_ends : (s : Space) (u : ℕ) → IsWithin s u → length s.holds ≡ length s.idle → holds_of s u ≡ 1
    → (is_free (unheld s u) u ≡ is_idle s u) × OthersStay s (unheld s u) u
last_hold_ends s u w all one =
    let none : holds_of s u - 1 ≡ 0 = omega (arith, one) in (
      holds_here s.idle s.holds (u - s.first) (holds_of s u - 1) (omega (arith, all, place_within s u w)) ∙ ap (λ n. is_idle s u && (n == 0)) none
          ∙ always (is_idle s u),
      λ v x other. holds_there s.idle s.holds (u - s.first) (holds_of s u - 1) (v - s.first) (apart s u v w x other),
    )
  where
    always : (b : Bool) → (b && true) ≡ b
    always true = refl
    always false = refl

pub range_stays : (s : Space) (u v : ℕ) → IsWithin s v
    → IsWithin (taken_one s u) v × IsWithin (given_one s u) v × IsWithin (held s u) v × IsWithin (unheld s u) v
range_stays s u v w = (
  record { from = w.from; to = omega (arith, w.to, length-set s.idle (u - s.first) false) },
  record { from = w.from; to = omega (arith, w.to, length-set s.idle (u - s.first) true) },
  record { from = w.from; to = w.to },
  record { from = w.from; to = w.to },
)

-- ---- the list after one unit's change

range_back : (s : Space) (u v : ℕ) (b : Bool) → IsWithin (record s { idle = set s.idle (u - s.first) b }) v → IsWithin s v
range_back s u v b w = record { from = w.from; to = omega (arith, w.to, length-set s.idle (u - s.first) b) }

pub free_after_taking : (s : Space) (u v : ℕ) → IsWithin s u → Contains (free_units (taken_one s u)) v ↔ (Contains (free_units s) v × (v ≢ u))
free_after_taking s u v w = (there, back)
  where
    differ : true ≡ false → ⊥
    differ e = cc

    there : Contains (free_units (taken_one s u)) v → Contains (free_units s) v × (v ≢ u)
    there c =
        let f = listed_is_free (taken_one s u) v c in
        let other : v ≢ u = λ e. differ (sym f.free ∙ ap (is_free (taken_one s u)) e ∙ (taken_is_not_free s u w).0) in
        let x : IsWithin s v = range_back s u v false f.within in
        (listed s v x (sym ((taken_is_not_free s u w).1 v x other) ∙ f.free), other)

    back : Contains (free_units s) v × (v ≢ u) → Contains (free_units (taken_one s u)) v
    back c =
        let f = listed_is_free s v c.0 in
        listed (taken_one s u) v (range_stays s u v f.within).0 ((taken_is_not_free s u w).1 v f.within c.1 ∙ f.free)

pub free_after_giving : (s : Space) (u v : ℕ) → IsWithin s u → holds_of s u ≡ 0
    → Contains (free_units (given_one s u)) v ↔ (Contains (free_units s) v ⊎ (v ≡ u))
free_after_giving s u v w none = (there, back)
  where
    there : Contains (free_units (given_one s u)) v → Contains (free_units s) v ⊎ (v ≡ u)
    there c =
        let f = listed_is_free (given_one s u) v c in
        let x : IsWithin s v = range_back s u v true f.within in
        elim (cases_eq v u) [ inl e ↦ inr e | inr other ↦ inl (listed s v x (sym ((given_is_free s u w none).1 v x other) ∙ f.free)) ]

    stays : IsFreeUnit s v → Contains (free_units (given_one s u)) v
    stays f = elim (cases_eq v u) [
      | inl e ↦ subst (λ (k : ℕ). Contains (free_units (given_one s u)) k) (sym e)
          (listed (given_one s u) u (range_stays s u u w).1 (given_is_free s u w none).0)
      | inr other ↦ listed (given_one s u) v (range_stays s u v f.within).1 ((given_is_free s u w none).1 v f.within other ∙ f.free)
    ]

    back : Contains (free_units s) v ⊎ (v ≡ u) → Contains (free_units (given_one s u)) v
    back (inl c) = stays (listed_is_free s v c)
    back (inr e) = subst (λ (k : ℕ). Contains (free_units (given_one s u)) k) (sym e)
        (listed (given_one s u) u (range_stays s u u w).1 (given_is_free s u w none).0)

-- ---- how many are free

count_is : (s : Space) → length (free_units s) ≡ length (filter (idle_and_unheld s.idle s.holds) (range_with_len 0 (length s.idle)))
unfolding free_units
count_is s = length-map _ _

pub one_less_is_free : (s : Space) (u : ℕ) → IsWithin s u → is_free s u ≡ true → length (free_units s) ≡ length (free_units (taken_one s u)) + 1
one_less_is_free s u w is =
    let at : ℕ = u - s.first in
    let less = one_less (idle_and_unheld s.idle s.holds) (idle_and_unheld (set s.idle at false) s.holds) at is
    (idle_here s.idle s.holds at false (place_within s u w)) (idle_there s.idle s.holds at false) 0 (length s.idle) (omega arith)
    (omega (arith, place_within s u w)) in
    let same : length (filter (idle_and_unheld (set s.idle at false) s.holds) (range_with_len 0 (length (set s.idle at false)))) ≡ length
    (filter (idle_and_unheld (set s.idle at false) s.holds) (range_with_len 0 (length s.idle))) =
    ap (λ n. length (filter (idle_and_unheld (set s.idle at false) s.holds) (range_with_len 0 n))) (length-set s.idle at false) in
    count_is s ∙ less ∙ ap (λ n. n + 1) (sym (count_is (taken_one s u) ∙ same))

pub one_more_is_free : (s : Space) (u : ℕ) → IsWithin s u → is_free s u ≡ false → holds_of s u ≡ 0
    → length (free_units (given_one s u)) ≡ length (free_units s) + 1
one_more_is_free s u w was none =
    let at : ℕ = u - s.first in
    let more = one_less (idle_and_unheld (set s.idle at true) s.holds) (idle_and_unheld s.idle s.holds) at (given_is_free s u w none).0 was
    (λ q other. sym (idle_there s.idle s.holds at true q other)) 0 (length s.idle) (omega arith) (omega (arith, place_within s u w)) in
    let same : length (filter (idle_and_unheld (set s.idle at true) s.holds) (range_with_len 0 (length (set s.idle at true)))) ≡ length
    (filter (idle_and_unheld (set s.idle at true) s.holds) (range_with_len 0 (length s.idle))) =
    ap (λ n. length (filter (idle_and_unheld (set s.idle at true) s.holds) (range_with_len 0 n))) (length-set s.idle at true) in
    count_is (given_one s u) ∙ same ∙ more ∙ ap (λ n. n + 1) (sym (count_is s))
