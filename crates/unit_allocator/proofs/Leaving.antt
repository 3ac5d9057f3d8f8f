-- A new allocator: all its units are free, and then the busy ones are taken one after another.
use Rattle.std.proofs.Common.{◌≡◌, ◌≢◌, ℕ, ◌+◌, ◌-◌, ◌<◌, ◌≤◌, ◌==◌, ◌&&◌, ◌||◌, Bool, true, false, not, cond, replicate, List, [], ◌∷◌, length, get_or, take, take_all, refl, sym, ap, subst, ◌∙◌, arith, inl, inr}
use Rattle.std.specs.List.{range_with_len, list_any}
use Rattle.std.specs.FinSet as finite
use Rattle.std.specs.Ordering.{nat_cmp, eq_by_cmp}
use Rattle.std.specs.Cmp.{nat_cmp_total}
use Rattle.std.proofs.lemmas.Bool.{cases_eq, cases_lt}
use Rattle.std.proofs.lemmas.Bool.Decides.{nat_tests}
use Rattle.std.proofs.lemmas.List.{get_or-replicate, get_or_past, length-replicate, length-set, ext_get_or, get_or-set_same, get_or-set_other}
use Rattle.std.proofs.lemmas.List.Folds.{list_any_more}
use Rattle.unit_allocator.specs.Prelude.{Space, is_free, is_idle, holds_of, IsWithin, taken_one, given_one, freed_from, no_idle_units, IsWithout}
use Rattle.unit_allocator.proofs.Fresh.{step, new_is_free, new_is_unheld}

-- a test and a test that holds
and_true : (b : Bool) → (b && true) ≡ b
and_true true = refl
and_true false = refl

-- no count of such a list is above zero
zeros_at : (n k : ℕ) → get_or {A = ℕ} (replicate n 0) k 0 ≡ 0
zeros_at n k = elim (cases_lt k n) [
  | inl lt ↦ get_or-replicate n k 0 0 lt
  | inr le ↦ get_or_past (replicate n 0) k 0 (omega (arith, le, length-replicate {A = ℕ} n 0))
]

-- ---- one unit

-- a unit that nobody holds is free where it is idle
idle_is_free : (s : Space) (u : ℕ) → holds_of s u ≡ 0 → is_free s u ≡ is_idle s u
idle_is_free s u none = ap (λ n. is_idle s u && (n == 0)) none ∙ and_true (is_idle s u)

-- a free unit is taken
pub without_taken : (s new : Space) (unit : ℕ) → IsWithin s unit → new ≡ taken_one s unit → IsWithout s new unit
without_taken s new unit within is = subst (λ t. IsWithout s t unit) (sym is) (record {
  first = refl;
  long = length-set s.idle (unit - s.first) false;
  holds = refl;
  idle = λ u w. elim (cases_eq unit u) [
    | inl e ↦ ap (λ k. is_idle (taken_one s unit) k) (sym e) ∙ here ∙ sym (ap (λ b. is_idle s u && not b) (same e) ∙ never (is_idle s u))
    | inr apart ↦ there u w apart ∙ sym (ap (λ b. is_idle s u && not b) (other apart) ∙ and_true (is_idle s u))
  ];
})
  where
    here : is_idle (taken_one s unit) unit ≡ false
    here = get_or-set_same s.idle (unit - s.first) false false (omega (arith, within.from, within.to))

    there : (u : ℕ) → IsWithin s u → unit ≢ u → is_idle (taken_one s unit) u ≡ is_idle s u
    there u w apart = get_or-set_other s.idle (unit - s.first) (u - s.first) false false (λ e. apart (omega (arith, e, within.from, w.from)))

    never : (b : Bool) → (b && false) ≡ false
    never true = refl
    never false = refl

    same : {u : ℕ} → unit ≡ u → (u == unit) ≡ true
    same e = grind (arith, nat_tests)

    other : {u : ℕ} → unit ≢ u → (u == unit) ≡ false
    other apart = grind (arith, nat_tests)

-- nothing is to be taken
pub without_same : (s new : Space) (unit : ℕ) → holds_of s unit ≡ 0 → (IsWithin s unit → is_free s unit ≡ false) → new ≡ s → IsWithout s new unit
without_same s new unit none was is = subst (λ t. IsWithout s t unit) (sym is) (record {
  first = refl;
  long = refl;
  holds = refl;
  idle = λ u w. elim (cases_eq unit u) [
    | inl e ↦
        let no : is_idle s u ≡ false =
        ap (is_idle s) (sym e) ∙ sym (idle_is_free s unit none) ∙ was (subst (IsWithin s) (sym e) w) in
        no ∙ sym (ap (λ b. b && not (u == unit)) no)
    | inr apart ↦ sym (ap (λ b. is_idle s u && not b) (other apart) ∙ and_true (is_idle s u))
  ];
})
  where
    other : {u : ℕ} → unit ≢ u → (u == unit) ≡ false
    other apart = grind (arith, nat_tests)

-- ---- all busy units

-- the unit is one of the list
abbrev is_in : ℕ → List ℕ → Bool
is_in u us = list_any (eq_by_cmp nat_cmp u) us

-- of the units of a new allocator those are idle that aren't among the first of the busy ones
pub record IsLeftOf (start count : ℕ) (busy : List ℕ) (i : ℕ) (s : Space) : Type 0 where
  pub first : s.first ≡ start
  pub long : length s.idle ≡ count
  pub holds : s.holds ≡ replicate count 0
  pub idle : (u : ℕ) → IsWithin s u → is_idle s u ≡ not (is_in u (take i busy))

-- at first all units are free
pub none_left_out : (first count : ℕ) (busy : List ℕ) (s : Space) → s.first ≡ first → s.idle ≡ replicate count true → s.holds ≡ replicate count 0
    → IsLeftOf first count busy 0 s
none_left_out first count busy s first_is idle_is holds_is = record {
  first = first_is;
  long = ap length idle_is ∙ length-replicate count true;
  holds = holds_is;
  idle = λ u w. ap (λ fs. get_or fs (u - s.first) false) idle_is
      ∙ get_or-replicate count (u - s.first) true false (omega (arith, w.from, w.to, ap length idle_is ∙ length-replicate count true));
}

-- nobody holds a unit
pub is_unheld : (first count : ℕ) (busy : List ℕ) (i : ℕ) (s : Space) → IsLeftOf first count busy i s → (u : ℕ) → holds_of s u ≡ 0
is_unheld first count busy i s so u = ap (λ hs. get_or hs (u - s.first) 0) so.holds ∙ zeros_at count (u - s.first)

-- one more unit is left out
pub one_left_out : (first count : ℕ) (busy : List ℕ) (i : ℕ) (s new : Space) (unit : ℕ) → IsLeftOf first count busy i s → i < length busy
    → unit ≡ get_or busy i 0 → IsWithout s new unit → IsLeftOf first count busy (i + 1) new
one_left_out first count busy i s new unit so lt is out = record {
  first = out.first ∙ so.first;
  long = out.long ∙ so.long;
  holds = out.holds ∙ so.holds;
  idle = λ u w.
      let v : IsWithin s u = record { from = omega (arith, w.from, out.first); to = omega (arith, w.to, out.first, out.long) } in
      out.idle u v ∙ ap (λ b. b && not (u == unit)) (so.idle u v) ∙ both (is_in u (take i busy)) (u == unit)
      ∙ ap not (ap (λ b. is_in u (take i busy) || b) (ap (λ k. u == k) is ∙ sym (alike u (get_or busy i 0)))
      ∙ sym (list_any_more (eq_by_cmp nat_cmp u) busy i 0 lt));
}
  where
    both : (a b : Bool) → (not a && not b) ≡ not (a || b)
    both true b = refl
    both false b = refl

    alike : (u v : ℕ) → eq_by_cmp nat_cmp u v ≡ (u == v)
    alike u v = elim (cases_eq u v) [ inl e ↦ alike_same e | inr apart ↦ alike_other apart ]
      where
        alike_same : u ≡ v → eq_by_cmp nat_cmp u v ≡ (u == v)
        alike_same e = grind (arith, nat_tests)

        alike_other : u ≢ v → eq_by_cmp nat_cmp u v ≡ (u == v)
        alike_other apart = grind (arith, nat_tests)

-- ---- the same space as by a look at each unit

-- the first unit stays
freed_first : (s : Space) (busy : finite.FinSet nat_cmp) (us : List ℕ) → (freed_from s busy us).first ≡ s.first
freed_first s busy [] = refl
freed_first s busy (a ∷ us) = freed_first (step s busy a) busy us ∙ by (finite.contains busy a)
  where
    by : (b : Bool) → (cond b s (given_one s a)).first ≡ s.first
    by true = refl
    by false = refl

-- the number of units stays
freed_long : (s : Space) (busy : finite.FinSet nat_cmp) (us : List ℕ) → length (freed_from s busy us).idle ≡ length s.idle
freed_long s busy [] = refl
freed_long s busy (a ∷ us) = freed_long (step s busy a) busy us ∙ by (finite.contains busy a)
  where
    by : (b : Bool) → length (cond b s (given_one s a)).idle ≡ length s.idle
    by true = refl
    by false = length-set s.idle (a - s.first) true

-- spaces whose parts are the same are one
space_is : (s t : Space) → s.first ≡ t.first → s.idle ≡ t.idle → s.holds ≡ t.holds → s ≡ t
space_is s t first_is idle_is holds_is =
    ap (λ n. record s { first = n }) first_is ∙ ap (λ fs. record s { first = t.first; idle = fs }) idle_is
    ∙ ap (λ hs. record { first = t.first; idle = t.idle; holds = hs }) holds_is

-- the space of a look at each unit
abbrev wanted : ℕ → ℕ → finite.FinSet nat_cmp → Space
wanted first count busy = freed_from (no_idle_units first count) busy (range_with_len first count)

-- its first unit
wanted_first : (first count : ℕ) (busy : finite.FinSet nat_cmp) → (wanted first count busy).first ≡ first
wanted_first first count busy = freed_first (no_idle_units first count) busy (range_with_len first count)

-- its number of units
wanted_long : (first count : ℕ) (busy : finite.FinSet nat_cmp) → length (wanted first count busy).idle ≡ count
wanted_long first count busy = freed_long (no_idle_units first count) busy (range_with_len first count) ∙ length-replicate count false

-- its idle units
wanted_idle : (first count : ℕ) (busy : finite.FinSet nat_cmp) (k : ℕ) → k < count
    → get_or (wanted first count busy).idle k false ≡ not (finite.contains busy (first + k))
wanted_idle first count busy k lt =
    let from : ℕ = (wanted first count busy).first in
    let place : k ≡ (first + k) - from = omega (arith, wanted_first first count busy) in
    let none : holds_of (wanted first count busy) (first + k) ≡ 0 =
    ap (λ (hs : List ℕ). get_or hs ((first + k) - from) 0) (new_is_unheld first count busy) ∙ zeros_at count ((first + k) - from) in
    ap (λ j. get_or (wanted first count busy).idle j false) place ∙ sym (idle_is_free (wanted first count busy) (first + k) none)
    ∙ new_is_free first count busy (first + k) (omega arith) (omega (arith, lt))

-- the idle units once all busy ones are left out
left_idle : (first count : ℕ) (units : List ℕ) (i : ℕ) (s : Space) (busy : finite.FinSet nat_cmp) → IsLeftOf first count units i s
    → length units ≤ i → finite.from_list units ≡ busy → (k : ℕ) → k < count → get_or s.idle k false ≡ not (finite.contains busy (first + k))
left_idle first count units i s busy so all is k lt =
    let w : IsWithin s (first + k) = record { from = omega (arith, so.first); to = omega (arith, so.first, so.long, lt) } in
    let place : k ≡ (first + k) - s.first = omega (arith, so.first) in
    let in_set : is_in (first + k) (take i units) ≡ finite.contains busy (first + k) =
    ap (is_in (first + k)) (take_all i units all) ∙ sym (finite.contains-from_list nat_cmp_total units (first + k))
    ∙ ap (λ (b : finite.FinSet nat_cmp). finite.contains b (first + k)) is in
    ap (λ j. get_or s.idle j false) place ∙ so.idle (first + k) w ∙ ap not in_set

-- all busy units are left out
pub all_left_out : (first count : ℕ) (units : List ℕ) (i : ℕ) (s : Space) (busy : finite.FinSet nat_cmp) → IsLeftOf first count units i s
    → length units ≤ i → finite.from_list units ≡ busy → s ≡ freed_from (no_idle_units first count) busy (range_with_len first count)
all_left_out first count units i s busy so all is =
    space_is s (wanted first count busy) (so.first ∙ sym (wanted_first first count busy))
    (ext_get_or false s.idle (wanted first count busy).idle (so.long ∙ sym (wanted_long first count busy)) same)
    (so.holds ∙ sym (new_is_unheld first count busy))
  where
    same : (k : ℕ) → k < length s.idle → get_or s.idle k false ≡ get_or (wanted first count busy).idle k false
    same k lt =
        let small : k < count = omega (arith, lt, so.long) in
        left_idle first count units i s busy so all is k small ∙ sym (wanted_idle first count busy k small)

-- the same space under other names of its numbers
pub renamed : (a b n m : ℕ) (busy : finite.FinSet nat_cmp) → a ≡ b → n ≡ m
    → freed_from (no_idle_units a n) busy (range_with_len a n) ≡ freed_from (no_idle_units b m) busy (range_with_len b m)
renamed a b n m busy first_is count_is = ap (λ k. wanted k n busy) first_is ∙ ap (λ k. wanted b k busy) count_is
