-- What the allocator's fields keep when a unit is taken, given, held and let go.
use Rattle.std.proofs.Common.{◌≡◌, ◌≢◌, ℕ, ◌+◌, ◌-◌, ◌/◌, ◌%◌, replicate, ◌<◌, ◌≤◌, ◌==◌, ◌&&◌, Bool, true, false, List, [], ◌∷◌, length, get_or, set, map, inl, inr, refl, sym, ap, subst, ◌∙◌, arith}
use Rattle.std.specs.List.{filter, range_with_len}
use Rattle.std.proofs.lemmas.List.{length-set, get_or_past, get_or-replicate, length-replicate}
use Rattle.std.specs.Int.{bit_at}
use Rattle.std.proofs.lemmas.Nat.Bits.{bit_at-zero}
use Rattle.std.proofs.lemmas.Bool.{cases_lt}
use Rattle.std.proofs.lemmas.Bool.Decides.{nat_tests}
use Rattle.unit_allocator.specs.Prelude.{bit, idle_and_unheld, Space, IsWithin, free_units, taken_one, IsSoundSpace}
use Rattle.unit_allocator.proofs.Counts.{Lost, lost, Won, won, kept, idle_here, idle_there, holds_here, holds_there, first_passes, none_pass}

-- a number above zero
pub not_zero : (n : ℕ) → 0 < n → (n == 0) ≡ false
not_zero n some = grind (arith, nat_tests)

never : (b : Bool) → (b && false) ≡ false
never true = refl
never false = refl

pub held_not_free : (b : Bool) (n : ℕ) → 0 < n → (b && (n == 0)) ≡ false
held_not_free b n some = ap (λ c. b && c) (not_zero n some) ∙ never b

abbrev Elsewhere : List ℕ → List ℕ → ℕ → Type 0
Elsewhere words' words at = (q : ℕ) → q ≢ at → bit words' q ≡ bit words q

module _ {first : ℕ} {idle : List Bool} {holds words : List ℕ} {free low : ℕ} (s : IsSoundSpace first idle holds words free low) (at : ℕ)
    (within : at < length idle) (words' : List ℕ) where
  pub take_step : length words' ≡ length words → idle_and_unheld idle holds at ≡ true → bit words' at ≡ false → Elsewhere words' words at
      → Lost first (set idle at false) holds words' free low
  take_step len was here elsewhere =
      lost s (set idle at false) holds words' at (length-set idle at false) refl len within (idle_there idle holds at false) was
      (idle_here idle holds at false within) here elsewhere

  pub give_step : length words' ≡ length words → idle_and_unheld idle holds at ≡ false → get_or holds at 0 ≡ 0 → bit words' at ≡ true
      → Elsewhere words' words at → (low' : ℕ) → low' ≤ low → low' ≤ at → Won first (set idle at true) holds words' free low'
  give_step len was unheld here elsewhere low' le_low le_at =
      won s (set idle at true) holds words' at (length-set idle at true) refl len within (idle_there idle holds at true) low' le_low le_at was
      (idle_here idle holds at true within ∙ ap (λ n. n == 0) unheld) here elsewhere

  pub hold_step : (n : ℕ) → 0 < n → length words' ≡ length words → idle_and_unheld idle holds at ≡ true → bit words' at ≡ false
      → Elsewhere words' words at → Lost first idle (set holds at n) words' free low
  hold_step n some len was here elsewhere =
      lost s idle (set holds at n) words' at refl (length-set holds at n) len within (holds_there idle holds at n) was
      (holds_here idle holds at n (omega (arith, within, s.holds_all)) ∙ held_not_free (get_or idle at false) n some) here elsewhere

  pub unhold_step : (n : ℕ) → n ≡ 0 → length words' ≡ length words → 0 < get_or holds at 0 → get_or idle at false ≡ true → bit words' at ≡ true
      → Elsewhere words' words at → (low' : ℕ) → low' ≤ low → low' ≤ at → Won first idle (set holds at n) words' free low'
  unhold_step n none len was idle_at here elsewhere low' le_low le_at =
      let before : idle_and_unheld idle holds at ≡ false = held_not_free (get_or idle at false) (get_or holds at 0) was in
      won s idle (set holds at n) words' at refl (length-set holds at n) len within (holds_there idle holds at n) low' le_low le_at before
      (holds_here idle holds at n (omega (arith, within, s.holds_all)) ∙ ap (λ b. b && (n == 0)) idle_at ∙ ap (λ m. m == 0) none) here elsewhere

  -- no bit changes
  pub hold_more : (n : ℕ) → words' ≡ words → idle_and_unheld idle (set holds at n) at ≡ idle_and_unheld idle holds at
      → IsSoundSpace first idle (set holds at n) words' free low
  hold_more n same is = kept s idle (set holds at n) words' at refl (length-set holds at n) (ap length same) within (holds_there idle holds at n) same is

pub at_within : (v s : Space) {unit : ℕ} → v ≡ s → IsWithin s unit → unit - v.first < length v.idle
at_within v s {unit} same within = let w : IsWithin v unit = subst (λ t. IsWithin t unit) (sym same) within in omega (arith, w.from, w.to)

-- the lowest free unit
pub lowest_some : {first : ℕ} {idle : List Bool} {holds words : List ℕ} {free low : ℕ} → IsSoundSpace first idle holds words free low → (at : ℕ)
    → bit words at ≡ true → ((q : ℕ) → low ≤ q → q < at → bit words q ≡ false)
    → (at < length idle) × (filter (idle_and_unheld idle holds) (range_with_len 0 (length idle)) ≡ at ∷ filter
    (idle_and_unheld (set idle at false) holds) (range_with_len 0 (length idle)))
lowest_some {first} {idle} {holds} {words} {free} {low} s at one none = (
  inside,
  first_passes (idle_and_unheld idle holds) (idle_and_unheld (set idle at false) holds) at (sym (s.bits at) ∙ one)
      (idle_here idle holds at false inside) (idle_there idle holds at false) 0 (length idle) (omega arith) (omega (arith, inside)) before,
)
  where
    inside : at < length idle
    inside = elim (cases_lt at (length idle)) [
      | inl lt ↦ lt
      | inr le ↦ let no : idle_and_unheld idle holds at ≡ false = ap (λ b. b && (get_or holds at 0 == 0)) (get_or_past idle at false le) in
          absurd (clash (sym (s.bits at ∙ no) ∙ one))
    ]
      where
        clash : false ≡ true → ⊥
        clash e = cc

    before : (q : ℕ) → 0 ≤ q → q < at → idle_and_unheld idle holds q ≡ false
    before q _ lt = sym (s.bits q) ∙ elim (cases_lt q low) [ inl low_q ↦ s.below q low_q | inr le ↦ none q le lt ]

pub lowest_none : {first : ℕ} {idle : List Bool} {holds words : List ℕ} {free low : ℕ} → IsSoundSpace first idle holds words free low
    → ((q : ℕ) → low ≤ q → bit words q ≡ false) → filter (idle_and_unheld idle holds) (range_with_len 0 (length idle)) ≡ []
lowest_none {first} {idle} {holds} {words} {free} {low} s none =
    none_pass (idle_and_unheld idle holds) 0 (length idle)
    (λ q _ _. sym (s.bits q) ∙ elim (cases_lt q low) [ inl low_q ↦ s.below q low_q | inr le ↦ none q le ])

back : (a b : ℕ) → (a + b) - a ≡ b
back a b = omega arith

pub lowest_is : {first : ℕ} {idle : List Bool} {holds words : List ℕ} {free low : ℕ} → IsSoundSpace first idle holds words free low → (at : ℕ)
    → bit words at ≡ true → ((q : ℕ) → low ≤ q → q < at → bit words q ≡ false)
    → (let s : Space = record { first = first; idle = idle; holds = holds } in free_units s ≡ (first + at) ∷ free_units (taken_one s (first + at)))
unfolding free_units
lowest_is {first} {idle} {holds} s at one none =
    ap (map (λ i. first + i)) (lowest_some s at one none).1
    ∙ ap (λ k. (first + at) ∷ map (λ i. first + i) (filter (idle_and_unheld (set idle k false) holds) (range_with_len 0 (length idle)))) (sym (back first at))
    ∙ ap (λ n. (first + at) ∷ map (λ i. first + i) (filter (idle_and_unheld (set idle ((first + at) - first) false) holds) (range_with_len 0 n)))
    (sym (length-set idle ((first + at) - first) false))

module _ {first : ℕ} {idle : List Bool} {holds words : List ℕ} {free low : ℕ} (s : IsSoundSpace first idle holds words free low) (at : ℕ)
    (within : at < length idle) (n : ℕ) where
  -- one more hold of a unit that isn't free
  pub hold_same : 0 < n → idle_and_unheld idle holds at ≡ false → IsSoundSpace first idle (set holds at n) words free low
  hold_same some was = hold_more s at within words n refl
      (holds_here idle holds at n (omega (arith, within, s.holds_all)) ∙ held_not_free (get_or idle at false) n some ∙ sym was)

  -- one hold less of a unit that another holds, or that isn't idle
  pub unhold_held : 0 < n → 0 < get_or holds at 0 → IsSoundSpace first idle (set holds at n) words free low
  unhold_held some held = hold_same some (held_not_free (get_or idle at false) (get_or holds at 0) held)

  -- a unit that is held is given back: it isn't free before or after
  pub give_held_step : 0 < get_or holds at 0 → IsSoundSpace first (set idle at true) holds words free low
  give_held_step held =
      kept s (set idle at true) holds words at (length-set idle at true) refl refl within (idle_there idle holds at true) refl
      (idle_here idle holds at true within ∙ held_not_free true (get_or holds at 0) held
      ∙ sym (held_not_free (get_or idle at false) (get_or holds at 0) held))

  -- the holds of a unit that isn't idle change
  pub hold_busy_step : get_or idle at false ≡ false → IsSoundSpace first idle (set holds at n) words free low
  hold_busy_step busy = hold_more s at within words n refl
      (holds_here idle holds at n (omega (arith, within, s.holds_all)) ∙ ap (λ b. b && (n == 0)) busy
      ∙ sym (ap (λ b. b && (get_or holds at 0 == 0)) busy))

-- words without a bit
pub no_bit : (n i : ℕ) → bit (replicate n 0) i ≡ false
no_bit n i = ap (λ w. bit_at w (i % 64) == 1) (zero_word n (i / 64)) ∙ ap (λ k. k == 1) (bit_at-zero (i % 64))
  where
    zero_word : (n k : ℕ) → get_or {A = ℕ} (replicate n 0) k 0 ≡ 0
    zero_word n k = elim (cases_lt k n) [
      | inl lt ↦ get_or-replicate n k 0 0 lt
      | inr le ↦
          get_or_past (replicate n 0) k 0 (omega (arith, le, length-replicate {A = ℕ} n 0))
    ]
