-- The free units from a place on, and the next of them.
use Rattle.std.proofs.Common.{◌≡◌, ℕ, zero, suc, ◌+◌, ◌-◌, ◌<◌, ◌≤◌, ◌==◌, ◌&&◌, ◌++◌, Bool, true, false, cond, List, [], ◌∷◌, map, length, take, get_or, refl, sym, ap, ◌∙◌, arith, inl, inr}
use Rattle.std.specs.List.{filter, range_with_len}
use Rattle.std.proofs.lemmas.Bool.{cases_lt}
use Rattle.std.proofs.lemmas.List.{get_or_past, append_assoc}
use Rattle.unit_allocator.specs.Prelude.{bit, IsFirstBitFrom, HasNoBitFrom, Space, free_units, idle_and_unheld, IsSoundSpace}
use Rattle.unit_allocator.proofs.Counts.{none_pass}

-- the free units at or behind a place
abbrev pub free_behind : Space → ℕ → List ℕ
free_behind s from = map (λ i. s.first + i) (filter (idle_and_unheld s.idle s.holds) (range_with_len from (length s.idle - from)))

module _ (p : ℕ → Bool) (end : ℕ) where
  abbrev passing : ℕ → List ℕ
  passing from = filter p (range_with_len from (end - from))

  -- what passes at a place comes first
  passes_here : (at : ℕ) → at < end → p at ≡ true → passing at ≡ at ∷ passing (at + 1)
  passes_here at lt is =
      let count : end - at ≡ suc (end - (at + 1)) = omega (arith, lt) in
      ap (λ n. filter p (range_with_len at n)) count ∙ ap (λ b. cond b (at ∷ passing (at + 1)) (passing (at + 1))) is

  fails_here : (at : ℕ) → p at ≡ false → passing at ≡ passing (at + 1)
  fails_here at is = elim (cases_lt at end) [
    | inl lt ↦
        let count : end - at ≡ suc (end - (at + 1)) = omega (arith, lt) in
        ap (λ n. filter p (range_with_len at n)) count ∙ ap (λ b. cond b (at ∷ passing (at + 1)) (passing (at + 1))) is
    | inr le ↦
        let here : end - at ≡ 0 = omega (arith, le) in
        let behind : end - (at + 1) ≡ 0 = omega (arith, le) in
        ap (λ n. filter p (range_with_len at n)) here ∙ sym (ap (λ n. filter p (range_with_len (at + 1) n)) behind)
  ]

  -- places that don't pass are left out
  passed_over : (n from at : ℕ) → from + n ≡ at → ((q : ℕ) → from ≤ q → q < at → p q ≡ false) → passing from ≡ passing at
  passed_over zero from at is none = let same : from ≡ at = omega (arith, is) in ap passing same
  passed_over (suc n) from at is none =
      fails_here from (none from (omega arith) (omega (arith, is)))
      ∙ passed_over n (from + 1) at (omega (arith, is)) (λ q le lt. none q (omega (arith, le)) lt)

module _ {first : ℕ} {idle : List Bool} {holds words : List ℕ} {free low : ℕ} (s : IsSoundSpace first idle holds words free low) where
  abbrev space : Space
  space = record { first = first; idle = idle; holds = holds }

  bit_clear : (q : ℕ) → bit words q ≡ false → idle_and_unheld idle holds q ≡ false
  bit_clear q none = sym (s.bits q) ∙ none

  -- no free unit is below the low mark
  pub all_behind_low : free_units space ≡ free_behind space low
  unfolding free_units
  all_behind_low =
      let whole : length idle ≡ length idle - 0 = omega arith in
      ap (map (λ i. first + i)) (ap (λ n. filter (idle_and_unheld idle holds) (range_with_len 0 n)) whole
      ∙ passed_over (idle_and_unheld idle holds) (length idle) low 0 low (omega arith) (λ q from lt. bit_clear q (s.below q lt)))

  within : (at : ℕ) → bit words at ≡ true → at < length idle
  within at one = elim (cases_lt at (length idle)) [
    | inl lt ↦ lt
    | inr le ↦
        let none : idle_and_unheld idle holds at ≡ false = ap (λ (b : Bool). b && (get_or holds at 0 == 0)) (get_or_past idle at false le) in
        absurd (let t : true ≡ false = sym one ∙ s.bits at ∙ none in cc)
  ]

  -- the first bit is that of the next free unit
  pub next_free : (from at : ℕ) → IsFirstBitFrom words from at → free_behind space from ≡ (first + at) ∷ free_behind space (at + 1)
  next_free from at is = ap (map (λ i. first + i))
      (passed_over (idle_and_unheld idle holds) (length idle) (at - from) from at (omega (arith, is.not_before))
      (λ q le lt. bit_clear q (is.none_between q le lt))
      ∙ passes_here (idle_and_unheld idle holds) (length idle) at (within at is.is_set) (sym (s.bits at) ∙ is.is_set))

  -- without a bit there is none
  pub none_free : (from : ℕ) → HasNoBitFrom words from → free_behind space from ≡ []
  none_free from none = ap (map (λ i. first + i))
      (none_pass (idle_and_unheld idle holds) from (length idle - from) (λ q le lt. bit_clear q (none q le)))

-- one unit more is found
pub found_more : (all units after : List ℕ) (u : ℕ) (rest later : List ℕ) → all ≡ units ++ rest → rest ≡ u ∷ later → after ≡ units ++ u ∷ []
    → all ≡ after ++ later
found_more all units after u rest later is next more =
    is ∙ ap (λ r. units ++ r) next ∙ sym (append_assoc units (u ∷ []) later) ∙ ap (λ us. us ++ later) (sym more)

-- as many as were asked for are found
pub taken_front : (all units rest : List ℕ) (n : ℕ) → all ≡ units ++ rest → length units ≡ n → units ≡ take n all
taken_front all units rest n is count = sym (ap (take n) is ∙ front units n count)
  where
    front : (us : List ℕ) (k : ℕ) → length us ≡ k → take k (us ++ rest) ≡ us
    front [] zero e = refl
    front [] (suc k) e = absurd (omega (arith, e))
    front (u ∷ us) zero e = absurd (omega (arith, e))
    front (u ∷ us) (suc k) e = ap (λ xs. u ∷ xs) (front us k (omega (arith, e)))
