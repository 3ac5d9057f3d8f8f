-- How many numbers of a range pass a test.
use Rattle.std.proofs.Common.{◌≡◌, ◌≢◌, ℕ, zero, suc, ◌+◌, ◌-◌, ◌<◌, ◌≤◌, ◌^◌, ◌==◌, ◌&&◌, Bool, true, false, cond, List, [], ◌∷◌, length, get_or, set, refl, sym, ap, ◌∙◌, arith, inl, inr}
use Rattle.std.specs.List.{filter, range_with_len}
use Rattle.std.proofs.lemmas.List.{get_or-set_same, get_or-set_other}
use Rattle.std.proofs.lemmas.Bool.{cases_eq}
use Rattle.unit_allocator.specs.Prelude.{bit, idle_and_unheld, IsSoundSpace}

pub same_filter : (p t : ℕ → Bool) (a n : ℕ) → ((q : ℕ) → a ≤ q → q < a + n → t q ≡ p q) → filter t (range_with_len a n) ≡ filter p (range_with_len a n)
same_filter p t a zero is = refl
same_filter p t a (suc n) is =
    let rest : filter t (range_with_len (a + 1) n) ≡ filter p (range_with_len (a + 1) n) =
    same_filter p t (a + 1) n (λ q le lt. is q (omega arith) (omega arith)) in
    ap (λ b. cond b (a ∷ filter t (range_with_len (a + 1) n)) (filter t (range_with_len (a + 1) n))) (is a (omega arith) (omega arith))
    ∙ ap (λ xs. cond (p a) (a ∷ xs) xs) rest

module _ (p t : ℕ → Bool) (at : ℕ) (was : p at ≡ true) (is : t at ≡ false) (same : (q : ℕ) → q ≢ at → t q ≡ p q) where
  pub one_less : (a n : ℕ) → a ≤ at → at < a + n → length (filter p (range_with_len a n)) ≡ length (filter t (range_with_len a n)) + 1
  one_less a zero le lt = absurd (omega arith)
  one_less a (suc n) le lt = elim (cases_eq at a) [
    | inl e ↦
        let rest : filter t (range_with_len (a + 1) n) ≡ filter p (range_with_len (a + 1) n) =
        same_filter p t (a + 1) n (λ q q_le q_lt. same q (λ d. absurd (omega (arith, d, e)))) in
        let p_is : p a ≡ true = ap p (sym e) ∙ was in
        let t_is : t a ≡ false = ap t (sym e) ∙ is in
        let left : length (filter p (range_with_len a (suc n))) ≡ suc (length (filter p (range_with_len (a + 1) n))) =
        ap (λ b. length (cond b (a ∷ filter p (range_with_len (a + 1) n)) (filter p (range_with_len (a + 1) n)))) p_is in
        let right : length (filter t (range_with_len a (suc n))) ≡ length (filter p (range_with_len (a + 1) n)) =
        ap (λ b. length (cond b (a ∷ filter t (range_with_len (a + 1) n)) (filter t (range_with_len (a + 1) n)))) t_is ∙ ap length rest in
        omega (arith, left, right)
    | inr e ↦
        let rest : length (filter p (range_with_len (a + 1) n)) ≡ length (filter t (range_with_len (a + 1) n)) + 1 =
        one_less (a + 1) n (omega (arith, e)) (omega arith) in
        let head : t a ≡ p a = same a (λ d. e (sym d)) in
        ap (λ b. length (cond b (a ∷ filter p (range_with_len (a + 1) n)) (filter p (range_with_len (a + 1) n)))) (sym head) ∙ step (t a) _ _ rest
  ]
    where
      step : (b : Bool) (xs ys : List ℕ) → length xs ≡ length ys + 1 → length (cond b (a ∷ xs) xs) ≡ length (cond b (a ∷ ys) ys) + 1
      step true xs ys e = omega (arith, e)
      step false xs ys e = e

  -- the first that passes, and those that pass besides
  pub first_passes : (a n : ℕ) → a ≤ at → at < a + n → ((q : ℕ) → a ≤ q → q < at → p q ≡ false)
      → filter p (range_with_len a n) ≡ at ∷ filter t (range_with_len a n)
  first_passes a zero le lt none = absurd (omega arith)
  first_passes a (suc n) le lt none = elim (cases_eq at a) [
    | inl e ↦
        let rest : filter t (range_with_len (a + 1) n) ≡ filter p (range_with_len (a + 1) n) =
        same_filter p t (a + 1) n (λ q q_le q_lt. same q (λ d. absurd (omega (arith, d, e)))) in
        ap (λ b. cond b (a ∷ filter p (range_with_len (a + 1) n)) (filter p (range_with_len (a + 1) n))) (ap p (sym e) ∙ was)
        ∙ ap (λ k. k ∷ filter p (range_with_len (a + 1) n)) (sym e)
        ∙ ap (λ xs. at ∷ xs) (sym rest)
        ∙ ap (λ b. at ∷ cond b (a ∷ filter t (range_with_len (a + 1) n)) (filter t (range_with_len (a + 1) n))) (sym (ap t (sym e) ∙ is))
    | inr e ↦
        let rest : filter p (range_with_len (a + 1) n) ≡ at ∷ filter t (range_with_len (a + 1) n) =
        first_passes (a + 1) n (omega (arith, e)) (omega arith) (λ q q_le q_lt. none q (omega arith) q_lt) in
        let no : p a ≡ false = none a (omega arith) (omega (arith, e)) in
        ap (λ b. cond b (a ∷ filter p (range_with_len (a + 1) n)) (filter p (range_with_len (a + 1) n))) no ∙ rest
        ∙ ap (λ b. at ∷ cond b (a ∷ filter t (range_with_len (a + 1) n)) (filter t (range_with_len (a + 1) n))) (sym (same a (λ d. e (sym d)) ∙ no))
  ]

pub none_pass : (p : ℕ → Bool) (a n : ℕ) → ((q : ℕ) → a ≤ q → q < a + n → p q ≡ false) → filter p (range_with_len a n) ≡ []
none_pass p a zero none = refl
none_pass p a (suc n) none =
    ap (λ b. cond b (a ∷ filter p (range_with_len (a + 1) n)) (filter p (range_with_len (a + 1) n))) (none a (omega arith) (omega arith))
    ∙ none_pass p (a + 1) n (λ q le lt. none q (omega arith) (omega arith))

module _ (idle : List Bool) (holds : List ℕ) (at : ℕ) where
  pub idle_here : (b : Bool) → at < length idle → idle_and_unheld (set idle at b) holds at ≡ (b && (get_or holds at 0 == 0))
  idle_here b lt = ap (λ c. c && (get_or holds at 0 == 0)) (get_or-set_same idle at b false lt)

  pub idle_there : (b : Bool) (q : ℕ) → q ≢ at → idle_and_unheld (set idle at b) holds q ≡ idle_and_unheld idle holds q
  idle_there b q apart = ap (λ c. c && (get_or holds q 0 == 0)) (get_or-set_other idle at q b false apart)

  pub holds_here : (n : ℕ) → at < length holds → idle_and_unheld idle (set holds at n) at ≡ (get_or idle at false && (n == 0))
  holds_here n lt = ap (λ m. get_or idle at false && (m == 0)) (get_or-set_same holds at n 0 lt)

  pub holds_there : (n q : ℕ) → q ≢ at → idle_and_unheld idle (set holds at n) q ≡ idle_and_unheld idle holds q
  holds_there n q apart = ap (λ m. get_or idle q false && (m == 0)) (get_or-set_other holds at q n 0 apart)

-- one free unit less, and one more
pub record Lost (first : ℕ) (idle : List Bool) (holds words : List ℕ) (free low : ℕ) : Type 0 where
  pub some : 1 ≤ free
  pub sound : IsSoundSpace first idle holds words (free - 1) low

pub record Won (first : ℕ) (idle : List Bool) (holds words : List ℕ) (free low : ℕ) : Type 0 where
  pub fits : free + 1 < 2 ^ 32
  pub sound : IsSoundSpace first idle holds words (free + 1) low

-- The fields after one unit's change. `at` counts from the first unit.
module _ {first : ℕ} {idle : List Bool} {holds words : List ℕ} {free low : ℕ} (s : IsSoundSpace first idle holds words free low)
    (idle' : List Bool) (holds' words' : List ℕ) (at : ℕ)
    (idle_len : length idle' ≡ length idle) (holds_len : length holds' ≡ length holds) (words_len : length words' ≡ length words) (within : at < length idle)
    (same : (q : ℕ) → q ≢ at → idle_and_unheld idle' holds' q ≡ idle_and_unheld idle holds q) where
  part : (q : ℕ) (b : Bool) → bit words' at ≡ b → idle_and_unheld idle' holds' at ≡ b → ((q : ℕ) → q ≢ at → bit words' q ≡ bit words q)
      → bit words' q ≡ idle_and_unheld idle' holds' q
  part q b here is elsewhere = elim (cases_eq q at) [
    | inl e ↦ ap (bit words') e ∙ here ∙ sym (ap (idle_and_unheld idle' holds') e ∙ is)
    | inr e ↦ elsewhere q e ∙ s.bits q ∙ sym (same q e)
  ]

  pub lost : idle_and_unheld idle holds at ≡ true → idle_and_unheld idle' holds' at ≡ false → bit words' at ≡ false
      → ((q : ℕ) → q ≢ at → bit words' q ≡ bit words q) → Lost first idle' holds' words' free low
  lost was is here elsewhere =
      let count : length (filter (idle_and_unheld idle holds) (range_with_len 0 (length idle))) ≡ length
      (filter (idle_and_unheld idle' holds') (range_with_len 0 (length idle))) + 1 =
      one_less (idle_and_unheld idle holds) (idle_and_unheld idle' holds') at was is same 0 (length idle) (omega arith) (omega (arith, within)) in
      record {
        some = omega (arith, count, s.counted);
        sound = record {
          holds_all = holds_len ∙ s.holds_all ∙ sym idle_len;
          room = omega (arith, s.room, idle_len, words_len);
          few = omega (arith, s.few, words_len);
          last = omega (arith, s.last, idle_len);
          bits = λ q. part q false here is elsewhere;
          counted =
              let now : free - 1 ≡ length (filter (idle_and_unheld idle' holds') (range_with_len 0 (length idle))) = omega (arith, count, s.counted) in
              now ∙ ap (λ n. length (filter (idle_and_unheld idle' holds') (range_with_len 0 n))) (sym idle_len);
          below = λ q lt. elim (cases_eq q at) [ inl e ↦ ap (bit words') e ∙ here | inr e ↦ elsewhere q e ∙ s.below q lt ];
        };
      }

  pub won : (low' : ℕ) → low' ≤ low → low' ≤ at → idle_and_unheld idle holds at ≡ false → idle_and_unheld idle' holds' at ≡ true → bit words' at ≡ true
      → ((q : ℕ) → q ≢ at → bit words' q ≡ bit words q) → Won first idle' holds' words' free low'
  won low' le_low le_at was is here elsewhere =
      let count : length (filter (idle_and_unheld idle' holds') (range_with_len 0 (length idle))) ≡ length
      (filter (idle_and_unheld idle holds) (range_with_len 0 (length idle))) + 1 =
      one_less (idle_and_unheld idle' holds') (idle_and_unheld idle holds) at is was (λ q apart. sym (same q apart)) 0 (length idle) (omega arith)
      (omega (arith, within)) in
      let most = at_most (idle_and_unheld idle' holds') 0 (length idle) in
      record {
        fits = omega (arith, count, s.counted, most, s.last);
        sound = record {
          holds_all = holds_len ∙ s.holds_all ∙ sym idle_len;
          room = omega (arith, s.room, idle_len, words_len);
          few = omega (arith, s.few, words_len);
          last = omega (arith, s.last, idle_len);
          bits = λ q. part q true here is elsewhere;
          counted =
              let now : free + 1 ≡ length (filter (idle_and_unheld idle' holds') (range_with_len 0 (length idle))) = omega (arith, count, s.counted) in
              now ∙ ap (λ n. length (filter (idle_and_unheld idle' holds') (range_with_len 0 n))) (sym idle_len);
          below = λ q lt. elsewhere q (λ e. absurd (omega (arith, e, lt, le_at))) ∙ s.below q (omega (arith, lt, le_low));
        };
      }
    where
      at_most : (p : ℕ → Bool) (a n : ℕ) → length (filter p (range_with_len a n)) ≤ n
      at_most p a zero = omega arith
      at_most p a (suc n) = let rest : length (filter p (range_with_len (a + 1) n)) ≤ n = at_most p (a + 1) n in bound (p a) _ rest
        where
          bound : (b : Bool) (xs : List ℕ) → length xs ≤ n → length (cond b (a ∷ xs) xs) ≤ suc n
          bound true xs le = omega (arith, le)
          bound false xs le = omega (arith, le)

  -- where the unit is as free as before
  pub kept : words' ≡ words → idle_and_unheld idle' holds' at ≡ idle_and_unheld idle holds at → IsSoundSpace first idle' holds' words' free low
  kept unchanged is =
      let all : (q : ℕ) → idle_and_unheld idle' holds' q ≡ idle_and_unheld idle holds q =
      λ q. elim (cases_eq q at) [ inl e ↦ ap (idle_and_unheld idle' holds') e ∙ is ∙ sym (ap (idle_and_unheld idle holds) e) | inr e ↦ same q e ] in
      record {
        holds_all = holds_len ∙ s.holds_all ∙ sym idle_len;
        room = omega (arith, s.room, idle_len, words_len);
        few = omega (arith, s.few, words_len);
        last = omega (arith, s.last, idle_len);
        bits = λ q. ap (λ ws. bit ws q) unchanged ∙ s.bits q ∙ sym (all q);
        counted = s.counted ∙ sym (ap (λ n. length (filter (idle_and_unheld idle' holds') (range_with_len 0 n))) idle_len
            ∙ ap length (same_filter (idle_and_unheld idle holds) (idle_and_unheld idle' holds') 0 (length idle) (λ q _ _. all q)));
        below = λ q lt. ap (λ ws. bit ws q) unchanged ∙ s.below q lt;
      }

-- all numbers of a range pass
pub all_pass : (p : ℕ → Bool) (a n : ℕ) → ((q : ℕ) → a ≤ q → q < a + n → p q ≡ true) → length (filter p (range_with_len a n)) ≡ n
all_pass p a zero all = refl
all_pass p a (suc n) all =
    let rest : length (filter p (range_with_len (a + 1) n)) ≡ n = all_pass p (a + 1) n (λ q le lt. all q (omega (arith, le)) (omega (arith, lt))) in
    ap (λ b. length (cond b (a ∷ filter p (range_with_len (a + 1) n)) (filter p (range_with_len (a + 1) n)))) (all a (omega arith) (omega arith))
    ∙ ap suc rest
