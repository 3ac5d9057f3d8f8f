-- A summary of words: it has a bit for each word that isn't zero.
use Rattle.std.proofs.Common.{◌≡◌, ◌≢◌, ℕ, ◌+◌, ◌*◌, ◌/◌, ◌%◌, ◌<◌, ◌≤◌, ◌^◌, ◌==◌, true, false, not, List, length, replicate, get_or, w64, sym, ap, ◌∙◌, arith, inl, inr}
use Rattle.std.specs.Int.{bit_at, trailing_zeros}
use Rattle.std.proofs.lemmas.List.{get_or_past, length-replicate}
use Rattle.std.proofs.lemmas.Bool.{cases_eq, cases_lt}
use Rattle.std.proofs.lemmas.Nat.Bits.{bit_at-zero}
use Rattle.unit_allocator.specs.Prelude.{bit, HasNoBitFrom, IsFirstBitFrom, IsSummary}
use Rattle.unit_allocator.proofs.OneBit.{first_in}
use Rattle.unit_allocator.proofs.Steps.{no_bit, not_zero}

-- two truth values differ
true_false : true ≡ false → ⊥
true_false e = cc

-- a word that isn't zero is marked
some_marked : (n : ℕ) → 0 < n → not (n == 0) ≡ true
some_marked n lt = ap not (not_zero n lt)

-- and only such a word is
marked_some : (n : ℕ) → not (n == 0) ≡ true → 0 < n
marked_some n is = elim (cases_lt 0 n) [
  | inl lt ↦ lt
  | inr le ↦ let none : n ≡ 0 = omega (arith, le) in absurd (true_false (sym is ∙ ap (λ m. not (m == 0)) none))
]

-- a word that is not marked is zero
unmarked_none : (n : ℕ) → not (n == 0) ≡ false → n ≡ 0
unmarked_none n is = elim (cases_lt 0 n) [ inl lt ↦ absurd (true_false (sym (some_marked n lt) ∙ is)) | inr le ↦ omega (arith, le) ]

-- a word with a bit isn't zero
word_of_bit : (ws : List ℕ) (i : ℕ) → bit ws i ≡ true → 0 < get_or ws (i / 64) 0
word_of_bit ws i is = elim (cases_lt 0 (get_or ws (i / 64) 0)) [
  | inl lt ↦ lt
  | inr le ↦
      let none : get_or ws (i / 64) 0 ≡ 0 = omega (arith, le) in
      absurd (clash (sym (ap (λ n. bit_at n (i % 64) == 1) none ∙ ap (λ n. n == 1) (bit_at-zero (i % 64))) ∙ is))
]
  where
    clash : false ≡ true → ⊥
    clash e = cc

-- a word without bits gives none
bit_of_zero : (ws : List ℕ) (i : ℕ) → get_or ws (i / 64) 0 ≡ 0 → bit ws i ≡ false
bit_of_zero ws i none = ap (λ n. bit_at n (i % 64) == 1) none ∙ ap (λ n. n == 1) (bit_at-zero (i % 64))

module _ {ws ss : List ℕ} (s : IsSummary ws ss) where
  -- a bit was set, and that of its word
  pub after_set : (i : ℕ) (ws' ss' : List ℕ) → bit ws' i ≡ true → ((w : ℕ) → w ≢ i / 64 → get_or ws' w 0 ≡ get_or ws w 0)
      → length ws' ≡ length ws → bit ss' (i / 64) ≡ true → ((q : ℕ) → q ≢ i / 64 → bit ss' q ≡ bit ss q) → length ss' ≡ length ss → IsSummary ws' ss'
  after_set i ws' ss' here others len above elsewhere len_above = record {
    marks = λ w. elim (cases_eq w (i / 64)) [
      | inl e ↦ ap (bit ss') e ∙ above
          ∙ sym (ap (λ k. not (get_or ws' k 0 == 0)) e ∙ some_marked (get_or ws' (i / 64) 0) (word_of_bit ws' i here))
      | inr apart ↦ elsewhere w apart ∙ s.marks w ∙ sym (ap (λ n. not (n == 0)) (others w apart))
    ];
    room = omega (arith, s.room, len, len_above);
    few = omega (arith, s.few, len);
    few_above = omega (arith, s.few_above, len_above);
  }

  -- a bit was cleared, and then its word is zero
  pub after_last : (i : ℕ) (ws' ss' : List ℕ) → get_or ws' (i / 64) 0 ≡ 0 → ((w : ℕ) → w ≢ i / 64 → get_or ws' w 0 ≡ get_or ws w 0)
      → length ws' ≡ length ws → bit ss' (i / 64) ≡ false → ((q : ℕ) → q ≢ i / 64 → bit ss' q ≡ bit ss q) → length ss' ≡ length ss → IsSummary ws' ss'
  after_last i ws' ss' none others len above elsewhere len_above = record {
    marks = λ w. elim (cases_eq w (i / 64)) [
      | inl e ↦ ap (bit ss') e ∙ above ∙ sym (ap (λ k. not (get_or ws' k 0 == 0)) e ∙ ap (λ n. not (n == 0)) none)
      | inr apart ↦ elsewhere w apart ∙ s.marks w ∙ sym (ap (λ n. not (n == 0)) (others w apart))
    ];
    room = omega (arith, s.room, len, len_above);
    few = omega (arith, s.few, len);
    few_above = omega (arith, s.few_above, len_above);
  }

  -- a bit that was set was cleared, and its word isn't zero
  pub after_clear : (i : ℕ) (ws' : List ℕ) → bit ws i ≡ true → 0 < get_or ws' (i / 64) 0
      → ((w : ℕ) → w ≢ i / 64 → get_or ws' w 0 ≡ get_or ws w 0) → length ws' ≡ length ws → IsSummary ws' ss
  after_clear i ws' was some others len = record {
    marks = λ w. elim (cases_eq w (i / 64)) [
      | inl e ↦ ap (bit ss) e ∙ s.marks (i / 64) ∙ some_marked (get_or ws (i / 64) 0) (word_of_bit ws i was)
          ∙ sym (ap (λ k. not (get_or ws' k 0 == 0)) e ∙ some_marked (get_or ws' (i / 64) 0) some)
      | inr apart ↦ s.marks w ∙ sym (ap (λ n. not (n == 0)) (others w apart))
    ];
    room = omega (arith, s.room, len);
    few = omega (arith, s.few, len);
    few_above = s.few_above;
  }

  -- a marked word
  pub marked : (w : ℕ) → bit ss w ≡ true → 0 < get_or ws w 0
  marked w is = marked_some (get_or ws w 0) (sym (s.marks w) ∙ is)

  -- a marked word is one of the words
  pub marked_within : (w : ℕ) → bit ss w ≡ true → w < length ws
  marked_within w is = elim (cases_lt w (length ws)) [
    | inl lt ↦ lt
    | inr le ↦ absurd (let some = marked w is in omega (arith, some, get_or_past ws w 0 le))
  ]

  -- the bits of words that aren't marked
  unmarked : (q : ℕ) → bit ss (q / 64) ≡ false → bit ws q ≡ false
  unmarked q is = bit_of_zero ws q (unmarked_none (get_or ws (q / 64) 0) (sym (s.marks (q / 64)) ∙ is))

  -- no word is marked from one on
  pub none_marked : (first : ℕ) → HasNoBitFrom ss first → HasNoBitFrom ws (64 * first)
  none_marked first none = λ q le. unmarked q (none (q / 64) (omega (arith, le)))

  -- the lowest bit of the first marked word
  pub first_marked : (first w t : ℕ) → IsFirstBitFrom ss first w → get_or ws w 0 < 2 ^ 64 → t ≡ trailing_zeros w64 (get_or ws w 0)
      → IsFirstBitFrom ws (64 * first) (64 * w + t)
  first_marked first w t found fits is =
      let n = first_in ws w t (marked w found.is_set) fits is in
      record {
        not_before = omega (arith, n.from, found.not_before);
        within = omega (arith, n.within, marked_within w found.is_set);
        is_set = n.one;
        none_between = λ q le lt. elim (cases_lt q (64 * w)) [
          | inl before ↦ unmarked q (found.none_between (q / 64) (omega (arith, le)) (omega (arith, before)))
          | inr ge ↦ n.none q ge lt
        ];
      }

-- the summary of the first words
pub record IsSummaryOf (ws : List ℕ) (w : ℕ) (ss : List ℕ) : Type 0 where
  pub done : (q : ℕ) → q < w → bit ss q ≡ not (get_or ws q 0 == 0)
  pub later : (q : ℕ) → w ≤ q → bit ss q ≡ false
  pub long : length ss ≡ length ws / 64 + 1

-- the summary of no word
pub none_summed : (ws ss : List ℕ) → ss ≡ replicate (length ws / 64 + 1) 0 → IsSummaryOf ws 0 ss
none_summed ws ss is = record {
  done = λ q lt. absurd (omega (arith, lt));
  later = λ q _. ap (λ xs. bit xs q) is ∙ no_bit (length ws / 64 + 1) q;
  long = ap length is ∙ length-replicate {A = ℕ} (length ws / 64 + 1) 0;
}

module _ (ws : List ℕ) (w : ℕ) (ss : List ℕ) (so : IsSummaryOf ws w ss) where
  -- one more word, which is not zero
  pub one_marked : (ss' : List ℕ) → 0 < get_or ws w 0 → bit ss' w ≡ true → ((q : ℕ) → q ≢ w → bit ss' q ≡ bit ss q) → length ss' ≡ length ss
      → IsSummaryOf ws (w + 1) ss'
  one_marked ss' some here elsewhere len = record {
    done = λ q lt. elim (cases_eq q w) [
      | inl e ↦ ap (bit ss') e ∙ here ∙ sym (ap (λ k. not (get_or ws k 0 == 0)) e ∙ some_marked (get_or ws w 0) some)
      | inr apart ↦ elsewhere q apart ∙ so.done q (omega (arith, lt, apart))
    ];
    later = λ q le. elsewhere q (λ e. absurd (omega (arith, le, e))) ∙ so.later q (omega (arith, le));
    long = len ∙ so.long;
  }

  -- one more word, which is zero
  pub one_unmarked : get_or ws w 0 ≡ 0 → IsSummaryOf ws (w + 1) ss
  one_unmarked none = record {
    done = λ q lt. elim (cases_eq q w) [
      | inl e ↦ ap (bit ss) e ∙ so.later w (omega arith) ∙ sym (ap (λ k. not (get_or ws k 0 == 0)) e ∙ ap (λ n. not (n == 0)) none)
      | inr apart ↦ so.done q (omega (arith, lt, apart))
    ];
    later = λ q le. so.later q (omega (arith, le));
    long = so.long;
  }

  -- the summary of all words
  pub all_summed : length ws ≤ w → length ws < 2 ^ 32 → IsSummary ws ss
  all_summed all few = record {
    marks = λ q. elim (cases_lt q w) [
      | inl lt ↦ so.done q lt
      | inr le ↦ so.later q le ∙ sym (ap (λ n. not (n == 0)) (get_or_past ws q 0 (omega (arith, all, le))))
    ];
    room = omega (arith, so.long);
    few = few;
    few_above = omega (arith, so.long, few);
  }
