-- What an allocator's fields stand for after a change of one unit.
use Rattle.std.proofs.Common.{◌≡◌, ◌≢◌, ℕ, zero, suc, ◌+◌, ◌-◌, ◌*◌, ◌/◌, ◌<◌, ◌≤◌, ◌^◌, ◌==◌, ◌&&◌, Bool, true, false, cond, Some, None, List, ◌∷◌, map, length, replicate, get_or, set, refl, sym, ap, subst, ◌∙◌, arith, inl, inr}
use Rattle.std.specs.Prelude.{nat_lt, nat_eq, Option, is_some, ◌↔◌}
use Rattle.std.specs.List.{filter, range_with_len}
use Rattle.std.specs.Ordering.{nat_cmp, is_eq}
use Rattle.std.specs.declared.cmp.Ordering.TheVariants.{Less, Equal, Greater}
use Rattle.std.specs.Cmp.{nat_cmp_total, tied_itself}
use Rattle.std.specs.FinMap as finite
use Rattle.std.proofs.lemmas.List.{get_or-replicate, get_or_past}
use Rattle.std.proofs.lemmas.List.FromFn.{length-map-range_with_len, get_or-map-range_with_len}
use Rattle.std.proofs.lemmas.Bool.{cases_lt}
use Rattle.std.proofs.lemmas.Bool.Decides.{nat_tests}
use Rattle.number_map.specs.NumberMap.{NumberMap}
use Rattle.number_map.proofs.Laws.{get_same, get_other}
use Rattle.number_map.proofs.Places.{same_number}
use Rattle.unit_allocator.specs.Prelude.{bit, Space, IsWithin, idle_and_unheld, unheld, holds_of, IsSoundSpace, flags, hold_count, hold_counts, count_or_none, AreSound}
use Rattle.unit_allocator.proofs.Steps.{take_step, give_step, hold_step, unhold_step, hold_same, unhold_held, give_held_step, hold_busy_step}
use Rattle.unit_allocator.proofs.Counts.{all_pass}

-- ---- lists of what a function gives for the numbers of a range

module _ {A : Type 0} (p t : ℕ → A) where
  -- two functions that agree give the same list
  same_map : (a n : ℕ) → ((q : ℕ) → a ≤ q → t q ≡ p q) → map t (range_with_len a n) ≡ map p (range_with_len a n)
  same_map a zero is = refl
  same_map a (suc n) is =
      let rest : map t (range_with_len (a + 1) n) ≡ map p (range_with_len (a + 1) n) = same_map (a + 1) n (λ q le. is q (omega (arith, le))) in
      ap (λ y. y ∷ map t (range_with_len (a + 1) n)) (is a (omega arith)) ∙ ap (λ ys. p a ∷ ys) rest

  -- the function differs in one place
  set_map : (x : A) (a n at : ℕ) → t (a + at) ≡ x → ((q : ℕ) → q ≢ a + at → t q ≡ p q)
      → map t (range_with_len a n) ≡ set (map p (range_with_len a n)) at x
  set_map x a zero zero here elsewhere = refl
  set_map x a zero (suc at) here elsewhere = refl
  set_map x a (suc n) zero here elsewhere =
      let head : t a ≡ x = (let e : a ≡ a + 0 = omega arith in ap t e ∙ here) in
      let rest : map t (range_with_len (a + 1) n) ≡ map p (range_with_len (a + 1) n) =
      same_map (a + 1) n (λ q le. elsewhere q (λ e. absurd (omega (arith, e, le)))) in
      ap (λ y. y ∷ map t (range_with_len (a + 1) n)) head ∙ ap (λ ys. x ∷ ys) rest
  set_map x a (suc n) (suc at) here elsewhere =
      let place : (a + 1) + at ≡ a + suc at = omega arith in
      let head : t a ≡ p a = elsewhere a (λ e. absurd (omega (arith, e))) in
      let rest : map t (range_with_len (a + 1) n) ≡ set (map p (range_with_len (a + 1) n)) at x =
      set_map x (a + 1) n at (ap t place ∙ here) (λ q apart. elsewhere q (λ e. apart (e ∙ sym place))) in
      ap (λ y. y ∷ map t (range_with_len (a + 1) n)) head ∙ ap (λ ys. p a ∷ ys) rest

-- a function that gives one value
constant_map : {A : Type 0} (p : ℕ → A) (x : A) (a n : ℕ) → ((q : ℕ) → q < a + n → p q ≡ x) → map p (range_with_len a n) ≡ replicate n x
constant_map p x a zero is = refl
constant_map p x a (suc n) is =
    let rest : map p (range_with_len (a + 1) n) ≡ replicate n x = constant_map p x (a + 1) n (λ q lt. is q (omega (arith, lt))) in
    ap (λ y. y ∷ map p (range_with_len (a + 1) n)) (is a (omega arith)) ∙ ap (λ ys. x ∷ ys) rest

-- ---- the bits of units

-- how many bits are listed
pub flags_len : (ws : List ℕ) (n : ℕ) → length (flags ws n) ≡ n
unfolding flags
flags_len ws n = length-map-range_with_len (bit ws) 0 n

-- a bit in the list
pub flags_at : (ws : List ℕ) (n i : ℕ) → i < n → get_or (flags ws n) i false ≡ bit ws i
unfolding flags
flags_at ws n i lt = get_or-map-range_with_len (bit ws) 0 n i i false lt (omega arith)

-- the bits other than this one are as before
abbrev Elsewhere : List ℕ → List ℕ → ℕ → Type 0
Elsewhere words' words at = (q : ℕ) → q ≢ at → bit words' q ≡ bit words q

-- the list after a change of one bit
pub flags_set : (ws ws' : List ℕ) (n at : ℕ) (b : Bool) → bit ws' at ≡ b → Elsewhere ws' ws at → flags ws' n ≡ set (flags ws n) at b
unfolding flags
flags_set ws ws' n at b here elsewhere =
    let place : 0 + at ≡ at = omega arith in
    set_map (bit ws) (bit ws') b 0 n at (ap (bit ws') place ∙ here) (λ q apart. elsewhere q (λ e. apart (e ∙ sym place)))

-- the list where the bits below its length are set
pub all_flags : (ws : List ℕ) (n : ℕ) → ((i : ℕ) → bit ws i ≡ nat_lt i n) → flags ws n ≡ replicate n true
unfolding flags
all_flags ws n is = constant_map (bit ws) true 0 n (λ q lt. is q ∙ below q (omega (arith, lt)))
  where
    below : (q : ℕ) → q < n → nat_lt q n ≡ true
    below q lt = grind (arith, nat_tests)

-- ---- the holds of units

-- how many counts are listed
pub counts_len : (m : NumberMap ℕ) (n : ℕ) → length (hold_counts m n) ≡ n
unfolding hold_counts
counts_len m n = length-map-range_with_len (hold_count m) 0 n

-- a count in the list
pub counts_at : (m : NumberMap ℕ) (n i : ℕ) → i < n → get_or (hold_counts m n) i 0 ≡ hold_count m i
unfolding hold_counts
counts_at m n i lt = get_or-map-range_with_len (hold_count m) 0 n i i 0 lt (omega arith)

-- the counts other than this one are as before
abbrev OthersHeld : NumberMap ℕ → NumberMap ℕ → ℕ → Type 0
OthersHeld m' m at = (q : ℕ) → q ≢ at → hold_count m' q ≡ hold_count m q

-- the list after a change of one count
pub counts_set : (m m' : NumberMap ℕ) (n at k : ℕ) → hold_count m' at ≡ k → OthersHeld m' m at → hold_counts m' n ≡ set (hold_counts m n) at k
unfolding hold_counts
counts_set m m' n at k here elsewhere =
    let place : 0 + at ≡ at = omega arith in
    set_map (hold_count m) (hold_count m') k 0 n at (ap (hold_count m') place ∙ here) (λ q apart. elsewhere q (λ e. apart (e ∙ sym place)))

-- without an entry nobody holds a unit
no_hold : (q : ℕ) → hold_count finite.empty q ≡ 0
unfolding hold_count
no_hold q = ap count_or_none (finite.get-empty nat_cmp q)

-- nor is there a count that is not zero in the list
pub no_counts : (n : ℕ) → hold_counts finite.empty n ≡ replicate n 0
unfolding hold_counts
no_counts n = constant_map (hold_count finite.empty) 0 0 n (λ q _. no_hold q)

-- the count of an entry
pub count_is : (m : NumberMap ℕ) (at : ℕ) (found : Option ℕ) → found ≡ finite.get m at → count_or_none found ≡ hold_count m at
unfolding hold_count
count_is m at found is = ap count_or_none is

-- the counts after an entry was put in
pub insert_here : (m : NumberMap ℕ) (at n : ℕ) → hold_count (finite.insert m at n) at ≡ n
unfolding hold_count
insert_here m at n = ap count_or_none (get_same m at n)

-- the other counts stay
pub insert_there : (m : NumberMap ℕ) (at n q : ℕ) → q ≢ at → hold_count (finite.insert m at n) q ≡ hold_count m q
unfolding hold_count
insert_there m at n q apart = ap count_or_none (get_other m at n q apart)

-- the counts after an entry was taken out
pub remove_here : (m : NumberMap ℕ) (at : ℕ) → hold_count (finite.remove m at) at ≡ 0
unfolding hold_count
remove_here m at = ap count_or_none (finite.get-remove nat_cmp_total m at at
    ∙ ap (λ r. cond (is_eq r) None (finite.get m at)) (tied_itself nat_cmp_total at))

-- the other counts stay
pub remove_there : (m : NumberMap ℕ) (at q : ℕ) → q ≢ at → hold_count (finite.remove m at) q ≡ hold_count m q
unfolding hold_count
remove_there m at q apart = ap count_or_none (finite.get-remove nat_cmp_total m at q
    ∙ elim (nat_cmp q at) as (λ r. nat_cmp q at ≡ r → cond (is_eq r) None (finite.get m q) ≡ finite.get m q) [
      | Less ↦ λ p. refl
      | Equal ↦ λ p. absurd (apart (same_number q at p))
      | Greater ↦ λ p. refl
    ] refl)

-- what is held has an entry
pub held_has_entry : (m : NumberMap ℕ) (at : ℕ) → 0 < hold_count m at → finite.contains_key m at ≡ true
unfolding hold_count
held_has_entry m at some = by (finite.get m at) some
  where
    by : (o : Option ℕ) → 0 < count_or_none o → is_some o ≡ true
    by None lt = absurd (omega (arith, lt))
    by (Some n) lt = refl

-- ---- a change of one unit

-- a view is one of its space
pub place_within : (first count : ℕ) (idle : List ℕ) (holds : List ℕ) (s : Space) {unit : ℕ}
    → record { first = first; idle = flags idle count; holds = holds } ≡ s → IsWithin s unit → unit - first < count
place_within first count idle holds s {unit} same within =
    let w : IsWithin (record { first = first; idle = flags idle count; holds = holds }) unit = subst (λ t. IsWithin t unit) (sym same) within in
    omega (arith, w.from, w.to, flags_len idle count)

-- one free unit less, and one more
pub record LostOne (first count : ℕ) (idle : List ℕ) (holds : NumberMap ℕ) (words : List ℕ) (free low : ℕ) : Type 0 where
  pub some : 1 ≤ free
  pub sound : AreSound first count idle holds words (free - 1) low

pub record WonOne (first count : ℕ) (idle : List ℕ) (holds : NumberMap ℕ) (words : List ℕ) (free low : ℕ) : Type 0 where
  pub fits : free + 1 < 2 ^ 32
  pub sound : AreSound first count idle holds words (free + 1) low

module _ {first count : ℕ} {idle : List ℕ} {holds : NumberMap ℕ} {words : List ℕ} {free low : ℕ} (s : AreSound first count idle holds words free low)
    (at : ℕ) (lt : at < count) where
  -- the place is one of the list
  within : at < length (flags idle count)
  within = omega (arith, lt, flags_len idle count)

  -- a unit's place is one of the bits
  pub idle_within : at < 64 * length idle
  idle_within = omega (arith, lt, s.idle_room)

  -- and one of the bits of the free units
  pub words_within : at < 64 * length words
  words_within = omega (arith, lt, s.sound.room, flags_len idle count)

  -- a free unit is taken
  pub take_fields : (idle' words' : List ℕ) → length idle' ≡ length idle → bit idle' at ≡ false → Elsewhere idle' idle at
      → length words' ≡ length words → bit words at ≡ true → bit words' at ≡ false → Elsewhere words' words at
      → LostOne first count idle' holds words' free low
  take_fields idle' words' idle_len idle_here idle_there len was here elsewhere =
      let step = take_step s.sound at within words' len (sym (s.sound.bits at) ∙ was) here elsewhere in
      record {
        some = step.some;
        sound = record {
          idle_room = omega (arith, s.idle_room, idle_len);
          sound = subst (λ fs. IsSoundSpace first fs (hold_counts holds count) words' (free - 1) low)
              (sym (flags_set idle idle' count at false idle_here idle_there)) step.sound;
        };
      }

  -- a unit that nobody holds is given back
  pub give_fields : (idle' words' : List ℕ) → length idle' ≡ length idle → bit idle' at ≡ true → Elsewhere idle' idle at
      → length words' ≡ length words → idle_and_unheld (flags idle count) (hold_counts holds count) at ≡ false
      → get_or (hold_counts holds count) at 0 ≡ 0
      → bit words' at ≡ true → Elsewhere words' words at → (low' : ℕ) → low' ≤ low → low' ≤ at → WonOne first count idle' holds words' free low'
  give_fields idle' words' idle_len idle_here idle_there len was unheld here elsewhere low' le_low le_at =
      let step = give_step s.sound at within words' len was unheld here elsewhere low' le_low le_at in
      record {
        fits = step.fits;
        sound = record {
          idle_room = omega (arith, s.idle_room, idle_len);
          sound = subst (λ fs. IsSoundSpace first fs (hold_counts holds count) words' (free + 1) low')
              (sym (flags_set idle idle' count at true idle_here idle_there)) step.sound;
        };
      }

  -- a unit that is held is given back
  pub give_held : (idle' : List ℕ) → length idle' ≡ length idle → bit idle' at ≡ true → Elsewhere idle' idle at
      → 0 < get_or (hold_counts holds count) at 0 → AreSound first count idle' holds words free low
  give_held idle' idle_len idle_here idle_there some = record {
    idle_room = omega (arith, s.idle_room, idle_len);
    sound = subst (λ fs. IsSoundSpace first fs (hold_counts holds count) words free low)
        (sym (flags_set idle idle' count at true idle_here idle_there)) (give_held_step s.sound at within 1 some);
  }

  -- a free unit is held
  pub hold_fields : (holds' : NumberMap ℕ) (words' : List ℕ) → hold_count holds' at ≡ hold_count holds at + 1 → OthersHeld holds' holds at
      → length words' ≡ length words → bit words at ≡ true → bit words' at ≡ false → Elsewhere words' words at
      → LostOne first count idle holds' words' free low
  hold_fields holds' words' more others len was here elsewhere =
      let step = hold_step s.sound at within words' (hold_count holds at + 1) (omega arith) len (sym (s.sound.bits at) ∙ was) here elsewhere in
      record {
        some = step.some;
        sound = record {
          idle_room = s.idle_room;
          sound = subst (λ hs. IsSoundSpace first (flags idle count) hs words' (free - 1) low)
              (sym (counts_set holds holds' count at (hold_count holds at + 1) more others)) step.sound;
        };
      }

  -- a unit that is not free is held once more: no bit changes
  pub hold_again : (holds' : NumberMap ℕ) → hold_count holds' at ≡ hold_count holds at + 1 → OthersHeld holds' holds at
      → bit words at ≡ false → AreSound first count idle holds' words free low
  hold_again holds' more others was = record {
    idle_room = s.idle_room;
    sound = subst (λ hs. IsSoundSpace first (flags idle count) hs words free low)
        (sym (counts_set holds holds' count at (hold_count holds at + 1) more others))
        (hold_same s.sound at within (hold_count holds at + 1) (omega arith) (sym (s.sound.bits at) ∙ was));
  }

  -- the last hold of an idle unit ends
  pub unhold_fields : (holds' : NumberMap ℕ) (words' : List ℕ) → hold_count holds' at ≡ 0 → OthersHeld holds' holds at
      → 0 < get_or (hold_counts holds count) at 0 → bit idle at ≡ true → length words' ≡ length words → bit words' at ≡ true
      → Elsewhere words' words at → (low' : ℕ) → low' ≤ low → low' ≤ at → WonOne first count idle holds' words' free low'
  unhold_fields holds' words' none others some is_idle len here elsewhere low' le_low le_at =
      let step = unhold_step s.sound at within words' 0 refl len some (flags_at idle count at lt ∙ is_idle) here elsewhere low' le_low le_at in
      record {
        fits = step.fits;
        sound = record {
          idle_room = s.idle_room;
          sound = subst (λ hs. IsSoundSpace first (flags idle count) hs words' (free + 1) low')
              (sym (counts_set holds holds' count at 0 none others)) step.sound;
        };
      }

  -- a hold ends that is not the last
  pub unhold_still_held : (holds' : NumberMap ℕ) (n : ℕ) → hold_count holds' at ≡ n → OthersHeld holds' holds at → 0 < n
      → 0 < get_or (hold_counts holds count) at 0 → AreSound first count idle holds' words free low
  unhold_still_held holds' n left others some was = record {
    idle_room = s.idle_room;
    sound = subst (λ hs. IsSoundSpace first (flags idle count) hs words free low)
        (sym (counts_set holds holds' count at n left others)) (unhold_held s.sound at within n some was);
  }

  -- a hold of a unit ends that is not idle
  pub unhold_not_idle : (holds' : NumberMap ℕ) (n : ℕ) → hold_count holds' at ≡ n → OthersHeld holds' holds at → bit idle at ≡ false
      → AreSound first count idle holds' words free low
  unhold_not_idle holds' n left others not_idle = record {
    idle_room = s.idle_room;
    sound = subst (λ hs. IsSoundSpace first (flags idle count) hs words free low)
        (sym (counts_set holds holds' count at n left others)) (hold_busy_step s.sound at within n (flags_at idle count at lt ∙ not_idle));
  }

-- ---- views

-- the view after a change of an idle bit
pub view_flagged : (first count : ℕ) (idle idle' holds : List ℕ) (s : Space) (unit : ℕ) (b : Bool)
    → record { first = first; idle = flags idle count; holds = holds } ≡ s → bit idle' (unit - first) ≡ b → Elsewhere idle' idle (unit - first)
    → record { first = first; idle = flags idle' count; holds = holds } ≡ record s { idle = set s.idle (unit - s.first) b }
view_flagged first count idle idle' holds s unit b is here elsewhere =
    ap (λ fs. record { first = first; idle = fs; holds = holds }) (flags_set idle idle' count (unit - first) b here elsewhere)
    ∙ ap (λ (t : Space). record t { idle = set t.idle (unit - t.first) b }) is

-- the view after a change of a count of holds
pub view_counted : (first count : ℕ) (idle : List Bool) (m m' : NumberMap ℕ) (s : Space) (unit k : ℕ)
    → record { first = first; idle = idle; holds = hold_counts m count } ≡ s → hold_count m' (unit - first) ≡ k → OthersHeld m' m (unit - first)
    → record { first = first; idle = idle; holds = hold_counts m' count } ≡ record s { holds = set s.holds (unit - s.first) k }
view_counted first count idle m m' s unit k is here elsewhere =
    ap (λ hs. record { first = first; idle = idle; holds = hs }) (counts_set m m' count (unit - first) k here elsewhere)
    ∙ ap (λ (t : Space). record t { holds = set t.holds (unit - t.first) k }) is

-- how many hold a unit
pub holds_are : (first count : ℕ) (idle : List Bool) (m : NumberMap ℕ) (s : Space) (unit : ℕ)
    → record { first = first; idle = idle; holds = hold_counts m count } ≡ s → unit - first < count → hold_count m (unit - first) ≡ holds_of s unit
holds_are first count idle m s unit is lt =
    sym (counts_at m count (unit - first) lt) ∙ ap (λ (t : Space). holds_of t unit) is

-- ---- a new allocator

-- all units are free
pub all_free_sound : (first n : ℕ) (idle words : List ℕ) → first + n < 2 ^ 32 → length idle ≡ n / 64 + 1 → length words ≡ n / 64 + 1
    → ((i : ℕ) → bit idle i ≡ nat_lt i n) → ((i : ℕ) → bit words i ≡ nat_lt i n) → AreSound first n idle finite.empty words n 0
all_free_sound first n idle words last idle_len words_len idle_is words_is =
    let long : length (flags idle n) ≡ n = flags_len idle n in
    let free : (i : ℕ) → i < n → idle_and_unheld (flags idle n) (hold_counts finite.empty n) i ≡ true =
    λ i lt. ap (λ b. b && (get_or (hold_counts finite.empty n) i 0 == 0)) (flags_at idle n i lt ∙ idle_is i ∙ below i lt)
    ∙ ap (λ k. k == 0) (ap (λ hs. get_or hs i 0) (no_counts n) ∙ get_or-replicate n i 0 0 lt) in
    record {
      idle_room = omega (arith, idle_len);
      sound = record {
        holds_all = counts_len finite.empty n ∙ sym long;
        room = omega (arith, long, words_len);
        few = omega (arith, words_len, last);
        last = omega (arith, long, last);
        bits = λ i. words_is i ∙ elim (cases_lt i n) [
          | inl lt ↦ below i lt ∙ sym (free i lt)
          | inr le ↦ not_below i le
              ∙ sym (ap (λ b. b && (get_or (hold_counts finite.empty n) i 0 == 0)) (get_or_past (flags idle n) i false (omega (arith, long, le))))
        ];
        counted = sym (ap (λ k. length (filter (idle_and_unheld (flags idle n) (hold_counts finite.empty n)) (range_with_len 0 k))) long
            ∙ all_pass (idle_and_unheld (flags idle n) (hold_counts finite.empty n)) 0 n (λ q _ lt. free q (omega (arith, lt))));
        below = λ i lt. absurd (omega (arith, lt));
      };
    }
  where
    below : (q : ℕ) → q < n → nat_lt q n ≡ true
    below q lt = grind (arith, nat_tests)

    not_below : (q : ℕ) → n ≤ q → nat_lt q n ≡ false
    not_below q le = grind (arith, nat_tests)

-- ---- tests

-- two truth values differ
pub false_true : false ≡ true → ⊥
false_true e = cc

-- whether a count is zero
pub zero_test : (n m : ℕ) → n ≡ m → (nat_eq n 0 ≡ true → m ≡ 0) × (m ≡ 0 → nat_eq n 0 ≡ true)
zero_test n m is = (λ t. there t, λ e. back e)
  where
    there : nat_eq n 0 ≡ true → m ≡ 0
    there t = grind (arith, nat_tests)

    back : m ≡ 0 → nat_eq n 0 ≡ true
    back e = grind (arith, nat_tests)

-- a test for zero that fails
pub held_by_test : (b : Bool) (n : ℕ) → (b ≡ true ↔ (n ≡ 0)) → b ≡ false → 0 < n
held_by_test b n test is = elim (cases_lt 0 n) [
  | inl lt ↦ lt
  | inr le ↦ let none : n ≡ 0 = omega (arith, le) in absurd (clash (sym is ∙ test.1 none))
]
  where
    clash : false ≡ true → ⊥
    clash e = cc

-- whether a unit is one of the range
pub contains_test : (first count : ℕ) (idle holds : List ℕ) (s : Space) (unit n : ℕ)
    → record { first = first; idle = flags idle count; holds = holds } ≡ s → n ≡ unit → first ≤ n
    → (nat_lt (n - first) count ≡ true → IsWithin s unit) × (IsWithin s unit → nat_lt (n - first) count ≡ true)
contains_test first count idle holds s unit n view_is same from = (λ t. there t, λ w. back (place_within first count idle holds s view_is w))
  where
    small : nat_lt (n - first) count ≡ true → n - first < count
    small t = grind (arith, nat_tests)

    there : nat_lt (n - first) count ≡ true → IsWithin s unit
    there t =
        let to_end : unit < first + length (flags idle count) = omega (arith, same, from, small t, flags_len idle count) in
        subst (λ v. IsWithin v unit) view_is (record { from = omega (arith, same, from); to = to_end })

    back : unit - first < count → nat_lt (n - first) count ≡ true
    back lt = let lt_n : n - first < count = omega (arith, lt, same) in test lt_n
      where
        test : n - first < count → nat_lt (n - first) count ≡ true
        test l = grind (arith, nat_tests)
