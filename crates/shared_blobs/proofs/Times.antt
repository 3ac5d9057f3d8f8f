-- Slots that pages leave, one after the other: how often each is left, and what count it has then.
use Rattle.std.proofs.Common.{◌≡◌, inl, inr, ℕ, zero, suc, ◌+◌, ◌-◌, ◌==◌, Bool, true, false, cond, List, [], ◌∷◌, ◌++◌, Some, refl, sym, ap, ◌∙◌, arith}
use Rattle.std.specs.Prelude.{slice_get}
use Rattle.std.proofs.lemmas.Bool.{cases_Bool}
use Rattle.std.proofs.lemmas.Bool.Decides.{nat_tests}
use Rattle.std.proofs.lemmas.Option.{same_Some}
use Rattle.row_format.specs.Prelude.{Slot}
use Rattle.plan_rows.specs.declared.plan.SlotNo.{SlotNo}
use Rattle.plan_rows.specs.Prelude.{indexes_of, times_in, lowered, with_one_less, with_less}

-- ---- those of a blob

abbrev either : ℕ → List ℕ → Bool → List ℕ
either k ks b = cond b (k ∷ ks) ks

either-append : (k : ℕ) (ks js : List ℕ) (b : Bool) → either k (ks ++ js) b ≡ either k ks b ++ js
either-append k ks js true = refl
either-append k ks js false = refl

pub indexes-append : (sbid : ℕ) (ls ms : List SlotNo) → indexes_of sbid (ls ++ ms) ≡ indexes_of sbid ls ++ indexes_of sbid ms
indexes-append sbid [] ms = refl
indexes-append sbid (l ∷ ls) ms = ap (λ ks. either l.index ks (l.sbid == sbid)) (indexes-append sbid ls ms)
    ∙ either-append l.index (indexes_of sbid ls) (indexes_of sbid ms) (l.sbid == sbid)

pub same_number : (a b : ℕ) → a ≡ b → (a == b) ≡ true
same_number a b is = grind (arith, nat_tests, is)

pub other_number : (a b : ℕ) → (a ≡ b → ⊥) → (a == b) ≡ false
other_number a b apart = grind (arith, nat_tests, apart)

-- one more of the blob itself, or of another one
pub indexes_more : (sbid : ℕ) (ls : List SlotNo) (s : SlotNo) → s.sbid ≡ sbid → indexes_of sbid (ls ++ s ∷ []) ≡ indexes_of sbid ls ++ s.index ∷ []
indexes_more sbid ls s is = indexes-append sbid ls (s ∷ []) ∙ ap (λ b. indexes_of sbid ls ++ either s.index [] b) (same_number s.sbid sbid is)

pub indexes_other : (sbid : ℕ) (ls : List SlotNo) (s : SlotNo) → (s.sbid ≡ sbid → ⊥) → indexes_of sbid (ls ++ s ∷ []) ≡ indexes_of sbid ls
indexes_other sbid ls s apart = indexes-append sbid ls (s ∷ []) ∙ ap (λ b. indexes_of sbid ls ++ either s.index [] b) (other_number s.sbid sbid apart)
    ∙ none (indexes_of sbid ls)
  where
    none : (ks : List ℕ) → ks ++ [] ≡ ks
    none [] = refl
    none (k ∷ ks) = ap (λ (l : List ℕ). k ∷ l) (none ks)

-- ---- how often

abbrev counted : ℕ → Bool → ℕ
counted n b = cond b (1 + n) n

pub times-append : (ks : List ℕ) (k index : ℕ) → times_in (ks ++ k ∷ []) index ≡ times_in ks index + times_in (k ∷ []) index
times-append [] k index = omega arith
times-append (j ∷ ks) k index = ap (λ n. counted n (j == index)) (times-append ks k index) ∙ by (j == index)
  where
    by : (b : Bool) → counted (times_in ks index + times_in (k ∷ []) index) b ≡ counted (times_in ks index) b + times_in (k ∷ []) index
    by true = omega arith
    by false = refl

pub times_cons : (k : ℕ) (ks : List ℕ) (index : ℕ) → times_in (k ∷ ks) index ≡ times_in (k ∷ []) index + times_in ks index
times_cons k ks index = by (k == index)
  where
    by : (b : Bool) → counted (times_in ks index) b ≡ counted 0 b + times_in ks index
    by true = omega arith
    by false = omega arith

pub times_same : (k : ℕ) → times_in (k ∷ []) k ≡ 1
times_same k = ap (counted 0) (same_number k k refl)

pub times_other : (k index : ℕ) → (k ≡ index → ⊥) → times_in (k ∷ []) index ≡ 0
times_other k index apart = ap (counted 0) (other_number k index apart)

-- ---- counts then

-- the slot there has a count less by so many
abbrev pub IsLess : List Slot → ℕ → ℕ → Slot → Type 0
IsLess xs index n x = (y : Slot) × (slice_get xs index ≡ Some y) × (y.count ≡ x.count - n)

less_one : (xs : List Slot) (k index : ℕ) (x : Slot) → slice_get xs index ≡ Some x → IsLess (with_one_less xs k) index (times_in (k ∷ []) index) x
less_one [] k index x is = absurd cc
less_one (z ∷ xs) zero zero x is = (lowered z, refl, let e = same_Some z x is in ap (λ (w : Slot). w.count - 1) e)
less_one (z ∷ xs) zero (suc n) x is = (x, is, omega (arith, times_other 0 (suc n) (λ e. omega (arith, e))))
less_one (z ∷ xs) (suc k) zero x is = (x, is, omega (arith, times_other (suc k) 0 (λ e. omega (arith, e))))
less_one (z ∷ xs) (suc k) (suc n) x is =
    let h = less_one xs k n x is in
    (h.0, h.1, h.2 ∙ ap (λ (m : ℕ). x.count - m) (sym (shifted k n)))
  where
    shifted : (k n : ℕ) → times_in (suc k ∷ []) (suc n) ≡ times_in (k ∷ []) n
    shifted k n = elim (cases_Bool (k == n)) [
      | inl same ↦ ap (counted 0) (same_number (suc k) (suc n) (grind (arith, nat_tests, same))) ∙ sym (ap (counted 0) same)
      | inr other ↦ ap (counted 0) (other_number (suc k) (suc n) (grind (arith, nat_tests, other))) ∙ sym (ap (counted 0) other)
    ]

pub less_all : (xs : List Slot) (ks : List ℕ) (index : ℕ) (x : Slot) → slice_get xs index ≡ Some x → IsLess (with_less xs ks) index (times_in ks index) x
less_all xs [] index x is = (x, is, omega arith)
less_all xs (k ∷ ks) index x is =
    let one = less_one xs k index x is in
    let all = less_all (with_one_less xs k) ks index one.0 one.1 in
    (all.0, all.1, omega (arith, all.2, one.2, times_cons k ks index))

-- a slot there was there before
some_before : (xs : List Slot) (k index : ℕ) (y : Slot) → slice_get (with_one_less xs k) index ≡ Some y → (x : Slot) × (slice_get xs index ≡ Some x)
some_before [] k index y is = absurd cc
some_before (z ∷ xs) zero zero y is = (z, refl)
some_before (z ∷ xs) zero (suc n) y is = (y, is)
some_before (z ∷ xs) (suc k) zero y is = (y, is)
some_before (z ∷ xs) (suc k) (suc n) y is = some_before xs k n y is

some_first : (xs : List Slot) (ks : List ℕ) (index : ℕ) (y : Slot) → slice_get (with_less xs ks) index ≡ Some y → (x : Slot) × (slice_get xs index ≡ Some x)
some_first xs [] index y is = (y, is)
some_first xs (k ∷ ks) index y is = let mid = some_first (with_one_less xs k) ks index y is in some_before xs k index mid.0 mid.1

pub more_before : (xs : List Slot) (ks : List ℕ) (index : ℕ) (y : Slot) → slice_get (with_less xs ks) index ≡ Some y
    → (x : Slot) × (slice_get xs index ≡ Some x) × (y.count ≡ x.count - times_in ks index)
more_before xs ks index y is =
    let was = some_first xs ks index y is in
    let less = less_all xs ks index was.0 was.1 in
    (was.0, was.1, ap (λ (z : Slot). z.count) (same_Some y less.0 (sym is ∙ less.1)) ∙ less.2)

-- one more after the others
pub less-append : (xs : List Slot) (ks : List ℕ) (k : ℕ) → with_less xs (ks ++ k ∷ []) ≡ with_one_less (with_less xs ks) k
less-append xs [] k = refl
less-append xs (j ∷ ks) k = less-append (with_one_less xs j) ks k
