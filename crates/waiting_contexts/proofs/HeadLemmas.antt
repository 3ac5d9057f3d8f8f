-- How often places are in a heap, and which is the least.
use Rattle.std.proofs.Common.{◌≡◌, ℕ, ◌+◌, ◌<◌, ◌≤◌, ◌==◌, Bool, false, cond, List, [], ◌∷◌, length, map, slice_index_or, refl, sym, ap, ◌∙◌, arith}
use Rattle.std.specs.List.{AllByRecursion, sum_by}
use Rattle.std.specs.List.Sorted.{IsPermutation}
use Rattle.std.specs.BinaryHeap.{IsUpperBound}
use Rattle.std.specs.Ordering.{nat_cmp, is_lt}
use Rattle.std.specs.declared.cmp.Reverse.{Reverse}
use Rattle.std.proofs.lemmas.List.Recursion.{is_sum_by}
use Rattle.std.proofs.lemmas.List.Sorted.{sum_by_pushed, sum_by_popped}
use Rattle.std.proofs.lemmas.Bool.{eq-eqb}
use Rattle.std.proofs.lemmas.Bool.Decides.{nat_tests}
use Rattle.waiting_contexts.specs.Heads.{count_of, IsLeast}

abbrev pub places_of : List (Reverse ℕ) → List ℕ
places_of rs = map (λ (r : Reverse ℕ). r.0) rs

abbrev one_at : ℕ → Reverse ℕ → ℕ
one_at place r = cond (r.0 == place) 1 0

counted : (q : ℕ) (rs : List (Reverse ℕ)) → count_of q (places_of rs) ≡ sum_by (one_at q) rs
counted q rs = is_sum_by (λ l. count_of q (places_of l)) (one_at q) refl (λ x xs. refl) rs

pub one_more : (x : Reverse ℕ) (xs ys : List (Reverse ℕ)) → IsPermutation (x ∷ xs) ys → (q : ℕ)
    → count_of q (places_of ys) ≡ count_of q (x.0 ∷ places_of xs)
one_more x xs ys moved q = counted q ys ∙ sum_by_pushed (one_at q) x xs ys moved ∙ ap (λ (n : ℕ). one_at q x + n) (sym (counted q xs))

pub one_less : (x : Reverse ℕ) (xs ys : List (Reverse ℕ)) → IsPermutation xs (x ∷ ys) → (q : ℕ)
    → count_of q (places_of xs) ≡ count_of q (x.0 ∷ places_of ys)
one_less x xs ys moved q =
    let popped = sum_by_popped (one_at q) x xs ys moved in
    let old = counted q xs in
    let new = counted q ys in
    omega (arith, popped, old, new)

not_below : (p q : ℕ) → is_lt (nat_cmp q p) ≡ false → p ≤ q
not_below p q h = grind (arith, nat_tests)

all_above : (x : Reverse ℕ) (ys : List (Reverse ℕ)) → IsUpperBound (λ (a b : Reverse ℕ). nat_cmp b.0 a.0) x ys → AllByRecursion (λ q. x.0 ≤ q) (places_of ys)
all_above x [] bound = tt
all_above x (y ∷ ys) bound = (not_below x.0 y.0 bound.0, all_above x ys bound.1)

-- what is taken off the top was among them, and none is below it
pub is_least : (x : Reverse ℕ) (xs ys : List (Reverse ℕ)) → IsPermutation xs (x ∷ ys) → IsUpperBound (λ (a b : Reverse ℕ). nat_cmp b.0 a.0) x xs
    → IsLeast x.0 (places_of xs)
is_least x xs ys moved bound = record { among = above_zero; least = all_above x xs bound }
  where
    own : ◌≡◌ {A = ℕ} (cond (x.0 == x.0) 1 0) 1
    own = ap (λ (b : Bool). cond b 1 0) (eq-eqb x.0 x.0 refl)

    above_zero : 0 < count_of x.0 (places_of xs)
    above_zero = omega (arith, own, one_less x xs ys moved x.0)

-- and so it is of what is on top
pub top_is_least : (x : Reverse ℕ) (xs : List (Reverse ℕ)) → 0 < length xs → x ≡ slice_index_or xs 0 x
    → IsUpperBound (λ (a b : Reverse ℕ). nat_cmp b.0 a.0) x xs → IsLeast x.0 (places_of xs)
top_is_least x [] some is bound = absurd (omega (arith, some))
top_is_least x (y ∷ ys) some is bound = record { among = above_zero; least = all_above x (y ∷ ys) bound }
  where
    own : ◌≡◌ {A = ℕ} (cond (y.0 == x.0) 1 0) 1
    own = ap (λ (b : Bool). cond b 1 0) (eq-eqb y.0 x.0 (sym (ap (λ (r : Reverse ℕ). r.0) is)))

    above_zero : 0 < count_of x.0 (places_of (y ∷ ys))
    above_zero = omega (arith, own)
