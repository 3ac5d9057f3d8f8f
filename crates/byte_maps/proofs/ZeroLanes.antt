-- Lanes that are put together by or: they are zero just where each of them is.
use Rattle.std.proofs.Common.{◌≡◌, ℕ, ◌+◌, ◌≤◌, List, [], ◌∷◌, length, take, drop, refl, sym, ap, subst, ◌∙◌, arith, take-append-drop, length-drop}
use Rattle.std.specs.Prelude.{◌↔◌, All, IsTrue, nat_eq, bit_or}
use Rattle.std.specs.List.{AllByRecursion}
use Rattle.std.specs.Int.Bits.{or_zero_l}
use Rattle.std.specs.Simd.Lanes.{zip2, fold_l}
use Rattle.std.proofs.lemmas.Bool.{eqb-true, eq-eqb}
use Rattle.std.proofs.lemmas.Nat.{le_or_l, le_or_r}
use Rattle.std.proofs.lemmas.List.{take_all}
use Rattle.std.proofs.lemmas.List.Elements.{All-from_recursion, recursion_from_All, All-append, All-take, All-drop}

abbrev Zeros : List ℕ → Type 0
Zeros = AllByRecursion (λ b. b ≡ 0)

-- ---- one vector

none_set : (a : ℕ) (xs : List ℕ) → fold_l bit_or a xs ≡ 0 → (a ≡ 0) × Zeros xs
none_set a [] is = (is, tt)
none_set a (x ∷ xs) is =
    let rest = none_set (bit_or a x) xs is in
    (omega (arith, le_or_l a x, rest.0), (omega (arith, le_or_r a x, rest.0), rest.1))

all_clear : (xs : List ℕ) → Zeros xs → fold_l bit_or 0 xs ≡ 0
all_clear [] each = refl
all_clear (x ∷ xs) each = ap (λ (n : ℕ). fold_l bit_or n xs) (or_zero_l x ∙ each.0) ∙ all_clear xs each.1

-- ---- two vectors

apart : (xs ys : List ℕ) → length xs ≡ length ys → Zeros (zip2 bit_or xs ys) → Zeros xs × Zeros ys
apart [] [] same each = (tt, tt)
apart [] (y ∷ ys) same each = absurd (omega (arith, same))
apart (x ∷ xs) [] same each = absurd (omega (arith, same))
apart (x ∷ xs) (y ∷ ys) same each =
    let rest = apart xs ys (omega (arith, same)) each.1 in
    ((omega (arith, le_or_l x y, each.0), rest.0), (omega (arith, le_or_r x y, each.0), rest.1))

together : (xs ys : List ℕ) → Zeros xs → Zeros ys → Zeros (zip2 bit_or xs ys)
together [] ys a b = tt
together (x ∷ xs) [] a b = tt
together (x ∷ xs) (y ∷ ys) a b = (ap (λ (n : ℕ). bit_or n y) a.0 ∙ or_zero_l y ∙ b.0, together xs ys a.1 b.1)

-- the bits of two vectors together are zero just where both vectors are, which are the parts of these bytes
pub both_test : (lanes other bytes : List ℕ) (at count : ℕ) → length lanes ≡ length other → length bytes ≤ at + count
    → All (λ b. b ≡ 0) lanes ↔ All (λ b. b ≡ 0) (take at bytes) → All (λ b. b ≡ 0) other ↔ All (λ b. b ≡ 0) (take count (drop at bytes))
    → All (λ b. b ≡ 0) (zip2 bit_or lanes other) ↔ All (λ b. b ≡ 0) bytes
both_test lanes other bytes at count same all_there front back =
    let behind : take count (drop at bytes) ≡ drop at bytes = take_all count (drop at bytes) (omega (arith, length-drop at bytes, all_there)) in (
      λ yes.
          let parts = apart lanes other same (recursion_from_All (λ b. b ≡ 0) (zip2 bit_or lanes other) yes) in
          subst (All (λ b. b ≡ 0)) (take-append-drop at bytes)
          (All-append (λ b. b ≡ 0) (take at bytes) (drop at bytes) (front.0 (All-from_recursion (λ b. b ≡ 0) lanes parts.0))
          (subst (All (λ b. b ≡ 0)) behind (back.0 (All-from_recursion (λ b. b ≡ 0) other parts.1)))),
      λ all. All-from_recursion (λ b. b ≡ 0) (zip2 bit_or lanes other)
          (together lanes other (recursion_from_All (λ b. b ≡ 0) lanes (front.1 (All-take (λ b. b ≡ 0) at bytes all)))
          (recursion_from_All (λ b. b ≡ 0) other (back.1 (All-take (λ b. b ≡ 0) count (drop at bytes) (All-drop (λ b. b ≡ 0) at bytes all))))),
    )

-- a vector is zero just where the bits of all its lanes together are
pub lanes_test : (lanes : List ℕ) → IsTrue (nat_eq (fold_l bit_or 0 lanes) 0) ↔ All (λ b. b ≡ 0) lanes
lanes_test lanes = (
  λ yes. All-from_recursion (λ b. b ≡ 0) lanes (none_set 0 lanes (eqb-true (fold_l bit_or 0 lanes) 0 yes)).1,
  λ all. eq-eqb (fold_l bit_or 0 lanes) 0 (all_clear lanes (recursion_from_All (λ b. b ≡ 0) lanes all)),
)

-- ---- blocks, one after another

-- zeros so far, and a further block of them
pub all_more : (n : ℕ) (left block rest : List ℕ) → block ≡ take n left → rest ≡ drop n left → All (λ b. b ≡ 0) block → All (λ b. b ≡ 0) rest
    → All (λ b. b ≡ 0) left
all_more n left block rest front behind a b = subst (All (λ b. b ≡ 0)) (take-append-drop n left)
    (All-append (λ b. b ≡ 0) (take n left) (drop n left) (subst (All (λ b. b ≡ 0)) front a) (subst (All (λ b. b ≡ 0)) behind b))

pub all_parts : (n : ℕ) (left block rest : List ℕ) → block ≡ take n left → rest ≡ drop n left → All (λ b. b ≡ 0) left
    → All (λ b. b ≡ 0) block × All (λ b. b ≡ 0) rest
all_parts n left block rest front behind all =
    (subst (All (λ b. b ≡ 0)) (sym front) (All-take (λ b. b ≡ 0) n left all), subst (All (λ b. b ≡ 0)) (sym behind) (All-drop (λ b. b ≡ 0) n left all))
