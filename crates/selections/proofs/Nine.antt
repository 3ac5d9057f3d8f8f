-- The fair selections of 2 and 3 under one name and 4 under another.
use Rattle.std.proofs.Common.{◌≡◌, ◌⊎◌, inl, inr, ℕ, ◌<◌, Bool, true, false, List, [], ◌∷◌, ◌++◌, Contains, refl, sym, ap, subst, ◌∙◌, arith}
use Rattle.std.specs.Prelude.{nat_lt, cond, not}
use Rattle.std.specs.List.{AllByRecursion, slice_index_or}
use Rattle.selections.specs.Fair.{under, IsFair, IsComplete, EachHasName}
use Rattle.selections.specs.Example.{is_on_side, nine}
use Rattle.selections.proofs.Cuts.{in_empty}
use Rattle.selections.proofs.Selecting.{fair_nil, complete_is_fair, fair_front, with_last, fair_one}

sides : EachHasName is_on_side
sides x = (nat_lt x 4, own (nat_lt x 4))
  where
    own : (b : Bool) → cond b b (not b) ≡ true
    own true = refl
    own false = refl

abbrev three : List ℕ
three = 2 ∷ 3 ∷ 4 ∷ []

complete : (some : List ℕ) → under is_on_side true some ≡ 2 ∷ 3 ∷ [] → under is_on_side false some ≡ 4 ∷ [] → IsFair is_on_side three some
complete some low high = complete_is_fair is_on_side three some each
  where
    each : IsComplete is_on_side three some
    each true = low
    each false = high

pub all_fair : AllByRecursion (IsFair is_on_side three) nine
all_fair = (
  fair_nil is_on_side three,
  (
    front (2 ∷ []) (3 ∷ 4 ∷ []) first,
    (
      front (4 ∷ []) (2 ∷ 3 ∷ []) third,
      (
        front (2 ∷ 3 ∷ []) (4 ∷ []) first,
        (front (2 ∷ 4 ∷ []) (3 ∷ []) second, (front (4 ∷ 2 ∷ []) (3 ∷ []) third, (first, (second, (third, tt))))),
      ),
    ),
  ),
)
  where
    first : IsFair is_on_side three (2 ∷ 3 ∷ 4 ∷ [])
    first = complete (2 ∷ 3 ∷ 4 ∷ []) refl refl

    second : IsFair is_on_side three (2 ∷ 4 ∷ 3 ∷ [])
    second = complete (2 ∷ 4 ∷ 3 ∷ []) refl refl

    third : IsFair is_on_side three (4 ∷ 2 ∷ 3 ∷ [])
    third = complete (4 ∷ 2 ∷ 3 ∷ []) refl refl

    front : (xs ys : List ℕ) → IsFair is_on_side three (xs ++ ys) → IsFair is_on_side three xs
    front = fair_front is_on_side three

-- ---- no other is

-- 3 stands behind 2
behind_two : (front back : List ℕ) → (front ++ back ≡ []) ⊎ (front ++ back ≡ 2 ∷ []) → under is_on_side true front ≡ 2 ∷ []
    → front ++ 3 ∷ back ≡ 2 ∷ 3 ∷ []
behind_two [] back is low = absurd cc
behind_two (f ∷ front) back (inl e) low = absurd cc
behind_two (f ∷ front) back (inr e) low =
    let head : f ≡ 2 = cc in
    let tail : front ++ back ≡ [] = cc in
    ap (λ l. f ∷ l) (in_empty 3 front back tail) ∙ ap (λ n. n ∷ 3 ∷ []) head

of_two : (some : List ℕ) → IsFair is_on_side (2 ∷ 3 ∷ []) some → (some ≡ []) ⊎ ((some ≡ 2 ∷ []) ⊎ (some ≡ 2 ∷ 3 ∷ []))
of_two some fair = elim (with_last is_on_side (2 ∷ []) 3 some fair true refl) [
  | inl one ↦ elim (fair_one is_on_side sides 2 some one) [
    | inl none ↦ inl none
    | inr two ↦ inr (inl two)
  ]
  | inr last ↦ inr (inr (last.is
      ∙ behind_two last.front last.back (fair_one is_on_side sides 2 (last.front ++ last.back) last.without) (last.behind true refl)))
]

in_nine : (k : ℕ) (some : List ℕ) → k < 9 → slice_index_or nine k some ≡ some → Contains nine some
in_nine k some within is = (k, within, is)

-- 4 stands anywhere among 2 and 3
with_none : (front back : List ℕ) → front ++ back ≡ [] → Contains nine (front ++ 4 ∷ back)
with_none front back e = subst (Contains nine) (sym (in_empty 4 front back e)) (in_nine 2 (4 ∷ []) (omega (arith)) refl)

with_two : (front back : List ℕ) → front ++ back ≡ 2 ∷ [] → Contains nine (front ++ 4 ∷ back)
with_two [] back e = subst (λ l. Contains nine (4 ∷ l)) (sym e) (in_nine 5 (4 ∷ 2 ∷ []) (omega (arith)) refl)
with_two (f ∷ front) back e =
    let head : f ≡ 2 = cc in
    let tail : front ++ back ≡ [] = cc in
    subst (Contains nine) (sym (ap (λ l. f ∷ l) (in_empty 4 front back tail) ∙ ap (λ n. n ∷ 4 ∷ []) head))
    (in_nine 4 (2 ∷ 4 ∷ []) (omega (arith)) refl)

with_both : (front back : List ℕ) → front ++ back ≡ 2 ∷ 3 ∷ [] → Contains nine (front ++ 4 ∷ back)
with_both [] back e = subst (λ l. Contains nine (4 ∷ l)) (sym e) (in_nine 8 (4 ∷ 2 ∷ 3 ∷ []) (omega (arith)) refl)
with_both (f ∷ []) back e =
    let head : f ≡ 2 = cc in
    let tail : back ≡ 3 ∷ [] = cc in
    subst (Contains nine) (sym (ap (λ l. f ∷ 4 ∷ l) tail ∙ ap (λ n. n ∷ 4 ∷ 3 ∷ []) head)) (in_nine 7 (2 ∷ 4 ∷ 3 ∷ []) (omega (arith)) refl)
with_both (f ∷ g ∷ front) back e =
    let head : f ≡ 2 = cc in
    let second : g ≡ 3 = cc in
    let tail : front ++ back ≡ [] = cc in
    subst (Contains nine) (sym (ap (λ l. f ∷ g ∷ l) (in_empty 4 front back tail) ∙ ap (λ n. n ∷ g ∷ 4 ∷ []) head ∙ ap (λ n. 2 ∷ n ∷ 4 ∷ []) second))
    (in_nine 6 (2 ∷ 3 ∷ 4 ∷ []) (omega (arith)) refl)

with_four : (front back : List ℕ) → IsFair is_on_side (2 ∷ 3 ∷ []) (front ++ back) → Contains nine (front ++ 4 ∷ back)
with_four front back fair = elim (of_two (front ++ back) fair) [
  | inl none ↦ with_none front back none
  | inr (inl two) ↦ with_two front back two
  | inr (inr both) ↦ with_both front back both
]

without_four : (some : List ℕ) → (some ≡ []) ⊎ ((some ≡ 2 ∷ []) ⊎ (some ≡ 2 ∷ 3 ∷ [])) → Contains nine some
without_four some (inl none) = subst (Contains nine) (sym none) (in_nine 0 [] (omega (arith)) refl)
without_four some (inr (inl two)) = subst (Contains nine) (sym two) (in_nine 1 (2 ∷ []) (omega (arith)) refl)
without_four some (inr (inr both)) = subst (Contains nine) (sym both) (in_nine 3 (2 ∷ 3 ∷ []) (omega (arith)) refl)

pub no_other_fair : (some : List ℕ) → IsFair is_on_side three some → Contains nine some
no_other_fair some fair = elim (with_last is_on_side (2 ∷ 3 ∷ []) 4 some fair false refl) [
  | inl others ↦ without_four some (of_two some others)
  | inr last ↦ subst (Contains nine) (sym last.is) (with_four last.front last.back last.without)
]
