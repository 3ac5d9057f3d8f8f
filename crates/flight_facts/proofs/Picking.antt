-- The contexts of a batch: they are picked one by one, and each comes next among those left.
use Rattle.std.proofs.Common.{◌≡◌, ℕ, zero, suc, ◌+◌, ◌<◌, ◌≤◌, List, [], ◌∷◌, ◌++◌, length, map, Option, Some, None, refl, sym, ap, subst, ◌∙◌, length-append, arith}
use Rattle.flight_facts.proofs.Common.{AllByRecursion, Ascends, Context, option_map_or}
use Rattle.store_steps.specs.Prelude.{chosen, without_context, choice, left_by}
use Rattle.flight_facts.proofs.Lists.{all_left, all_right, all_join, ascend_less, without_in}
use Rattle.flight_facts.proofs.Choosing.{IsFirst, chosen_first}

abbrev pub ArePicked : List Context → List Context → List Context → Type 0
ArePicked xs [] left = left ≡ xs
ArePicked xs (y ∷ ys) left = (at : IsFirst [] y xs) × ArePicked (at.front ++ at.back) ys left

-- ---- a choice picks

-- what a choice does with the one that comes next, if there is one
abbrev more : ℕ → List Context → Option Context → List Context
more most xs o = option_map_or (λ (x : Context). x ∷ choice most (without_context x.place xs)) o []

abbrev rest : ℕ → List Context → Option Context → List Context
rest most xs o = option_map_or (λ (x : Context). left_by most (without_context x.place xs)) o xs

pub picked : (most : ℕ) (xs : List Context) → Ascends (map (λ x. x.place) xs) → ArePicked xs (choice most xs) (left_by most xs)
picked zero xs up = refl
picked (suc most) xs up = by_next (λ ys up. picked most ys up) (chosen xs) refl
  where
    by_next : ((ys : List Context) → Ascends (map (λ x. x.place) ys) → ArePicked ys (choice most ys) (left_by most ys))
        → (o : Option Context) → chosen xs ≡ o → ArePicked xs (more most xs o) (rest most xs o)
    by_next again None is = refl
    by_next again (Some x) is =
        let at : IsFirst [] x xs = chosen_first [] xs x is in
        let ys : List Context = without_context x.place xs in
        let others : ys ≡ at.front ++ at.back = without_in at.front x at.back xs at.is up in
        let fewer : Ascends (map (λ z. z.place) (at.front ++ at.back)) =
        ascend_less at.front x at.back (subst (λ (zs : List Context). Ascends (map (λ z. z.place) zs)) at.is up) in (
          at,
          subst (λ (zs : List Context). ArePicked zs (choice most ys) (left_by most ys)) others
              (again ys (subst (λ (zs : List Context). Ascends (map (λ z. z.place) zs)) (sym others) fewer)),
        )

pub choice_few : (most : ℕ) (xs : List Context) → length (choice most xs) ≤ most
choice_few zero xs = omega arith
choice_few (suc most) xs = by_next (λ ys. choice_few most ys) (chosen xs)
  where
    by_next : ((ys : List Context) → length (choice most ys) ≤ most) → (o : Option Context) → length (more most xs o) ≤ suc most
    by_next again None = omega arith
    by_next again (Some x) = let fewer = again (without_context x.place xs) in omega (arith, fewer)

pub choice_done : (most : ℕ) (xs : List Context) → AllByRecursion (λ x. x.done ≡ length x.fresh) (choice most xs)
choice_done zero xs = tt
choice_done (suc most) xs = by_next (λ ys. choice_done most ys) (chosen xs) refl
  where
    by_next : ((ys : List Context) → AllByRecursion (λ x. x.done ≡ length x.fresh) (choice most ys)) → (o : Option Context) → chosen xs ≡ o
        → AllByRecursion (λ x. x.done ≡ length x.fresh) (more most xs o)
    by_next again None is = tt
    by_next again (Some x) is = ((chosen_first [] xs x is).done, again (without_context x.place xs))

-- fewer are chosen only where none of those left comes next
pub choice_full : (most : ℕ) (xs : List Context) → length (choice most xs) < most → chosen (left_by most xs) ≡ None
choice_full zero xs less = absurd (omega (arith, less))
choice_full (suc most) xs less = by_next (λ ys few. choice_full most ys few) (chosen xs) refl less
  where
    by_next : ((ys : List Context) → length (choice most ys) < most → chosen (left_by most ys) ≡ None) → (o : Option Context) → chosen xs ≡ o
        → length (more most xs o) < suc most → chosen (rest most xs o) ≡ None
    by_next again None is less = is
    by_next again (Some x) is less = again (without_context x.place xs) (omega (arith, less))

-- ---- what is known of all is known of those that are picked, and of those left

pub picked_up : (xs ys left : List Context) → ArePicked xs ys left → Ascends (map (λ x. x.place) xs) → Ascends (map (λ x. x.place) left)
picked_up xs [] left are up = subst (λ (zs : List Context). Ascends (map (λ z. z.place) zs)) (sym are) up
picked_up xs (y ∷ ys) left (at, are) up = picked_up (at.front ++ at.back) ys left are
    (ascend_less at.front y at.back (subst (λ (zs : List Context). Ascends (map (λ z. z.place) zs)) at.is up))

-- what holds of all holds of both
pub all_picked : (P : Context → Type 0) (xs ys left : List Context) → ArePicked xs ys left → AllByRecursion P xs → AllByRecursion P ys × AllByRecursion P left
all_picked P xs [] left are all = (tt, subst (AllByRecursion P) (sym are) all)
all_picked P xs (y ∷ ys) left (at, are) all =
    let them : AllByRecursion P (at.front ++ y ∷ at.back) = subst (AllByRecursion P) at.is all in
    let behind : AllByRecursion P (y ∷ at.back) = all_right P at.front (y ∷ at.back) them in
    let both = all_picked P (at.front ++ at.back) ys left are (all_join P at.front at.back (all_left P at.front (y ∷ at.back) them) behind.1) in
    ((behind.0, both.0), both.1)

-- a sum over all is that over both
pub sum_picked : (f : List Context → ℕ) → ((xs ys : List Context) → f (xs ++ ys) ≡ f xs + f ys) → (xs ys left : List Context) → ArePicked xs ys left
    → f xs ≡ f ys + f left
sum_picked f both xs [] left are = both [] xs ∙ ap (λ (zs : List Context). f [] + f zs) (sym are)
sum_picked f both xs (y ∷ ys) left (at, are) =
    sum (f xs) (f at.front) (f (y ∷ at.back)) (f (y ∷ [])) (f at.back) (f (at.front ++ at.back)) (f (y ∷ ys)) (f ys) (f left)
    (ap f at.is ∙ both at.front (y ∷ at.back)) (both (y ∷ []) at.back) (both at.front at.back) (both (y ∷ []) ys)
    (sum_picked f both (at.front ++ at.back) ys left are)
  where
    sum : (all front behind one back others own more left : ℕ) → all ≡ front + behind → behind ≡ one + back → others ≡ front + back → own ≡ one + more
        → others ≡ more + left → all ≡ own + left
    sum all front behind one back others own more left is cut rest grown later = omega (arith, is, cut, rest, grown, later)

pub count_picked : (xs ys left : List Context) → ArePicked xs ys left → length xs ≡ length ys + length left
count_picked xs ys left are = sum_picked (λ (zs : List Context). length zs) (λ us vs. length-append us vs) xs ys left are
