-- What a batch takes of the contexts that wait, and what it leaves: they stand in another order, within each collection in the same.
use Rattle.std.proofs.Common.{ℕ, cond, List, [], ◌∷◌, ◌++◌, map, sym, ap, subst, ◌∙◌, append_assoc}
use Rattle.run_facts.proofs.Common.{flat_map, Context, Ascends}
use Rattle.std.specs.List.Sorted.{IsPermutation}
use Rattle.std.proofs.lemmas.List.Sorted.{IsPermutation-refl, IsPermutation-trans, IsPermutation-append_comm, IsPermutation-append_left, IsPermutation-append_right}
use Rattle.std.proofs.lemmas.List.Concat.{flat_map-append}
use Rattle.selections.specs.Fair.{IsComplete, under}
use Rattle.store_steps.specs.Prelude.{choice, left_by, Intent, intent_of, intents, is_in}
use Rattle.space_facts.proofs.Prelude.{first_taken}
use Rattle.flight_facts.proofs.Prelude.{IsFirst, ArePicked, picked}
use Rattle.run_facts.proofs.PartsKept.{intents_both}

-- ---- their order

-- the one that comes next changes places with those of other collections
to_front : (xs : List Context) (y : Context) (at : IsFirst [] y xs) → IsComplete is_in (intents xs) (intents (y ∷ (at.front ++ at.back)))
to_front xs y at =
    subst (λ (is : List Intent). IsComplete is_in is (intents (y ∷ (at.front ++ at.back)))) (sym (ap intents at.is ∙ intents_both at.front (y ∷ at.back)))
    (subst (λ (is : List Intent). IsComplete is_in (intents at.front ++ intent_of y ∷ intents at.back) (intent_of y ∷ is)) (sym (intents_both at.front at.back))
    (first_taken (intents at.front) (intents at.back) (intent_of y) at.first))

-- one more before both
complete_behind : (x : Intent) (xs ys : List Intent) → IsComplete is_in xs ys → IsComplete is_in (x ∷ xs) (x ∷ ys)
complete_behind x xs ys complete n = ap (λ (l : List Intent). cond (is_in n x) (x ∷ l) l) (complete n)

complete_then : (xs ys zs : List Intent) → IsComplete is_in xs ys → IsComplete is_in ys zs → IsComplete is_in xs zs
complete_then xs ys zs first later n = later n ∙ first n

pub picked_order : (xs ys left : List Context) → ArePicked xs ys left → IsComplete is_in (intents xs) (intents (ys ++ left))
picked_order xs [] left are = λ n. ap (λ (zs : List Context). under is_in n (intents zs)) are
picked_order xs (y ∷ ys) left (at, are) =
    complete_then (intents xs) (intents (y ∷ (at.front ++ at.back))) (intents (y ∷ (ys ++ left))) (to_front xs y at)
    (complete_behind (intent_of y) (intents (at.front ++ at.back)) (intents (ys ++ left)) (picked_order (at.front ++ at.back) ys left are))

pub choice_order : (most : ℕ) (xs : List Context) → Ascends (map (λ x. x.place) xs)
    → IsComplete is_in (intents xs) (intents (choice most xs ++ left_by most xs))
choice_order most xs up = picked_order xs (choice most xs) (left_by most xs) (picked most xs up)

-- ---- what each of them has

turned : {A : Type 0} (front one back : List A) → IsPermutation (front ++ (one ++ back)) (one ++ (front ++ back))
turned front one back =
    subst (λ zs. IsPermutation zs (one ++ (front ++ back))) (append_assoc front one back)
    (subst (IsPermutation ((front ++ one) ++ back)) (append_assoc one front back)
    (IsPermutation-append_left back (front ++ one) (one ++ front) (IsPermutation-append_comm front one)))

pub flat_picked : {A : Type 0} (f : Context → List A) (xs ys left : List Context) → ArePicked xs ys left
    → IsPermutation (flat_map f xs) (flat_map f ys ++ flat_map f left)
flat_picked f xs [] left are = subst (λ (zs : List Context). IsPermutation (flat_map f xs) (flat_map f zs)) (sym are) (IsPermutation-refl (flat_map f xs))
flat_picked f xs (y ∷ ys) left (at, are) =
    subst (λ us. IsPermutation us (flat_map f (y ∷ ys) ++ flat_map f left)) (sym (ap (flat_map f) at.is ∙ flat_map-append f at.front (y ∷ at.back)))
    (subst (IsPermutation (flat_map f at.front ++ (f y ++ flat_map f at.back))) (sym (append_assoc (f y) (flat_map f ys) (flat_map f left)))
    (IsPermutation-trans (flat_map f at.front ++ (f y ++ flat_map f at.back)) (f y ++ (flat_map f at.front ++ flat_map f at.back))
    (f y ++ (flat_map f ys ++ flat_map f left)) (turned (flat_map f at.front) (f y) (flat_map f at.back))
    (IsPermutation-append_right (f y) (flat_map f at.front ++ flat_map f at.back) (flat_map f ys ++ flat_map f left)
    (subst (λ us. IsPermutation us (flat_map f ys ++ flat_map f left)) (flat_map-append f at.front at.back)
    (flat_picked f (at.front ++ at.back) ys left are)))))
