-- The newest context behind older ones: where it has the place of a call, and where it hasn't.
use Rattle.std.proofs.Common.{◌≡◌, ℕ, ◌+◌, ◌<◌, ◌≤◌, ◌==◌, not, Bool, true, false, cond, List, [], ◌∷◌, ◌++◌, Option, Some, None, sym, ap, subst, ◌∙◌, append-nil, arith}
use Rattle.std.proofs.lemmas.Bool.{ne_eqb, eqb-true, false≢true}
use Rattle.store_steps.specs.declared.context.Context.{Context}
use Rattle.store_steps.specs.Prelude.{with_context, without_context}
use Rattle.waiting_contexts.specs.Places.{IsAboveAll, IsNewest, context_at, with_newest, is_newest_at}
use Rattle.waiting_contexts.specs.Unsent.{PlacesAscend}
use Rattle.waiting_contexts.proofs.StepLemmas.{at_last}
use Rattle.waiting_contexts.proofs.TiedLemmas.{goes_last}

-- ---- places

pub above_push : (p : ℕ) (xs : List Context) (x : Context) → IsAboveAll p xs → x.place < p → IsAboveAll p (xs ++ x ∷ [])
above_push p [] x above lt = (lt, tt)
above_push p (y ∷ ys) x above lt = (above.0, above_push p ys x above.1 lt)

pub above_last : (p : ℕ) (xs : List Context) (x : Context) → IsAboveAll p (xs ++ x ∷ []) → x.place < p
above_last p [] x above = above.0
above_last p (y ∷ ys) x above = above_last p ys x above.1

pub above_front : (p : ℕ) (xs ys : List Context) → IsAboveAll p (xs ++ ys) → IsAboveAll p xs
above_front p [] ys above = tt
above_front p (x ∷ xs) ys above = (above.0, above_front p xs ys above.1)

above_with_by : (b : Bool) (p : ℕ) (x y : Context) → y.place ≡ x.place → x.place < p → (cond b y x).place < p
above_with_by true p x y same lt = omega (arith, same, lt)
above_with_by false p x y same lt = lt

pub above_with : (p place : ℕ) (f : Context → Context) (xs : List Context) → ((z : Context) → (f z).place ≡ z.place) → IsAboveAll p xs → IsAboveAll p (with_context place f xs)
above_with p place f [] same above = tt
above_with p place f (x ∷ xs) same above = (above_with_by (x.place == place) p x (f x) (same x) above.0, above_with p place f xs same above.1)

above_without_by : (b : Bool) (p : ℕ) (x : Context) (rest : List Context) → x.place < p → IsAboveAll p rest → IsAboveAll p (cond (not b) (x ∷ rest) rest)
above_without_by true p x rest lt above = above
above_without_by false p x rest lt above = (lt, above)

pub above_without : (p place : ℕ) (xs : List Context) → IsAboveAll p xs → IsAboveAll p (without_context place xs)
above_without p place [] above = tt
above_without p place (x ∷ xs) above = above_without_by (x.place == place) p x (without_context place xs) above.0 (above_without p place xs above.1)

pub newest_with : (place : ℕ) (f : Context → Context) (newest : Option Context) (xs : List Context) → ((z : Context) → (f z).place ≡ z.place) → IsNewest newest xs
    → IsNewest newest (with_context place f xs)
newest_with place f None xs same above = tt
newest_with place f (Some x) xs same above = above_with x.place place f xs same above

pub newest_without : (place : ℕ) (newest : Option Context) (xs : List Context) → IsNewest newest xs → IsNewest newest (without_context place xs)
newest_without place None xs above = tt
newest_without place (Some x) xs above = above_without x.place place xs above

ascend_push : (least : ℕ) (xs : List Context) (x : Context) → PlacesAscend least xs → least ≤ x.place → IsAboveAll x.place xs → PlacesAscend least (xs ++ x ∷ [])
ascend_push least [] x up le above = (le, tt)
ascend_push least (y ∷ ys) x up le above = (up.0, ascend_push (y.place + 1) ys x up.1 (omega (arith, above.0)) above.1)

pub newest_ascends : (newest : Option Context) (xs : List Context) → PlacesAscend 0 xs → IsNewest newest xs → PlacesAscend 0 (with_newest newest xs)
newest_ascends None xs up above = subst (λ (ys : List Context). PlacesAscend 0 ys) (sym (append-nil xs)) up
newest_ascends (Some x) xs up above = ascend_push 0 xs x up (omega arith) above

-- ---- it has the place

pub is_found : (place : ℕ) (newest : Option Context) (xs : List Context) → IsNewest newest xs → is_newest_at place newest ≡ true
    → newest ≡ context_at place (with_newest newest xs)
is_found place None xs above is = absurd (false≢true is)
is_found place (Some x) xs above is = subst (λ (p : ℕ). Some x ≡ context_at p (xs ++ x ∷ [])) (eqb-true x.place place is) (sym (at_last xs x above))

pub changes_newest : (place : ℕ) (f : Context → Context) (x : Context) (xs : List Context) → IsAboveAll x.place xs → (x.place == place) ≡ true
    → with_newest (Some (f x)) xs ≡ with_context place f (with_newest (Some x) xs)
changes_newest place f x [] above is = ap (λ (b : Bool). cond b (f x) x ∷ []) (sym is)
changes_newest place f x (y ∷ ys) above is =
    ap (λ (l : List Context). y ∷ l) (changes_newest place f x ys above.1 is)
    ∙ ap (λ (b : Bool). cond b (f y) y ∷ with_context place f (ys ++ x ∷ [])) (sym (ne_eqb y.place place (λ e. absurd (omega (arith, e, above.0, eqb-true x.place place is)))))

pub newest_goes : (place : ℕ) (newest : Option Context) (xs : List Context) → IsNewest newest xs → is_newest_at place newest ≡ true
    → with_newest None xs ≡ without_context place (with_newest newest xs)
newest_goes place None xs above is = absurd (false≢true is)
newest_goes place (Some x) xs above is =
    let same : x.place ≡ place = eqb-true x.place place is in
    append-nil xs ∙ sym (goes_last place xs x same (subst (λ (p : ℕ). IsAboveAll p xs) same above))

-- ---- it hasn't

pub is_not_found : (place : ℕ) (newest : Option Context) (xs : List Context) → is_newest_at place newest ≡ false
    → context_at place xs ≡ context_at place (with_newest newest xs)
is_not_found place None xs is = ap (context_at place) (sym (append-nil xs))
is_not_found place (Some x) [] is = ap (λ (b : Bool). cond b (Some x) None) (sym is)
is_not_found place (Some x) (y ∷ ys) is = ap (λ (o : Option Context). cond (y.place == place) (Some y) o) (is_not_found place (Some x) ys is)

pub changes_older : (place : ℕ) (f : Context → Context) (newest : Option Context) (xs : List Context) → is_newest_at place newest ≡ false
    → with_newest newest (with_context place f xs) ≡ with_context place f (with_newest newest xs)
changes_older place f None xs is = append-nil (with_context place f xs) ∙ ap (with_context place f) (sym (append-nil xs))
changes_older place f (Some x) [] is = ap (λ (b : Bool). cond b (f x) x ∷ []) (sym is)
changes_older place f (Some x) (y ∷ ys) is = ap (λ (l : List Context). cond (y.place == place) (f y) y ∷ l) (changes_older place f (Some x) ys is)

older_goes_by : (b : Bool) (y : Context) (l m n : List Context) → l ++ n ≡ m → cond (not b) (y ∷ l) l ++ n ≡ cond (not b) (y ∷ m) m
older_goes_by true y l m n is = is
older_goes_by false y l m n is = ap (λ (k : List Context). y ∷ k) is

pub older_goes : (place : ℕ) (newest : Option Context) (xs : List Context) → is_newest_at place newest ≡ false
    → with_newest newest (without_context place xs) ≡ without_context place (with_newest newest xs)
older_goes place None xs is = append-nil (without_context place xs) ∙ ap (without_context place) (sym (append-nil xs))
older_goes place (Some x) [] is = ap (λ (b : Bool). cond (not b) (x ∷ []) []) (sym is)
older_goes place (Some x) (y ∷ ys) is =
    older_goes_by (y.place == place) y (without_context place ys) (without_context place (ys ++ x ∷ [])) (x ∷ []) (older_goes place (Some x) ys is)

-- ---- by what is seen of both

pub newest_there : (place : ℕ) (newest : Option Context) (xs now : List Context) (x : Context) → IsNewest newest xs → is_newest_at place newest ≡ true → newest ≡ Some x
    → with_newest newest xs ≡ now → context_at place now ≡ Some x
newest_there place newest xs now x above is there view =
    sym (ap (context_at place) view) ∙ sym (is_found place newest xs above is) ∙ there

pub older_there : (place : ℕ) (newest : Option Context) (xs now : List Context) → is_newest_at place newest ≡ false → with_newest newest xs ≡ now
    → context_at place xs ≡ context_at place now
older_there place newest xs now is view = is_not_found place newest xs is ∙ ap (context_at place) view

pub newest_changes : (place : ℕ) (f : Context → Context) (newest : Option Context) (xs now : List Context) (x y : Context) → IsNewest newest xs
    → is_newest_at place newest ≡ true → newest ≡ Some x → y ≡ f x → with_newest newest xs ≡ now → with_newest (Some y) xs ≡ with_context place f now
newest_changes place f newest xs now x y above is there same view =
    let its : IsAboveAll x.place xs = subst (λ (o : Option Context). IsNewest o xs) there above in
    let at : (x.place == place) ≡ true = subst (λ (o : Option Context). is_newest_at place o ≡ true) there is in
    ap (λ (z : Context). with_newest (Some z) xs) same
    ∙ changes_newest place f x xs its at
    ∙ ap (λ (o : Option Context). with_context place f (with_newest o xs)) (sym there)
    ∙ ap (with_context place f) view

pub older_changes : (place : ℕ) (f : Context → Context) (newest : Option Context) (xs ys now : List Context) → is_newest_at place newest ≡ false
    → ys ≡ with_context place f xs → with_newest newest xs ≡ now → with_newest newest ys ≡ with_context place f now
older_changes place f newest xs ys now is changed view =
    ap (with_newest newest) changed ∙ changes_older place f newest xs is ∙ ap (with_context place f) view
