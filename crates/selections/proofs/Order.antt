-- The order between names doesn't matter to what lists come to, where things that share no name commute.
use Rattle.std.proofs.Common.{◌≡◌, Bool, true, false, cond, List, [], ◌∷◌, ◌++◌, refl, sym, ap, subst, ◌∙◌}
use Rattle.std.specs.Prelude.{fold}
use Rattle.std.specs.List.{AllByRecursion}
use Rattle.std.proofs.lemmas.List.Elements.{filter-append}
use Rattle.selections.specs.Fair.{under, ShareNoName, EachHasName}
use Rattle.selections.proofs.Cuts.{SplitFirst, split_first}
use Rattle.selections.proofs.Selecting.{complete_is_fair, own_first, fair_none}

-- both with one in front, or both without
tails : {A : Type 0} (b : Bool) (x : A) (xs ys : List A) → cond b (x ∷ xs) xs ≡ cond b (x ∷ ys) ys → xs ≡ ys
tails true x xs ys e = cc
tails false x xs ys e = e

not_first : {A : Type 0} (b : Bool) (y : A) (ys : List A) → cond b (y ∷ ys) ys ≡ [] → (b ≡ false) × (ys ≡ [])
not_first true y ys e = absurd cc
not_first false y ys e = (refl, e)

swap : {A : Type 0} (b : Bool) (fs bs : List A) (x : A) → (b ≡ true → fs ≡ []) → fs ++ cond b (x ∷ bs) bs ≡ cond b (x ∷ (fs ++ bs)) (fs ++ bs)
swap true fs bs x h = subst (λ l. l ++ x ∷ bs ≡ x ∷ (l ++ bs)) (sym (h refl)) refl
swap false fs bs x h = refl

-- what holds of all holds of the first ones, and of those but for one
pub all_front : {A : Type 0} (P : A → Type 0) (xs ys : List A) → AllByRecursion P (xs ++ ys) → AllByRecursion P xs
all_front P [] ys all = tt
all_front P (x ∷ xs) ys all = (all.0, all_front P xs ys all.1)

all_without : {A : Type 0} (P : A → Type 0) (xs ys : List A) (x : A) → AllByRecursion P (xs ++ x ∷ ys) → AllByRecursion P (xs ++ ys)
all_without P [] ys x all = all.1
all_without P (y ∷ xs) ys x all = (all.0, all_without P xs ys x all.1)

-- something holds of all
pub each_is : {A : Type 0} (P : A → Type 0) → ((x : A) → P x) → (xs : List A) → AllByRecursion P xs
each_is P each [] = tt
each_is P each (x ∷ xs) = (each x, each_is P each xs)

module _ {K A : Type 0} (on : K → A → Bool) where
  -- none of these is under a name of x
  abbrev pub AreOfOthers : A → List A → Type 0
  AreOfOthers x ys = (n : K) → on n x ≡ true → under on n ys ≡ []

  -- one moves to the front of those of other names
  pub moved : (x : A) (front back : List A) → AreOfOthers x front → (n : K) → under on n (front ++ x ∷ back) ≡ under on n (x ∷ (front ++ back))
  moved x front back others n =
      filter-append (on n) front (x ∷ back)
      ∙ swap (on n x) (under on n front) (under on n back) x (others n)
      ∙ ap (λ l. cond (on n x) (x ∷ l) l) (sym (filter-append (on n) front back))

  -- what comes first under each of its names, and stands behind all others of one, stands behind all others of each
  first_under : (n m : K) (x : A) (front back rest : List A) → on n x ≡ true → under on n front ≡ []
      → under on m (front ++ x ∷ back) ≡ x ∷ rest → under on m front ≡ []
  first_under n m x [] back rest has none first = refl
  first_under n m x (z ∷ front) back rest has none first =
      by_test (on m z) refl (λ e. first_under n m x front back rest has (not_first (on n z) z (under on n front) none).1 e)
    where
      by_test : (b : Bool) → on m z ≡ b → (under on m (front ++ x ∷ back) ≡ x ∷ rest → under on m front ≡ []) → under on m (z ∷ front) ≡ []
      by_test true t again =
          let e : z ∷ under on m (front ++ x ∷ back) ≡ x ∷ rest =
          ap (λ b. cond b (z ∷ under on m (front ++ x ∷ back)) (under on m (front ++ x ∷ back))) (sym t) ∙ first in
          let same : z ≡ x = cc in
          let never : true ≡ false = sym has ∙ sym (ap (on n) same) ∙ (not_first (on n z) z (under on n front) none).0 in
          absurd cc
      by_test false t again =
          let e : under on m (front ++ x ∷ back) ≡ x ∷ rest =
          ap (λ b. cond b (z ∷ under on m (front ++ x ∷ back)) (under on m (front ++ x ∷ back))) (sym t) ∙ first in
          ap (λ b. cond b (z ∷ under on m front) (under on m front)) t ∙ again e

  -- ---- a fold by which those of some things that share no name commute

  module _ {S : Type 0} (f : S → A → S) (Inv : S → Type 0) (Is : A → Type 0) (kept : (s : S) (x : A) → Is x → Inv s → Inv (f s x))
      (commute : (s : S) (x y : A) → Is x → Is y → Inv s → ShareNoName on x y → f (f s y) x ≡ f (f s x) y) where
    fold_moved : (s : S) (x : A) (front back : List A) → Is x → AllByRecursion Is front → Inv s → AreOfOthers x front
        → fold f s (front ++ x ∷ back) ≡ fold f s (x ∷ (front ++ back))
    fold_moved s x [] back is all inv others = refl
    fold_moved s x (y ∷ front) back is all inv others =
        fold_moved (f s y) x front back is all.1 (kept s y all.0 inv) (λ n t. (not_first (on n y) y (under on n front) (others n t)).1)
        ∙ ap (λ r. fold f r (front ++ back))
        (commute s x y is all.0 inv (λ n t. (not_first (on n y) y (under on n front) (others n t)).0))

    -- two lists with the same order within each name
    pub fold_alike : EachHasName on → (s : S) (xs ys : List A) → AllByRecursion Is xs → AllByRecursion Is ys → Inv s
        → ((n : K) → under on n xs ≡ under on n ys) → fold f s xs ≡ fold f s ys
    fold_alike named s [] ys all all_ys inv alike =
        ap (fold f s) (sym (fair_none on named ys (complete_is_fair on [] ys (λ n. sym (alike n)))))
    fold_alike named s (x ∷ xs) ys all all_ys inv alike =
        let n : K = (named x).0 in
        let has : on n x ≡ true = (named x).1 in
        let cut : SplitFirst (on n) ys (under on n xs) x = split_first (on n) ys (under on n xs) x (sym (alike n) ∙ own_first on n x xs has) in
        let others : AreOfOthers x cut.front =
        λ m t. first_under n m x cut.front cut.back (under on m xs) has cut.before
        (sym (ap (under on m) cut.is) ∙ sym (alike m) ∙ own_first on m x xs t) in
        let rest : (m : K) → under on m xs ≡ under on m (cut.front ++ cut.back) =
        λ m. tails (on m x) x (under on m xs) (under on m (cut.front ++ cut.back))
        (alike m ∙ ap (under on m) cut.is ∙ moved x cut.front cut.back others m) in
        let all_cut : AllByRecursion Is (cut.front ++ x ∷ cut.back) = subst (AllByRecursion Is) cut.is all_ys in
        fold_alike named (f s x) xs (cut.front ++ cut.back) all.1 (all_without Is cut.front cut.back x all_cut) (kept s x all.0 inv) rest
        ∙ sym (fold_moved s x cut.front cut.back all.0 (all_front Is cut.front (x ∷ cut.back) all_cut) inv others) ∙ ap (fold f s) (sym cut.is)
