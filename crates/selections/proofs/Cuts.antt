-- Lists cut where an element passes a test.
use Rattle.std.proofs.Common.{◌≡◌, ◌⊎◌, inl, inr, Bool, true, false, cond, List, [], ◌∷◌, ◌++◌, refl, sym, ap, ◌∙◌}
use Rattle.std.specs.Prelude.{filter}

-- a list that ends in x, cut in two
pub snoc_cases : {A : Type 0} (ys zs rest : List A) (x : A) → ys ++ x ∷ [] ≡ zs ++ rest
    → ((rest ≡ []) × (zs ≡ ys ++ x ∷ [])) ⊎ ((init : List A) × (ys ≡ zs ++ init))
snoc_cases ys [] rest x e = inr (ys, refl)
snoc_cases [] (z ∷ []) [] x e = inl (refl, sym e)
snoc_cases [] (z ∷ []) (r ∷ rest) x e = absurd cc
snoc_cases [] (z ∷ w ∷ zs) rest x e = absurd cc
snoc_cases (y ∷ ys) (z ∷ zs) rest x e =
    let head : y ≡ z = cc in
    let tail : ys ++ x ∷ [] ≡ zs ++ rest = cc in
    elim (snoc_cases ys zs rest x tail) [
      | inl whole ↦ inl (whole.0, ap (λ l. z ∷ l) whole.1 ∙ ap (λ v. v ∷ (ys ++ x ∷ [])) (sym head))
      | inr more ↦ inr (more.0, ap (λ l. y ∷ l) more.1 ∙ ap (λ v. v ∷ (zs ++ more.0)) head)
    ]

-- lists that end in the same
pub same_end : {A : Type 0} (ys zs : List A) (x w : A) → ys ++ x ∷ [] ≡ zs ++ w ∷ [] → w ≡ x
same_end [] [] x w e = cc
same_end [] (z ∷ []) x w e = absurd cc
same_end [] (z ∷ z' ∷ zs) x w e = absurd cc
same_end (y ∷ []) [] x w e = absurd cc
same_end (y ∷ y' ∷ ys) [] x w e = absurd cc
same_end (y ∷ ys) (z ∷ zs) x w e = same_end ys zs x w cc

-- nothing, or one behind others
pub end_cases : {A : Type 0} (xs : List A) → (xs ≡ []) ⊎ ((ys : List A) × ((w : A) × (xs ≡ ys ++ w ∷ [])))
end_cases [] = inl refl
end_cases (x ∷ xs) = elim (end_cases xs) [
  | inl e ↦ inr ([], (x, ap (λ l. x ∷ l) e))
  | inr more ↦ inr (x ∷ more.0, (more.1.0, ap (λ l. x ∷ l) more.1.1))
]

pub not_empty : {A : Type 0} (ys : List A) (w : A) → ys ++ w ∷ [] ≡ [] → ⊥
not_empty [] w e = cc
not_empty (y ∷ ys) w e = cc

pub no_longer : {A : Type 0} (ys : List A) (x : A) (rest : List A) → ys ≡ ys ++ x ∷ rest → ⊥
no_longer [] x rest e = cc
no_longer (y ∷ ys) x rest e = no_longer ys x rest cc

-- what is put into an empty list is all of it
pub in_empty : {A : Type 0} (x : A) (front back : List A) → front ++ back ≡ [] → front ++ x ∷ back ≡ x ∷ []
in_empty x [] [] e = refl
in_empty x [] (b ∷ back) e = absurd cc
in_empty x (f ∷ front) back e = absurd cc

-- ---- filters

first_kept : {A : Type 0} (p : A → Bool) (c : Bool) (x : A) (xs : List A)
    → filter p (cond c (x ∷ xs) xs) ≡ cond c (cond (p x) (x ∷ filter p xs) (filter p xs)) (filter p xs)
first_kept p true x xs = refl
first_kept p false x xs = refl

both_tests : {A : Type 0} (b c : Bool) (x : A) (xs : List A) → cond c (cond b (x ∷ xs) xs) xs ≡ cond b (cond c (x ∷ xs) xs) xs
both_tests true true x xs = refl
both_tests true false x xs = refl
both_tests false true x xs = refl
both_tests false false x xs = refl

-- those that pass two tests, whichever is first
pub filters_turn : {A : Type 0} (p q : A → Bool) (xs : List A) → filter p (filter q xs) ≡ filter q (filter p xs)
filters_turn p q [] = refl
filters_turn p q (x ∷ xs) =
    first_kept p (q x) x (filter q xs)
    ∙ both_tests (p x) (q x) x (filter p (filter q xs))
    ∙ ap (λ l. cond (p x) (cond (q x) (x ∷ l) l) l) (filters_turn p q xs)
    ∙ sym (first_kept q (p x) x (filter p xs))

-- the last that passes a test, with those before it and those behind it
pub record SplitLast {A : Type 0} (p : A → Bool) (some ys : List A) (x : A) : Type 0 where
  pub front : List A
  pub back : List A
  pub is : some ≡ front ++ x ∷ back
  pub before : filter p front ≡ ys
  pub behind : filter p back ≡ []

pub split_last : {A : Type 0} (p : A → Bool) (some ys : List A) (x : A) → filter p some ≡ ys ++ x ∷ [] → SplitLast p some ys x
split_last p [] [] x e = absurd cc
split_last p [] (y ∷ ys) x e = absurd cc
split_last {A} p (s ∷ ss) ys x e = by_test (λ zs h. split_last p ss zs x h) (p s) refl ys e
  where
    by_test : ((zs : List A) → filter p ss ≡ zs ++ x ∷ [] → SplitLast p ss zs x) → (b : Bool) → p s ≡ b → (zs : List A)
        → cond (p s) (s ∷ filter p ss) (filter p ss) ≡ zs ++ x ∷ [] → SplitLast p (s ∷ ss) zs x
    by_test again true t [] h =
        let g : s ∷ filter p ss ≡ x ∷ [] = ap (λ b. cond b (s ∷ filter p ss) (filter p ss)) (sym t) ∙ h in
        let head : s ≡ x = cc in
        record { front = []; back = ss; is = ap (λ v. v ∷ ss) head; before = refl; behind = cc }
    by_test again true t (z ∷ zs) h =
        let g : s ∷ filter p ss ≡ z ∷ (zs ++ x ∷ []) = ap (λ b. cond b (s ∷ filter p ss) (filter p ss)) (sym t) ∙ h in
        let head : s ≡ z = cc in
        let tail : filter p ss ≡ zs ++ x ∷ [] = cc in
        let r : SplitLast p ss zs x = again zs tail in
        record {
          front = s ∷ r.front;
          back = r.back;
          is = ap (λ l. s ∷ l) r.is;
          before = ap (λ b. cond b (s ∷ filter p r.front) (filter p r.front)) t ∙ ap (λ l. s ∷ l) r.before ∙ ap (λ v. v ∷ zs) head;
          behind = r.behind;
        }
    by_test again false t zs h =
        let g : filter p ss ≡ zs ++ x ∷ [] = ap (λ b. cond b (s ∷ filter p ss) (filter p ss)) (sym t) ∙ h in
        let r : SplitLast p ss zs x = again zs g in
        record {
          front = s ∷ r.front;
          back = r.back;
          is = ap (λ l. s ∷ l) r.is;
          before = ap (λ b. cond b (s ∷ filter p r.front) (filter p r.front)) t ∙ r.before;
          behind = r.behind;
        }

-- the first that passes a test
pub record SplitFirst {A : Type 0} (p : A → Bool) (some zs : List A) (x : A) : Type 0 where
  pub front : List A
  pub back : List A
  pub is : some ≡ front ++ x ∷ back
  pub before : filter p front ≡ []
  pub behind : filter p back ≡ zs

pub split_first : {A : Type 0} (p : A → Bool) (some zs : List A) (x : A) → filter p some ≡ x ∷ zs → SplitFirst p some zs x
split_first p [] zs x e = absurd cc
split_first {A} p (s ∷ ss) zs x e = by_test (λ h. split_first p ss zs x h) (p s) refl
  where
    by_test : (filter p ss ≡ x ∷ zs → SplitFirst p ss zs x) → (b : Bool) → p s ≡ b → SplitFirst p (s ∷ ss) zs x
    by_test again true t =
        let g : s ∷ filter p ss ≡ x ∷ zs = ap (λ b. cond b (s ∷ filter p ss) (filter p ss)) (sym t) ∙ e in
        let head : s ≡ x = cc in
        record { front = []; back = ss; is = ap (λ v. v ∷ ss) head; before = refl; behind = cc }
    by_test again false t =
        let g : filter p ss ≡ x ∷ zs = ap (λ b. cond b (s ∷ filter p ss) (filter p ss)) (sym t) ∙ e in
        let r : SplitFirst p ss zs x = again g in
        record {
          front = s ∷ r.front;
          back = r.back;
          is = ap (λ l. s ∷ l) r.is;
          before = ap (λ b. cond b (s ∷ filter p r.front) (filter p r.front)) t ∙ r.before;
          behind = r.behind;
        }
