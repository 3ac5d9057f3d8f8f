-- Lists of this kind joined, and that there is one at most.
use Rattle.std.proofs.Common.{◌≡◌, ◌↔◌, ◌⊎◌, inl, inr, ℕ, ◌<◌, arith, List, [], ◌∷◌, ◌++◌, refl, sym, ap₂, subst, ◌∙◌}
use Rattle.std.specs.List.{AllByRecursion}
use Rattle.ordered_lists.specs.Lists.{IsIn, Ascend, ListsAll}

-- ---- membership

pub in_front : {A : Type 0} (x : A) (xs ys : List A) → IsIn x xs → IsIn x (xs ++ ys)
in_front x [] ys is = absurd is
in_front x (y ∷ xs) ys (inl same) = inl same
in_front x (y ∷ xs) ys (inr is) = inr (in_front x xs ys is)

pub in_back : {A : Type 0} (x : A) (xs ys : List A) → IsIn x ys → IsIn x (xs ++ ys)
in_back x [] ys is = is
in_back x (y ∷ xs) ys is = inr (in_back x xs ys is)

pub each_in : {A : Type 0} (P : A → Type 0) (xs : List A) (x : A) → AllByRecursion P xs → IsIn x xs → P x
each_in P [] x all is = absurd is
each_in P (y ∷ xs) x all (inl same) = subst P same all.0
each_in P (y ∷ xs) x all (inr is) = each_in P xs x all.1 is

pub all_joined : {A : Type 0} (P : A → Type 0) (xs ys : List A) → AllByRecursion P xs → AllByRecursion P ys → AllByRecursion P (xs ++ ys)
all_joined P [] ys a b = b
all_joined P (x ∷ xs) ys a b = (a.0, all_joined P xs ys a.1 b)

pub all_as : {A : Type 0} (P Q : A → Type 0) → ((x : A) → P x → Q x) → (xs : List A) → AllByRecursion P xs → AllByRecursion Q xs
all_as P Q more [] all = tt
all_as P Q more (x ∷ xs) all = (more x all.0, all_as P Q more xs all.1)

-- ---- lists of all

module _ {A : Type 0} (Before : A → A → Type 0) where
  ascend_joined : (xs ys : List A) → Ascend Before xs → Ascend Before ys → AllByRecursion (λ x. AllByRecursion (Before x) ys) xs → Ascend Before (xs ++ ys)
  ascend_joined [] ys a b apart = b
  ascend_joined (x ∷ xs) ys a b apart = (all_joined (Before x) xs ys a.0 apart.0, ascend_joined xs ys a.1 b apart.1)

  pub lists_none : (P : A → Type 0) → ((x : A) → P x → ⊥) → ListsAll Before P []
  lists_none P none = record { ascend = tt; each = tt; all = λ x p. none x p }

  pub lists_one : (P : A → Type 0) (y : A) → P y → ((x : A) → P x → y ≡ x) → ListsAll Before P (y ∷ [])
  lists_one P y is only = record { ascend = (tt, tt); each = (is, tt); all = λ x p. inl (only x p) }

  pub lists_as : (P Q : A → Type 0) (xs : List A) → ((x : A) → P x ↔ Q x) → ListsAll Before P xs → ListsAll Before Q xs
  lists_as P Q xs same l = record { ascend = l.ascend; each = all_as P Q (λ x p. (same x).0 p) xs l.each; all = λ x q. l.all x ((same x).1 q) }

  -- those of two kinds, the first of which come before the second ones
  pub lists_joined : (P Q R : A → Type 0) (xs ys : List A) → ListsAll Before P xs → ListsAll Before Q ys
      → ((x y : A) → P x → Q y → Before x y) → ((x : A) → P x → R x) → ((x : A) → Q x → R x) → ((x : A) → R x → P x ⊎ Q x) → ListsAll Before R (xs ++ ys)
  lists_joined P Q R xs ys p q apart first second either = record {
    ascend = ascend_joined xs ys p.ascend q.ascend
        (all_as P (λ x. AllByRecursion (Before x) ys) (λ x is. all_as Q (Before x) (λ y its. apart x y is its) ys q.each) xs p.each);
    each = all_joined R xs ys (all_as P R first xs p.each) (all_as Q R second ys q.each);
    all = λ x r. elim (either x r) [ inl is ↦ in_front x xs ys (p.all x is) | inr is ↦ in_back x xs ys (q.all x is) ];
  }

  -- ---- one at most

  module _ (apart : (x y : A) → Before x y → Before y x → ⊥) where
    same_lists : (xs ys : List A) → Ascend Before xs → Ascend Before ys → ((z : A) → IsIn z xs → IsIn z ys) → ((z : A) → IsIn z ys → IsIn z xs) → xs ≡ ys
    same_lists [] [] a b to back = refl
    same_lists [] (y ∷ ys) a b to back = absurd (back y (inl refl))
    same_lists (x ∷ xs) [] a b to back = absurd (to x (inl refl))
    same_lists (x ∷ xs) (y ∷ ys) a b to back =
        let heads : x ≡ y = elim (to x (inl refl)) [
          | inl same ↦ sym same
          | inr in_ys ↦ elim (back y (inl refl)) [
            | inl same ↦ same
            | inr in_xs ↦ absurd (apart x y (each_in (Before x) xs y a.0 in_xs) (each_in (Before y) ys x b.0 in_ys))
          ]
        ] in
        ap₂ (λ (h : A) (t : List A). h ∷ t) heads (same_lists xs ys a.1 b.1
        (λ z is. elim (to z (inr is)) [
          | inr later ↦ later
          | inl same ↦ absurd (let me : IsIn x xs = subst (λ (v : A). IsIn v xs) (sym (heads ∙ same)) is in let before = each_in (Before x) xs x a.0 me in apart x x before before)
        ])
        (λ z is. elim (back z (inr is)) [
          | inr later ↦ later
          | inl same ↦ absurd (let me : IsIn y ys = subst (λ (v : A). IsIn v ys) (sym same ∙ heads) is in let before = each_in (Before y) ys y b.0 me in apart y y before before)
        ]))

    pub one_list : (P : A → Type 0) (xs ys : List A) → ListsAll Before P xs → ListsAll Before P ys → xs ≡ ys
    one_list P xs ys p q = same_lists xs ys p.ascend q.ascend (λ z is. q.all z (each_in P xs z p.each is)) (λ z is. p.all z (each_in P ys z q.each is))

-- of numbers
pub same_numbers : (xs ys : List ℕ) → Ascend (λ a b. a < b) xs → Ascend (λ a b. a < b) ys → ((x : ℕ) → IsIn x xs ↔ IsIn x ys) → xs ≡ ys
same_numbers xs ys a b same = same_lists (λ (x : ℕ) (y : ℕ). x < y) (λ x y lt gt. omega (arith, lt, gt)) xs ys a b (λ z is. (same z).0 is) (λ z is. (same z).1 is)
