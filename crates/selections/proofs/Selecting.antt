-- Fair selections: fronts, more of them, one that comes last, and those of nothing and of one.
use Rattle.std.proofs.Common.{◌≡◌, ◌⊎◌, inl, inr, Bool, true, false, cond, filter, List, [], ◌∷◌, ◌++◌, refl, sym, ap, subst, ◌∙◌, append-nil}
use Rattle.std.proofs.Common.{append_assoc}
use Rattle.std.proofs.lemmas.List.{append_cancel_right}
use Rattle.std.proofs.lemmas.List.Elements.{filter-append}
use Rattle.std.specs.List.{AllByRecursion}
use Rattle.selections.specs.Fair.{under, IsFair, IsComplete, HasLast, EachHasName}
use Rattle.selections.proofs.Cuts.{snoc_cases, same_end, end_cases, not_empty, no_longer, in_empty, filters_turn, SplitLast, split_last}

all_under : {A : Type 0} (P : A → Type 0) (p : A → Bool) (xs : List A) → AllByRecursion P xs → AllByRecursion P (filter p xs)
all_under P p [] all = tt
all_under P p (x ∷ xs) all = of_test (p x) (all_under P p xs all.1)
  where
    of_test : (b : Bool) → AllByRecursion P (filter p xs) → AllByRecursion P (cond b (x ∷ filter p xs) (filter p xs))
    of_test true rest = (all.0, rest)
    of_test false rest = rest

all_front : {A : Type 0} (P : A → Type 0) (xs ys : List A) → AllByRecursion P (xs ++ ys) → AllByRecursion P xs
all_front P [] ys all = tt
all_front P (x ∷ xs) ys all = (all.0, all_front P xs ys all.1)

module _ {K A : Type 0} (on : K → A → Bool) where
  pub fair_nil : (all : List A) → IsFair on all []
  fair_nil all n = (under on n all, refl)

  pub complete_is_fair : (all some : List A) → IsComplete on all some → IsFair on all some
  complete_is_fair all some whole n = ([], sym (whole n) ∙ sym (append-nil (under on n some)))

  pub fair_all : (all : List A) → IsFair on all all
  fair_all all = complete_is_fair all all (λ n. refl)

  -- a front of a fair selection is one
  pub fair_front : (all xs ys : List A) → IsFair on all (xs ++ ys) → IsFair on all xs
  fair_front all xs ys fair n = (
    under on n ys ++ (fair n).0,
    (fair n).1 ∙ ap (λ l. l ++ (fair n).0) (filter-append (on n) xs ys) ∙ append_assoc (under on n xs) (under on n ys) (fair n).0,
  )

  -- behind a front that all of it is taken of
  pub fair_behind : (xs ys some : List A) → IsFair on ys some → IsFair on (xs ++ ys) (xs ++ some)
  fair_behind xs ys some fair n = (
    (fair n).0,
    filter-append (on n) xs ys ∙ ap (λ l. under on n xs ++ l) (fair n).1 ∙ sym (append_assoc (under on n xs) (under on n some) (fair n).0)
        ∙ ap (λ l. l ++ (fair n).0) (sym (filter-append (on n) xs some)),
  )

  -- it depends on the order within each name alone
  pub fair_among : (all all' some : List A) → IsComplete on all all' → IsFair on all some → IsFair on all' some
  fair_among all all' some same fair n = ((fair n).0, same n ∙ (fair n).1)

  -- what holds of nothing, and goes on with each that comes next, holds of each fair selection
  pub by_fronts : (all : List A) (P : List A → Type 0) → P []
      → ((some : List A) (x : A) → IsFair on all (some ++ x ∷ []) → P some → P (some ++ x ∷ []))
      → (some : List A) → IsFair on all some → P some
  by_fronts all P none more some fair = from [] some fair none
    where
      from : (front back : List A) → IsFair on all (front ++ back) → P front → P (front ++ back)
      from front [] fair p = subst P (sym (append-nil front)) p
      from front (x ∷ back) fair p =
          let same : (front ++ x ∷ []) ++ back ≡ front ++ x ∷ back = append_assoc front (x ∷ []) back in
          let fair' : IsFair on all ((front ++ x ∷ []) ++ back) = subst (IsFair on all) (sym same) fair in
          subst P same (from (front ++ x ∷ []) back fair' (more front x (fair_front all (front ++ x ∷ []) back fair') p))

  -- ---- a thing in front, at the end and inside, under a name that it has or hasn't

  pub own_first : (n : K) (x : A) (xs : List A) → on n x ≡ true → under on n (x ∷ xs) ≡ x ∷ under on n xs
  own_first n x xs t = ap (λ b. cond b (x ∷ under on n xs) (under on n xs)) t

  pub own_last : (n : K) (all : List A) (x : A) → on n x ≡ true → under on n (all ++ x ∷ []) ≡ under on n all ++ x ∷ []
  own_last n all x t = filter-append (on n) all (x ∷ []) ∙ ap (λ b. under on n all ++ cond b (x ∷ []) []) t

  pub other_last : (n : K) (all : List A) (x : A) → on n x ≡ false → under on n (all ++ x ∷ []) ≡ under on n all
  other_last n all x f = filter-append (on n) all (x ∷ []) ∙ ap (λ b. under on n all ++ cond b (x ∷ []) []) f ∙ append-nil (under on n all)

  pub other_inside : (n : K) (x : A) (front back : List A) → on n x ≡ false → under on n (front ++ x ∷ back) ≡ under on n (front ++ back)
  other_inside n x front back f = filter-append (on n) front (x ∷ back)
      ∙ ap (λ b. under on n front ++ cond b (x ∷ under on n back) (under on n back)) f ∙ sym (filter-append (on n) front back)

  -- ---- one that came last

  module _ (all : List A) (x : A) (some : List A) (fair : IsFair on (all ++ x ∷ []) some) where
    -- under a name of it all are selected, or a front of those before it
    whole_or_front : (n : K) → on n x ≡ true
        → (under on n some ≡ under on n all ++ x ∷ []) ⊎ ((rest : List A) × (under on n all ≡ under on n some ++ rest))
    whole_or_front n t = elim (snoc_cases (under on n all) (under on n some) (fair n).0 x (sym (own_last n all x t) ∙ (fair n).1)) [
      | inl whole ↦ inl whole.1
      | inr more ↦ inr more
    ]

    -- not the one under one of its names and the other under another: of those that have both names there would be too many
    not_both : (n m : K) → on m x ≡ true → under on n some ≡ under on n all ++ x ∷ [] → (rest : List A)
        → under on m all ≡ under on m some ++ rest → ⊥
    not_both n m t whole rest more =
        let both : under on m (under on n some) ≡ under on m (under on n all) ++ x ∷ [] =
        ap (under on m) whole ∙ own_last m (under on n all) x t in
        let too_many : under on m (under on n all) ≡ under on m (under on n all) ++ x ∷ under on n rest =
        filters_turn (on m) (on n) all ∙ ap (under on n) more ∙ filter-append (on n) (under on m some) rest
        ∙ ap (λ l. l ++ under on n rest) (filters_turn (on n) (on m) some ∙ both)
        ∙ append_assoc (under on m (under on n all)) (x ∷ []) (under on n rest) in
        no_longer (under on m (under on n all)) x (under on n rest) too_many

    -- fair under its names, and under all others
    fair_by : (some' : List A) → ((n : K) → on n x ≡ true → (rest : List A) × (under on n all ≡ under on n some' ++ rest))
        → ((n : K) → on n x ≡ false → under on n some' ≡ under on n some) → IsFair on all some'
    fair_by some' own others n = by_test (on n x) refl
      where
        by_test : (b : Bool) → on n x ≡ b → (rest : List A) × (under on n all ≡ under on n some' ++ rest)
        by_test true t = own n t
        by_test false f = ((fair n).0, sym (other_last n all x f) ∙ (fair n).1 ∙ ap (λ l. l ++ (fair n).0) (sym (others n f)))

    front_under_each : (n : K) → on n x ≡ true → (rest : List A) → under on n all ≡ under on n some ++ rest → IsFair on all some
    front_under_each n t rest more = fair_by some own (λ m f. refl)
      where
        own : (m : K) → on m x ≡ true → (rest' : List A) × (under on m all ≡ under on m some ++ rest')
        own m u = elim (whole_or_front m u) [
          | inl whole ↦ absurd (not_both m n t whole rest more)
          | inr front ↦ front
        ]

    module _ (n : K) (t : on n x ≡ true) (whole : under on n some ≡ under on n all ++ x ∷ []) where
      whole_under : (m : K) → on m x ≡ true → under on m some ≡ under on m all ++ x ∷ []
      whole_under m u = elim (whole_or_front m u) [
        | inl is ↦ is
        | inr more ↦ absurd (not_both n m u whole more.0 more.1)
      ]

      module _ (cut : SplitLast (on n) some (under on n all) x) where
        parts_under : (m : K) → on m x ≡ true → under on m all ++ x ∷ [] ≡ under on m cut.front ++ x ∷ under on m cut.back
        parts_under m u = sym (whole_under m u) ∙ ap (under on m) cut.is ∙ filter-append (on m) cut.front (x ∷ cut.back)
            ∙ ap (λ l. under on m cut.front ++ l) (own_first m x cut.back u)

        -- the last under another name is the same one, so it isn't behind
        not_behind : (m : K) → on m x ≡ true → (ys : List A) (w : A) → under on m cut.back ≡ ys ++ w ∷ [] → ⊥
        not_behind m u ys w e =
            let same : w ≡ x =
            same_end (under on m all) (under on m cut.front ++ x ∷ ys) x w
            (parts_under m u ∙ ap (λ l. under on m cut.front ++ x ∷ l) e ∙ sym (append_assoc (under on m cut.front) (x ∷ ys) (w ∷ []))) in
            let none : under on n ys ++ w ∷ [] ≡ [] =
            sym (own_last n ys w (ap (on n) same ∙ t)) ∙ ap (under on n) (sym e) ∙ filters_turn (on n) (on m) cut.back
            ∙ ap (under on m) cut.behind in
            not_empty (under on n ys) w none

        none_behind : (m : K) → on m x ≡ true → under on m cut.back ≡ []
        none_behind m u = elim (end_cases (under on m cut.back)) [
          | inl e ↦ e
          | inr more ↦ absurd (not_behind m u more.0 more.1.0 more.1.1)
        ]

        all_before : (m : K) → on m x ≡ true → under on m cut.front ≡ under on m all
        all_before m u = append_cancel_right (under on m cut.front) (under on m all) (x ∷ [])
            (sym (parts_under m u ∙ ap (λ l. under on m cut.front ++ x ∷ l) (none_behind m u)))

        rest_is_all : (m : K) → on m x ≡ true → under on m (cut.front ++ cut.back) ≡ under on m all
        rest_is_all m u = filter-append (on m) cut.front cut.back ∙ ap (λ l. under on m cut.front ++ l) (none_behind m u)
            ∙ append-nil (under on m cut.front) ∙ all_before m u

        has_last : HasLast on all x some
        has_last = record {
          front = cut.front;
          back = cut.back;
          is = cut.is;
          without = fair_by (cut.front ++ cut.back)
              (λ m u. ([], sym (rest_is_all m u) ∙ sym (append-nil (under on m (cut.front ++ cut.back)))))
              (λ m f. sym (ap (under on m) cut.is ∙ other_inside m x cut.front cut.back f));
          behind = all_before;
          none = none_behind;
        }

    -- A fair selection among these and one that came last has it last of its names, or is fair among these.
    pub with_last : (n : K) → on n x ≡ true → IsFair on all some ⊎ HasLast on all x some
    with_last n t = elim (whole_or_front n t) [
      | inl whole ↦ inr (has_last n t whole (split_last (on n) some (under on n all) x whole))
      | inr more ↦ inl (front_under_each n t more.0 more.1)
    ]

  -- ---- none, and one

  module _ (named : EachHasName on) where
    -- of none nothing is fair but nothing
    pub fair_none : (some : List A) → IsFair on [] some → some ≡ []
    fair_none [] fair = refl
    fair_none (y ∷ ys) fair =
        let n : K = (named y).0 in
        let never : [] ≡ (y ∷ under on n ys) ++ (fair n).0 = (fair n).1 ∙ ap (λ l. l ++ (fair n).0) (own_first n y ys (named y).1) in
        absurd cc

    -- of one nothing is fair but nothing and that one
    pub fair_one : (x : A) (some : List A) → IsFair on (x ∷ []) some → (some ≡ []) ⊎ (some ≡ x ∷ [])
    fair_one x some fair = elim (with_last [] x some fair (named x).0 (named x).1) [
      | inl others ↦ inl (fair_none some others)
      | inr last ↦ inr (last.is ∙ in_empty x last.front last.back (fair_none (last.front ++ last.back) last.without))
    ]

    -- so what holds of nothing, and of that one, holds of each
    pub each_of_none : (P : List A → Type 0) → P [] → (some : List A) → IsFair on [] some → P some
    each_of_none P none some fair = subst P (sym (fair_none some fair)) none

    pub each_of_one : (x : A) (P : List A → Type 0) → P [] → P (x ∷ []) → (some : List A) → IsFair on (x ∷ []) some → P some
    each_of_one x P none one some fair = elim (fair_one x some fair) [
      | inl e ↦ subst P (sym e) none
      | inr e ↦ subst P (sym e) one
    ]

    -- ---- what holds of each

    named_all : (P : A → Type 0) (ys : List A) → ((n : K) → AllByRecursion P (under on n ys)) → AllByRecursion P ys
    named_all P [] all = tt
    named_all P (y ∷ ys) all =
        let own : (n : K) × (on n y ≡ true) = named y in
        ((subst (AllByRecursion P) (own_first own.0 y ys own.1) (all own.0)).0, named_all P ys (λ n. of_test n (on n y) (all n)))
      where
        of_test : (n : K) (b : Bool) → AllByRecursion P (cond b (y ∷ under on n ys) (under on n ys)) → AllByRecursion P (under on n ys)
        of_test n true rest = rest.1
        of_test n false rest = rest

    -- what holds of all holds of those that are selected
    pub all_selected : (P : A → Type 0) (all some : List A) → IsFair on all some → AllByRecursion P all → AllByRecursion P some
    all_selected P all some fair holds = named_all P some (λ n. all_front P (under on n some) (fair n).0
        (subst (AllByRecursion P) (fair n).1 (all_under P (on n) all holds)))
