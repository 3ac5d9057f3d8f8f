-- A transaction that is accepted while others are under way: each is planned over the rows of every fair selection before it.
use Rattle.std.proofs.Common.{◌≡◌, inl, inr, ℕ, ◌<◌, ◌≤◌, ◌^◌, true, List, [], ◌∷◌, ◌++◌, Contains, Option, Some, None, refl, sym, ap, subst, ◌∙◌, append-nil, append_assoc, arith}
use Rattle.std.specs.List.{AllByRecursion}
use Rattle.std.specs.Prelude.{IsSome}
use Rattle.std.specs.FinMap as finite
use Rattle.std.proofs.lemmas.List.Elements.{filter-append}
use Rattle.meta_rows.specs.Prelude.{Rows, rows_after}
use Rattle.meta_log.specs.declared.slot.Super.{Super}
use Rattle.meta_log.specs.Prelude.{width_of, IsSuper}
use Rattle.bitmap_freelist.specs.Bitmap.{AreBitmapRows}
use Rattle.bitmap_freelist.proofs.GoodBitmaps.{bitmap_rows}
use Rattle.store_image.specs.Prelude.{IsMarked}
use Rattle.row_format.specs.Prelude.{shared_key}
use Rattle.plan_rows.specs.Prelude.{AreAtHome, ChangesBlob, MakesBlob, AgreeOn, AgreeOnBlobs, IsGood, Suits}
use Rattle.plan_rows.proofs.Homes.{named_there}
use Rattle.plan_rows.proofs.Apart.{IsOwn, kept_apart, changed_own, blobs_apart}
use Rattle.plan_rows.proofs.Agreeing.{agree_back, keeps_over}
use Rattle.selections.specs.Fair.{under, IsFair, HasLast, ShareNoName}
use Rattle.selections.proofs.Cuts.{end_cases}
use Rattle.selections.proofs.Selecting.{fair_front, fair_all, with_last}
use Rattle.store_steps.specs.Prelude.{Intent, names_in, is_in, plan_of, rows_by, taken_by, IsPlannedOver, EachIsPlanned, AreTakenApart, HaveHomes, CanJoin}
use Rattle.space_facts.proofs.Lists.{all_rest, all_join, listed_all, all_listed, in_or_not, same_ends, times, times_none, times_ascending}
use Rattle.space_facts.proofs.Rows.{is_own, none_shared, rows_append, taken_append, IsOf, part_by, agree_by, move_last, share_none}
use Rattle.space_facts.proofs.Making.{home_with, home_made, home_kept, of_other}
use Rattle.space_facts.proofs.Selected.{units_of, taken_last, times_taken, selected_taken, plan_unmarked, keeps_on_data, small_of, at_home, last_of, selected_of, selection_good, idle_unmarked}

none_in_front : {A : Type 0} (xs ys : List A) → xs ++ ys ≡ [] → xs ≡ []
none_in_front [] ys e = refl
none_in_front (x ∷ xs) ys e = absurd cc

module _ (sup : Super) (rows : Rows) (xs : List Intent) (x : Intent) (limits : IsSuper sup) (good : IsGood sup rows)
    (each : EachIsPlanned sup rows xs) (apart : AreTakenApart rows xs) (first : HaveHomes (width_of sup) rows xs) (can : CanJoin sup rows xs x) where
  abbrev Fair : List Intent → Type 0
  Fair some = IsFair is_in xs some

  -- the blobs that it makes are at home in its collection, the others where they were
  abbrev home : ℕ → List ℕ
  home = home_with (rows_by rows xs) x.ops x.coll first.home

  -- so are those of the others
  all_kept : (ys : List Intent) → ((sbid : ℕ) → MakesBlob (rows_by rows xs) x.ops sbid → AllByRecursion (λ y. ¬ ChangesBlob y.ops sbid) ys)
      → AllByRecursion (IsOf first.home) ys → AllByRecursion (IsOf home) ys
  all_kept [] none all = tt
  all_kept (y ∷ ys) none all = (
    of_other first.home home (names_in y) (units_of y) y.released y.ops all.0
        (λ sbid changes. home_kept (rows_by rows xs) x.ops x.coll first.home sbid (λ made. (none sbid made).0 changes)),
    all_kept ys (λ sbid made. (none sbid made).1) all.1,
  )

  homes_named : AreAtHome (width_of sup) home rows
  homes_named c sbid named = home_kept (rows_by rows xs) x.ops x.coll first.home sbid
      (λ made. no_row (finite.get rows (shared_key sbid)) (can.unmade sbid made).0 (named_there sup rows good.good c sbid named))
      ∙ first.named c sbid named
    where
      no_row : (z : Option (List ℕ)) → z ≡ None → IsSome z → ⊥
      no_row None none some = absurd cc
      no_row (Some v) none some = absurd cc

  homes_changed : AllByRecursion (IsOf home) xs
  homes_changed = all_kept xs (λ sbid made. (can.unmade sbid made).1) first.changed

  abbrev homes : HaveHomes (width_of sup) rows xs
  homes = record { home = home; named = homes_named; changed = homes_changed }

  of_x : IsOf home x
  of_x = can.keeps.of home (λ c sbid among named. at_home sup rows xs good each homes xs (fair_all is_in xs) c sbid named)
      (λ sbid made. ap (λ c. is_in c x) (home_made (rows_by rows xs) x.ops x.coll first.home sbid made) ∙ is_own x)

  of_all : AllByRecursion (IsOf home) xs
  of_all = homes.changed

  not_taken : (unit : ℕ) → Contains (units_of x) unit → ¬ Contains (taken_by xs) unit
  not_taken unit c = listed_all (λ u. ¬ Contains (taken_by xs) u) (units_of x) unit can.untaken c

  was_unmarked : (unit : ℕ) → Contains (units_of x) unit → ¬ IsMarked rows unit
  was_unmarked unit c = listed_all (λ u. ¬ IsMarked rows u) (units_of x) unit can.unmarked c

  -- its units aren't marked in any selection's rows
  stays_unmarked : (some : List Intent) → Fair some → (unit : ℕ) → Contains (units_of x) unit → ¬ IsMarked (rows_by rows some) unit
  stays_unmarked some fair unit c =
      let small : unit < 2 ^ 32 = small_of sup unit limits (keeps_on_data sup (names_in x) (rows_by rows xs) (plan_of x) can.keeps unit c) in
      idle_unmarked sup rows xs good each apart some fair unit small (was_unmarked unit c) (not_taken unit c)

  -- the rows of each selection that has all others of its collections suit it
  suits_there : (some : List Intent) → Fair some → ((n : List ℕ) → is_in n x ≡ true → under is_in n some ≡ under is_in n xs)
      → Suits (width_of sup) (names_in x) (rows_by rows xs) (plan_of x) (rows_by rows some)
  suits_there some fair whole = record {
    agree = agree_by (width_of sup) home (names_in x) rows some xs of_x.named (selected_of sup rows xs good each homes some fair) of_all
        (at_home sup rows xs good each homes some fair) whole;
    blobs = λ sbid changes.
        let own : IsOwn home (x.coll ∷ []) (shared_key sbid) = changed_own home (names_in x) (units_of x) x.released x.ops of_x sbid changes in
        part_by home x.coll (shared_key sbid) of_x.named.0 own rows some (selected_of sup rows xs good each homes some fair)
        ∙ ap (λ l. finite.get (rows_by rows l) (shared_key sbid)) (whole x.coll (is_own x))
        ∙ sym (part_by home x.coll (shared_key sbid) of_x.named.0 own rows xs of_all);
    unmarked = all_listed (λ u. ¬ IsMarked (rows_by rows some) u) (units_of x) (λ u c. stays_unmarked some fair u c);
  }

  -- so it is planned over them
  planned_there : (some : List Intent) → Fair some → ((n : List ℕ) → is_in n x ≡ true → under is_in n some ≡ under is_in n xs)
      → IsPlannedOver sup (rows_by rows some) x
  planned_there some fair whole =
      let suits : Suits (width_of sup) (names_in x) (rows_by rows xs) (plan_of x) (rows_by rows some) = suits_there some fair whole in
      record {
        keeps = keeps_over sup (names_in x) (rows_by rows xs) (rows_by rows some) (plan_of x)
            (agree_back (width_of sup) (names_in x) (rows_by rows some) (rows_by rows xs) suits.agree)
            (λ sbid changes. sym (suits.blobs sbid changes)) can.keeps;
        unmarked = suits.unmarked;
      }

  -- in a selection that has it, it may come last
  module _ (front back : List Intent) (rest : Fair (front ++ back))
      (whole : (n : List ℕ) → is_in n x ≡ true → under is_in n front ≡ under is_in n xs)
      (none : (n : List ℕ) → is_in n x ≡ true → under is_in n back ≡ []) where
    pub joined_suits : Suits (width_of sup) (names_in x) (rows_by rows xs) (plan_of x) (rows_by rows (front ++ back))
    joined_suits = suits_there (front ++ back) rest (λ n t. filter-append (is_in n) front back
        ∙ ap (λ l. under is_in n front ++ l) (none n t) ∙ append-nil (under is_in n front) ∙ whole n t)

    pub joined_last : rows_by rows (front ++ x ∷ back) ≡ rows_after (rows_by rows (front ++ back)) x.ops
    joined_last =
        let table : AreBitmapRows (rows_by rows front) =
        bitmap_rows sup (rows_by rows front) (selection_good sup rows xs good each front (fair_front is_in xs front back rest)).good in
        let of_back : AllByRecursion (IsOf home) back = all_rest (IsOf home) front back (selected_of sup rows xs good each homes (front ++ back) rest) in
        rows_append rows front (x ∷ back) ∙ move_last home (rows_by rows front) x back of_x of_back (share_none x back none) table
        ∙ ap (λ r. rows_after r x.ops) (sym (rows_append rows front back))

  -- and another one behind it, that isn't in its collections, is planned as it was
  module _ (front back : List Intent) (y : Intent) (fair : Fair ((front ++ back) ++ y ∷ []))
      (whole : (n : List ℕ) → is_in n x ≡ true → under is_in n front ≡ under is_in n xs)
      (none : (n : List ℕ) → is_in n x ≡ true → under is_in n (back ++ y ∷ []) ≡ []) where
    rest : Fair (front ++ back)
    rest = fair_front is_in xs (front ++ back) (y ∷ []) fair

    none_back : (n : List ℕ) → is_in n x ≡ true → under is_in n back ≡ []
    none_back n t =
        none_in_front (under is_in n back) (under is_in n (y ∷ [])) (sym (filter-append (is_in n) back (y ∷ [])) ∙ none n t)

    share_last : ShareNoName is_in x y
    share_last = (all_rest (ShareNoName is_in x) back (y ∷ []) (share_none x (back ++ y ∷ []) none)).0

    abbrev before : Rows
    before = rows_by rows (front ++ back)

    abbrev after : Rows
    after = rows_after before x.ops

    py : IsPlannedOver sup before y
    py = each (front ++ back) y fair

    unmarked_then : (unit : ℕ) → Contains (units_of y) unit → ¬ IsMarked after unit
    unmarked_then unit c =
        let small : unit < 2 ^ 32 = small_of sup unit limits (keeps_on_data sup (names_in y) before (plan_of y) py.keeps unit c) in
        let out : ¬ IsMarked before unit = listed_all (λ u. ¬ IsMarked before u) (units_of y) unit py.unmarked c in
        let other : ¬ Contains (units_of x) unit =
        λ d. not_taken unit d (selected_taken xs ((front ++ back) ++ y ∷ []) fair unit (taken_last (front ++ back) y unit c)) in
        plan_unmarked sup (names_in x) (rows_by rows xs) (plan_of x) can.keeps before (joined_suits front back rest whole none_back)
        (selection_good sup rows xs good each (front ++ back) rest) unit small out other

    agree_then : AgreeOn (width_of sup) (names_in y) before after
    agree_then = agree_back (width_of sup) (names_in y) after before
        (kept_apart (width_of sup) home (names_in x) (names_in y) (units_of x) x.released before x.ops
        (at_home sup rows xs good each homes (front ++ back) rest) of_x (last_of sup rows xs good each homes (front ++ back) y fair).named
        (none_shared x y share_last))

    blobs_then : AgreeOnBlobs y.ops before after
    blobs_then sbid changes = sym (blobs_apart home (names_in x) (names_in y) (units_of x) x.released (units_of y) y.released before x.ops y.ops of_x
        (last_of sup rows xs good each homes (front ++ back) y fair) (none_shared x y share_last) sbid changes)

    behind_it : IsPlannedOver sup (rows_by rows (front ++ x ∷ back)) y
    behind_it = subst (λ r. IsPlannedOver sup r y) (sym (joined_last front back rest whole none_back)) (record {
      keeps = keeps_over sup (names_in y) before after (plan_of y) agree_then blobs_then py.keeps;
      unmarked = all_listed (λ u. ¬ IsMarked after u) (units_of y) unmarked_then;
    })

  -- so each is planned among them and the new one
  with_it : (some : List Intent) (y : Intent) → HasLast is_in xs x (some ++ y ∷ []) → IsPlannedOver sup (rows_by rows some) y
  with_it some y has = elim (end_cases has.back) [
    | inl none ↦
        let two : (some ≡ has.front) × (y ≡ x) = same_ends some has.front y x (has.is ∙ ap (λ l. has.front ++ x ∷ l) none) in
        let front_fair : Fair has.front = subst Fair (ap (λ l. has.front ++ l) none ∙ append-nil has.front) has.without in
        subst (λ z. IsPlannedOver sup (rows_by rows some) z) (sym two.1)
        (subst (λ l. IsPlannedOver sup (rows_by rows l) x) (sym two.0) (planned_there has.front front_fair has.behind))
    | inr last ↦
        let two : (some ≡ has.front ++ x ∷ last.0) × (y ≡ last.1.0) =
        same_ends some (has.front ++ x ∷ last.0) y last.1.0
        (has.is ∙ ap (λ l. has.front ++ x ∷ l) last.1.1 ∙ sym (append_assoc has.front (x ∷ last.0) (last.1.0 ∷ []))) in
        let fair : Fair ((has.front ++ last.0) ++ last.1.0 ∷ []) =
        subst Fair (ap (λ l. has.front ++ l) last.1.1 ∙ sym (append_assoc has.front last.0 (last.1.0 ∷ []))) has.without in
        let none : (n : List ℕ) → is_in n x ≡ true → under is_in n (last.0 ++ last.1.0 ∷ []) ≡ [] =
        λ n t. ap (under is_in n) (sym last.1.1) ∙ has.none n t in
        subst (λ z. IsPlannedOver sup (rows_by rows some) z) (sym two.1)
        (subst (λ l. IsPlannedOver sup (rows_by rows l) last.1.0) (sym two.0) (behind_it has.front last.0 last.1.0 fair has.behind none))
  ]

  pub each_joined : EachIsPlanned sup rows (xs ++ x ∷ [])
  each_joined some y fair = elim (with_last is_in xs x (some ++ y ∷ []) fair x.coll (is_own x)) [
    | inl old ↦ each some y old
    | inr has ↦ with_it some y has
  ]

  pub suits_last : (some : List Intent) (has : HasLast is_in xs x some)
      → Suits (width_of sup) (names_in x) (rows_by rows xs) (plan_of x) (rows_by rows (has.front ++ has.back))
  suits_last some has = joined_suits has.front has.back has.without has.behind has.none

  pub rows_last : (some : List Intent) (has : HasLast is_in xs x some)
      → rows_by rows some ≡ rows_after (rows_by rows (has.front ++ has.back)) x.ops
  rows_last some has = ap (rows_by rows) has.is ∙ joined_last has.front has.back has.without has.behind has.none

  pub apart_joined : AreTakenApart rows (xs ++ x ∷ [])
  apart_joined = record {
    unmarked = subst (AllByRecursion (λ u. ¬ IsMarked rows u)) (sym (taken_append xs (x ∷ [])))
        (all_join (λ u. ¬ IsMarked rows u) (taken_by xs) (taken_by (x ∷ [])) apart.unmarked
        (subst (AllByRecursion (λ u. ¬ IsMarked rows u)) (sym (append-nil (units_of x))) can.unmarked));
    apart = λ unit. once unit;
  }
    where
      once : (unit : ℕ) → times unit (taken_by (xs ++ x ∷ [])) ≤ 1
      once unit = elim (in_or_not (units_of x) unit) [
        | inl c ↦ omega (
          arith,
          times_taken xs x unit,
          times_none unit (taken_by xs) (λ d. not_taken unit c d),
          times_ascending unit (units_of x) can.keeps.ascend,
        )
        | inr out ↦ omega (arith, times_taken xs x unit, times_none unit (units_of x) out, apart.apart unit)
      ]

  pub homes_joined : HaveHomes (width_of sup) rows (xs ++ x ∷ [])
  homes_joined = record { home = home; named = homes.named; changed = all_join (IsOf home) xs (x ∷ []) homes.changed (of_x, tt) }
