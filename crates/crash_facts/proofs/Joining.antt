-- What rows and units stand for with each selection, once one more is under way.
use Rattle.std.proofs.Common.{◌≡◌, inl, inr, ℕ, ◌<◌, ◌^◌, Bool, true, false, cond, List, [], ◌∷◌, ◌++◌, Option, Ok, Result}
use Rattle.std.proofs.Common.{Contains, is_some, refl, sym, ap, subst, ◌∙◌, append-nil}
use Rattle.std.specs.Prelude.{IsSome}
use Rattle.std.specs.List.{AllByRecursion, cons_option}
use Rattle.std.proofs.lemmas.List.Elements.{filter-append, filter_map-append}
use Rattle.block_device.specs.Prelude.{History}
use Rattle.meta_rows.specs.Prelude.{Rows, rows_after}
use Rattle.meta_log.specs.declared.slot.Super.{Super}
use Rattle.meta_log.specs.Prelude.{width_of, IsSuper}
use Rattle.unit_fields.specs.declared.width.Width.{Width}
use Rattle.object_model.specs.Prelude.{Objects, Change, names_of, is_named, changes_on, HaveOneName, replay, ok_or, transaction_effect, change_at}
use Rattle.object_model.specs.declared.book.Entry.{Entry}
use Rattle.object_model.specs.declared.op.Refusal.{Refusal}
use Rattle.object_model.proofs.Replays.{replay-append, replay-by_collections}
use Rattle.store_image.specs.Prelude.{IsOwned, IsMarked, ObjectsStand}
use Rattle.store_image.proofs.Prelude.{objects_stand, page_owned}
use Rattle.plan_rows.specs.declared.plan.Plan.{Plan}
use Rattle.plan_rows.specs.declared.plan.ReadUnit.{ReadUnit}
use Rattle.plan_rows.specs.Prelude.{HoldsFresh, fresh_units, IsGood, Suits, HoldsRead, PlanMakes}
use Rattle.selections.specs.Fair.{under, HasLast}
use Rattle.selections.proofs.Selecting.{own_last, other_last, other_inside, with_last, all_selected}
use Rattle.store_steps.specs.Prelude.{Intent, names_in, is_in, plan_of, rows_by, taken_by, EachIsPlanned, AreTakenApart, HaveHomes, CanJoin}
use Rattle.space_facts.proofs.Prelude.{listed_all, is_own, each_named, keeps_on_data, small_of, selection_good, idle_unmarked, suits_last, rows_last}
use Rattle.book_facts.specs.Prelude.{IsOfEntry, IsFairSelection, changes_of, SelectionsStand}
use Rattle.book_facts.proofs.Prelude.{all_push, all_then, change_kept, entry_push}
use Rattle.crash_facts.specs.HeldBytes.{held_or_last}
use Rattle.crash_facts.proofs.Bytes.{fresh_joined, joined_spared}

-- ---- a fair selection

-- one behind those of other collections
moved_last : (x : Intent) (front back : List Intent) → ((n : List ℕ) → is_in n x ≡ true → under is_in n back ≡ []) → (n : List ℕ)
    → under is_in n (front ++ x ∷ back) ≡ under is_in n ((front ++ back) ++ x ∷ [])
moved_last x front back none n = by_test (is_in n x) refl
  where
    by_test : (b : Bool) → is_in n x ≡ b → under is_in n (front ++ x ∷ back) ≡ under is_in n ((front ++ back) ++ x ∷ [])
    by_test true t =
        filter-append (is_in n) front (x ∷ back)
        ∙ ap (λ (b : Bool). under is_in n front ++ cond b (x ∷ under is_in n back) (under is_in n back)) t
        ∙ ap (λ l. under is_in n front ++ x ∷ l) (none n t)
        ∙ ap (λ l. l ++ x ∷ []) (sym (filter-append (is_in n) front back ∙ ap (λ l. under is_in n front ++ l) (none n t)
        ∙ append-nil (under is_in n front)))
        ∙ sym (own_last is_in n (front ++ back) x t)
    by_test false f = other_inside is_in n x front back f ∙ sym (other_last is_in n (front ++ back) x f)

-- ---- their transactions

-- so far each has one name
each_one_name : (changes : List Change) → HaveOneName changes
each_one_name [] = tt
each_one_name (change ∷ changes) = (refl, each_one_name changes)

-- those on a collection are those of the intents on it
own_changes : (es : List Entry) (coll : List ℕ) (xs : List Intent) → AllByRecursion (IsOfEntry es) xs
    → changes_on coll (changes_of es xs) ≡ changes_of es (under is_in coll xs)
own_changes es coll [] all = refl
own_changes es coll (x ∷ xs) all =
    ap (λ (o : Option Change). changes_on coll (cons_option o (changes_of es xs))) all.0.accepted
    ∙ ap (λ (names : List (List ℕ)). cond (is_named coll names) (all.0.change ∷ changes_on coll (changes_of es xs)) (changes_on coll (changes_of es xs)))
    all.0.same_names
    ∙ ap (λ (l : List Change). cond (is_in coll x) (all.0.change ∷ l) l) (own_changes es coll xs all.1)
    ∙ by_test (is_in coll x)
  where
    by_test : (b : Bool) → cond b (all.0.change ∷ changes_of es (under is_in coll xs)) (changes_of es (under is_in coll xs))
        ≡ changes_of es (cond b (x ∷ under is_in coll xs) (under is_in coll xs))
    by_test true = ap (λ (o : Option Change). cons_option o (changes_of es (under is_in coll xs))) (sym all.0.accepted)
    by_test false = refl

-- those of earlier entries stay
pub entry_changes : (es : List Entry) (e : Entry) (xs : List Intent) → AllByRecursion (λ x. IsSome (change_at es x.place)) xs
    → changes_of (es ++ e ∷ []) xs ≡ changes_of es xs
entry_changes es e [] are = refl
entry_changes es e (x ∷ xs) are =
    ap (λ (o : Option Change). cons_option o (changes_of (es ++ e ∷ []) xs)) (change_kept es e x.place are.0)
    ∙ ap (λ (l : List Change). cons_option (change_at es x.place) l) (entry_changes es e xs are.1)

-- ---- one more is under way

module _ (sup : Super) (rows : Rows) (xs : List Intent) (x : Intent) (limits : IsSuper sup) (good : IsGood sup rows)
    (each : EachIsPlanned sup rows xs) (apart : AreTakenApart rows xs) (homes : HaveHomes (width_of sup) rows xs) (can : CanJoin sup rows xs x) (h : History) (objects : Objects)
    (es : List Entry) (e : Entry) (of_entries : AllByRecursion (IsOfEntry es) xs) (of_x : IsOfEntry (es ++ e ∷ []) x)
    (read : List ReadUnit) (made : ℕ) (makes : PlanMakes sup of_x.change (rows_by rows xs) (record (plan_of x) { read = read; new_blobs = made }))
    (reads : HoldsRead (held_or_last h xs) (record (plan_of x) { read = read; new_blobs = made })) (stand : SelectionsStand (width_of sup) (held_or_last h xs) rows xs objects es) where
  abbrev w : Width
  w = width_of sup

  abbrev more : List Entry
  more = es ++ e ∷ []

  abbrev plan : Plan
  plan = record (plan_of x) { read = read; new_blobs = made }

  abbrev at : ℕ → List ℕ
  at = held_or_last h xs

  abbrev then_at : ℕ → List ℕ
  then_at = held_or_last h (xs ++ x ∷ [])

  -- none of its units is owned in the rows of a selection without it
  spared : (some : List Intent) → IsFairSelection xs some → (unit : ℕ) → IsOwned w (rows_by rows some) unit → then_at unit ≡ at unit
  spared some fair unit owned = joined_spared h xs x unit (λ u c same.
      let small : u < 2 ^ 32 = small_of sup u limits (keeps_on_data sup (names_in x) (rows_by rows xs) (plan_of x) can.keeps u c) in
      idle_unmarked sup rows xs good each apart some fair u small
      (listed_all (λ v. ¬ IsMarked rows v) (fresh_units (plan_of x)) u can.unmarked c)
      (listed_all (λ v. ¬ Contains (taken_by xs) v) (fresh_units (plan_of x)) u can.untaken c)
      ((selection_good sup rows xs good each some fair).exact.owned_marked u (subst (IsOwned w (rows_by rows some)) (sym same) owned)))

  holds : HoldsFresh then_at (plan_of x)
  holds = fresh_joined h xs x can.keeps.ascend can.untaken

  of_selected : (some : List Intent) → IsFairSelection xs some → AllByRecursion (IsOfEntry es) some
  of_selected some fair = all_selected is_in each_named (IsOfEntry es) xs some fair of_entries

  same_changes : (some : List Intent) → IsFairSelection xs some → changes_of more some ≡ changes_of es some
  same_changes some fair = entry_changes es e some
      (all_then (IsOfEntry es) (λ y. IsSome (change_at es y.place)) some (λ y is. ap is_some is.accepted) (of_selected some fair))

  -- over the new bytes
  rest_stands : (some : List Intent) → IsFairSelection xs some → ObjectsStand w then_at (rows_by rows some) (replay objects (changes_of es some))
  rest_stands some fair = objects_stand w at then_at (rows_by rows some)
      (λ unit has. sym (spared some fair unit (page_owned w (rows_by rows some) (selection_good sup rows xs good each some fair).exact.counts unit has))) (replay objects (changes_of es some)) (stand some fair)

  without_it : (some : List Intent) → IsFairSelection xs some → ObjectsStand w then_at (rows_by rows some) (replay objects (changes_of more some))
  without_it some fair = subst (λ (l : List Change). ObjectsStand w then_at (rows_by rows some) (replay objects l)) (sym (same_changes some fair))
      (rest_stands some fair)

  module _ (some : List Intent) (fair : IsFairSelection (xs ++ x ∷ []) some) (has : HasLast is_in xs x some) where
    abbrev rest : List Intent
    rest = has.front ++ has.back

    abbrev before : Rows
    before = rows_by rows rest

    abbrev was : Objects
    was = replay objects (changes_of es rest)

    unread_suits : Suits w (names_of of_x.change) (rows_by rows xs) (plan_of x) before
    unread_suits = subst (λ (names : List (List ℕ)). Suits w names (rows_by rows xs) (plan_of x) before) (sym of_x.same_names)
        (suits_last sup rows xs x limits good each apart homes can some has)

    -- whatever old bytes were read
    suits : Suits w (names_of of_x.change) (rows_by rows xs) plan before
    suits = record { agree = unread_suits.agree; blobs = unread_suits.blobs; unmarked = unread_suits.unmarked }

    is_good : IsGood sup before
    is_good = selection_good sup rows xs good each rest has.without

    found : (after : Objects) × (transaction_effect of_x.change was ≡ Ok after)
    found = makes.accepts before was suits is_good (stand rest has.without).shape

    stands_last : ObjectsStand w then_at (rows_after before x.ops) found.0
    stands_last = makes.bytes before was found.0 at then_at suits is_good (stand rest has.without) found.1 reads holds
        (λ unit owned. spared rest has.without unit (page_owned w before is_good.exact.counts unit owned))

    of_these : AllByRecursion (IsOfEntry more) (rest ++ x ∷ [])
    of_these = all_push (IsOfEntry more) rest x (entry_push es e rest (of_selected rest has.without)) of_x

    of_some : AllByRecursion (IsOfEntry more) some
    of_some = all_selected is_in each_named (IsOfEntry more) (xs ++ x ∷ []) some fair (all_push (IsOfEntry more) xs x (entry_push es e xs of_entries) of_x)

    objects_are : replay objects (changes_of more some) ≡ found.0
    objects_are =
        replay-by_collections objects (changes_of more some) (changes_of more (rest ++ x ∷ []))
        (each_one_name (changes_of more some)) (each_one_name (changes_of more (rest ++ x ∷ [])))
        (λ coll. own_changes more coll some of_some
        ∙ ap (λ (l : List Intent). changes_of more (under is_in coll l)) has.is
        ∙ ap (changes_of more) (moved_last x has.front has.back has.none coll)
        ∙ sym (own_changes more coll (rest ++ x ∷ []) of_these))
        ∙ ap (replay objects) (filter_map-append (λ (y : Intent). change_at more y.place) rest (x ∷ []))
        ∙ replay-append objects (changes_of more rest) (changes_of more (x ∷ []))
        ∙ ap (λ (l : List Change). replay (replay objects l) (changes_of more (x ∷ []))) (same_changes rest has.without)
        ∙ ap (λ (o : Option Change). replay was (cons_option o [])) of_x.accepted
        ∙ ap (λ (r : Result Objects Refusal). ok_or r was) found.1

    with_it : ObjectsStand w then_at (rows_by rows some) (replay objects (changes_of more some))
    with_it =
        subst (λ (r : Rows). ObjectsStand w then_at r (replay objects (changes_of more some)))
        (sym (rows_last sup rows xs x limits good each apart homes can some has))
        (subst (ObjectsStand w then_at (rows_after before x.ops)) (sym objects_are) stands_last)

  pub one_more_stands : SelectionsStand w then_at rows (xs ++ x ∷ []) objects more
  one_more_stands some fair = elim (with_last is_in xs x some fair x.coll (is_own x)) [
    | inl old ↦ without_it some old
    | inr has ↦ with_it some fair has
  ]
