-- The rows of a fair selection: they are good, and owned are the units that were and those that were taken, but for the released ones.
use Rattle.std.proofs.Common.{◌≡◌, ◌⊎◌, inl, inr, ℕ, ◌+◌, ◌<◌, ◌≤◌, ◌^◌, List, [], ◌∷◌, ◌++◌, map, Contains, refl, sym, ap, subst, ◌∙◌, append-nil, arith}
use Rattle.std.specs.List.{AllByRecursion}
use Rattle.std.proofs.lemmas.List.Elements.{Contains-append_left, Contains-append_right, Contains-append_cases}
use Rattle.meta_rows.specs.Prelude.{Rows, rows_after}
use Rattle.meta_log.specs.declared.slot.Super.{Super}
use Rattle.meta_log.specs.Prelude.{width_of, IsSuper}
use Rattle.store_image.specs.Prelude.{IsDataUnit, IsOwned, IsMarked, IsLeaked, IsExactAs}
use Rattle.store_image.proofs.Prelude.{as_itself, exact_onward}
use Rattle.unit_allocator.proofs.Lists.{Contains-cases}
use Rattle.plan_rows.specs.declared.plan.FreshUnit.{FreshUnit}
use Rattle.plan_rows.specs.declared.plan.Plan.{Plan}
use Rattle.plan_rows.specs.Prelude.{AreAtHome, fresh_units, IsGood, Suits, OwnsItsUnits, PlanKeeps}
use Rattle.plan_rows.proofs.Apart.{bits_turned, changed_at_home}
use Rattle.plan_rows.proofs.Agreeing.{agree_itself}
use Rattle.selections.specs.Fair.{IsFair}
use Rattle.selections.proofs.Selecting.{fair_front, by_fronts, with_last, fair_none, all_selected}
use Rattle.store_steps.specs.Prelude.{Intent, names_in, is_in, plan_of, rows_by, taken_by, released_by, IsPlannedOver, EachIsPlanned, AreTakenApart, HaveHomes}
use Rattle.space_facts.specs.Owning.{OwnTheirUnits}
use Rattle.space_facts.proofs.Lists.{all_rest, all_join, listed_all, in_or_not, by_ends, times, times_append, times_none, times_some, some_times, times_once, once_times}
use Rattle.space_facts.proofs.Rows.{is_own, each_named, rows_append, taken_append, released_append, IsOf}

-- ---- what intents took and released, with one more

abbrev pub units_of : Intent → List ℕ
units_of x = fresh_units (plan_of x)

taken_behind : (xs : List Intent) (x : Intent) → taken_by (xs ++ x ∷ []) ≡ taken_by xs ++ units_of x
taken_behind xs x = taken_append xs (x ∷ []) ∙ ap (λ l. taken_by xs ++ l) (append-nil (units_of x))

released_behind : (xs : List Intent) (x : Intent) → released_by (xs ++ x ∷ []) ≡ released_by xs ++ x.released
released_behind xs x = released_append xs (x ∷ []) ∙ ap (λ l. released_by xs ++ l) (append-nil x.released)

module _ (xs : List Intent) (x : Intent) (unit : ℕ) where
  pub taken_before : Contains (taken_by xs) unit → Contains (taken_by (xs ++ x ∷ [])) unit
  taken_before c = subst (λ l. Contains l unit) (sym (taken_behind xs x)) (Contains-append_left (taken_by xs) (units_of x) unit c)

  pub taken_last : Contains (units_of x) unit → Contains (taken_by (xs ++ x ∷ [])) unit
  taken_last c = subst (λ l. Contains l unit) (sym (taken_behind xs x)) (Contains-append_right (taken_by xs) (units_of x) unit c)

  pub taken_cases : Contains (taken_by (xs ++ x ∷ [])) unit → Contains (taken_by xs) unit ⊎ Contains (units_of x) unit
  taken_cases c = Contains-append_cases (taken_by xs) (units_of x) unit (subst (λ l. Contains l unit) (taken_behind xs x) c)

  pub times_taken : times unit (taken_by (xs ++ x ∷ [])) ≡ times unit (taken_by xs) + times unit (units_of x)
  times_taken = ap (times unit) (taken_behind xs x) ∙ times_append unit (taken_by xs) (units_of x)

  released_before : Contains (released_by xs) unit → Contains (released_by (xs ++ x ∷ [])) unit
  released_before c = subst (λ l. Contains l unit) (sym (released_behind xs x)) (Contains-append_left (released_by xs) x.released unit c)

  released_last : Contains x.released unit → Contains (released_by (xs ++ x ∷ [])) unit
  released_last c = subst (λ l. Contains l unit) (sym (released_behind xs x)) (Contains-append_right (released_by xs) x.released unit c)

  released_cases : Contains (released_by (xs ++ x ∷ [])) unit → Contains (released_by xs) unit ⊎ Contains x.released unit
  released_cases c = Contains-append_cases (released_by xs) x.released unit (subst (λ l. Contains l unit) (released_behind xs x) c)

  times_released : times unit (released_by (xs ++ x ∷ [])) ≡ times unit (released_by xs) + times unit x.released
  times_released = ap (times unit) (released_behind xs x) ∙ times_append unit (released_by xs) x.released

pub times_joined : (unit : ℕ) (xs ys : List Intent) → times unit (taken_by (xs ++ ys)) ≡ times unit (taken_by xs) + times unit (taken_by ys)
times_joined unit xs ys = ap (times unit) (taken_append xs ys) ∙ times_append unit (taken_by xs) (taken_by ys)

-- ---- a selection takes no more

pub selected_times : (unit : ℕ) (all some : List Intent) → IsFair is_in all some → times unit (taken_by some) ≤ times unit (taken_by all)
selected_times unit = by_ends (λ l. (some : List Intent) → IsFair is_in l some → times unit (taken_by some) ≤ times unit (taken_by l)) none more
  where
    none : (some : List Intent) → IsFair is_in [] some → times unit (taken_by some) ≤ times unit (taken_by [])
    none some fair = omega (arith, ap (λ l. times unit (taken_by l)) (fair_none is_in each_named some fair))

    more : (l : List Intent) (x : Intent) → ((some : List Intent) → IsFair is_in l some → times unit (taken_by some) ≤ times unit (taken_by l))
        → (some : List Intent) → IsFair is_in (l ++ x ∷ []) some → times unit (taken_by some) ≤ times unit (taken_by (l ++ x ∷ []))
    more l x before some fair = elim (with_last is_in l x some fair x.coll (is_own x)) [
      | inl old ↦ omega (arith, before some old, times_taken l x unit)
      | inr has ↦
          let is : times unit (taken_by some) ≡ times unit (taken_by (has.front ++ x ∷ has.back)) = ap (λ s. times unit (taken_by s)) has.is in
          let whole : times unit (taken_by (has.front ++ x ∷ has.back)) ≡ times unit (taken_by has.front) + times unit (taken_by (x ∷ has.back)) =
          times_joined unit has.front (x ∷ has.back) in
          let later : times unit (taken_by (x ∷ has.back)) ≡ times unit (units_of x) + times unit (taken_by has.back) =
          times_append unit (units_of x) (taken_by has.back) in
          omega (arith, is, whole, later, before (has.front ++ has.back) has.without, times_joined unit has.front has.back, times_taken l x unit)
    ]

pub selected_taken : (all some : List Intent) → IsFair is_in all some → (unit : ℕ) → Contains (taken_by some) unit → Contains (taken_by all) unit
selected_taken all some fair unit c =
    some_times unit (taken_by all) (omega (arith, times_some unit (taken_by some) c, selected_times unit all some fair))

-- ---- one plan over good rows

module _ (sup : Super) (names : List (List ℕ)) (view : Rows) (plan : Plan) (keeps : PlanKeeps sup names view plan) (rows : Rows)
    (suits : Suits (width_of sup) names view plan rows) (good : IsGood sup rows) where
  pub plan_good : IsGood sup (rows_after rows plan.ops)
  plan_good = record {
    good = keeps.good rows suits good;
    exact = as_itself (width_of sup) (IsLeaked (width_of sup) rows) (rows_after rows plan.ops) (keeps.exact rows suits good);
  }

  -- a unit that wasn't marked and isn't fresh isn't marked then
  pub plan_unmarked : (unit : ℕ) → unit < 2 ^ 32 → ¬ IsMarked rows unit → ¬ Contains (fresh_units plan) unit
      → ¬ IsMarked (rows_after rows plan.ops) unit
  plan_unmarked unit small out other marked = elim ((keeps.exact rows suits good).marked unit small marked) [
    | inl owned ↦ elim ((keeps.owns rows suits good).new unit owned) [ inl was ↦ out (good.exact.owned_marked unit was) | inr c ↦ other c ]
    | inr leaked ↦ out leaked.0.marked
  ]

fresh_on_data : (sup : Super) (fresh : List FreshUnit) (unit : ℕ) → AllByRecursion (λ f. IsDataUnit sup f.unit) fresh
    → Contains (map (λ f. f.unit) fresh) unit → IsDataUnit sup unit
fresh_on_data sup [] unit all c = absurd (omega (arith, c.1))
fresh_on_data sup (f ∷ fresh) unit all c = elim (Contains-cases f.unit unit (map (λ g. g.unit) fresh) c) [
  | inl e ↦ subst (IsDataUnit sup) e all.0
  | inr d ↦ fresh_on_data sup fresh unit all.1 d
]

-- what a plan takes are data units
pub keeps_on_data : (sup : Super) (names : List (List ℕ)) (view : Rows) (plan : Plan) → PlanKeeps sup names view plan → (unit : ℕ)
    → Contains (fresh_units plan) unit → IsDataUnit sup unit
keeps_on_data sup names view plan keeps unit c = fresh_on_data sup plan.fresh unit keeps.fresh.on_data c

pub small_of : (sup : Super) (unit : ℕ) → IsSuper sup → IsDataUnit sup unit → unit < 2 ^ 32
small_of sup unit limits on = omega (arith, on.1, limits.units_most)

-- ---- the rows of fair selections

module _ (sup : Super) (rows : Rows) (xs : List Intent) (good : IsGood sup rows) (each : EachIsPlanned sup rows xs) where
  abbrev Fair : List Intent → Type 0
  Fair some = IsFair is_in xs some

  -- what holds of each that is planned holds of all that are selected
  each_of : (P : Intent → Type 0) → ((some : List Intent) (x : Intent) → Fair (some ++ x ∷ []) → P x) → (some : List Intent) → Fair some
      → AllByRecursion P some
  each_of P one = by_fronts is_in xs (AllByRecursion P) tt (λ some x fair all. all_join P some (x ∷ []) all (one some x fair, tt))

  pub selected_on_data : (some : List Intent) → Fair some → (unit : ℕ) → Contains (taken_by some) unit → IsDataUnit sup unit
  selected_on_data = by_fronts is_in xs (λ some. (unit : ℕ) → Contains (taken_by some) unit → IsDataUnit sup unit)
      (λ unit c. absurd (omega (arith, c.1))) more
    where
      more : (some : List Intent) (x : Intent) → Fair (some ++ x ∷ []) → ((unit : ℕ) → Contains (taken_by some) unit → IsDataUnit sup unit)
          → (unit : ℕ) → Contains (taken_by (some ++ x ∷ [])) unit → IsDataUnit sup unit
      more some x fair before unit c = elim (taken_cases some x unit c) [
        | inl old ↦ before unit old
        | inr new ↦ keeps_on_data sup (names_in x) (rows_by rows some) (plan_of x) (each some x fair).keeps unit new
      ]

  pub suits_at : (some : List Intent) (x : Intent) → Fair (some ++ x ∷ [])
      → Suits (width_of sup) (names_in x) (rows_by rows some) (plan_of x) (rows_by rows some)
  suits_at some x fair =
      record { agree = agree_itself (width_of sup) (names_in x) (rows_by rows some); blobs = λ sbid changes. refl; unmarked = (each some x fair).unmarked }

  after_one : (some : List Intent) (x : Intent) → rows_by rows (some ++ x ∷ []) ≡ rows_after (rows_by rows some) x.ops
  after_one some x = rows_append rows some (x ∷ [])

  abbrev StayGood : Rows → Type 0
  StayGood later = IsGood sup later × IsExactAs (width_of sup) rows later

  selection_stays : (some : List Intent) → Fair some → StayGood (rows_by rows some)
  selection_stays = by_fronts is_in xs (λ some. StayGood (rows_by rows some)) (good, good.exact) more
    where
      more : (some : List Intent) (x : Intent) → Fair (some ++ x ∷ []) → StayGood (rows_by rows some) → StayGood (rows_by rows (some ++ x ∷ []))
      more some x fair before =
          let keeps : PlanKeeps sup (names_in x) (rows_by rows some) (plan_of x) = (each some x fair).keeps in
          let suits : Suits (width_of sup) (names_in x) (rows_by rows some) (plan_of x) (rows_by rows some) = suits_at some x fair in
          subst StayGood (sym (after_one some x)) (
            plan_good sup (names_in x) (rows_by rows some) (plan_of x) keeps (rows_by rows some) suits before.0,
            exact_onward (width_of sup) rows (rows_by rows some) (rows_after (rows_by rows some) x.ops) before.1
                (keeps.exact (rows_by rows some) suits before.0),
          )

  pub selection_good : (some : List Intent) → Fair some → IsGood sup (rows_by rows some)
  selection_good some fair = (selection_stays some fair).0

  pub selection_exact : (some : List Intent) → Fair some → IsExactAs (width_of sup) rows (rows_by rows some)
  selection_exact some fair = (selection_stays some fair).1

  owns_at : (some : List Intent) (x : Intent) → Fair (some ++ x ∷ [])
      → OwnsItsUnits (width_of sup) (rows_by rows some) (rows_by rows (some ++ x ∷ [])) (plan_of x)
  owns_at some x fair =
      subst (λ r. OwnsItsUnits (width_of sup) (rows_by rows some) r (plan_of x)) (sym (after_one some x))
      ((each some x fair).keeps.owns (rows_by rows some) (suits_at some x fair)
      (selection_good some (fair_front is_in xs some (x ∷ []) fair)))

  module _ (apart : AreTakenApart rows xs) where
    pub selected_unmarked : (some : List Intent) → Fair some → (unit : ℕ) → Contains (taken_by some) unit → ¬ IsMarked rows unit
    selected_unmarked some fair unit c =
        listed_all (λ u. ¬ IsMarked rows u) (taken_by xs) unit apart.unmarked (selected_taken xs some fair unit c)

    abbrev Own : List Intent → Type 0
    Own some = OwnTheirUnits (width_of sup) rows (rows_by rows some) some

    none_own : Own []
    none_own = record {
      new = λ unit owned. inl owned;
      left = λ unit owned. inl owned;
      taken = λ unit c. absurd (omega (arith, c.1));
      was = λ unit c. absurd (omega (arith, c.1));
      gone = λ unit c. absurd (omega (arith, c.1));
      once = λ unit i j in_i in_j. absurd (omega (arith, in_i));
    }

    module _ (some : List Intent) (x : Intent) (fair : Fair (some ++ x ∷ [])) (before : Own some) (unit : ℕ) where
      owns : OwnsItsUnits (width_of sup) (rows_by rows some) (rows_by rows (some ++ x ∷ [])) (plan_of x)
      owns = owns_at some x fair

      -- what the first ones released the next one doesn't take
      not_again : Contains (released_by some) unit → Contains (units_of x) unit → ⊥
      not_again r c = elim (before.was unit r) [
        | inl old ↦ selected_unmarked (some ++ x ∷ []) fair unit (taken_last some x unit c) (good.exact.owned_marked unit old)
        | inr took ↦ omega (
          arith,
          times_some unit (taken_by some) took,
          times_some unit (units_of x) c,
          times_taken some x unit,
          selected_times unit xs (some ++ x ∷ []) fair,
          apart.apart unit,
        )
      ]

      still : IsOwned (width_of sup) (rows_by rows some) unit
          → IsOwned (width_of sup) (rows_by rows (some ++ x ∷ [])) unit ⊎ Contains (released_by (some ++ x ∷ [])) unit
      still owned = elim (owns.left unit owned) [ inl o ↦ inl o | inr r ↦ inr (released_last some x unit r) ]

      earlier : IsOwned (width_of sup) rows unit ⊎ Contains (taken_by some) unit
          → IsOwned (width_of sup) rows unit ⊎ Contains (taken_by (some ++ x ∷ [])) unit
      earlier is = elim is [ inl o ↦ inl o | inr c ↦ inr (taken_before some x unit c) ]

      new_one : IsOwned (width_of sup) (rows_by rows (some ++ x ∷ [])) unit
          → IsOwned (width_of sup) rows unit ⊎ Contains (taken_by (some ++ x ∷ [])) unit
      new_one owned = elim (owns.new unit owned) [
        | inl o ↦ earlier (before.new unit o)
        | inr c ↦ inr (taken_last some x unit c)
      ]

      onward : IsOwned (width_of sup) (rows_by rows some) unit ⊎ Contains (released_by some) unit
          → IsOwned (width_of sup) (rows_by rows (some ++ x ∷ [])) unit ⊎ Contains (released_by (some ++ x ∷ [])) unit
      onward is = elim is [ inl o ↦ still o | inr r ↦ inr (released_before some x unit r) ]

      taken_one : Contains (taken_by (some ++ x ∷ [])) unit
          → IsOwned (width_of sup) (rows_by rows (some ++ x ∷ [])) unit ⊎ Contains (released_by (some ++ x ∷ [])) unit
      taken_one c = elim (taken_cases some x unit c) [
        | inl old ↦ onward (before.taken unit old)
        | inr new ↦ inl (owns.taken unit new)
      ]

      was_one : Contains (released_by (some ++ x ∷ [])) unit
          → IsOwned (width_of sup) rows unit ⊎ Contains (taken_by (some ++ x ∷ [])) unit
      was_one r = elim (released_cases some x unit r) [
        | inl old ↦ earlier (before.was unit old)
        | inr new ↦ earlier (before.new unit (owns.was unit new))
      ]

      gone_one : Contains (released_by (some ++ x ∷ [])) unit → ¬ IsOwned (width_of sup) (rows_by rows (some ++ x ∷ [])) unit
      gone_one r owned = elim (released_cases some x unit r) [
        | inl old ↦ elim (owns.new unit owned) [ inl o ↦ before.gone unit old o | inr c ↦ not_again old c ]
        | inr new ↦ owns.gone unit new owned
      ]

      few : times unit (released_by (some ++ x ∷ [])) ≤ 1
      few = elim (in_or_not (released_by some) unit) [
        | inl old ↦ omega (
          arith,
          times_released some x unit,
          times_once unit (released_by some) (before.once unit),
          times_none unit x.released (λ new. before.gone unit old (owns.was unit new)),
        )
        | inr out ↦ omega (
          arith,
          times_released some x unit,
          times_none unit (released_by some) out,
          times_once unit x.released (owns.once unit),
        )
      ]

    pub selection_owns : (some : List Intent) → Fair some → Own some
    selection_owns = by_fronts is_in xs Own none_own more
      where
        more : (some : List Intent) (x : Intent) → Fair (some ++ x ∷ []) → Own some → Own (some ++ x ∷ [])
        more some x fair before = record {
          new = λ unit owned. new_one some x fair before unit owned;
          left = λ unit owned. onward some x fair before unit (before.left unit owned);
          taken = λ unit c. taken_one some x fair before unit c;
          was = λ unit r. was_one some x fair before unit r;
          gone = λ unit r. gone_one some x fair before unit r;
          once = λ unit. once_times unit (released_by (some ++ x ∷ [])) (few some x fair before unit);
        }

    -- a unit that isn't marked in the committed rows and that none took isn't marked in the rows of a selection
    pub idle_unmarked : (some : List Intent) → Fair some → (unit : ℕ) → unit < 2 ^ 32 → ¬ IsMarked rows unit → ¬ Contains (taken_by xs) unit
        → ¬ IsMarked (rows_by rows some) unit
    idle_unmarked some fair unit small out untaken marked = elim ((selection_exact some fair).marked unit small marked) [
      | inl owned ↦ elim ((selection_owns some fair).new unit owned) [
        | inl was ↦ out (good.exact.owned_marked unit was)
        | inr took ↦ untaken (selected_taken xs some fair unit took)
      ]
      | inr leaked ↦ out leaked.0.marked
    ]

  module _ (homes : HaveHomes (width_of sup) rows xs) where
    -- what is selected is of its collections, and of blobs at home there
    pub selected_of : (some : List Intent) → Fair some → AllByRecursion (IsOf homes.home) some
    selected_of some fair = all_selected is_in each_named (IsOf homes.home) xs some fair homes.changed

    pub last_of : (some : List Intent) (x : Intent) → Fair (some ++ x ∷ []) → IsOf homes.home x
    last_of some x fair = (all_rest (IsOf homes.home) some (x ∷ []) (selected_of (some ++ x ∷ []) fair)).0

    -- blobs stay where they are at home
    pub at_home : (some : List Intent) → Fair some → AreAtHome (width_of sup) homes.home (rows_by rows some)
    at_home = by_fronts is_in xs (λ some. AreAtHome (width_of sup) homes.home (rows_by rows some)) homes.named
        (λ some x fair before. subst (AreAtHome (width_of sup) homes.home) (sym (after_one some x))
        ((each some x fair).keeps.home homes.home (rows_by rows some) (suits_at some x fair)
        (selection_good some (fair_front is_in xs some (x ∷ []) fair)) before
        (λ sbid made. changed_at_home homes.home (names_in x) (units_of x) x.released x.ops (last_of some x fair) sbid made.changes)))

    -- a leaked unit stays so: none takes or releases it
    pub selection_leaked : (unit : ℕ) → IsLeaked (width_of sup) rows unit → (some : List Intent) → Fair some
        → IsLeaked (width_of sup) (rows_by rows some) unit
    selection_leaked unit leaked = by_fronts is_in xs (λ some. IsLeaked (width_of sup) (rows_by rows some) unit) leaked more
      where
        more : (some : List Intent) (x : Intent) → Fair (some ++ x ∷ []) → IsLeaked (width_of sup) (rows_by rows some) unit
            → IsLeaked (width_of sup) (rows_by rows (some ++ x ∷ [])) unit
        more some x fair before =
            let p : IsPlannedOver sup (rows_by rows some) x = each some x fair in
            let owns : OwnsItsUnits (width_of sup) (rows_by rows some) (rows_by rows (some ++ x ∷ [])) (plan_of x) = owns_at some x fair in
            let not_fresh : ¬ Contains (units_of x) unit =
            λ c. listed_all (λ u. ¬ IsMarked (rows_by rows some) u) (units_of x) unit p.unmarked c before.marked in
            let not_released : ¬ Contains x.released unit = λ c. before.unowned (owns.was unit c) in
            record {
              is_unit = before.is_unit;
              marked = subst (λ r. IsMarked r unit) (sym (after_one some x))
                  ((bits_turned (homes.home) (names_in x) (units_of x) x.released (rows_by rows some) x.ops (last_of some x fair) unit
                  before.is_unit).1 (inl (before.marked, λ either. elim either [ inl c ↦ not_fresh c | inr c ↦ not_released c ])));
              unowned = λ owned. elim (owns.new unit owned) [ inl was ↦ before.unowned was | inr c ↦ not_fresh c ];
            }
