-- The idle units: what a submission takes and what a commit gives back.
use Rattle.std.proofs.Common.{◌≡◌, ◌↔◌, ◌⊎◌, inl, inr, ℕ, zero, suc, ◌<◌, ◌≤◌, ◌^◌, Bool, true, false, List, [], ◌∷◌, ◌++◌, map, length, get_or, Contains, Any, refl, sym, ap, subst, arith}
use Rattle.std.specs.List.{AllByRecursion}
use Rattle.std.proofs.lemmas.List.Elements.{Contains-append_left, Contains-append_right, Contains-append_cases}
use Rattle.meta_rows.specs.Prelude.{Rows}
use Rattle.meta_log.specs.declared.slot.Super.{Super}
use Rattle.meta_log.specs.Prelude.{width_of, IsSuper}
use Rattle.store_image.specs.Prelude.{IsDataUnit, IsOwned, IsMarked, IsBusy}
use Rattle.unit_allocator.specs.Prelude.{Space, is_idle, free_units, taken, given}
use Rattle.unit_allocator.proofs.Lists.{Contains-head}
use Rattle.unit_allocator.proofs.FreeUnits.{listed_is_within}
use Rattle.plan_rows.specs.Prelude.{AreFreeOver, MakesBlob, IsGood, PlanKeeps}
use Rattle.plan_rows.proofs.OnData.{owned_on_data}
use Rattle.selections.specs.Fair.{IsComplete}
use Rattle.selections.proofs.Selecting.{fair_all, complete_is_fair}
use Rattle.store_steps.specs.Prelude.{Intent, names_in, is_in, plan_of, rows_by, taken_by, released_by, EachIsPlanned, AreTakenApart, HaveHomes, AreBlobsBelow, SpaceIsCounted, CanJoin}
use Rattle.space_facts.specs.Spaces.{HasDataUnits, HasOnlyDataUnits}
use Rattle.space_facts.specs.Owning.{OwnTheirUnits}
use Rattle.space_facts.proofs.Idle.{listed_is_idle, idle_taken, idle_given}
use Rattle.space_facts.proofs.Making.{unmade_by}
use Rattle.space_facts.proofs.Lists.{all_listed, listed_all, in_or_not, times, times_append, times_some, times_once}
use Rattle.space_facts.proofs.Rows.{taken_append, released_append}
use Rattle.space_facts.proofs.Selected.{units_of, taken_before, taken_last, taken_cases, selected_taken, small_of, keeps_on_data, selected_on_data, selection_owns, selection_good, selection_exact, selection_leaked, idle_unmarked}
use Rattle.space_facts.proofs.Moving.{batch_fair, good_committed, in_batch, in_pending, unmarked_first, not_both, batch_owns}

-- ---- busy units

allotted_taken : (xs : List Intent) (v : ℕ) → Any (λ us. Contains us v) (map (λ x. units_of x) xs) → Contains (taken_by xs) v
allotted_taken [] v any = absurd (omega (arith, any.2))
allotted_taken (x ∷ xs) v any = by (allotted_taken xs v) any.0 any.1 any.2 any.3 any.4
  where
    by : (Any (λ us. Contains us v) (map (λ y. units_of y) xs) → Contains (taken_by xs) v) → (k : ℕ) (us : List ℕ)
        → k < length (map (λ y. units_of y) (x ∷ xs)) → get_or (map (λ y. units_of y) (x ∷ xs)) k us ≡ us → Contains us v
        → Contains (taken_by (x ∷ xs)) v
    by rest zero us below at c = Contains-append_left (units_of x) (taken_by xs) v (subst (λ (l : List ℕ). Contains l v) (sym at) c)
    by rest (suc k) us below at c = Contains-append_right (units_of x) (taken_by xs) v (rest (k, us, omega (arith, below), at, c))

taken_allotted : (xs : List Intent) (v : ℕ) → Contains (taken_by xs) v → Any (λ us. Contains us v) (map (λ x. units_of x) xs)
taken_allotted [] v c = absurd (omega (arith, c.1))
taken_allotted (x ∷ xs) v c = elim (Contains-append_cases (units_of x) (taken_by xs) v c) [
  | inl here ↦ (0, units_of x, omega arith, refl, here)
  | inr there ↦ let any = taken_allotted xs v there in (suc any.0, any.1, omega (arith, any.2), any.3, any.4)
]

abbrev pub IsBusyBy : Rows → List Intent → ℕ → Type 0
IsBusyBy rows xs unit = IsBusy rows (map (λ x. units_of x) xs) unit

busy_cases : (rows : Rows) (xs : List Intent) (v : ℕ) → IsBusyBy rows xs v → IsMarked rows v ⊎ Contains (taken_by xs) v
busy_cases rows xs v busy = elim busy [ inl marked ↦ inl marked | inr any ↦ inr (allotted_taken xs v any) ]

pub taken_busy : (rows : Rows) (xs : List Intent) (v : ℕ) → Contains (taken_by xs) v → IsBusyBy rows xs v
taken_busy rows xs v c = inr (taken_allotted xs v c)

-- what one under way releases is busy
pub released_busy : (sup : Super) (rows : Rows) (xs : List Intent) (unit : ℕ) → IsGood sup rows → EachIsPlanned sup rows xs → AreTakenApart rows xs
    → Contains (released_by xs) unit → IsBusyBy rows xs unit
released_busy sup rows xs unit good each apart r =
    let owns : OwnTheirUnits (width_of sup) rows (rows_by rows xs) xs = selection_owns sup rows xs good each apart xs (fair_all is_in xs) in
    elim (owns.was unit r) [
      | inl owned ↦ inl (good.exact.owned_marked unit owned)
      | inr took ↦ taken_busy rows xs unit took
    ]

-- it depends on which units were taken alone
pub counted_alike : (sup : Super) (rows : Rows) (xs ys : List Intent) (space : Space) → IsComplete is_in xs ys → SpaceIsCounted sup rows xs space
    → SpaceIsCounted sup rows ys space
counted_alike sup rows xs ys space same counted v on = (
  λ e busy. (counted v on).0 e (elim (busy_cases rows ys v busy) [
    | inl marked ↦ inl marked
    | inr c ↦ taken_busy rows xs v (selected_taken xs ys (complete_is_fair is_in xs ys same) v c)
  ]),
  λ idle. (counted v on).1 (λ busy. idle (elim (busy_cases rows xs v busy) [
    | inl marked ↦ inl marked
    | inr c ↦ taken_busy rows ys v (selected_taken ys xs (complete_is_fair is_in ys xs (λ n. sym (same n))) v c)
  ])),
)

-- where nothing is under way it depends on the bits of the committed rows
pub counted_none : (sup : Super) (rows : Rows) (space : Space)
    → ((unit : ℕ) → IsDataUnit sup unit → (is_idle space unit ≡ true) ↔ (¬ IsMarked rows unit)) → SpaceIsCounted sup rows [] space
counted_none sup rows space bits unit on = (
  λ e busy. elim (busy_cases rows [] unit busy) [ inl marked ↦ (bits unit on).0 e marked | inr c ↦ omega (arith, c.1) ],
  λ idle. (bits unit on).1 (λ marked. idle (inl marked)),
)

-- ---- a submission

-- free units are neither marked in the committed rows nor taken
free_is_idle : (sup : Super) (rows : Rows) (xs : List Intent) (space : Space) (unit : ℕ) → SpaceIsCounted sup rows xs space → IsDataUnit sup unit
    → Contains (free_units space) unit → (¬ IsMarked rows unit) × (¬ Contains (taken_by xs) unit)
free_is_idle sup rows xs space unit counted on c =
    let idle : ¬ IsBusyBy rows xs unit = (counted unit on).0 (listed_is_idle space unit c) in
    (λ marked. idle (inl marked), λ took. idle (taken_busy rows xs unit took))

-- so a plan can be made over the submitted rows and the free units
pub free_over : (sup : Super) (rows : Rows) (xs : List Intent) (space : Space) → IsSuper sup → IsGood sup rows → EachIsPlanned sup rows xs
    → AreTakenApart rows xs → HasOnlyDataUnits sup space → SpaceIsCounted sup rows xs space
    → AreFreeOver sup (rows_by rows xs) space
free_over sup rows xs space limits good each apart on_data counted =
    record { limits = limits; good = (selection_good sup rows xs good each xs (fair_all is_in xs)).good; free = free }
  where
    free : (unit : ℕ) → Contains (free_units space) unit
        → IsDataUnit sup unit × (¬ IsOwned (width_of sup) (rows_by rows xs) unit) × (¬ IsMarked (rows_by rows xs) unit)
    free unit c =
        let on : IsDataUnit sup unit = on_data unit (listed_is_within space unit c) in
        let idle : (¬ IsMarked rows unit) × (¬ Contains (taken_by xs) unit) = free_is_idle sup rows xs space unit counted on c in
        let out : ¬ IsMarked (rows_by rows xs) unit =
        idle_unmarked sup rows xs good each apart xs (fair_all is_in xs) unit (small_of sup unit limits on) idle.0 idle.1 in
        (on, λ owned. out ((selection_good sup rows xs good each xs (fair_all is_in xs)).exact.owned_marked unit owned), out)

-- and a plan over them that takes free units can join
pub free_joins : (sup : Super) (next : ℕ) (rows : Rows) (xs : List Intent) (x : Intent) (space : Space) → SpaceIsCounted sup rows xs space
    → AreBlobsBelow next rows xs → PlanKeeps sup (names_in x) (rows_by rows xs) (plan_of x)
    → AllByRecursion (λ u. Contains (free_units space) u) (units_of x) → ((sbid : ℕ) → MakesBlob (rows_by rows xs) x.ops sbid → next ≤ sbid)
    → CanJoin sup rows xs x
free_joins sup next rows xs x space counted below keeps free makes = record {
  keeps = keeps;
  unmarked = all_listed (λ u. ¬ IsMarked rows u) (units_of x) (λ u c. (idle u c).0);
  untaken = all_listed (λ u. ¬ Contains (taken_by xs) u) (units_of x) (λ u c. (idle u c).1);
  unmade = λ sbid made. unmade_by next rows xs sbid below made.changes.0 (makes sbid made);
}
  where
    idle : (unit : ℕ) → Contains (units_of x) unit → (¬ IsMarked rows unit) × (¬ Contains (taken_by xs) unit)
    idle unit c = free_is_idle sup rows xs space unit counted (keeps_on_data sup (names_in x) (rows_by rows xs) (plan_of x) keeps unit c)
        (listed_all (λ u. Contains (free_units space) u) (units_of x) unit free c)

pub counted_joined : (sup : Super) (rows : Rows) (xs : List Intent) (x : Intent) (space : Space) → HasDataUnits sup space → CanJoin sup rows xs x
    → SpaceIsCounted sup rows xs space → SpaceIsCounted sup rows (xs ++ x ∷ []) (taken space (units_of x))
counted_joined sup rows xs x space has can counted v on = (
  λ e. let p : (is_idle space v ≡ true) × (Contains (units_of x) v → ⊥) = after.0 e in
      λ busy. elim (busy_cases rows (xs ++ x ∷ []) v busy) [
        | inl marked ↦ was.0 p.0 (inl marked)
        | inr c ↦ elim (taken_cases xs x v c) [ inl old ↦ was.0 p.0 (taken_busy rows xs v old) | inr new ↦ p.1 new ]
      ],
  λ idle. after.1 (
    was.1 (λ busy. elim (busy_cases rows xs v busy) [
      | inl marked ↦ idle (inl marked)
      | inr c ↦ idle (taken_busy rows (xs ++ x ∷ []) v (taken_before xs x v c))
    ]),
    λ c. idle (taken_busy rows (xs ++ x ∷ []) v (taken_last xs x v c)),
  ),
)
  where
    was : (is_idle space v ≡ true) ↔ (¬ IsBusyBy rows xs v)
    was = counted v on

    after : (is_idle (taken space (units_of x)) v ≡ true) ↔ ((is_idle space v ≡ true) × (Contains (units_of x) v → ⊥))
    after = idle_taken v (units_of x) space (has v on)
        (λ u c. has u (keeps_on_data sup (names_in x) (rows_by rows xs) (plan_of x) can.keeps u c))

-- ---- a commit

module _ (sup : Super) (rows : Rows) (batch pending : List Intent) (good : IsGood sup rows)
    (each : EachIsPlanned sup rows (batch ++ pending)) (apart : AreTakenApart rows (batch ++ pending)) where
  abbrev later : Rows
  later = rows_by rows batch

  owns : OwnTheirUnits (width_of sup) rows later batch
  owns = batch_owns sup rows batch pending good each apart

  later_good : IsGood sup later
  later_good = good_committed sup rows batch pending good each

  pub released_on_data : (unit : ℕ) → Contains (released_by batch) unit → IsDataUnit sup unit
  released_on_data unit r = elim (owns.was unit r) [
    | inl owned ↦ owned_on_data sup rows unit good.good owned
    | inr took ↦ selected_on_data sup rows (batch ++ pending) good each batch (batch_fair sup rows batch pending good each) unit took
  ]

  module _ (v : ℕ) (small : v < 2 ^ 32) where
    -- what the batch released is idle then
    released_idle : Contains (released_by batch) v → ¬ IsBusyBy later pending v
    released_idle r busy = elim (busy_cases later pending v busy) [
      | inl marked ↦ elim ((selection_exact sup rows (batch ++ pending) good each batch (batch_fair sup rows batch pending good each)).marked v small
          marked) [
            | inl owned ↦ owns.gone v r owned
            | inr leaked ↦ elim (owns.was v r) [
              | inl old ↦ leaked.0.unowned old
              | inr took ↦ unmarked_first sup rows batch pending good each apart v
                  (in_batch sup rows batch pending good each apart v took) leaked.0.marked
            ]
          ]
      | inr waits ↦ elim (owns.was v r) [
        | inl old ↦ unmarked_first sup rows batch pending good each apart v
            (in_pending sup rows batch pending good each apart v waits) (good.exact.owned_marked v old)
        | inr took ↦ not_both sup rows batch pending good each apart v took waits
      ]
    ]

    -- what is busy then was so
    busy_before : IsBusyBy later pending v → IsBusyBy rows (batch ++ pending) v
    busy_before busy = elim (busy_cases later pending v busy) [
      | inl marked ↦ elim ((selection_exact sup rows (batch ++ pending) good each batch (batch_fair sup rows batch pending good each)).marked v small
          marked) [
            | inl owned ↦ elim (owns.new v owned) [
              | inl old ↦ inl (good.exact.owned_marked v old)
              | inr took ↦ taken_busy rows (batch ++ pending) v (in_batch sup rows batch pending good each apart v took)
            ]
            | inr leaked ↦ inl leaked.0.marked
          ]
      | inr waits ↦ taken_busy rows (batch ++ pending) v (in_pending sup rows batch pending good each apart v waits)
    ]

    -- what was busy is so then, or the batch released it
    busy_then : HaveHomes (width_of sup) rows (batch ++ pending) → IsBusyBy rows (batch ++ pending) v
        → IsBusyBy later pending v ⊎ Contains (released_by batch) v
    busy_then homes busy = elim (busy_cases rows (batch ++ pending) v busy) [
      | inl marked ↦ elim (good.exact.marked v small marked) [
        | inl owned ↦ owned_or (owns.left v owned)
        | inr leaked ↦ inl (inl (selection_leaked sup rows (batch ++ pending) good each homes v leaked.0 batch
            (batch_fair sup rows batch pending good each)).marked)
      ]
      | inr took ↦ elim (Contains-append_cases (taken_by batch) (taken_by pending) v (subst (λ l. Contains l v) (taken_append batch pending) took)) [
        | inl ours ↦ owned_or (owns.taken v ours)
        | inr theirs ↦ inl (taken_busy later pending v theirs)
      ]
    ]
      where
        owned_or : IsOwned (width_of sup) later v ⊎ Contains (released_by batch) v → IsBusyBy later pending v ⊎ Contains (released_by batch) v
        owned_or is = elim is [ inl owned ↦ inl (inl (later_good.exact.owned_marked v owned)) | inr r ↦ inr r ]

  pub counted_committed : HaveHomes (width_of sup) rows (batch ++ pending) → IsSuper sup → (space : Space) → HasDataUnits sup space → SpaceIsCounted sup rows (batch ++ pending) space
      → SpaceIsCounted sup later pending (given space (released_by batch))
  counted_committed homes limits space has counted v on = (
    λ e. elim (after.0 e) [
      | inl was_idle ↦ λ busy. was.0 was_idle (busy_before v small busy)
      | inr r ↦ released_idle v small r
    ],
    λ idle. after.1 (elim (in_or_not (released_by batch) v) [
      | inl r ↦ inr r
      | inr out ↦ inl (was.1 (λ busy. elim (busy_then v small homes busy) [ inl then ↦ idle then | inr r ↦ out r ]))
    ]),
  )
    where
      small : v < 2 ^ 32
      small = small_of sup v limits on

      was : (is_idle space v ≡ true) ↔ (¬ IsBusyBy rows (batch ++ pending) v)
      was = counted v on

      after : (is_idle (given space (released_by batch)) v ≡ true) ↔ ((is_idle space v ≡ true) ⊎ Contains (released_by batch) v)
      after = idle_given v (released_by batch) space (has v on) (λ u c. has u (released_on_data u c))

  -- the units come back one after the other, and none is idle until it is its turn
  pub not_idle_until : (space : Space) (front rest : List ℕ) (unit : ℕ) → HasDataUnits sup space
      → SpaceIsCounted sup rows (batch ++ pending) space → released_by batch ≡ front ++ unit ∷ rest → is_idle (given space front) unit ≡ false
  not_idle_until space front rest unit has counted are =
      false_of (is_idle (given space front) unit) (λ e. elim (after.0 e) [
        | inl was_idle ↦ (counted unit on).0 was_idle busy
        | inr again ↦ once again
      ])
    where
      there : (u : ℕ) → Contains (front ++ unit ∷ rest) u → Contains (released_by batch) u
      there u c = subst (λ l. Contains l u) (sym are) c

      in_front : (u : ℕ) → Contains front u → Contains (released_by batch) u
      in_front u c = there u (Contains-append_left front (unit ∷ rest) u c)

      here : Contains (released_by batch) unit
      here = there unit (Contains-append_right front (unit ∷ rest) unit (Contains-head unit rest))

      on : IsDataUnit sup unit
      on = released_on_data unit here

      busy : IsBusyBy rows (batch ++ pending) unit
      busy = released_busy sup rows (batch ++ pending) unit good each apart
          (subst (λ l. Contains l unit) (sym (released_append batch pending))
          (Contains-append_left (released_by batch) (released_by pending) unit here))

      once : Contains front unit → ⊥
      once c = omega (
        arith,
        times_once unit (released_by batch) (owns.once unit),
        ap (times unit) are,
        times_append unit front (unit ∷ rest),
        times_some unit front c,
        times_some unit (unit ∷ rest) (Contains-head unit rest),
      )

      after : (is_idle (given space front) unit ≡ true) ↔ ((is_idle space unit ≡ true) ⊎ Contains front unit)
      after = idle_given unit front space (has unit on) (λ u c. has u (released_on_data u (in_front u c)))

      false_of : (b : Bool) → (b ≡ true → ⊥) → b ≡ false
      false_of true never = absurd (never refl)
      false_of false never = refl
