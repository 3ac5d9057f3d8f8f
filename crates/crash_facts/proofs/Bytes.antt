-- The bytes of units with those that fresh ones are to have.
use Rattle.std.proofs.Common.{◌≡◌, ◌≢◌, ◌⊎◌, inl, inr, ℕ, ◌+◌, ◌<◌, ◌≤◌, Bool, cond, ◌==◌, List, [], ◌∷◌, ◌++◌, length, Contains, refl, sym, ap, subst, ◌∙◌}
use Rattle.std.proofs.Common.{append-nil, arith}
use Rattle.std.specs.List.{AllByRecursion}
use Rattle.std.proofs.lemmas.Bool.{cases_eq, eq-eqb, ne_eqb}
use Rattle.std.proofs.lemmas.List.{map-append}
use Rattle.unit_allocator.proofs.Lists.{Contains-head}
use Rattle.std.proofs.lemmas.List.Concat.{flat_map-append}
use Rattle.std.proofs.lemmas.List.Elements.{Contains-append_left, Contains-append_right}
use Rattle.block_device.specs.Prelude.{last, WritesUnit, WritesNothing, History, with_event, last_at, EventFits}
use Rattle.block_device.specs.declared.event.Event.{Event}
use Rattle.log_facts.proofs.Keeping.{last_push}
use Rattle.plan_rows.specs.declared.plan.FreshUnit.{FreshUnit}
use Rattle.store_steps.specs.declared.context.Context.{Context}
use Rattle.store_steps.specs.Prelude.{Intent, is_in, intents, taken_by, all_fresh}
use Rattle.selections.specs.Fair.{IsComplete}
use Rattle.selections.proofs.Selecting.{complete_is_fair, all_selected}
use Rattle.space_facts.proofs.Prelude.{times, times_append, times_some, each_named}
use Rattle.run_facts.proofs.Prelude.{all_then, flat_intents, all_left, all_right, all_join, fresh_taken, units_of}
use Rattle.crash_facts.specs.HeldBytes.{bytes_with, fresh_by, held_or_last}
use Rattle.unit_fields.specs.Prelude.{Ascends}
use Rattle.unit_facts.proofs.Units.{none_written, fits_quiet}

-- the fresh units of intents of contexts
pub fresh_are : (xs : List Context) → fresh_by (intents xs) ≡ all_fresh xs
fresh_are xs = flat_intents (λ (x : Intent). x.fresh) xs

-- the first fresh unit has its bytes, and all others are looked for behind it
pub its_bytes : (f : FreshUnit) (fs : List FreshUnit) (at : ℕ → List ℕ) (unit : ℕ) → f.unit ≡ unit → bytes_with (f ∷ fs) at unit ≡ f.bytes
its_bytes f fs at unit same = ap (λ (b : Bool). cond b f.bytes (bytes_with fs at unit)) (eq-eqb f.unit unit same)

pub other_bytes : (f : FreshUnit) (fs : List FreshUnit) (at : ℕ → List ℕ) (unit : ℕ) → f.unit ≢ unit
    → bytes_with (f ∷ fs) at unit ≡ bytes_with fs at unit
other_bytes f fs at unit other = ap (λ (b : Bool). cond b f.bytes (bytes_with fs at unit)) (ne_eqb f.unit unit other)

-- over other bytes that are the same for a unit
pub with_same : (fs : List FreshUnit) (at at' : ℕ → List ℕ) (unit : ℕ) → at unit ≡ at' unit → bytes_with fs at unit ≡ bytes_with fs at' unit
with_same [] at at' unit same = same
with_same (f ∷ fs) at at' unit same = ap (λ (bytes : List ℕ). cond (f.unit == unit) f.bytes bytes) (with_same fs at at' unit same)

-- a unit that isn't fresh
pub not_fresh : (fs : List FreshUnit) (at : ℕ → List ℕ) (unit : ℕ) → AllByRecursion (λ f. f.unit ≢ unit) fs → bytes_with fs at unit ≡ at unit
not_fresh [] at unit others = refl
not_fresh (f ∷ fs) at unit others = other_bytes f fs at unit others.0 ∙ not_fresh fs at unit others.1

-- once they have these bytes
pub all_held : (fs : List FreshUnit) (at : ℕ → List ℕ) (unit : ℕ) → AllByRecursion (λ f. at f.unit ≡ f.bytes) fs → bytes_with fs at unit ≡ at unit
all_held [] at unit held = refl
all_held (f ∷ fs) at unit held = elim (cases_eq f.unit unit) [
  | inl same ↦ its_bytes f fs at unit same ∙ sym held.0 ∙ ap at same
  | inr other ↦ other_bytes f fs at unit other ∙ all_held fs at unit held.1
]

-- ---- with the fresh units of others

-- those of two lists
held_both : (fs gs : List FreshUnit) (at : ℕ → List ℕ) (unit : ℕ) → bytes_with (fs ++ gs) at unit ≡ bytes_with fs (bytes_with gs at) unit
held_both [] gs at unit = refl
held_both (f ∷ fs) gs at unit = ap (λ (bytes : List ℕ). cond (f.unit == unit) f.bytes bytes) (held_both fs gs at unit)

-- once the first ones, which are none of those behind them, have their bytes
has_both : (fs gs : List FreshUnit) (at : ℕ → List ℕ) → AllByRecursion (λ f. at f.unit ≡ f.bytes) fs
    → AllByRecursion (λ f. AllByRecursion (λ g. g.unit ≢ f.unit) gs) fs → AllByRecursion (λ f. bytes_with gs at f.unit ≡ f.bytes) fs
has_both [] gs at held none = tt
has_both (f ∷ fs) gs at held none = (not_fresh gs at f.unit none.0 ∙ held.0, has_both fs gs at held.1 none.1)

pub front_held : (fs gs : List FreshUnit) (at : ℕ → List ℕ) (unit : ℕ) → AllByRecursion (λ f. at f.unit ≡ f.bytes) fs
    → AllByRecursion (λ f. AllByRecursion (λ g. g.unit ≢ f.unit) gs) fs → bytes_with (fs ++ gs) at unit ≡ bytes_with gs at unit
front_held fs gs at unit held none = held_both fs gs at unit ∙ all_held fs (bytes_with gs at) unit (has_both fs gs at held none)

-- units above the first one hold what they held without it
above_held : (f : FreshUnit) (fs : List FreshUnit) (at : ℕ → List ℕ) (gs : List FreshUnit) → AllByRecursion (λ u. f.unit < u) (units_of gs)
    → AllByRecursion (λ g. bytes_with fs at g.unit ≡ g.bytes) gs → AllByRecursion (λ g. bytes_with (f ∷ fs) at g.unit ≡ g.bytes) gs
above_held f fs at [] above held = tt
above_held f fs at (g ∷ gs) above held =
    (other_bytes f fs at g.unit (λ e. omega (arith, e, above.0)) ∙ held.0, above_held f fs at gs above.1 held.1)

-- ascending ones have their bytes
fresh_held : (fs : List FreshUnit) (at : ℕ → List ℕ) → Ascends (units_of fs) → AllByRecursion (λ g. bytes_with fs at g.unit ≡ g.bytes) fs
fresh_held [] at ascend = tt
fresh_held (f ∷ fs) at ascend = (its_bytes f fs at f.unit refl, above_held f fs at fs ascend.0 (fresh_held fs at ascend.1))

-- what holds of the units that intents took holds of the fresh ones
pub fresh_of_all : (P : ℕ → Type 0) (xs : List Intent) → ((u : ℕ) → Contains (taken_by xs) u → P u) → AllByRecursion (λ f. P f.unit) (fresh_by xs)
fresh_of_all P [] are = tt
fresh_of_all P (x ∷ xs) are = all_join (λ f. P f.unit) x.fresh (fresh_by xs)
    (fresh_taken P x.fresh (λ u c. are u (Contains-append_left (units_of x.fresh) (taken_by xs) u c)))
    (fresh_of_all P xs (λ u c. are u (Contains-append_right (units_of x.fresh) (taken_by xs) u c)))

module _ (h : History) (xs : List Intent) (x : Intent) where
  -- all of them and then those of the last
  held_joined : (unit : ℕ) → held_or_last h (xs ++ x ∷ []) unit ≡ bytes_with (fresh_by xs) (bytes_with x.fresh (last_at h)) unit
  held_joined unit = ap (λ (fs : List FreshUnit). bytes_with fs (last_at h) unit)
      (flat_map-append (λ (y : Intent). y.fresh) xs (x ∷ []) ∙ ap (λ (fs : List FreshUnit). fresh_by xs ++ fs) (append-nil x.fresh))
      ∙ held_both (fresh_by xs) x.fresh (last_at h) unit

  -- a unit that isn't one of the last has what it had
  pub joined_spared : (unit : ℕ) → ((u : ℕ) → Contains (units_of x.fresh) u → u ≢ unit)
      → held_or_last h (xs ++ x ∷ []) unit ≡ held_or_last h xs unit
  joined_spared unit others = held_joined unit
      ∙ with_same (fresh_by xs) (bytes_with x.fresh (last_at h)) (last_at h) unit
      (not_fresh x.fresh (last_at h) unit (fresh_taken (λ u. u ≢ unit) x.fresh others))

  -- those of the last, which none before took, have its bytes
  pub fresh_joined : Ascends (units_of x.fresh) → AllByRecursion (λ u. ¬ Contains (taken_by xs) u) (units_of x.fresh)
      → AllByRecursion (λ f. held_or_last h (xs ++ x ∷ []) f.unit ≡ f.bytes) x.fresh
  fresh_joined ascend untaken = from x.fresh untaken (fresh_held x.fresh (last_at h) ascend)
    where
      from : (fs : List FreshUnit) → AllByRecursion (λ u. ¬ Contains (taken_by xs) u) (units_of fs)
          → AllByRecursion (λ f. bytes_with x.fresh (last_at h) f.unit ≡ f.bytes) fs
          → AllByRecursion (λ f. held_or_last h (xs ++ x ∷ []) f.unit ≡ f.bytes) fs
      from [] out held = tt
      from (f ∷ fs) out held = (
        held_joined f.unit
            ∙ not_fresh (fresh_by xs) (bytes_with x.fresh (last_at h)) f.unit
            (fresh_of_all (λ u. u ≢ f.unit) xs (λ u c same. out.0 (subst (Contains (taken_by xs)) same c))) ∙ held.0,
        from fs out.1 held.1,
      )

-- ---- in another order

-- of each intent
each_own : (P : FreshUnit → Type 0) (xs : List Intent) → AllByRecursion P (fresh_by xs) → AllByRecursion (λ x. AllByRecursion P x.fresh) xs
each_own P [] all = tt
each_own P (x ∷ xs) all = (all_left P x.fresh (fresh_by xs) all, each_own P xs (all_right P x.fresh (fresh_by xs) all))

own_each : (P : FreshUnit → Type 0) (xs : List Intent) → AllByRecursion (λ x. AllByRecursion P x.fresh) xs → AllByRecursion P (fresh_by xs)
own_each P [] all = tt
own_each P (x ∷ xs) all = all_join P x.fresh (fresh_by xs) all.0 (own_each P xs all.1)

-- what holds of the fresh units holds of them in any order
pub fresh_alike : (P : FreshUnit → Type 0) (xs ys : List Intent) → IsComplete is_in xs ys → AllByRecursion P (fresh_by xs) → AllByRecursion P (fresh_by ys)
fresh_alike P xs ys same all = own_each P ys
    (all_selected is_in each_named (λ (x : Intent). AllByRecursion P x.fresh) xs ys (complete_is_fair is_in xs ys same) (each_own P xs all))

-- each fresh one of a unit that was taken once has what the unit is to hold
its_own : (fs : List FreshUnit) (at : ℕ → List ℕ) (unit : ℕ) → times unit (units_of fs) ≤ 1
    → AllByRecursion (λ g. g.unit ≡ unit → g.bytes ≡ bytes_with fs at unit) fs
its_own [] at unit once = tt
its_own (f ∷ fs) at unit once = elim (cases_eq f.unit unit) [
  | inl same ↦ (
    λ mine. sym (its_bytes f fs at unit mine),
    all_then (λ (g : FreshUnit). g.unit ≢ unit) (λ (g : FreshUnit). g.unit ≡ unit → g.bytes ≡ bytes_with (f ∷ fs) at unit)
        (λ g none mine. absurd (none mine)) fs (alone same),
  )
  | inr other ↦ (
    λ mine. absurd (other mine),
    all_then (λ (g : FreshUnit). g.unit ≡ unit → g.bytes ≡ bytes_with fs at unit)
        (λ (g : FreshUnit). g.unit ≡ unit → g.bytes ≡ bytes_with (f ∷ fs) at unit)
        (λ g own mine. own mine ∙ sym (other_bytes f fs at unit other)) fs (its_own fs at unit (omega (arith, once, parts))),
  )
]
  where
    parts : times unit (units_of (f ∷ fs)) ≡ times unit (f.unit ∷ []) + times unit (units_of fs)
    parts = times_append unit (f.unit ∷ []) (units_of fs)

    alone : f.unit ≡ unit → AllByRecursion (λ g. g.unit ≢ unit) fs
    alone same = fresh_taken (λ v. v ≢ unit) fs (λ v c also. omega (
      arith,
      once,
      parts,
      times_some unit (f.unit ∷ []) (subst (Contains (f.unit ∷ [])) same (Contains-head f.unit [])),
      times_some unit (units_of fs) (subst (Contains (units_of fs)) also c),
    ))

-- a unit has such bytes, or none of these is it
is_held : (fs : List FreshUnit) (at : ℕ → List ℕ) (unit : ℕ) (bytes : List ℕ) → AllByRecursion (λ g. g.unit ≡ unit → g.bytes ≡ bytes) fs
    → (bytes_with fs at unit ≡ bytes) ⊎ AllByRecursion (λ f. f.unit ≢ unit) fs
is_held [] at unit bytes own = inr tt
is_held (f ∷ fs) at unit bytes own = elim (cases_eq f.unit unit) [
  | inl same ↦ inl (its_bytes f fs at unit same ∙ own.0 same)
  | inr other ↦
      elim (is_held fs at unit bytes own.1) [
        | inl is ↦ inl (other_bytes f fs at unit other ∙ is)
        | inr none ↦ inr (other, none)
      ]
]

units_by : (xs : List Intent) → units_of (fresh_by xs) ≡ taken_by xs
units_by [] = refl
units_by (x ∷ xs) = map-append (λ (f : FreshUnit). f.unit) x.fresh (fresh_by xs) ∙ ap (λ (us : List ℕ). units_of x.fresh ++ us) (units_by xs)

-- so units hold the same with intents in any order
pub held_alike : (at : ℕ → List ℕ) (xs ys : List Intent) (unit : ℕ) → IsComplete is_in xs ys → times unit (taken_by xs) ≤ 1
    → bytes_with (fresh_by xs) at unit ≡ bytes_with (fresh_by ys) at unit
held_alike at xs ys unit same once =
    let bytes : List ℕ = bytes_with (fresh_by xs) at unit in
    let own : AllByRecursion (λ (g : FreshUnit). g.unit ≡ unit → g.bytes ≡ bytes) (fresh_by xs) =
    its_own (fresh_by xs) at unit (subst (λ (us : List ℕ). times unit us ≤ 1) (sym (units_by xs)) once) in
    elim (is_held (fresh_by ys) at unit bytes (fresh_alike (λ (g : FreshUnit). g.unit ≡ unit → g.bytes ≡ bytes) xs ys same own)) [
      | inl is ↦ sym is
      | inr none ↦ not_fresh (fresh_by xs) at unit (fresh_alike (λ f. f.unit ≢ unit) ys xs (λ n. sym (same n)) none)
          ∙ sym (not_fresh (fresh_by ys) at unit none)
    ]

-- ---- over an event

-- that writes nothing
pub last_quiet : (h : History) (e : Event) (unit : ℕ) → WritesNothing e → last_at h unit ≡ last_at (with_event h e) unit
last_quiet h e unit none = sym (last_push h e unit (fits_quiet (length (last h.start h.log)) e none) (none_written e unit none))

pub held_quiet : (h : History) (e : Event) (xs : List Intent) (unit : ℕ) → WritesNothing e
    → held_or_last h xs unit ≡ held_or_last (with_event h e) xs unit
held_quiet h e xs unit none = with_same (fresh_by xs) (last_at h) (last_at (with_event h e)) unit (last_quiet h e unit none)

-- the unit is none of the fresh ones, or holds the same over all other bytes
fresh_or_not : (fs : List FreshUnit) (unit : ℕ)
    → AllByRecursion (λ f. f.unit ≢ unit) fs ⊎ ((at at' : ℕ → List ℕ) → bytes_with fs at unit ≡ bytes_with fs at' unit)
fresh_or_not [] unit = inl tt
fresh_or_not (f ∷ fs) unit = elim (cases_eq f.unit unit) [
  | inl same ↦ inr (λ at at'. its_bytes f fs at unit same ∙ sym (its_bytes f fs at' unit same))
  | inr other ↦
      elim (fresh_or_not fs unit) [
        | inl others ↦ inl (other, others)
        | inr held ↦ inr (λ at at'. other_bytes f fs at unit other ∙ held at at' ∙ sym (other_bytes f fs at' unit other))
      ]
]

-- that writes none but fresh units
pub held_over : (h : History) (e : Event) (fs : List FreshUnit) (unit : ℕ) → EventFits (length (last h.start h.log)) e
    → (AllByRecursion (λ f. f.unit ≢ unit) fs → ¬ WritesUnit unit e) → bytes_with fs (last_at h) unit ≡ bytes_with fs (last_at (with_event h e)) unit
held_over h e fs unit fits spared = elim (fresh_or_not fs unit) [
  | inl others ↦ with_same fs (last_at h) (last_at (with_event h e)) unit (sym (last_push h e unit fits (spared others)))
  | inr held ↦ held (last_at h) (last_at (with_event h e))
]
